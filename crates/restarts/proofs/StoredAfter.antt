-- Document 02, CR 14: a record that any calls on a fresh decoder leave, with any words for a table, is restored as it was
-- stored. So a run whose record is stored and restored at any places is the run without that. From a block of layout 1 a
-- ported decoder's record is restored with every count 0. Assumes nothing.
use Prim.Native.Nat.{ℕ}
use mathlib.Core.Path.{◌≡◌, refl, sym, ap, ◌∙◌, subst}
use mathlib.Core.Bool.{false}
use mathlib.Core.List.{List, [], ◌∷◌, map}
use borrow.Author.Tests.{eq-eqb}
use lib.ListN.{length}
use Rattle.basics.specs.Lists.{filled}
use Rattle.basics.proofs.ArrayOf32.{map-filled}
use Rattle.basics.proofs.Bools.{cond_yes}
use Rattle.spec_util.specs.Walk.{no_tag}
use Rattle.decoder_rules.specs.Record.{opens, waits, no_end}
use Rattle.decoder_rules.specs.Settings.{with_strict}
use Rattle.decoder_rules.specs.declared.types.TagDecoder.{TagDecoder}
use Rattle.decoder_rules.proofs.AbsentZero.{AbsentZero}
use Rattle.decoder_rules.proofs.EmptyPlacesZero.{Clean}
use Rattle.stored_decoder.specs.Words.{decoder_words, cleaned}
use Rattle.stored_decoder.specs.Block.{block_length, Words64, block, store_out, store_as, restore_from}
use Rattle.stored_decoder.specs.Layout1.{uncounted, uncounted_end, as_ported}
use Rattle.stored_decoder.specs.declared.types.Restored.{Restored}
use Rattle.stored_decoder.proofs.Cleaned.{cleaned_same}
use Rattle.stored_decoder.proofs.FromLayout1.{restore_layout1_lem}
use Rattle.stored_decoder.proofs.Restoring.{restore_store}
use Rattle.guarantees.specs.Calls.{Call, next, Step, step_of, record_after, history, Lent}
use Rattle.guarantees.proofs.EmptyPlaces.{tidy_after}
use Rattle.restarts.specs.Restarts.{Turn, calling, restarting, calls_of, record_through, history_through, LentThrough, RestartsUnseen, ReadFromLayout1}
use Rattle.restarts.specs.Comparing.{but_counts, seen_master, seen_end, Sound, seen_record, without_counts}
use Rattle.restarts.proofs.CountsSince.{read_tidy}
use Rattle.restarts.proofs.RunsInParts.{sound_after}
use Rattle.std.specs.Prelude.{Ok, Result, ⊤}
use Rattle.stored_decoder.specs.declared.types.StoreError.{StoreError}

module _ (es ps : List ℕ) (cs : List Call) (l : Lent cs) where
  -- it is stored as its block
  stored_so : (b : List ℕ) → length b ≡ block_length → store_out (record_after es ps cs) b ≡ (Ok tt, block (record_after es ps cs))
  unfolding store_as
  stored_so b n = cond_yes _ _ _ (eq-eqb (length b) block_length n) ∙ cond_yes _ _ _ (sound_after es ps cs l).good

  -- and restored from it, whatever the record was before
  pub stored_after : Words64 (decoder_words (record_after es ps cs)) → (e : TagDecoder) → restore_from e (block (record_after es ps cs)) ≡ record { answer = Ok tt; state = record_after es ps cs }
  stored_after fit e =
      let k = tidy_after es ps cs l in
      let d = record_after es ps cs in
      restore_store d k.arrays fit (sound_after es ps cs l).good e ∙ ap (λ (x : TagDecoder). record { answer = Ok tt; state = x }) (cleaned_same d k.clean k.absent)

-- ---- any turns

module _ (es ps : List ℕ) where
  calls_lent : (ts : List Turn) → LentThrough es ps ts → Lent (calls_of ts)
  unfolding calls_of LentThrough Lent
  calls_lent [] l = tt
  calls_lent (calling c ∷ ts) l = (l.0, calls_lent ts l.1)
  calls_lent (restarting b e ∷ ts) l = calls_lent ts l.2

  -- a restart of a record that such calls leave
  module _ (cs : List Call) (l : Lent cs) (b : List ℕ) (n : length b ≡ block_length) (e d : TagDecoder) (same : d ≡ record_after es ps cs) (fit : Words64 (decoder_words d)) where
    fits : Words64 (decoder_words (record_after es ps cs))
    fits = subst (λ (x : TagDecoder). Words64 (decoder_words x)) same fit

    stored_as : store_out d b ≡ (Ok tt, block (record_after es ps cs))
    stored_as = ap (λ (x : TagDecoder). store_out x b) same ∙ stored_so es ps cs l b n

    restored_as : restore_from e (store_out d b).1 ≡ record { answer = Ok tt; state = record_after es ps cs }
    restored_as = ap (λ (x : Result ⊤ StoreError × List ℕ). restore_from e x.1) stored_as ∙ stored_after es ps cs l fits e

  same_record : (ts : List Turn) → LentThrough es ps ts → record_through es ps ts ≡ record_after es ps (calls_of ts)
  unfolding calls_of LentThrough record_through record_after
  same_record [] l = refl
  same_record (calling c ∷ ts) l = ap (λ (d : TagDecoder). next es ps d c) (same_record ts l.1)
  same_record (restarting b e ∷ ts) l =
      ap (λ (r : Restored). r.state) (restored_as (calls_of ts) (calls_lent ts l.2) b l.0 e (record_through es ps ts) (same_record ts l.2) l.1)

  same_history : (ts : List Turn) → LentThrough es ps ts → history_through es ps ts ≡ history es ps (calls_of ts)
  unfolding calls_of LentThrough history_through history
  same_history [] l = refl
  same_history (calling c ∷ ts) l =
      ap (λ (d : TagDecoder). step_of es ps d c ∷ history_through es ps ts) (same_record ts l.1)
      ∙ ap (λ (h : List Step). step_of es ps (record_after es ps (calls_of ts)) c ∷ h) (same_history ts l.1)
  same_history (restarting b e ∷ ts) l = same_history ts l.2

  -- of any words for a table
  pub restarts_unseen : RestartsUnseen es ps
  unfolding LentThrough
  restarts_unseen = record {
    stored = λ ts b e l. ap (λ (x : Result ⊤ StoreError × List ℕ). x.0) (stored_as (calls_of ts) (calls_lent ts l.2) b l.0 e (record_through es ps ts) (same_record ts l.2) l.1);
    restored = λ ts b e l. ap (λ (r : Restored). r.answer) (restored_as (calls_of ts) (calls_lent ts l.2) b l.0 e (record_through es ps ts) (same_record ts l.2) l.1);
    same_record = same_record;
    same_history = same_history;
  }

-- ---- layout 1

-- of a ported decoder's record whose empty places are zero it is that record with every count 0
module _ (d : TagDecoder) (k : Sound d) (c : Clean d) (z : AbsentZero d) (ported : d.settings.strict ≡ false) where
  settings_ported : with_strict d.settings false ≡ d.settings
  settings_ported = ap (with_strict d.settings) (sym ported)

  masters_ported : map uncounted d.«open» ≡ filled no_tag (map (seen_master but_counts) (opens d))
  unfolding uncounted seen_master
  masters_ported = ap (map uncounted) c.masters ∙ map-filled uncounted no_tag refl (opens d)

  ends_ported : map uncounted_end d.waiting ≡ filled no_end (map (seen_end but_counts) (waits d))
  unfolding uncounted_end seen_end
  ends_ported = ap (map uncounted_end) c.ends ∙ map-filled uncounted_end no_end refl (waits d)

  ported_is : as_ported d ≡ without_counts d
  unfolding as_ported seen_record
  ported_is = rw (settings_ported, masters_ported, ends_ported)

  ported_cleaned : cleaned (as_ported d) ≡ without_counts d
  ported_cleaned = let t = read_tidy d k z in ap cleaned ported_is ∙ cleaned_same (without_counts d) t.clean t.absent

-- of any words for a table
pub read_from_layout1 : (es ps : List ℕ) → ReadFromLayout1 es ps
read_from_layout1 es ps = record {
  reads =
      λ cs l ported fit e.
      let k = tidy_after es ps cs l in
      let d = record_after es ps cs in
      let h = sound_after es ps cs l in
      restore_layout1_lem d k.arrays fit h.good e ∙ ap (λ (x : TagDecoder). record { answer = Ok tt; state = x }) (ported_cleaned d h k.clean k.absent ported);
}
