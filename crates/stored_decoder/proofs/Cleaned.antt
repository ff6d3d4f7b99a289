-- Records that storing leaves as they are: 0 stands in their empty places and for absent values. Such records are told
-- apart by their blocks, and a record that is restored from layout 2 is such a one. Assumes nothing.
use Prim.Native.Nat.{ℕ, zero, suc, ◌-◌, ◌≤◌}
use mathlib.Core.Path.{◌≡◌, refl, sym, ap, ap₂, ◌∙◌, subst}
use mathlib.Core.Bool.{Bool, true, false, ◌||◌}
use mathlib.Core.List.{List, [], ◌∷◌, ◌++◌, map}
use native.Mathlib.Omega.{arith}
use borrow.Author.Tests.{eqb-true}
use lib.Dec.{eqb}
use lib.ListN.{length, replicate}
use lib.Seq.{length-take-le}
use Rattle.basics.specs.Lists.{array_places, every, filled}
use Rattle.basics.proofs.ArrayOf32.{filled_front, map-filled}
use Rattle.basics.proofs.Bools.{both, and_both}
use Rattle.basics.proofs.Maps.{take-map}
use Rattle.spec_util.specs.Walk.{most_open, no_tag}
use Rattle.spec_util.specs.declared.types.OpenTag.{OpenTag}
use Rattle.decoder_rules.specs.Record.{opens, waits, no_end}
use Rattle.decoder_rules.specs.declared.types.TagDecoder.{TagDecoder}
use Rattle.decoder_rules.proofs.AbsentZero.{AbsentZero, size_known_or0}
use Rattle.decoder_rules.proofs.EmptyPlacesZero.{Clean}
use Rattle.decoder_rules.proofs.GoodState.{good_state_lem}
use Rattle.decoder_rules.proofs.MoveEffects.{Arrays}
use Rattle.stored_decoder.specs.Words.{decoder_words, record_of, present, clean_tag, clean_settings, cleaned}
use Rattle.stored_decoder.specs.Check.{check_words}
use Rattle.stored_decoder.specs.Block.{Words64, words_of, block}
use Rattle.stored_decoder.proofs.Written.{words_length}
use Rattle.stored_decoder.proofs.WordsBack.{record-back}
use Rattle.stored_decoder.proofs.Checks.{record-arrays}
use Rattle.stored_decoder.proofs.Restoring.{words_of_bytes, accepts, accepted_own}
use Rattle.std.specs.Prelude.{Ok}

present_zero : (b : Bool) (n : ℕ) → (b ≡ false → n ≡ 0) → present b n ≡ n
present_zero true n h = refl
present_zero false n h = sym (h refl)

tag_clean : (m : OpenTag) → size_known_or0 m ≡ true → clean_tag m ≡ m
unfolding clean_tag size_known_or0
tag_clean m h = let e = present_zero m.known m.size (λ f. eqb-true m.size 0 (rw f at h)) in rw e

tags_clean : (l : List OpenTag) (n : ℕ) → every size_known_or0 l ≡ true → map clean_tag (l ++ replicate n no_tag) ≡ l ++ replicate n no_tag
unfolding every clean_tag
tags_clean [] zero h = refl
tags_clean [] (suc n) h = ap (λ (l : List OpenTag). no_tag ∷ l) (tags_clean [] n h)
tags_clean (m ∷ l) n h =
    let b = both (size_known_or0 m) (every size_known_or0 l) h in
    ap₂ (λ (x : OpenTag) (y : List OpenTag). x ∷ y) (tag_clean m b.left) (tags_clean l n b.right)

-- a clean record whose absent values are 0 is as it is cleaned
pub cleaned_same : (d : TagDecoder) → Clean d → AbsentZero d → cleaned d ≡ d
unfolding cleaned clean_settings
cleaned_same d c z =
    let s = present_zero d.settings.max_given d.settings.max_size z.greatest in
    let o : map clean_tag (filled no_tag (opens d)) ≡ d.«open» = tags_clean (opens d) (array_places - length (opens d)) z.sizes ∙ sym c.masters in
    let e : filled no_end (waits d) ≡ d.waiting = sym c.ends in
    rw (s, o, e)

-- two clean records that are stored as the same block are the same
pub blocks_differ : (d e : TagDecoder) → Arrays d → Arrays e → Words64 (decoder_words d) → Words64 (decoder_words e) → Clean d → Clean e → AbsentZero d → AbsentZero e
    → block d ≡ block e → d ≡ e
blocks_differ d e a b f g c k y z q =
    let w : decoder_words d ≡ decoder_words e = sym (words_of_bytes (decoder_words d) (words_length d a) f) ∙ ap words_of q ∙ words_of_bytes (decoder_words e) (words_length e b) g in
    sym (cleaned_same d c y) ∙ sym (record-back d a) ∙ ap record_of w ∙ record-back e b ∙ cleaned_same e k z

-- ---- what a cleaned record holds

present_absent : (b : Bool) (n : ℕ) → b ≡ false → present b n ≡ 0
present_absent b n f = rw f

clean_sized : (m : OpenTag) → size_known_or0 (clean_tag m) ≡ true
unfolding clean_tag size_known_or0
clean_sized m = go m.known
  where
    go : (b : Bool) → (b || eqb (present b m.size) 0) ≡ true
    go true = refl
    go false = refl

all_sized_lem : (l : List OpenTag) → every size_known_or0 (map clean_tag l) ≡ true
unfolding every
all_sized_lem [] = refl
all_sized_lem (m ∷ l) = and_both (clean_sized m) (all_sized_lem l)

module _ (d : TagDecoder) (a : Arrays d) (few_open : d.open_count ≤ most_open) (few_waiting : d.waiting_count ≤ most_open) where
  cleaned-opens : opens (cleaned d) ≡ map clean_tag (opens d)
  unfolding cleaned
  cleaned-opens =
      let n : length (opens d) ≡ d.open_count = length-take-le d.open_count d.«open» (omega (arith, a.masters)) in
      take-map clean_tag d.open_count (filled no_tag (opens d)) ∙ ap (map clean_tag) (filled_front no_tag (opens d) d.open_count n)

  cleaned-waits : waits (cleaned d) ≡ waits d
  unfolding cleaned
  cleaned-waits = filled_front no_end (waits d) d.waiting_count (length-take-le d.waiting_count d.waiting (omega (arith, a.ends)))

  -- its empty places are 0
  pub cleaned_clean : Clean (cleaned d)
  cleaned_clean = record {
    masters =
        masters-filled ∙ ap (filled no_tag) (sym cleaned-opens);
    ends = ends-filled ∙ ap (filled no_end) (sym cleaned-waits);
  }
    where
      masters-filled : (cleaned d).«open» ≡ filled no_tag (map clean_tag (opens d))
      masters-filled = unfold cleaned in unfold clean_tag in map-filled clean_tag no_tag refl (opens d)

      ends-filled : (cleaned d).waiting ≡ filled no_end (waits d)
      ends-filled = unfold cleaned in refl

  -- and so are its absent values
  pub cleaned_absent : AbsentZero (cleaned d)
  cleaned_absent = record {
    sizes = rw cleaned-opens (all_sized_lem (opens d));
    greatest = unfold cleaned in unfold clean_settings in λ f. present_absent d.settings.max_given d.settings.max_size f;
  }

-- ---- what words that are accepted hold

module _ (w : List ℕ) (e : check_words w ≡ (Ok tt)) where
  -- a record that storing leaves as it is
  pub accepted_cleaned : cleaned (record_of w) ≡ record_of w
  accepted_cleaned = sym (record-back (record_of w) (record-arrays w)) ∙ ap record_of (accepted_own w e)

  pub accepted_clean : Clean (record_of w)
  accepted_clean =
      let g = good_state_lem (record_of w) (accepts w e).state in
      subst Clean accepted_cleaned (cleaned_clean (record_of w) (record-arrays w) g.open_count g.waiting_count)

  pub accepted_absent : AbsentZero (record_of w)
  accepted_absent =
      let g = good_state_lem (record_of w) (accepts w e).state in
      subst AbsentZero accepted_cleaned (cleaned_absent (record_of w) (record-arrays w) g.open_count g.waiting_count)
