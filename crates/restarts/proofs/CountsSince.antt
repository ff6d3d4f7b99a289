-- Document 02, CR 14: a record read back with every count 0 answers any calls as the record would have, but for the
-- counts in Ends; these are of the events since the reading for the masters then open and the Ends then waiting, and for
-- every master that starts later as without the reading. Assumes nothing.
use Prim.Native.Nat.{ℕ, ◌<◌}
use mathlib.Core.Path.{◌≡◌, sym, ap, ◌∙◌, subst}
use mathlib.Core.Bool.{Bool, true, false}
use mathlib.Core.List.{List, [], ◌∷◌, ◌++◌, map, reverse, map-append, map-map}
use lib.ListN.{get_or}
use Rattle.basics.specs.Lists.{filled}
use Rattle.basics.proofs.Every.{every_map}
use Rattle.basics.proofs.Maps.{map_reversed}
use Rattle.tools.specs.Bytes.{Octets}
use Rattle.table.specs.Check.{check_table}
use Rattle.table.specs.Table.{table_of}
use Rattle.spec_util.specs.Walk.{no_tag}
use Rattle.spec_util.specs.declared.types.OpenTag.{OpenTag}
use Rattle.decoder_rules.specs.Record.{opens, waits, no_end, with_settings}
use Rattle.decoder_rules.specs.Settings.{reading}
use Rattle.decoder_rules.specs.declared.types.TagDecoder.{TagDecoder}
use Rattle.decoder_rules.specs.declared.types.WaitingEnd.{WaitingEnd}
use Rattle.decoder_rules.proofs.AbsentZero.{AbsentZero, size_known_or0}
use Rattle.guarantees.specs.Calls.{Call, lent, Response, response_to, next, Step, record_after, history, Lent}
use Rattle.guarantees.specs.Settling.{implied_by, seen_parents}
use Rattle.guarantees.specs.History.{starts_open, parents_left, position}
use Rattle.guarantees.specs.Counts.{with_implied, child_counts, counts_at, counts_in}
use Rattle.guarantees.specs.Promises.{last_response}
use Rattle.guarantees.proofs.AnyCalls.{tied_after, parents_after}
use Rattle.guarantees.proofs.Counted.{EndCountsIn, NextCounts, next_counts, told_from, counted_after}
use Rattle.guarantees.proofs.CountMoves.{tag_count, end_count}
use Rattle.guarantees.proofs.EmptyPlaces.{Tidy, next_tidy, absent_after}
use Rattle.guarantees.proofs.Notes.{note_of}
use Rattle.guarantees.proofs.Tied.{Tied}
use Rattle.restarts.specs.Comparing.{but_counts, seen_master, seen_end, Sound, seen_record, without_counts, seen_response, seen_step}
use Rattle.restarts.specs.Runs.{record_from, history_from, CallAlike, RunAlike}
use Rattle.restarts.specs.Since.{parents_since, counts_on_from, child_counts_since, later_masters, read_back, record_since, history_since, response_since, parents_at, counts_since_at, later_at, CountsAfterReading}
use Rattle.restarts.proofs.Alike.{same_seen, seen_is_same, call_alike, run_alike}
use Rattle.restarts.proofs.RunsInParts.{record-split, history_split, lent_first, lent-later, sound_after}
use Rattle.restarts.proofs.SameTied.{same_tied}
use Rattle.restarts.proofs.SeenCalls.{note_seen}
use Rattle.restarts.proofs.SeenDecision.{sound_arrays, sound_good, sound_full, seen-opens, seen-waits}
use Rattle.restarts.proofs.SeenHistory.{parents_seen, counts-seen, counts_go_on, agree_implied, later_agree, agree_first, told_whole}
use Rattle.restarts.proofs.SeenMoves.{seen_sound}
use Rattle.std.specs.Prelude.{Ok}

-- ---- the record that was read

seen-sized : (m : OpenTag) → size_known_or0 m ≡ true → size_known_or0 (seen_master but_counts m) ≡ true
unfolding size_known_or0 seen_master
seen-sized m h = h

module _ (d : TagDecoder) (k : Sound d) where
  -- it has a 0 for each count
  zero_counts : counts_in (without_counts d) ≡ map (λ n. 0) (counts_in d)
  unfolding seen_master seen_end
  zero_counts =
      let f = seen_master but_counts in
      let g = seen_end but_counts in
      let full = sound_full d k in
      ap (λ (l : List WaitingEnd). map end_count l ++ map tag_count (reverse (opens (without_counts d)))) (seen-waits but_counts d full)
      ∙ ap (λ (l : List OpenTag). map end_count (map g (waits d)) ++ map tag_count (reverse l)) (seen-opens but_counts d full)
      ∙ ap (λ (l : List OpenTag). map end_count (map g (waits d)) ++ map tag_count l) (sym (map_reversed f (opens d)))
      ∙ ap (λ (l : List ℕ). l ++ map tag_count (map f (reverse (opens d)))) (map-map end_count g (waits d) ∙ sym (map-map (λ n. 0) end_count (waits d)))
      ∙ ap (λ (l : List ℕ). map (λ n. 0) (map end_count (waits d)) ++ l) (map-map tag_count f (reverse (opens d)) ∙ sym (map-map (λ n. 0) tag_count (reverse (opens d))))
      ∙ sym (map-append (λ n. 0) (map end_count (waits d)) (map tag_count (reverse (opens d))))

  -- and zero in its empty places
  pub read_tidy : AbsentZero d → Tidy (without_counts d)
  unfolding seen_record
  read_tidy z =
      let full = sound_full d k in
      let good = sound_good d k in
      record {
        arrays = sound_arrays (without_counts d) (seen_sound but_counts d k);
        clean = record { masters = ap (filled no_tag) (sym (seen-opens but_counts d full)); ends = ap (filled no_end) (sym (seen-waits but_counts d full)) };
        few_open = good.open_count;
        few_waiting = good.waiting_count;
        absent = record { sizes = rw (seen-opens but_counts d full) (every_map size_known_or0 (seen_master but_counts) size_known_or0 seen-sized (opens d) z.sizes); greatest = z.greatest };
      }

-- of a ported decoder's record it is read as ported
pub ported_read : (d : TagDecoder) → d.settings.strict ≡ false → reading (without_counts d) false ≡ without_counts d
unfolding with_settings seen_record
ported_read d e = ap (λ (b : Bool). reading (without_counts d) b) (sym e)

tidy_from : (es ps : List ℕ) (d : TagDecoder) → Tidy d → (ds : List Call) → Lent ds → Tidy (record_from es ps d ds)
unfolding record_from Lent
tidy_from es ps d k [] l = k
tidy_from es ps d k (c ∷ ds) l = next_tidy es ps (record_from es ps d ds) (tidy_from es ps d k ds l.1) c l.0

-- ---- a run with a reading

module _ (es ps : List ℕ) (cs ds : List Call) (l : Lent (ds ++ cs)) where
  -- the record that was stored
  abbrev stored : TagDecoder
  stored = record_after es ps cs

  -- the record without the reading, and with it
  abbrev here : TagDecoder
  here = record_from es ps stored ds

  abbrev there : TagDecoder
  there = record_since es ps cs ds

  stored_sound : Sound stored
  stored_sound = sound_after es ps cs (lent_first cs ds l)

  -- the run goes on alike
  alike : RunAlike but_counts es ps stored (read_back es ps cs) ds
  alike =
      run_alike but_counts es ps stored (read_back es ps cs) stored_sound (seen_sound but_counts stored stored_sound) (seen_is_same but_counts stored stored_sound) ds
      (lent-later cs ds l)

  -- the record after the calls since is sound, so it can be stored and restored again
  pub since_sound : Sound there
  since_sound = alike.sound.1

  same_history : map (seen_step but_counts) (history_since es ps cs ds ++ history es ps cs) ≡ map (seen_step but_counts) (history es ps (ds ++ cs))
  same_history =
      map-append (seen_step but_counts) (history_since es ps cs ds) (history es ps cs)
      ∙ ap (λ (g : List Step). g ++ map (seen_step but_counts) (history es ps cs)) alike.told
      ∙ sym (map-append (seen_step but_counts) (history_from es ps stored ds) (history es ps cs))
      ∙ ap (map (seen_step but_counts)) (sym (history_split es ps cs ds))

  module _ (c : Call) (byte : Octets (lent c)) where
    one : CallAlike but_counts es ps here there c
    one = call_alike but_counts es ps here there alike.sound.0 alike.sound.1 alike.left c byte

    same_note : note_of es ps there c ≡ note_of es ps here c
    same_note =
        sym (note_seen but_counts es ps there alike.sound.1 c)
        ∙ ap (λ (b : TagDecoder). note_of es ps b c) (same_seen but_counts here there alike.sound.0 alike.sound.1 alike.left)
        ∙ note_seen but_counts es ps here alike.sound.0 c

    -- the parents that the call implies, as without the reading
    parents_alike : parents_at es ps cs ds c ≡ seen_parents ps (table_of es ps) (history es ps (ds ++ cs)) (lent c) (last_response es ps (ds ++ cs) c)
    parents_alike =
        let t = table_of es ps in
        let b = history es ps cs in
        sym (parents_seen but_counts ps t b (history_since es ps cs ds) (lent c) (response_to es ps there c))
        ∙ ap (λ (g : List Step). parents_since ps t b g (lent c) (seen_response but_counts (response_to es ps there c))) alike.told
        ∙ ap (λ (r : Response). parents_since ps t b (map (seen_step but_counts) (history_from es ps stored ds)) (lent c) r) one.told
        ∙ parents_seen but_counts ps t b (history_from es ps stored ds) (lent c) (response_to es ps here c)
        ∙ ap (λ (g : List Step). seen_parents ps t g (lent c) (response_to es ps here c)) (sym (history_split es ps cs ds))
        ∙ ap (λ (d : TagDecoder). seen_parents ps t (history es ps (ds ++ cs)) (lent c) (response_to es ps d c)) (sym (record-split es ps cs ds))

    module _ (checked : check_table es ps ≡ (Ok tt)) where
      parents_implied : implied_by ps (note_of es ps there c) ≡ parents_at es ps cs ds c
      parents_implied =
          ap (implied_by ps) (same_note ∙ ap (λ (d : TagDecoder). note_of es ps d c) (sym (record-split es ps cs ds)))
          ∙ parents_after es ps checked (ds ++ cs) l c byte
          ∙ sym parents_alike

      tied : Tied (table_of es ps) there (starts_open (table_of es ps) (history es ps (ds ++ cs))) (parents_left ps (table_of es ps) (history es ps (ds ++ cs))) (position (history es ps (ds ++ cs)))
      tied =
          same_tied but_counts here there alike.sound.0 alike.sound.1 alike.left (table_of es ps)
          (subst (λ (d : TagDecoder). Tied (table_of es ps) d (starts_open (table_of es ps) (history es ps (ds ++ cs))) (parents_left ps (table_of es ps) (history es ps (ds ++ cs))) (position (history es ps (ds ++ cs)))) (record-split es ps cs ds)
          (tied_after es ps checked (ds ++ cs) l))

      -- what the call tells of the counts, where the record before it holds those since the reading
      told_since : counts_in there ≡ child_counts_since ps (table_of es ps) (history es ps cs) (history_since es ps cs ds) → NextCounts (counts_since_at es ps cs ds c) (response_since es ps cs ds c) (next es ps there c)
      told_since held =
          subst (λ (parents : List ℕ). NextCounts (with_implied parents (child_counts_since ps (table_of es ps) (history es ps cs) (history_since es ps cs ds))) (response_to es ps there c) (next es ps there c)) parents_implied
          (subst (λ (counts : List ℕ). NextCounts (with_implied (implied_by ps (note_of es ps there c)) counts) (response_to es ps there c) (next es ps there c)) held
          (next_counts es ps checked there tied (tidy_from es ps (read_back es ps cs) (read_tidy stored stored_sound (absent_after es ps cs (lent_first cs ds l))) ds (lent-later cs ds l)) c byte))

module _ (es ps : List ℕ) (checked : check_table es ps ≡ (Ok tt)) (cs : List Call) where
  held_since : (ds : List Call) → Lent (ds ++ cs) → counts_in (record_since es ps cs ds) ≡ child_counts_since ps (table_of es ps) (history es ps cs) (history_since es ps cs ds)
  unfolding record_from history_from counts_on_from Lent
  held_since [] l = zero_counts (record_after es ps cs) (sound_after es ps cs l) ∙ ap (map (λ n. 0)) (counted_after es ps checked cs l)
  held_since (c ∷ ds) l = (told_since es ps cs ds l.1 c l.0 checked (held_since ds l.1)).left

  module _ (ds : List Call) (c : Call) (l : Lent (c ∷ (ds ++ cs))) where
    -- what a call after the reading tells
    told : NextCounts (counts_since_at es ps cs ds c) (response_since es ps cs ds c) (next es ps (record_since es ps cs ds) c)
    unfolding Lent
    told = told_since es ps cs ds l.1 c l.0 checked (held_since ds l.1)

    -- the counts that it would have found without the reading
    counts_without : counts_at es ps (ds ++ cs) c
        ≡ with_implied (parents_at es ps cs ds c) (counts_on_from ps (table_of es ps) (history es ps cs) (child_counts ps (table_of es ps) (history es ps cs)) (history_since es ps cs ds))
    unfolding Lent
    counts_without =
        let t = table_of es ps in
        let b = history es ps cs in
        let parents = parents_at es ps cs ds c in
        let started = child_counts ps t b in
        ap (λ (p : List ℕ). with_implied p (child_counts ps t (history es ps (ds ++ cs)))) (sym (parents_alike es ps cs ds l.1 c l.0))
        ∙ ap (λ (h : List Step). with_implied parents (child_counts ps t h)) (history_split es ps cs ds)
        ∙ ap (with_implied parents)
        (counts_go_on ps t b (history_from es ps (record_after es ps cs) ds)
        ∙ sym (counts-seen but_counts ps t b started (history_from es ps (record_after es ps cs) ds))
        ∙ ap (counts_on_from ps t b started) (sym (alike es ps cs ds l.1).told)
        ∙ counts-seen but_counts ps t b started (history_since es ps cs ds))

    later_exact : 0 < later_at es ps cs ds c → response_since es ps cs ds c ≡ last_response es ps (ds ++ cs) c
    unfolding Lent
    later_exact some =
        let t = table_of es ps in
        let b = history es ps cs in
        let h = history_since es ps cs ds in
        let parents = parents_at es ps cs ds c in
        let zeros : List ℕ = map (λ n. 0) (child_counts ps t b) in
        told_whole but_counts (counts_since_at es ps cs ds c) (counts_at es ps (ds ++ cs) c) (response_since es ps cs ds c) (last_response es ps (ds ++ cs) c)
        ((one es ps cs ds l.1 c l.0).told ∙ ap (λ (d : TagDecoder). seen_response but_counts (response_to es ps d c)) (sym (record-split es ps cs ds)))
        told.told
        (told_from es ps checked (ds ++ cs) c l (counted_after es ps checked (ds ++ cs) l.1)).told
        (agree_first (later_at es ps cs ds c) (counts_since_at es ps cs ds c) _ some (agree_implied parents (later_masters ps t b h) _ _ (later_agree ps t b zeros (child_counts ps t b) h))
        ∙ sym (ap (λ (k : List ℕ). get_or k 0 0) counts_without))

-- the statement, of a table that the check passes
pub counts_after_reading : (es ps : List ℕ) → check_table es ps ≡ Ok tt → CountsAfterReading es ps
counts_after_reading es ps checked = record {
  same_history = same_history es ps;
  end_counts_since = λ cs ds c l end n e. subst (λ (r : Response). EndCountsIn r (counts_since_at es ps cs ds c)) e (told es ps checked cs ds c l).told;
  record-counts-since = λ cs ds l. held_since es ps checked cs ds l;
  later_exact = λ cs ds c l some. later_exact es ps checked cs ds c l some;
}
