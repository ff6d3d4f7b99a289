-- A record on which an End of one master clears one place: no End waits, and past its masters every place is empty. The
-- first End of a row leaves it so, and each event keeps it so. Assumes nothing.
use Prim.Native.Nat.{ℕ, ◌+◌, ◌-◌, ◌≤◌, ◌<◌, min}
use mathlib.Core.Bool.{Bool, true, false, ◌&&◌, false≢true}
use mathlib.Core.List.{List, [], map, reverse}
use mathlib.Core.Path.{◌≡◌, refl, sym, ap, ◌∙◌, subst}
use native.Mathlib.Omega.{arith}
use borrow.Author.Tests.{leb-true}
use lib.Dec.{leb}
use lib.ListN.{length, take, drop, set, length-drop, length-map, length-reverse, drop_of_length-le}
use lib.Seq.{take_all}
use Rattle.basics.specs.Lists.{filled}
use Rattle.basics.proofs.ArrayOf32.{filled_shorter}
use Rattle.basics.proofs.Bools.{both}
use Rattle.spec_util.specs.Walk.{most_open, no_tag}
use Rattle.spec_util.specs.declared.types.OpenTag.{OpenTag}
use Rattle.decoder_rules.specs.Record.{opens, no_end, end_for, ends_from, at_position, with_notes, with_open, with_waiting, counted, opened, closed_to}
use Rattle.decoder_rules.specs.declared.types.TagDecoder.{TagDecoder}
use Rattle.decoder_rules.specs.declared.types.WaitingEnd.{WaitingEnd}
use Rattle.decoder_rules.proofs.Counting.{counted_arrays, counted_clean}
use Rattle.decoder_rules.proofs.EmptyPlacesZero.{Clean, with_notes_clean, opened_clean}
use Rattle.decoder_rules.proofs.MoveEffects.{Arrays, opens-length, closed_opens, closed_waits, with_notes_arrays}

-- no End waits, and where the record was found clean it is
pub record Tidy (clean : Bool) (d : TagDecoder) : Type 0 where
  pub none_waiting : d.waiting_count ≡ 0
  pub empty : clean ≡ true → Clean d

-- nothing is found at first
pub tidy_first : (d : TagDecoder) → d.waiting_count ≡ 0 → Tidy false d
tidy_first d none = record { none_waiting = none; empty = λ e. absurd (false≢true e) }

module _ (d : TagDecoder) (a : Arrays d) (few : d.open_count ≤ most_open) {clean : Bool} (t : Tidy clean d) (q : ℕ) where
  arrays_there : Arrays (at_position d q)
  arrays_there = with_notes_arrays d a q d.settled d.finished

  moved_clean : clean ≡ true → Clean (counted (at_position d q))
  unfolding with_notes
  moved_clean e = counted_clean (at_position d q) arrays_there (with_notes_clean d a (t.empty e) q d.settled d.finished) few

  -- after Data
  pub moved_tidy : Tidy clean (counted (at_position d q))
  unfolding counted with_open with_notes
  moved_tidy = record { none_waiting = t.none_waiting; empty = moved_clean }

  -- after a Start
  pub opened_tidy : (m : OpenTag) → d.open_count < most_open → Tidy clean (opened (counted (at_position d q)) m)
  unfolding opened counted with_open with_notes
  opened_tidy m room =
      record { none_waiting = t.none_waiting; empty = λ e. opened_clean (counted (at_position d q)) (counted_arrays (at_position d q) arrays_there) (moved_clean e) m room }

module _ (d : TagDecoder) (a : Arrays d) (few : d.open_count ≤ most_open) (k : ℕ) where
  -- after an End, whatever stood in the places before
  pub closed_tidy : k ≤ d.open_count → (closed_to d k).waiting_count ≡ 0 → Tidy true (closed_to d k)
  unfolding closed_to ends_from with_open with_waiting
  closed_tidy h none =
      record {
        none_waiting = none;
        empty = λ e. record {
          masters = ap (filled no_tag) (sym (closed_opens d k h (omega (arith, a.masters))));
          ends = ap (filled no_end) (sym (closed_waits d k (omega (arith, a.masters))));
        };
      }

  -- the top master of a clean record closes: its place is made empty
  pub popped : Clean d → d.waiting_count ≡ 0 → d.open_count ≡ k + 1 → with_open d (set d.«open» k no_tag) k ≡ closed_to d k
  unfolding closed_to ends_from with_open with_waiting
  popped c none one =
      let n : length (opens d) ≡ d.open_count = opens-length d a few in
      let left = filled no_tag (take k (opens d)) in
      let after = drop 1 (map end_for (reverse (drop k (opens d)))) in
      let masters : set d.«open» k no_tag ≡ left =
      ap (λ (l : List OpenTag). set l k no_tag) (c.masters ∙ ap (filled no_tag) (sym (take_all d.open_count (opens d) (omega arith))))
      ∙ filled_shorter no_tag (opens d) d.open_count k one (omega arith) (omega arith) in
      let last : after ≡ [] = drop_of_length-le (map end_for (reverse (drop k (opens d)))) {i = 1} (simp (length-map, length-reverse, length-drop) (omega arith)) in
      let ends : d.waiting ≡ filled no_end after = c.ends ∙ ap (λ (i : ℕ). filled no_end (take i d.waiting)) none ∙ ap (filled no_end) (sym last) in
      let count : d.waiting_count ≡ d.open_count - k - 1 = omega arith in
      ap (λ (l : List OpenTag). with_open d l k) masters
      ∙ ap (λ (v : List WaitingEnd). with_waiting (with_open d left k) v d.waiting_count) ends
      ∙ ap (λ (i : ℕ). with_waiting (with_open d left k) (filled no_end after) i) count

  -- what the masters above the first k leave, k of them being left
  pub closed_so : k < d.open_count → {r : TagDecoder} → r ≡ closed_to d k → r.waiting_count ≡ 0 → Tidy true r
  closed_so h e none = subst (Tidy true) (sym e) (closed_tidy (omega arith) (sym (ap (λ (y : TagDecoder). y.waiting_count) e) ∙ none))

  -- where `pops_one` says yes
  module _ {clean : Bool} (t : Tidy clean d) {top : ℕ} (place : top ≡ min (d.open_count - 1) (most_open - 1)) {r : Bool} (is : r ≡ (clean && leb top k)) (yes : r ≡ true) (there : k < d.open_count)
    where
      found-clean : clean ≡ true
      found-clean = (both clean (leb top k) (sym is ∙ yes)).left

      pub pops_top : k + 1 ≡ d.open_count
      pops_top =
          let h = leb-true top k (both clean (leb top k) (sym is ∙ yes)).right in
          omega arith

      pub pops_to : {m : OpenTag} → m ≡ no_tag → with_open d (set d.«open» k m) k ≡ closed_to d k
      pops_to e = ap (λ (m : OpenTag). with_open d (set d.«open» k m) k) e ∙ popped (t.empty found-clean) t.none_waiting (sym pops_top)

      pub pops_tidy : {m : OpenTag} → m ≡ no_tag → Tidy clean (with_open d (set d.«open» k m) k)
      unfolding with_open
      pops_tidy e =
          let r = closed_so there (pops_to e) t.none_waiting in
          record { none_waiting = r.none_waiting; empty = λ b. r.empty refl }
