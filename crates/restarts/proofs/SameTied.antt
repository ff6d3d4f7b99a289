-- What a caller can tell is tied to a record and to any that is the same, wholly or but for counts. Assumes nothing.
use Prim.Native.Nat.{ℕ}
use mathlib.Core.Path.{◌≡◌, refl, sym, ap, ◌∙◌, subst}
use mathlib.Core.Bool.{Bool, true}
use mathlib.Core.List.{List, ◌++◌, map, reverse, map-map}
use native.Mathlib.Omega.{arith}
use lib.ListN.{take}
use Rattle.basics.specs.Lists.{every}
use Rattle.basics.proofs.Maps.{map_reversed, every_mapped}
use Rattle.table.specs.Table.{Entry, data_type_of, is_master}
use Rattle.spec_util.specs.declared.types.OpenTag.{OpenTag}
use Rattle.decoder_rules.specs.Record.{opens, waits}
use Rattle.decoder_rules.specs.declared.types.TagDecoder.{TagDecoder}
use Rattle.guarantees.specs.History.{Started, outermost_end}
use Rattle.guarantees.proofs.Ends.{ended_by}
use Rattle.guarantees.proofs.Tied.{as_started, named, stack, Linked, Tied}
use Rattle.restarts.specs.Comparing.{Extent, seen_master, seen_end, Sound, Same}
use Rattle.restarts.proofs.Alike.{same_masters, same_ends, same_waiting}
use Rattle.restarts.proofs.SeenDecision.{sound_arrays, sound_good}

module _ (x : Extent) (d e : TagDecoder) (k : Sound d) (j : Sound e) (h : Same x d e) where
  same_every : (test : OpenTag → Bool) → ((m : OpenTag) → test (seen_master x m) ≡ test m) → every test (opens e) ≡ every test (opens d)
  same_every test f =
      sym (every_mapped (seen_master x) test test f (opens e)) ∙ ap (every test) (same_masters x d e h) ∙ every_mapped (seen_master x) test test f (opens d)

  same_named : map named (waits e) ≡ map named (waits d)
  unfolding seen_end
  same_named =
      sym (map-map named (seen_end x) (waits e)) ∙ ap (map named) (same_ends x d e h) ∙ map-map named (seen_end x) (waits d)

  same_started : map as_started (reverse (opens e)) ≡ map as_started (reverse (opens d))
  unfolding seen_master
  same_started =
      map_reversed as_started (opens e)
      ∙ ap reverse (sym (map-map as_started (seen_master x) (opens e)) ∙ ap (map as_started) (same_masters x d e h) ∙ map-map as_started (seen_master x) (opens d))
      ∙ sym (map_reversed as_started (opens d))

  module _ (t : List Entry) {starts : List Started} {left : List ℕ} {p : ℕ} where
    same_linked : Linked t d starts left p → Linked t e starts left p
    same_linked l = record {
      arrays = sound_arrays e j;
      good = sound_good e j;
      masters = same_every (λ m. is_master (data_type_of t m.id)) (λ m. unfold seen_master in refl) ∙ l.masters;
      ended = l.ended;
      waiting = l.waiting ∙ sym same_named;
      parts = l.parts ∙ ap (λ (s : List Started). l.ended ++ s) (sym same_started);
      kinds = l.kinds;
      few = l.few;
      place = h.position ∙ l.place;
      unsettled = λ u. l.unsettled (sym h.settled ∙ u);
    }

    -- what is tied to a record is tied to one that is the same
    pub same_tied : Tied t d starts left p → Tied t e starts left p
    same_tied l = record {
      linked = same_linked l.linked;
      finished = λ f. omega (arith, l.finished (sym h.finished ∙ f), same_waiting x d e k j h);
      full = λ f. l.full (sym h.finished ∙ f);
      batch = subst (λ (n : ℕ). ended_by p (outermost_end (take n (stack starts left))) ≡ true) (sym (same_waiting x d e k j h)) l.batch;
    }
