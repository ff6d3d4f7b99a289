-- The places from a count on are empty at first, and each move leaves them so: a record is clean where its arrays are
-- its two lists with empty places after them. The counts alone do not say so, and no call asks for it. Assumes nothing.
use Prim.Native.Nat.{ℕ, ◌-◌, ◌≤◌, ◌<◌}
use mathlib.Core.Path.{◌≡◌, refl, sym, ap, ◌∙◌}
use mathlib.Core.Bool.{Bool}
use mathlib.Core.List.{List, [], ◌∷◌, ◌++◌, map}
use native.Mathlib.Omega.{arith}
use lib.ListN.{length, drop, set, replicate, length-map, length-take}
use Rattle.table.specs.declared.types.PathPart.{PathPart}
use Rattle.spec_util.specs.Walk.{most_open, no_tag}
use Rattle.spec_util.specs.declared.types.OpenTag.{OpenTag}
use Rattle.decoder_rules.specs.Record.{opens, no_end, fresh, with_open, with_waiting, with_notes, settled_to, opened, ends_from, closed_to, handed_out, size_grown, with_sizes_grown, waits}
use Rattle.basics.specs.Lists.{filled}
use Rattle.decoder_rules.specs.declared.types.WaitingEnd.{WaitingEnd}
use Rattle.decoder_rules.specs.declared.types.TagDecoder.{TagDecoder}
use Rattle.basics.proofs.ArrayOf32.{filled-length, filled_back, filled_more, filled_shift}
use Rattle.decoder_rules.proofs.MoveEffects.{Arrays, opens-length, settled_opens, opened-opens, closed_opens, closed_waits, handed_waits, grown_opens}

-- a record is clean: each array is its list with empty places after it
pub record Clean (d : TagDecoder) : Type 0 where
  pub masters : d.«open» ≡ filled no_tag (opens d)
  pub ends : d.waiting ≡ filled no_end (waits d)

-- a fresh record is clean
pub fresh_clean : Clean fresh
fresh_clean = record { masters = refl; ends = refl }

-- a clean record whose counts are at most 32 has its places
pub clean_arrays : (d : TagDecoder) → Clean d → d.open_count ≤ most_open → d.waiting_count ≤ most_open → Arrays d
clean_arrays d c m w =
    record {
      masters = ap length c.masters ∙ filled-length no_tag (opens d) (simp length-take (omega arith));
      ends = ap length c.ends ∙ filled-length no_end (waits d) (simp length-take (omega arith));
    }

module _ (d : TagDecoder) (a : Arrays d) (c : Clean d) where
  -- so it stays by each move: at another position, settled or not, finished or not
  pub with_notes_clean : (p : ℕ) (s f : Bool) → Clean (with_notes d p s f)
  unfolding with_notes
  with_notes_clean p s f = record { masters = c.masters; ends = c.ends }

  -- settled to a path
  pub settled_clean : (path : List PathPart) → Clean (settled_to d path)
  unfolding settled_to with_open with_notes
  settled_clean path = record { masters = ap (filled no_tag) (sym (settled_opens d path)); ends = c.ends }

  -- with a master more
  pub opened_clean : (m : OpenTag) → d.open_count < most_open → Clean (opened d m)
  unfolding opened with_open
  opened_clean m h =
      let n : length (opens d) ≡ d.open_count = opens-length d a (omega arith) in
      record {
        masters =
            ap (λ (l : List OpenTag). set l d.open_count m) c.masters
            ∙ filled_more no_tag (opens d) d.open_count m n h
            ∙ ap (filled no_tag) (sym (opened-opens d m (omega (arith, a.masters))));
        ends = c.ends;
      }

  -- with the masters above the first k closed
  pub closed_clean : (k : ℕ) → k ≤ d.open_count → d.open_count ≤ most_open → Clean (closed_to d k)
  unfolding closed_to ends_from with_open with_waiting
  closed_clean k h m =
      record {
        masters = ap (filled no_tag) (sym (closed_opens d k h (omega (arith, a.masters))));
        ends = ap (filled no_end) (sym (closed_waits d k (omega (arith, a.masters))));
      }

  -- with an End handed out
  pub handed_clean : d.waiting_count ≤ most_open → Clean (handed_out d)
  unfolding handed_out with_waiting
  handed_clean h =
      record {
        masters = c.masters;
        ends =
            ap (λ (l : List WaitingEnd). drop 1 l ++ (no_end ∷ [])) c.ends
            ∙ filled_shift no_end (waits d) (simp length-take (omega arith))
            ∙ ap (filled no_end) (sym (handed_waits d (omega (arith, a.ends))));
      }

  -- with its sizes grown
  pub grown_clean : (n : ℕ) → d.open_count ≤ most_open → Clean (with_sizes_grown d n)
  unfolding with_sizes_grown with_open
  grown_clean n h =
      let len : length (opens d) ≡ d.open_count = opens-length d a h in
      let len' : length (map (size_grown n) (opens d)) ≡ d.open_count = length-map (opens d) (size_grown n) ∙ len in
      let back : drop d.open_count d.«open» ≡ replicate (most_open - length (map (size_grown n) (opens d))) no_tag =
      ap (drop d.open_count) c.masters ∙ filled_back no_tag (opens d) d.open_count len ∙ ap (λ (j : ℕ). replicate (most_open - j) no_tag) (sym len') in
      record {
        masters = ap (λ (l : List OpenTag). map (size_grown n) (opens d) ++ l) back ∙ ap (filled no_tag) (sym (grown_opens d n (omega (arith, a.masters))));
        ends = c.ends;
      }
