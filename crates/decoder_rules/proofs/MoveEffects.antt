-- What each move keeps of the record, and what it makes of the open masters and of the waiting Ends, read as lists.
-- That an array has its 32 places, which the type gives in code, is a hypothesis here (`Arrays`), and each move keeps
-- it. Assumes nothing.
use Prim.Native.Nat.{ℕ, ◌+◌, ◌-◌, ◌≤◌, ◌<◌}
use mathlib.Core.Path.{◌≡◌, refl, ap, ◌∙◌}
use mathlib.Core.Bool.{Bool, true}
use mathlib.Core.List.{List, [], ◌∷◌, ◌++◌, map, reverse}
use native.Mathlib.Numerals.{add-one}
use native.Mathlib.Omega.{arith}
use lib.ListN.{length, get_or, take, drop, length-append, length-map, length-take, length-drop, length-set, length-reverse}
use lib.Seq.{length-take-le, take_at, take-suc-set}
use Rattle.table.specs.declared.types.PathPart.{PathPart}
use Rattle.spec_util.specs.Walk.{most_open, no_tag}
use Rattle.spec_util.specs.declared.types.OpenTag.{OpenTag}
use Rattle.decoder_rules.specs.Record.{opens, waits, end_for, no_end, fresh, with_open, with_waiting, with_notes, implied, settled_to, opened, ends_from, closed_to, handed_out, size_grown, with_sizes_grown}
use Rattle.decoder_rules.specs.declared.types.TagDecoder.{TagDecoder}
use Rattle.basics.proofs.ArrayOf32.{filled-length, filled_front, take_shift, reversed_head}

-- ---- settings and notes

-- e has the settings of d
abbrev pub SameSettings : TagDecoder → TagDecoder → Type 0
SameSettings d e = e.settings ≡ d.settings

-- e has the position of d, and is settled and finished where d is
pub record SameNotes (d e : TagDecoder) : Type 0 where
  pub position : e.position ≡ d.position
  pub settled : e.settled ≡ d.settled
  pub finished : e.finished ≡ d.finished

-- as one value
abbrev pub notes : TagDecoder → ℕ × Bool × Bool
notes d = (d.position, d.settled, d.finished)

-- two records whose notes are the same
pub same_notes : (d e : TagDecoder) → notes e ≡ notes d → SameNotes d e
same_notes d e h = record { position = ap (λ s. s.0) h; settled = ap (λ s. s.1) h; finished = ap (λ s. s.2) h }

module _ (d : TagDecoder) where
  -- each move keeps the settings, and all but `with_notes` and `settled_to` keep the notes too
  pub with_notes_settings : (p : ℕ) (s f : Bool) → SameSettings d (with_notes d p s f)
  unfolding with_notes
  with_notes_settings p s f = refl

  pub settled_settings : (path : List PathPart) → SameSettings d (settled_to d path)
  unfolding settled_to with_open with_notes
  settled_settings path = refl

  pub opened_settings : (m : OpenTag) → SameSettings d (opened d m)
  unfolding opened with_open
  opened_settings m = refl

  pub opened_notes : (m : OpenTag) → SameNotes d (opened d m)
  unfolding opened with_open
  opened_notes m = same_notes d (opened d m) refl

  pub closed_settings : (k : ℕ) → SameSettings d (closed_to d k)
  unfolding closed_to with_open with_waiting
  closed_settings k = refl

  pub closed_notes : (k : ℕ) → SameNotes d (closed_to d k)
  unfolding closed_to with_open with_waiting
  closed_notes k = same_notes d (closed_to d k) refl

  pub handed_settings : SameSettings d (handed_out d)
  unfolding handed_out with_waiting
  handed_settings = refl

  pub handed_notes : SameNotes d (handed_out d)
  unfolding handed_out with_waiting
  handed_notes = same_notes d (handed_out d) refl

  pub grown_settings : (n : ℕ) → SameSettings d (with_sizes_grown d n)
  unfolding with_sizes_grown with_open
  grown_settings n = refl

  pub grown_notes : (n : ℕ) → SameNotes d (with_sizes_grown d n)
  unfolding with_sizes_grown with_open
  grown_notes n = same_notes d (with_sizes_grown d n) refl

  -- settling and `with_notes` leave notes of their own
  pub with_notes_position : (p : ℕ) (s f : Bool) → (with_notes d p s f).position ≡ p
  unfolding with_notes
  with_notes_position p s f = refl

  pub with_notes_settled : (p : ℕ) (s f : Bool) → (with_notes d p s f).settled ≡ s
  unfolding with_notes
  with_notes_settled p s f = refl

  pub with_notes_finished : (p : ℕ) (s f : Bool) → (with_notes d p s f).finished ≡ f
  unfolding with_notes
  with_notes_finished p s f = refl

  pub settled_position : (path : List PathPart) → (settled_to d path).position ≡ d.position
  unfolding settled_to with_open with_notes
  settled_position path = refl

  pub settled_settled : (path : List PathPart) → (settled_to d path).settled ≡ true
  unfolding settled_to with_open with_notes
  settled_settled path = refl

  pub settled_finished : (path : List PathPart) → (settled_to d path).finished ≡ d.finished
  unfolding settled_to with_open with_notes
  settled_finished path = refl

-- ---- the open masters

-- a fresh record has none open
pub fresh-opens : opens fresh ≡ []
fresh-opens = refl

module _ (d : TagDecoder) where
  -- what each move makes of them
  pub with_notes_opens : (p : ℕ) (s f : Bool) → opens (with_notes d p s f) ≡ opens d
  unfolding with_notes
  with_notes_opens p s f = refl

  pub settled_opens : (path : List PathPart) → opens (settled_to d path) ≡ map implied path
  unfolding settled_to with_open
  settled_opens path = filled_front no_tag (map implied path) (length path) (length-map path implied)

  pub opened-opens : (m : OpenTag) → d.open_count < length d.«open» → opens (opened d m) ≡ opens d ++ (m ∷ [])
  unfolding opened with_open
  opened-opens m h = rw add-one (take-suc-set d.«open» d.open_count m h)

  pub closed_opens : (k : ℕ) → k ≤ d.open_count → d.open_count ≤ length d.«open» → opens (closed_to d k) ≡ take k (opens d)
  unfolding closed_to with_open with_waiting
  closed_opens k h n = filled_front no_tag (take k (opens d)) k (simp length-take (omega arith))

  pub handed_opens : opens (handed_out d) ≡ opens d
  unfolding handed_out with_waiting
  handed_opens = refl

  pub grown_opens : (n : ℕ) → d.open_count ≤ length d.«open» → opens (with_sizes_grown d n) ≡ map (size_grown n) (opens d)
  unfolding with_sizes_grown with_open
  grown_opens n h = take_at (map (size_grown n) (opens d)) (drop d.open_count d.«open») d.open_count (simp (length-map, length-take) (omega arith))

-- ---- the waiting Ends

-- in a fresh record none waits
pub fresh-waits : waits fresh ≡ []
fresh-waits = refl

module _ (d : TagDecoder) where
  -- what each move makes of them
  pub with_notes_waits : (p : ℕ) (s f : Bool) → waits (with_notes d p s f) ≡ waits d
  unfolding with_notes
  with_notes_waits p s f = refl

  pub settled_waits : (path : List PathPart) → waits (settled_to d path) ≡ waits d
  unfolding settled_to with_open with_notes
  settled_waits path = refl

  pub opened-waits : (m : OpenTag) → waits (opened d m) ≡ waits d
  unfolding opened with_open
  opened-waits m = refl

  pub closed_waits : (k : ℕ) → d.open_count ≤ length d.«open» → waits (closed_to d k) ≡ drop 1 (map end_for (reverse (drop k (opens d))))
  unfolding closed_to ends_from with_open with_waiting
  closed_waits k n = filled_front no_end _ (d.open_count - k - 1) (simp (length-drop, length-map, length-reverse, length-take) (omega arith))

  -- the first of the Ends above the first k is that of the top master
  pub ends_head : (k : ℕ) → k < d.open_count → d.open_count ≤ length d.«open»
      → get_or (ends_from d k) 0 no_end ≡ end_for (get_or d.«open» (d.open_count - 1) no_tag)
  unfolding ends_from
  ends_head k h n = reversed_head d.«open» end_for d.open_count (d.open_count - 1) k no_tag no_end (omega arith) (omega arith) (omega arith)

  pub grown_waits : (n : ℕ) → waits (with_sizes_grown d n) ≡ waits d
  unfolding with_sizes_grown with_open
  grown_waits n = refl

  pub handed_waits : d.waiting_count ≤ length d.waiting → waits (handed_out d) ≡ drop 1 (waits d)
  unfolding handed_out with_waiting
  handed_waits h = take_shift d.waiting d.waiting_count no_end h

-- ---- the counts

module _ (d : TagDecoder) where
  -- what each move makes of them
  pub with_notes_count : (p : ℕ) (s f : Bool) → (with_notes d p s f).open_count ≡ d.open_count
  unfolding with_notes
  with_notes_count p s f = refl

  pub with_notes_waiting_count : (p : ℕ) (s f : Bool) → (with_notes d p s f).waiting_count ≡ d.waiting_count
  unfolding with_notes
  with_notes_waiting_count p s f = refl

  pub settled_count : (path : List PathPart) → (settled_to d path).open_count ≡ length path
  unfolding settled_to with_open
  settled_count path = refl

  pub settled_waiting_count : (path : List PathPart) → (settled_to d path).waiting_count ≡ d.waiting_count
  unfolding settled_to with_open with_notes
  settled_waiting_count path = refl

  pub opened_count : (m : OpenTag) → (opened d m).open_count ≡ d.open_count + 1
  unfolding opened with_open
  opened_count m = refl

  pub opened_waiting_count : (m : OpenTag) → (opened d m).waiting_count ≡ d.waiting_count
  unfolding opened with_open
  opened_waiting_count m = refl

  pub closed_count : (k : ℕ) → (closed_to d k).open_count ≡ k
  unfolding closed_to with_open with_waiting
  closed_count k = refl

  pub closed_waiting_count : (k : ℕ) → (closed_to d k).waiting_count ≡ d.open_count - k - 1
  unfolding closed_to with_waiting
  closed_waiting_count k = refl

  pub handed_count : (handed_out d).open_count ≡ d.open_count
  unfolding handed_out with_waiting
  handed_count = refl

  pub handed_waiting_count : (handed_out d).waiting_count ≡ d.waiting_count - 1
  unfolding handed_out with_waiting
  handed_waiting_count = refl

  pub grown_count : (n : ℕ) → (with_sizes_grown d n).open_count ≡ d.open_count
  unfolding with_sizes_grown with_open
  grown_count n = refl

  pub grown_waiting_count : (n : ℕ) → (with_sizes_grown d n).waiting_count ≡ d.waiting_count
  unfolding with_sizes_grown with_open
  grown_waiting_count n = refl

-- ---- the arrays have their 32 places

-- both arrays of a record have 32 places
pub record Arrays (d : TagDecoder) : Type 0 where
  pub masters : length d.«open» ≡ most_open
  pub ends : length d.waiting ≡ most_open

-- so a list is as long as its count says
pub opens-length : (d : TagDecoder) → Arrays d → d.open_count ≤ most_open → length (opens d) ≡ d.open_count
opens-length d a h = length-take-le d.open_count d.«open» (omega (arith, a.masters))

-- and the other list too
pub waits-length : (d : TagDecoder) → Arrays d → d.waiting_count ≤ most_open → length (waits d) ≡ d.waiting_count
waits-length d a h = length-take-le d.waiting_count d.waiting (omega (arith, a.ends))

-- a fresh record has its places
pub fresh_arrays : Arrays fresh
fresh_arrays = record { masters = refl; ends = refl }

module _ (d : TagDecoder) (a : Arrays d) where
  -- each move keeps them
  pub with_notes_arrays : (p : ℕ) (s f : Bool) → Arrays (with_notes d p s f)
  unfolding with_notes
  with_notes_arrays p s f = record { masters = a.masters; ends = a.ends }

  pub settled_arrays : (path : List PathPart) → length path ≤ most_open → Arrays (settled_to d path)
  unfolding settled_to with_open with_notes
  settled_arrays path h = record { masters = filled-length no_tag (map implied path) (rw length-map h); ends = a.ends }

  pub opened_arrays : (m : OpenTag) → Arrays (opened d m)
  unfolding opened with_open
  opened_arrays m = record { masters = length-set d.«open» d.open_count m ∙ a.masters; ends = a.ends }

  pub closed_arrays : (k : ℕ) → Arrays (closed_to d k)
  unfolding closed_to ends_from with_open with_waiting
  closed_arrays k =
      record {
        masters = filled-length no_tag (take k (opens d)) (simp length-take (omega (arith, a.masters)));
        ends = filled-length no_end (drop 1 (map end_for (reverse (drop k (opens d))))) (simp (length-drop, length-map, length-reverse, length-take) (omega (arith, a.masters)));
      }

  pub handed_arrays : Arrays (handed_out d)
  unfolding handed_out with_waiting
  handed_arrays = record { masters = a.masters; ends = simp (length-append, length-drop) (omega (arith, a.ends)) }

  pub grown_arrays : (n : ℕ) → Arrays (with_sizes_grown d n)
  unfolding with_sizes_grown with_open
  grown_arrays n = record { masters = simp (length-append, length-map, length-take, length-drop) (omega (arith, a.masters)); ends = a.ends }
