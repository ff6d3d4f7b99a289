-- What helpers' contracts use: what the two functions that size a list are lent and answer. The list from an item on is
-- a run of elements, and then an End or nothing.
use Rattle.std.specs.Prelude.{ℕ, ◌+◌, ◌≤◌, ◌<◌, ◌≡◌, Bool, true, false, ◌&&◌, List, [], ◌∷◌, ◌++◌, leb, length, get_or, drop}
use Rattle.basics.specs.Lists.{every}
use Rattle.tag_writer.specs.Document.{Element, value, master, Run, none, then, payload, size_of_element, size_of_run}
use Rattle.tag_writer.specs.Items.{Mark, start, end, datum, element_marks, run_marks}
use Rattle.tag_writer.specs.Write.{greatest_size, most_items}
use Rattle.tag_writer.specs.declared.types.Sized.{Sized}

-- whether no master of an element, or of a run, has "a size over 4,000,000,000"
unfoldable mutual
  pub element_fits : Element → Bool
  element_fits (value x v) = true
  element_fits (master x r) = leb (size_of_run r) greatest_size && run_fits r

  pub run_fits : Run → Bool
  run_fits none = true
  run_fits (then e r) = element_fits e && run_fits r

-- whether a value's payload is no longer than the greatest size
abbrev pub is_small : Mark → Bool
is_small (start x) = true
is_small (end x) = true
is_small (datum x v) = leb (length (payload v)) greatest_size

-- a list that can be sized: at most 512 items, each value of them small
pub record Sizable (ms : List Mark) : Type 0 where
  pub few : length ms ≤ most_items
  pub small : every is_small ms ≡ true

-- whether a run stops here: an End comes, or nothing
abbrev pub stops : List Mark → Bool
stops [] = true
stops (start x ∷ ms) = false
stops (end x ∷ ms) = true
stops (datum x v ∷ ms) = false

-- a run of elements begins at this mark
pub record RunAt (ms : List Mark) (at : ℕ) : Type 0 where
  pub run : Run
  pub tail : List Mark
  pub stop : stops tail ≡ true
  pub is : drop at ms ≡ run_marks run ++ tail

-- an element begins at this mark
pub record ElementAt (ms : List Mark) (at : ℕ) : Type 0 where
  pub element : Element
  pub tail : List Mark
  pub is : drop at ms ≡ element_marks element ++ tail

-- what is answered of a run: its bytes, the first item after it, and whether every master's size is small enough
pub record RunSized (ms : List Mark) (at : ℕ) (r : Sized) (run : Run) : Type 0 where
  pub size : r.size ≡ size_of_run run
  pub next : r.next ≡ at + length (run_marks run)
  pub fits : r.fits ≡ run_fits run

-- the same of an element
pub record ElementSized (ms : List Mark) (at : ℕ) (r : Sized) (e : Element) : Type 0 where
  pub size : r.size ≡ size_of_element e
  pub next : r.next ≡ at + length (element_marks e)
  pub fits : r.fits ≡ element_fits e

-- a list of sizes has, at the place of each Start from one item on and before another, the size of the run after it
pub record SizesIn (ms : List Mark) (from upto : ℕ) (sizes : List ℕ) : Type 0 where
  pub at_start : (j x : ℕ) (run : Run) (tail : List Mark) → from ≤ j → j < upto → stops tail ≡ true → drop j ms ≡ start x ∷ (run_marks run ++ tail)
      → get_or sizes j 0 ≡ size_of_run run

-- a list of sizes is, below a place, as it was
pub record KeptBelow (at : ℕ) (old new : List ℕ) : Type 0 where
  pub same : (j : ℕ) → j < at → get_or new j 0 ≡ get_or old j 0
