-- Document 01, "The lent table", "Shape": refusal 10. Every number is unbounded here, so no sum wraps.
use Rattle.std.specs.Prelude.{ℕ, ◌+◌, ◌*◌, ◌/◌, ◌%◌, ◌≤◌, ◌<◌, Bool, true, cond, ◌&&◌, ◌≡◌, List, leb, eqb, length, get_or}
use Rattle.basics.specs.Lists.{every}
use Rattle.table.specs.Table.{threes, fours}

-- ---- limits

-- "at most 64 entries"
abbrev pub most_entries : ℕ
most_entries = 64

-- "at most 16 parts to a path"
abbrev pub most_parts : ℕ
most_parts = 16

-- "min and max words at most 65,536"
abbrev pub most_bound : ℕ
most_bound = 65_536

-- ---- the shape

-- "a part's first word 0 or 1", "min and max words at most 65,536, third word 0 after an ID"
unfoldable pub good_part : ℕ → ℕ → ℕ → Bool
good_part sort low high =
    cond (eqb sort 0) (eqb high 0) (eqb sort 1 && leb low most_bound && leb high most_bound)

-- each part, those that no entry uses too
unfoldable pub good_parts : List ℕ → Bool
good_parts ps = every (λ (good : Bool). good) (threes good_part ps)

-- "types 0 to 5", "at most 16 parts to a path", "first part plus number within the parts"; all is the number of parts
unfoldable pub good_entry : ℕ → ℕ → ℕ → ℕ → Bool
good_entry all kind first count = leb kind 5 && leb count most_parts && leb (first + count) all

-- each entry, one with an empty path too
unfoldable pub good_entries : ℕ → List ℕ → Bool
good_entries all es = every (λ (good : Bool). good) (fours (λ id kind first count. good_entry all kind first count) es)

-- "whole entries and parts, at most 64 entries", and each part and each entry as above
unfoldable pub good_shape : List ℕ → List ℕ → Bool
good_shape es ps =
    eqb (length es % 4) 0 && eqb (length ps % 3) 0 && leb (length es / 4) most_entries
    && good_parts ps && good_entries (length ps / 3) es

-- ---- the same as facts, for the laws

-- what the words of entry i say where the shape is good
pub record GoodEntry (es ps : List ℕ) (i : ℕ) : Type 0 where
  pub kind : get_or es (4 * i + 1) 0 ≤ 5
  pub short : get_or es (4 * i + 3) 0 ≤ most_parts
  pub inside : get_or es (4 * i + 2) 0 + get_or es (4 * i + 3) 0 ≤ length ps / 3

-- what a good shape says of the words, one by one
pub record Shaped (es ps : List ℕ) : Type 0 where
  pub whole_entries : length es % 4 ≡ 0
  pub whole_parts : length ps % 3 ≡ 0
  pub few_entries : length es / 4 ≤ most_entries
  pub parts : (i : ℕ) → i < length ps / 3 → good_part (get_or ps (3 * i) 0) (get_or ps (3 * i + 1) 0) (get_or ps (3 * i + 2) 0) ≡ true
  pub entries : (i : ℕ) → i < length es / 4 → GoodEntry es ps i
