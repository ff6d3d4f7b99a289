-- The path walk as a loop over the open masters, and how far its counter goes. Assumes nothing.
use Prim.Native.Nat.{ℕ, ◌+◌, ◌≤◌, ◌<◌}
use mathlib.Core.Path.{◌≡◌, subst}
use mathlib.Core.Bool.{Bool, true, false, not, ◌&&◌}
use mathlib.Core.List.{List}
use native.Mathlib.Numerals.{add-one}
use native.Mathlib.Omega.{arith}
use lib.Dec.{leb, eqb}
use lib.ListN.{length, get_or, drop, drop_of_length-le}
use lib.Seq.{drop-cons}
use Rattle.table.specs.Table.{Entry}
use Rattle.table.specs.declared.types.PathPart.{PathPart}
use Rattle.table.specs.declared.types.PathPart.TheVariants.{Id, Global}
use Rattle.basics.proofs.Bools.{either}
use Rattle.spec_util.specs.Walk.{no_tag, over_max, under_min, is_id_at, walk_global, walk_global_strictly, walk_at, walk_part, unknown_and_ended, walk_master, walk_end, go_on, walk_from}
use Rattle.spec_util.specs.declared.types.OpenTag.{OpenTag}
use Rattle.spec_util.specs.declared.types.Walk.{Walk}
use Rattle.spec_util.specs.declared.types.Walk.TheVariants.{Accept, Refuse, On}

-- ---- the masters in turn

module _ (strict : Bool) (t : List Entry) (path : List PathPart) (id : ℕ) (marker counter : ℕ) (ms : List OpenTag) (i : ℕ) where
  module _ (h : i < length ms) where
    pub walk_accepts : walk_master strict t path id (get_or ms i no_tag).id (get_or ms i no_tag).known marker counter ≡ Accept
        → walk_from strict t path id marker counter (drop i ms) ≡ true
    unfolding walk_from go_on
    walk_accepts e = rw (drop-cons ms i no_tag h, e)

    pub walk_refuses : walk_master strict t path id (get_or ms i no_tag).id (get_or ms i no_tag).known marker counter ≡ Refuse
        → walk_from strict t path id marker counter (drop i ms) ≡ false
    unfolding walk_from go_on
    walk_refuses e = rw (drop-cons ms i no_tag h, e)

    pub walk_goes_on : {next so_far : ℕ} → walk_master strict t path id (get_or ms i no_tag).id (get_or ms i no_tag).known marker counter ≡ On next so_far
        → walk_from strict t path id marker counter (drop i ms) ≡ walk_from strict t path id next so_far (drop (i + 1) ms)
    unfolding walk_from go_on
    walk_goes_on e = rw (add-one, drop-cons ms i no_tag h, e)

  pub walk_ends : length ms ≤ i → walk_from strict t path id marker counter (drop i ms) ≡ walk_end path marker counter
  unfolding walk_from
  walk_ends h = rw (drop_of_length-le ms h)

-- ---- the counter counts no master twice

abbrev Counts : ℕ → Walk → Type 0
Counts n Accept = Unit {0}
Counts n Refuse = Unit {0}
Counts n (On marker counter) = counter ≤ n

module _ (strict : Bool) (t : List Entry) (path : List PathPart) (id master : ℕ) (known : Bool) (marker counter : ℕ) where
  counts_at_lem : (p : PathPart) → Counts (counter + 1) (walk_at strict path p master marker counter)
  unfolding walk_at walk_global walk_global_strictly
  counts_at_lem (Id x) = either (Counts (counter + 1)) (eqb x master) (On (marker + 1) counter) Refuse (omega arith) tt
  counts_at_lem (Global least most) =
      either (Counts (counter + 1)) strict _ _
      (either (Counts (counter + 1)) (is_id_at path (marker + 1) master) _ _
      (either (Counts (counter + 1)) (under_min counter least) Refuse (On (marker + 2) 0) tt (omega arith))
      (either (Counts (counter + 1)) (over_max (counter + 1) most) Refuse (On marker (counter + 1)) tt (omega arith)))
      (either (Counts (counter + 1)) (over_max (counter + 1) most) Refuse _ tt
      (either (Counts (counter + 1)) (is_id_at path (marker + 1) master) _ _
      (either (Counts (counter + 1)) (under_min (counter + 1) least) Refuse (On (marker + 2) 0) tt (omega arith))
      (omega arith)))

  counts : Counts (counter + 1) (walk_master strict t path id master known marker counter)
  unfolding walk_master walk_part
  counts =
      either (Counts (counter + 1)) (not strict && unknown_and_ended false t known master id) Accept _ tt
      (either (Counts (counter + 1)) (leb (length path) marker) Refuse _ tt (counts_at_lem (get_or path marker (Id 0))))

  pub counter_grows : {next so_far : ℕ} → walk_master strict t path id master known marker counter ≡ On next so_far → so_far ≤ counter + 1
  counter_grows e = subst (Counts (counter + 1)) e counts
