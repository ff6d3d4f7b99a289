-- An element goes only where its path names the open masters by RFC 8794. So the path walk accepts it there, strictly
-- and as ported, and it ends none of them, where all of them are of known size. Assumes nothing.
use Prim.Native.Nat.{ℕ, ◌-◌}
use mathlib.Core.Path.{◌≡◌, refl, sym, ap, ◌∙◌}
use mathlib.Core.Bool.{Bool, true, false, not, ◌||◌}
use mathlib.Core.List.{List, [], ◌∷◌, map, reverse, append-nil}
use mathlib.Core.Logic.{◌⊎◌, inl, inr, ⊎_elim}
use native.Mathlib.Omega.{arith}
use lib.ListN.{length}
use lib.Seq.{take-length}
use Rattle.basics.specs.Lists.{every}
use Rattle.basics.proofs.Bools.{both, and_both}
use Rattle.basics.proofs.Every.{every_other, every_reversed}
use Rattle.table.specs.Check.{only_ids}
use Rattle.table.specs.Table.{Entry, path_of, same_path}
use Rattle.table.specs.declared.types.PathPart.{PathPart}
use Rattle.table.specs.declared.types.PathPart.TheVariants.{Id, Global}
use Rattle.table.proofs.Same.{path_same}
use Rattle.spec_util.specs.Rfc8794.{in_bounds, PathNames, global_only_last, read_one_way}
use Rattle.spec_util.specs.Walk.{over_max, under_min, unknown_and_ended, ended_tops, left_open, place_along, validate_tag_path}
use Rattle.spec_util.specs.declared.types.OpenTag.{OpenTag}
use Rattle.spec_util.proofs.StrictWalkByRfc.{walk_names_strictly}
use Rattle.spec_util.proofs.WalkByRfc.{names_complete, accepted_where_named}
use Rattle.tag_writer.specs.Write.{anywhere, goes_in}
use Rattle.std.specs.Prelude.{None}

-- the IDs of these masters
abbrev pub ids_of : List OpenTag → List ℕ
ids_of ms = map (λ (m : OpenTag). m.id) ms

-- all of them are of known size
abbrev pub every_known : List OpenTag → Bool
every_known ms = every (λ (m : OpenTag). m.known) ms

-- one of two tests, where either passes
pub either_of : (a b : Bool) → (a || b) ≡ true → (a ≡ true) ⊎ (b ≡ true)
either_of true b e = inl refl
either_of false b e = inr e

-- ---- where an element goes

-- the path names these parents, and in one way
pub record Named (path : List PathPart) (parents : List ℕ) : Type 0 where
  pub names : PathNames path parents
  pub last : global_only_last path ≡ true
  pub one_way : read_one_way path parents ≡ true

-- a single Global without bounds names any parents
by_global : (parents : List ℕ) → Named (Global None None ∷ []) parents
unfolding in_bounds under_min over_max global_only_last read_one_way
by_global parents = record { names = (parents, [], sym (append-nil parents), refl, refl); last = refl; one_way = refl }

-- a path of IDs names those
names_own : (parents : List ℕ) → PathNames (map Id parents) parents
names_own [] = refl
names_own (x ∷ l) = (l, refl, names_own l)

last_own : (parents : List ℕ) → global_only_last (map Id parents) ≡ true
unfolding global_only_last
last_own [] = refl
last_own (x ∷ l) = last_own l

one_way_own : (l parents : List ℕ) → read_one_way (map Id l) parents ≡ true
unfolding read_one_way
one_way_own [] parents = refl
one_way_own (x ∷ l) parents = one_way_own l parents

by_ids : (parents : List ℕ) → Named (map Id parents) parents
by_ids parents = record { names = names_own parents; last = last_own parents; one_way = one_way_own parents parents }

-- an element goes only where its path names the open masters
pub goes_named : (t : List Entry) (parents : List ℕ) (x : ℕ) → goes_in t parents x ≡ true → Named (path_of t x) parents
unfolding goes_in anywhere
goes_named t parents x g =
    ⊎_elim
    (λ a. rw (path_same (path_of t x) (Global None None ∷ []) a) (by_global parents))
    (λ i. rw (path_same (path_of t x) (map Id parents) i) (by_ids parents))
    (either_of (same_path (path_of t x) (Global None None ∷ [])) (same_path (path_of t x) (map Id parents)) g)

-- at the top a path of IDs is the empty one
pub at_top : (t : List Entry) (x : ℕ) → goes_in t [] x ≡ true → (path_of t x ≡ []) ⊎ (only_ids (path_of t x) ≡ false)
unfolding goes_in anywhere only_ids every
at_top t x g =
    ⊎_elim
    (λ a. inr (ap only_ids (path_same (path_of t x) (Global None None ∷ []) a)))
    (λ i. inl (path_same (path_of t x) [] i))
    (either_of (same_path (path_of t x) (Global None None ∷ [])) (same_path (path_of t x) []) g)

-- ---- masters of known size

module _ (strict : Bool) (t : List Entry) (x : ℕ) where
  -- no ID ends one
  known_stays : (m : OpenTag) → m.known ≡ true → unknown_and_ended strict t m.known m.id x ≡ false
  unfolding unknown_and_ended
  known_stays m k = rw k

  tops_none : (l : List OpenTag) → every_known l ≡ true → ended_tops strict t x l ≡ 0
  unfolding ended_tops every
  tops_none [] k = refl
  tops_none (m ∷ l) k = rw (known_stays m (both m.known (every_known l) k).left)

  -- so none is closed
  pub no_tops : (ms : List OpenTag) → every_known ms ≡ true → ended_tops strict t x (reverse ms) ≡ 0
  no_tops ms k = tops_none (reverse ms) (every_reversed (λ (m : OpenTag). m.known) ms k)

  all_stay : (ms : List OpenTag) → every_known ms ≡ true → every (λ (m : OpenTag). not (unknown_and_ended strict t m.known m.id x)) ms ≡ true
  all_stay ms k =
      every_other (λ (m : OpenTag). m.known) (λ (m : OpenTag). not (unknown_and_ended strict t m.known m.id x)) (λ m e. ap not (known_stays m e)) ms k

  all_left : (ms : List OpenTag) → every_known ms ≡ true → left_open strict t x ms ≡ ms
  unfolding left_open
  all_left ms k =
      let e : length ms - ended_tops strict t x (reverse ms) ≡ length ms = rw (no_tops ms k) (omega arith) in
      rw e (take-length ms)

-- the path walk accepts an element where it goes
pub placed : (strict : Bool) (t : List Entry) (x : ℕ) (ms : List OpenTag) → every_known ms ≡ true → goes_in t (ids_of ms) x ≡ true → validate_tag_path strict t x ms ≡ true
placed true t x ms k g =
    let n = goes_named t (ids_of ms) x g in
    unfold validate_tag_path place_along in
    rw (all_left true t x ms k)
    (and_both (all_stay true t x ms k) (walk_names_strictly t (path_of t x) x ms n.one_way ∙ names_complete (path_of t x) (ids_of ms) n.names))
placed false t x ms k g =
    let n = goes_named t (ids_of ms) x g in
    (accepted_where_named t x ms n.last k).1 n.names
