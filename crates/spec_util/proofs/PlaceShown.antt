-- The place of an ID asks of an open master only what lent words show: its ID, and whether its size is known. Assumes
-- nothing.
use Prim.Native.Nat.{ℕ, zero, suc, ◌+◌, ◌-◌, ◌≤◌}
use mathlib.Core.Path.{◌≡◌, refl, sym, ap, ap₂, ◌∙◌}
use mathlib.Core.Bool.{Bool, true, false, cond, not, ◌&&◌}
use mathlib.Core.List.{List, [], ◌∷◌, map, reverse}
use native.Mathlib.Omega.{arith}
use lib.ListN.{length, take, length-map, get_or-map}
use Rattle.basics.specs.Lists.{every}
use Rattle.basics.proofs.Maps.{map_reversed, take-map, every_mapped}
use Rattle.table.specs.Table.{Entry}
use Rattle.table.specs.declared.types.PathPart.{PathPart}
use Rattle.spec_util.specs.Walk.{no_tag, unknown_and_ended, walk_from, ended_tops, left_open, place_along, shown_as, masters_shown, Shown}
use Rattle.spec_util.specs.declared.types.OpenTag.{OpenTag}
use Rattle.spec_util.proofs.Shown.{walk_same}

-- what the words show of a master
abbrev pub shown : OpenTag → OpenTag
shown m = shown_as m.id m.known

module _ (strict : Bool) (t : List Entry) (id : ℕ) where
  -- the test of one master
  abbrev stays : OpenTag → Bool
  stays m = not (unknown_and_ended strict t m.known m.id id)

  -- as many tops end
  pub tops_shown : (l : List OpenTag) → ended_tops strict t id (map shown l) ≡ ended_tops strict t id l
  unfolding ended_tops
  tops_shown [] = refl
  tops_shown (m ∷ l) = ap (λ (n : ℕ). cond (unknown_and_ended strict t m.known m.id id) (n + 1) 0) (tops_shown l)

  none_shown : (l : List OpenTag) → every stays (map shown l) ≡ every stays l
  none_shown l = every_mapped shown stays stays (λ m. refl) l

  left_open_shown : (l : List OpenTag) → left_open strict t id (map shown l) ≡ map shown (left_open strict t id l)
  unfolding left_open
  left_open_shown l =
      let tops : ended_tops strict t id (reverse (map shown l)) ≡ ended_tops strict t id (reverse l) =
      ap (ended_tops strict t id) (sym (map_reversed shown l)) ∙ tops_shown (reverse l) in
      ap₂ (λ (n k : ℕ). take (n - k) (map shown l)) (length-map l shown) tops ∙ take-map shown (length l - ended_tops strict t id (reverse l)) l

  walked_shown : (path : List PathPart) (l : List OpenTag) → walk_from strict t path id 0 0 (map shown l) ≡ walk_from strict t path id 0 0 l
  walked_shown path l =
      walk_same strict t path id (map shown l) l 0 0 (length-map l shown) (λ i h. ap (λ (m : OpenTag). m.id) (get_or-map shown l i no_tag))
      (λ i h. ap (λ (m : OpenTag). m.known) (get_or-map shown l i no_tag))

-- the place over what is shown of the masters is the place over the masters
pub place_alike : (strict : Bool) (t : List Entry) (path : List PathPart) (id : ℕ) (l : List OpenTag)
    → place_along strict t path id (map shown l) ≡ place_along strict t path id l
unfolding place_along
place_alike true t path id l =
    ap (λ (k : List OpenTag). every (stays true t id) k && walk_from true t path id 0 0 k) (left_open_shown true t id l)
    ∙ ap₂ ◌&&◌ (none_shown true t id (left_open true t id l)) (walked_shown true t id path (left_open true t id l))
place_alike false t path id l = walked_shown false t id path l

-- what the words show of the masters
all_shown : (ids : List ℕ) (knowns : List Bool) (n : ℕ) (l : List OpenTag) → n ≤ length ids → n ≤ length knowns → Shown ids knowns n l → masters_shown ids knowns n ≡ map shown l
unfolding masters_shown
all_shown ids knowns zero [] hi hk s = none ids knowns
  where
    none : (ids : List ℕ) (knowns : List Bool) → masters_shown ids knowns 0 ≡ []
    none [] knowns = refl
    none (x ∷ ids) [] = refl
    none (x ∷ ids) (k ∷ knowns) = refl
all_shown ids knowns zero (m ∷ l) hi hk s = absurd (omega (arith, s.shown_ids.many))
all_shown [] knowns (suc n) l hi hk s = absurd (omega arith)
all_shown (x ∷ ids) [] (suc n) l hi hk s = absurd (omega arith)
all_shown (x ∷ ids) (k ∷ knowns) (suc n) [] hi hk s = absurd (omega (arith, s.shown_ids.many))
all_shown (x ∷ ids) (k ∷ knowns) (suc n) (m ∷ l) hi hk s =
    let rest : Shown ids knowns n l = record {
      shown_ids = record { many = omega (arith, s.shown_ids.many); ids_are = λ i h. s.shown_ids.ids_are (suc i) (omega arith) };
      knowns_are = λ i h. s.knowns_are (suc i) (omega arith);
    } in
    ap₂ (λ (a : OpenTag) (b : List OpenTag). a ∷ b)
    (ap₂ shown_as (s.shown_ids.ids_are 0 (omega arith)) (s.knowns_are 0 (omega arith)))
    (all_shown ids knowns n l (omega arith) (omega arith) rest)

-- so the place over what the words show is the place over the masters
pub place_shown : (strict : Bool) (t : List Entry) (path : List PathPart) (id : ℕ) {ids : List ℕ} {knowns : List Bool} {n : ℕ} {l : List OpenTag}
    → n ≤ length ids → n ≤ length knowns → Shown ids knowns n l → place_along strict t path id (masters_shown ids knowns n) ≡ place_along strict t path id l
place_shown strict t path id {ids} {knowns} {n} {l} hi hk s =
    ap (place_along strict t path id) (all_shown ids knowns n l hi hk s) ∙ place_alike strict t path id l
