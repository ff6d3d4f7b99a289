-- The open masters in lent words: what stands at each place, and that the walk over them is the walk over any masters
-- that the words show. Assumes nothing.
use Prim.Native.Nat.{ℕ, zero, suc, ◌-◌, ◌≤◌, ◌<◌, min}
use mathlib.Core.Path.{◌≡◌, refl, sym, ap, ◌∙◌}
use mathlib.Core.Bool.{Bool, false}
use mathlib.Core.List.{List, [], ◌∷◌, reverse}
use native.Mathlib.Omega.{arith}
use lib.ListN.{length, get_or, take}
use lib.Seq.{take_all}
use Rattle.table.specs.Table.{Entry}
use Rattle.table.specs.declared.types.PathPart.{PathPart}
use Rattle.spec_util.specs.Walk.{no_tag, walk_master, go_on, walk_from, ended_tops, left_open, shown_as, masters_shown, Shown}
use Rattle.spec_util.specs.declared.types.OpenTag.{OpenTag}
use Rattle.spec_util.specs.declared.types.Walk.{Walk}
use Rattle.spec_util.specs.declared.types.Walk.TheVariants.{Accept, Refuse, On}

-- ---- what is shown

pub length-shown : (ids : List ℕ) (knowns : List Bool) (n : ℕ) → length (masters_shown ids knowns n) ≡ min n (min (length ids) (length knowns))
unfolding masters_shown
length-shown [] knowns n = omega arith
length-shown (id ∷ ids) [] n = omega arith
length-shown (id ∷ ids) (known ∷ knowns) zero = omega arith
length-shown (id ∷ ids) (known ∷ knowns) (suc n) = omega (arith, length-shown ids knowns n)

pub shown_id : (ids : List ℕ) (knowns : List Bool) (n i : ℕ) → i < length (masters_shown ids knowns n)
    → (get_or (masters_shown ids knowns n) i no_tag).id ≡ get_or ids i 0
unfolding masters_shown
shown_id [] knowns n i h = absurd (omega arith)
shown_id (id ∷ ids) [] n i h = absurd (omega arith)
shown_id (id ∷ ids) (known ∷ knowns) zero i h = absurd (omega arith)
shown_id (id ∷ ids) (known ∷ knowns) (suc n) zero h = refl
shown_id (id ∷ ids) (known ∷ knowns) (suc n) (suc i) h = shown_id ids knowns n i (omega arith)

pub shown_known : (ids : List ℕ) (knowns : List Bool) (n i : ℕ) → i < length (masters_shown ids knowns n)
    → (get_or (masters_shown ids knowns n) i no_tag).known ≡ get_or knowns i false
unfolding masters_shown
shown_known [] knowns n i h = absurd (omega arith)
shown_known (id ∷ ids) [] n i h = absurd (omega arith)
shown_known (id ∷ ids) (known ∷ knowns) zero i h = absurd (omega arith)
shown_known (id ∷ ids) (known ∷ knowns) (suc n) zero h = refl
shown_known (id ∷ ids) (known ∷ knowns) (suc n) (suc i) h = shown_known ids knowns n i (omega arith)

-- ---- the walk asks of a master only what is shown

go_on_same : (w : Walk) (f g : ℕ → ℕ → Bool) → ((marker counter : ℕ) → f marker counter ≡ g marker counter) → go_on w f ≡ go_on w g
unfolding go_on
go_on_same Accept f g same = refl
go_on_same Refuse f g same = refl
go_on_same (On marker counter) f g same = same marker counter

module _ (strict : Bool) (t : List Entry) (path : List PathPart) (id : ℕ) where
  -- masters that agree in their IDs and in whether their sizes are known are walked alike
  pub walk_same : (ms l : List OpenTag) (marker counter : ℕ) → length ms ≡ length l
      → ((i : ℕ) → i < length l → (get_or ms i no_tag).id ≡ (get_or l i no_tag).id)
      → ((i : ℕ) → i < length l → (get_or ms i no_tag).known ≡ (get_or l i no_tag).known)
      → walk_from strict t path id marker counter ms ≡ walk_from strict t path id marker counter l
  unfolding walk_from
  walk_same [] [] marker counter e ids knowns = refl
  walk_same [] (m ∷ l) marker counter e ids knowns = absurd (omega arith)
  walk_same (m ∷ ms) [] marker counter e ids knowns = absurd (omega arith)
  walk_same (m ∷ ms) (k ∷ l) marker counter e ids knowns =
      rw (ids 0 (omega arith), knowns 0 (omega arith))
      (go_on_same (walk_master strict t path id k.id k.known marker counter) _ _
      (λ next so_far. walk_same ms l next so_far (omega arith) (λ i h. ids (suc i) (omega arith)) (λ i h. knowns (suc i) (omega arith))))

  -- so the walk over what the words show is the walk over the masters
  pub walk_shown : {ids : List ℕ} {knowns : List Bool} {n : ℕ} {l : List OpenTag} (marker counter : ℕ) → n ≤ length ids → n ≤ length knowns
      → Shown ids knowns n l → walk_from strict t path id marker counter (masters_shown ids knowns n) ≡ walk_from strict t path id marker counter l
  walk_shown {ids} {knowns} {n} {l} marker counter hi hk shown =
      let many = shown.shown_ids.many in
      let len : length (masters_shown ids knowns n) ≡ length l = length-shown ids knowns n ∙ omega arith in
      walk_same (masters_shown ids knowns n) l marker counter len
      (λ i h. shown_id ids knowns n i (omega arith) ∙ shown.shown_ids.ids_are i (omega arith))
      (λ i h. shown_known ids knowns n i (omega arith) ∙ shown.knowns_are i (omega arith))

-- the first of the masters that are shown
pub take-shown : (ids : List ℕ) (knowns : List Bool) (n k : ℕ) → k ≤ length (masters_shown ids knowns n) → take k (masters_shown ids knowns n) ≡ masters_shown ids knowns k
unfolding masters_shown
take-shown [] knowns n zero h = refl
take-shown [] knowns n (suc k) h = absurd (omega arith)
take-shown (id ∷ ids) [] n zero h = refl
take-shown (id ∷ ids) [] n (suc k) h = absurd (omega arith)
take-shown (id ∷ ids) (known ∷ knowns) zero zero h = refl
take-shown (id ∷ ids) (known ∷ knowns) zero (suc k) h = absurd (omega arith)
take-shown (id ∷ ids) (known ∷ knowns) (suc n) zero h = refl
take-shown (id ∷ ids) (known ∷ knowns) (suc n) (suc k) h = ap (λ (l : List OpenTag). shown_as id known ∷ l) (take-shown ids knowns n k (omega arith))

-- and the words show the masters that are read off them
pub shows_those_read : (ids : List ℕ) (knowns : List Bool) (n : ℕ) → n ≤ length ids → n ≤ length knowns → Shown ids knowns n (masters_shown ids knowns n)
shows_those_read ids knowns n hi hk =
    let many : length (masters_shown ids knowns n) ≡ n = length-shown ids knowns n ∙ omega arith in
    record {
      shown_ids = record { many = many; ids_are = λ i h. sym (shown_id ids knowns n i (omega arith)) };
      knowns_are = λ i h. sym (shown_known ids knowns n i (omega arith));
    }

-- the masters that an ID leaves open, where the words show `count` of them and `kept` are left
pub left_shown : (strict : Bool) (t : List Entry) (id : ℕ) (ids : List ℕ) (knowns : List Bool) (n count kept : ℕ) → count ≡ min n (min (length ids) (length knowns))
    → kept ≡ count - ended_tops strict t id (reverse (masters_shown ids knowns count)) → left_open strict t id (masters_shown ids knowns n) ≡ masters_shown ids knowns kept
unfolding left_open
left_shown strict t id ids knowns n count kept e k =
    let l = masters_shown ids knowns n in
    let len : length l ≡ count = length-shown ids knowns n ∙ sym e in
    let same : masters_shown ids knowns count ≡ l = sym (take-shown ids knowns n count (omega arith)) ∙ take_all count l (omega arith) in
    let left : length l - ended_tops strict t id (reverse l) ≡ kept = ap (λ (j : ℕ). j - ended_tops strict t id (reverse l)) len ∙ sym (k ∙ ap (λ (m : List OpenTag). count - ended_tops strict t id (reverse m)) same) in
    ap (λ (j : ℕ). take j l) left ∙ take-shown ids knowns n kept (omega arith)
