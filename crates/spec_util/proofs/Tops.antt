-- The masters at the top that an ID ends, as a loop down from there: the last of the first n masters stays, or closes and
-- leaves n - 1. Assumes nothing.
use Prim.Native.Nat.{ℕ, ◌+◌, ◌-◌, ◌≤◌, ◌<◌}
use mathlib.Core.Path.{◌≡◌, sym, ap, ◌∙◌}
use mathlib.Core.Bool.{Bool, true, false}
use mathlib.Core.List.{List, ◌∷◌, reverse}
use native.Mathlib.Omega.{arith}
use lib.ListN.{length, get_or, take}
use lib.Seq.{take_all}
use Rattle.table.specs.Table.{Entry}
use Rattle.spec_util.specs.Walk.{no_tag, unknown_and_ended, ended_tops, Shown}
use Rattle.spec_util.specs.declared.types.OpenTag.{OpenTag}
use Rattle.basics.proofs.Loops.{reverse_used}

-- of so many masters, each above the first n closes
pub record Left (strict : Bool) (t : List Entry) (x : ℕ) (l : List OpenTag) (count n : ℕ) : Type 0 where
  pub most : n ≤ count
  pub above : ended_tops strict t x (reverse l) ≡ (count - n) + ended_tops strict t x (reverse (take n l))

-- at first all are left
pub all_left : (strict : Bool) (t : List Entry) (x : ℕ) (l : List OpenTag) (count : ℕ) → length l ≡ count → Left strict t x l count count
all_left strict t x l count h =
    let e : take count l ≡ l = take_all count l (omega arith) in
    record { most = omega arith; above = rw e (omega arith) }

module _ {strict : Bool} {t : List Entry} {x : ℕ} {ids : List ℕ} {knowns : List Bool} {l : List OpenTag} {count n : ℕ} (shown : Shown ids knowns count l) (left : Left strict t x l count n) where
  module _ (k : 0 < n) where
    -- the last of them
    last : reverse (take n l) ≡ get_or l (n - 1) no_tag ∷ reverse (take (n - 1) l)
    last = let many = shown.shown_ids.many in let most = left.most in reverse_used l n (omega arith) no_tag k

    ended_at : {b : Bool} → unknown_and_ended strict t (get_or knowns (n - 1) false) (get_or ids (n - 1) 0) x ≡ b
        → unknown_and_ended strict t (get_or l (n - 1) no_tag).known (get_or l (n - 1) no_tag).id x ≡ b
    ended_at e =
        let most = left.most in
        ap (λ (b : Bool). unknown_and_ended strict t b (get_or l (n - 1) no_tag).id x) (sym (shown.knowns_are (n - 1) (omega arith)))
        ∙ ap (λ (y : ℕ). unknown_and_ended strict t (get_or knowns (n - 1) false) y x) (sym (shown.shown_ids.ids_are (n - 1) (omega arith)))
        ∙ e

    -- a top that the ID does not end stays, and so do all below it
    pub top_stays : unknown_and_ended strict t (get_or knowns (n - 1) false) (get_or ids (n - 1) 0) x ≡ false → n ≡ count - ended_tops strict t x (reverse l)
    unfolding ended_tops
    top_stays e =
        let f : ended_tops strict t x (reverse (take n l)) ≡ 0 = rw (last, ended_at e) in
        omega arith

    -- a top that it ends closes
    pub top_closes : unknown_and_ended strict t (get_or knowns (n - 1) false) (get_or ids (n - 1) 0) x ≡ true → Left strict t x l count (n - 1)
    unfolding ended_tops
    top_closes e =
        let f : ended_tops strict t x (reverse (take n l)) ≡ ended_tops strict t x (reverse (take (n - 1) l)) + 1 = rw (last, ended_at e) in
        omega arith

  -- and with none left, none stays
  pub no_top : n ≤ 0 → 0 ≡ count - ended_tops strict t x (reverse l)
  unfolding ended_tops
  no_top z =
      let e : n ≡ 0 = omega arith in
      let f : ended_tops strict t x (reverse (take n l)) ≡ 0 = ap (λ (m : ℕ). ended_tops strict t x (reverse (take m l))) e in
      omega arith
