-- Two paths compared part by part: the loop over the places; and the comparison is equality. Assumes nothing.
use Prim.Native.Nat.{ℕ, suc, ◌+◌, ◌≤◌, ◌<◌}
use mathlib.Core.Path.{◌≡◌, refl, ap, ap₂}
use mathlib.Core.Bool.{true, false, and-false, false≢true, and-eq-true_iff}
use borrow.Author.Tests.{eq-eqb, eqb-true}
use mathlib.Core.List.{List, [], ◌∷◌}
use native.Mathlib.Numerals.{add-one}
use lib.ListN.{length, get_or, drop, drop_of_length-le}
use lib.Seq.{drop-cons}
use Rattle.table.specs.Table.{same_bound, same_part, same_path}
use Rattle.table.specs.declared.types.PathPart.TheVariants.{Id, Global}
use Rattle.table.specs.declared.types.PathPart.{PathPart}
use Rattle.std.specs.Prelude.{None, Option, Some}

pub same_lengths : (a b : List PathPart) → (length a ≡ length b → ⊥) → same_path a b ≡ false
unfolding same_path
same_lengths [] [] n = absurd (n refl)
same_lengths [] (q ∷ b) n = refl
same_lengths (p ∷ a) [] n = refl
same_lengths (p ∷ a) (q ∷ b) n = rw (same_lengths a b (λ e. n (ap suc e))) (and-false (same_part p q))

module _ (a b : List PathPart) (z : PathPart) (i : ℕ) (ha : i < length a) (hb : i < length b) where
  pub same_fails : same_part (get_or a i z) (get_or b i z) ≡ false → same_path (drop i a) (drop i b) ≡ false
  unfolding same_path
  same_fails e = rw (drop-cons a i z ha, drop-cons b i z hb, e)

  pub same_next : same_part (get_or a i z) (get_or b i z) ≡ true → same_path (drop i a) (drop i b) ≡ same_path (drop (i + 1) a) (drop (i + 1) b)
  unfolding same_path
  same_next e = rw (add-one, drop-cons a i z ha, drop-cons b i z hb, e)

pub same_end : (a b : List PathPart) (i : ℕ) → length a ≤ i → length b ≤ i → same_path (drop i a) (drop i b) ≡ true
unfolding same_path
same_end a b i ha hb = rw (drop_of_length-le a ha, drop_of_length-le b hb)

-- ---- equal as the comparison says, and the other way

bound_same : (a b : Option ℕ) → same_bound a b ≡ true → a ≡ b
unfolding same_bound
bound_same None None e = refl
bound_same None (Some n) e = absurd (false≢true e)
bound_same (Some m) None e = absurd (false≢true e)
bound_same (Some m) (Some n) e = ap Some (eqb-true m n e)

part_same : (p q : PathPart) → same_part p q ≡ true → p ≡ q
unfolding same_part
part_same (Id x) (Id y) e = ap Id (eqb-true x y e)
part_same (Id x) (Global a b) e = absurd (false≢true e)
part_same (Global a b) (Id y) e = absurd (false≢true e)
part_same (Global a b) (Global c d) e =
    let both = (and-eq-true_iff (same_bound a c) (same_bound b d)).0 e in
    ap₂ Global (bound_same a c both.0) (bound_same b d both.1)

pub path_same : (a b : List PathPart) → same_path a b ≡ true → a ≡ b
unfolding same_path
path_same [] [] e = refl
path_same [] (q ∷ b) e = absurd (false≢true e)
path_same (p ∷ a) [] e = absurd (false≢true e)
path_same (p ∷ a) (q ∷ b) e =
    let both = (and-eq-true_iff (same_part p q) (same_path a b)).0 e in
    ap₂ (λ (x : PathPart) (l : List PathPart). x ∷ l) (part_same p q both.0) (path_same a b both.1)

bound_self : (a : Option ℕ) → same_bound a a ≡ true
unfolding same_bound
bound_self None = refl
bound_self (Some n) = eq-eqb n n refl

part_self : (p : PathPart) → same_part p p ≡ true
unfolding same_part
part_self (Id x) = eq-eqb x x refl
part_self (Global a b) = (and-eq-true_iff (same_bound a a) (same_bound b b)).1 (bound_self a, bound_self b)

pub path_self : (a : List PathPart) → same_path a a ≡ true
unfolding same_path
path_self [] = refl
path_self (p ∷ a) = (and-eq-true_iff (same_part p p) (same_path a a)).1 (part_self p, path_self a)
