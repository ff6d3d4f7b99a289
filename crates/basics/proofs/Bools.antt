-- Laws of tests: what a test picks, two tests at once, and what an absurd equation gives. Assumes nothing.
use Prim.Native.Nat.{ℕ}
use mathlib.Core.Path.{◌≡◌, refl, sym}
use mathlib.Core.Bool.{Bool, true, false, cond, not, ◌&&◌, ◌||◌, false≢true}
use native.Mathlib.Omega.{arith}

-- a property of what a test picks
pub pick : {A : Type 0} (P : A → Type 0) (b : Bool) (x y : A) → (b ≡ true → P x) → (b ≡ false → P y) → P (cond b x y)
pick P true x y t f = t refl
pick P false x y t f = f refl

-- what holds of both holds of the one that a test picks
pub either : {A : Type 0} (P : A → Type 0) (b : Bool) (x y : A) → P x → P y → P (cond b x y)
either P true x y p q = p
either P false x y p q = q

-- a test that is passed picks the first
pub cond_yes : {A : Type 0} (b : Bool) (x y : A) → b ≡ true → cond b x y ≡ x
cond_yes b x y e = rw e

-- one that fails picks the second
pub cond_no : {A : Type 0} (b : Bool) (x y : A) → b ≡ false → cond b x y ≡ y
cond_no b x y e = rw e

-- two tests that are passed
pub record Both (a b : Bool) : Type 0 where
  pub left : a ≡ true
  pub right : b ≡ true

-- both of two tests, where they pass together
pub both : (a b : Bool) → (a && b) ≡ true → Both a b
both true b h = record { left = refl; right = h }
both false b h = absurd (false≢true h)

-- and they pass together where both do
pub and_both : {a b : Bool} → a ≡ true → b ≡ true → (a && b) ≡ true
and_both p q = rw (p, q)

-- or with a test that fails is the other
pub or_none : (b : Bool) → b ≡ (b || false)
or_none true = refl
or_none false = refl

-- or with one that is passed is passed
pub or_some : (b : Bool) → true ≡ (b || true)
or_some true = refl
or_some false = refl

-- a test whose opposite is passed fails
pub not-false : (b : Bool) → not b ≡ true → b ≡ false
not-false true e = absurd (false≢true e)
not-false false e = refl

-- two tests are one where each is passed if the other is
pub same_truth : (a b : Bool) → (a ≡ true → b ≡ true) → (b ≡ true → a ≡ true) → a ≡ b
same_truth true b to from = sym (to refl)
same_truth false true to from = from refl
same_truth false false to from = refl

-- two constructors are never equal: `cc` turns such an equation into 0 ≡ 1, and anything follows
pub absurd_eq : {A : Type 0} → ◌≡◌ {A = ℕ} 0 1 → A
absurd_eq e = absurd (omega arith)
