-- What the table check says: it passes a table exactly where the five rules hold of every entry, and a fault that it
-- names is the lowest entry that breaks a rule, with the first rule that it breaks. Later proofs cite `PassedTable` and
-- no text of the check. Assumes nothing.
use Prim.Native.Nat.{ℕ, zero, suc, ◌+◌, ◌≤◌, ◌<◌}
use mathlib.Core.Path.{◌≡◌, refl, sym, ap, ap₂, subst, ◌∙◌}
use mathlib.Core.Bool.{Bool, true, false, true≢false, cond, ◌&&◌, and-eq-true_iff}
use mathlib.Core.List.Memᴰ
use mathlib.Core.List.{List, [], ◌∷◌, Memᴰ}
use mathlib.Core.Logic.{⊎_elim}
use borrow.Author.Tests.{ltb-true}
use native.Mathlib.Decide.{dec_le}
use native.Mathlib.Nat.{eq-or-lt_of_le}
use native.Mathlib.Omega.{arith}
use lib.Dec.{ltb, eqb}
use lib.ListN.{length}
use Rattle.basics.specs.Lists.{every}
use Rattle.table.specs.Table.{Entry, table_of}
use Rattle.table.specs.Shape.{good_shape}
use Rattle.table.specs.Check.{rule_number, keeps, rules, first_broken, judged, fault_or, check_from, check_table}
use Rattle.table.specs.Passed.{at, Kept, PassedTable, LowestFault}
use Rattle.table.specs.declared.types.Rule.{Rule}
use Rattle.table.specs.declared.types.Rule.TheVariants.{NoElementId, Repeated, GlobalInMaster, NoMaster, OtherPath}
use Rattle.basics.proofs.Every.{every_member}
use Rattle.table.proofs.Rules.{kept_sound, kept_complete}
use Rattle.std.specs.Prelude.{Err, Ok, Result, ⊤}
use Rattle.table.specs.declared.types.TableError.{TableError}
use Rattle.table.specs.declared.types.TableError.TheVariants as fault

-- ---- the first broken rule of a list with numbers that ascend

ascending : List Rule → Bool
ascending [] = true
ascending (r ∷ rs) = every (λ (s : Rule). ltb (rule_number r) (rule_number s)) rs && ascending rs

-- what the first broken rule is
abbrev First : (Rule → Bool) → List Rule → Result ⊤ Rule → Type 0
First kept rs (Ok _) = (s : Rule) → Memᴰ s rs → kept s ≡ true
First kept rs (Err r) = (kept r ≡ false) × ((s : Rule) → Memᴰ s rs → rule_number s < rule_number r → kept s ≡ true) × Memᴰ r rs

first_of : (kept : Rule → Bool) (rs : List Rule) → ascending rs ≡ true → First kept rs (first_broken kept rs)
unfolding first_broken ascending
first_of kept [] up = λ s m. absurd (Memᴰ.not-nil m)
first_of kept (r ∷ rs) up = go (kept r) refl (first_broken kept rs) (first_of kept rs split.1)
  where
    split : (every (λ (s : Rule). ltb (rule_number r) (rule_number s)) rs ≡ true) × (ascending rs ≡ true)
    split = (and-eq-true_iff _ _).0 up

    go : (b : Bool) → kept r ≡ b → (j : Result ⊤ Rule) → First kept rs j → First kept (r ∷ rs) (cond b j (Err r))
    go true e (Ok _) f = λ s m. ⊎_elim (λ q. ap kept q ∙ e) (λ m'. f s m') (Memᴰ.cases_cons m)
    go true e (Err q) f = (f.0, λ s m l. ⊎_elim (λ p. ap kept p ∙ e) (λ m'. f.1 s m' l) (Memᴰ.cases_cons m), Memᴰ.tail f.2)
    go false e j f = (e, λ s m l. ⊎_elim (λ p. absurd (self s p l)) (λ m'. absurd (over s m' l)) (Memᴰ.cases_cons m), Memᴰ.head refl)
      where
        self : (s : Rule) → s ≡ r → rule_number s < rule_number r → ⊥
        self s p l = let n : rule_number s ≡ rule_number r = ap rule_number p in omega arith

        over : (s : Rule) → Memᴰ s rs → rule_number s < rule_number r → ⊥
        over s m l = let n : rule_number r < rule_number s = ltb-true _ _ (every_member (λ (s : Rule). ltb (rule_number r) (rule_number s)) split.0 m) in omega arith

-- ---- one entry

in_rules : (r : Rule) → Memᴰ r rules
in_rules NoElementId = Memᴰ.head refl
in_rules Repeated = Memᴰ.tail (Memᴰ.head refl)
in_rules GlobalInMaster = Memᴰ.tail (Memᴰ.tail (Memᴰ.head refl))
in_rules NoMaster = Memᴰ.tail (Memᴰ.tail (Memᴰ.tail (Memᴰ.head refl)))
in_rules OtherPath = Memᴰ.tail (Memᴰ.tail (Memᴰ.tail (Memᴰ.tail (Memᴰ.head refl))))

module _ (t : List Entry) (i : ℕ) (h : i < length t) where
  verdict : (v : Result ⊤ Rule) → judged t i ≡ v → First (keeps t i (at t i)) rules v
  unfolding ascending every
  verdict v e = subst (First (keeps t i (at t i)) rules) e (first_of (keeps t i (at t i)) rules refl)

  sound_entry : judged t i ≡ Ok tt → ((r : Rule) → Kept t i r)
  sound_entry e r = kept_sound t i h r (verdict (Ok tt) e r (in_rules r))

  broken_entry : {r : Rule} → judged t i ≡ Err r → (Kept t i r → ⊥) × ((s : Rule) → rule_number s < rule_number r → Kept t i s)
  broken_entry {r} e =
      let f = verdict (Err r) e in
      (λ k. true≢false (sym (kept_complete t i h r k) ∙ f.0), λ s l. kept_sound t i h s (f.1 s (in_rules s) l))

  entry_sound : ((r : Rule) → Kept t i r) → judged t i ≡ Ok tt
  entry_sound k = go (judged t i) refl
    where
      go : (v : Result ⊤ Rule) → judged t i ≡ v → judged t i ≡ Ok tt
      go (Ok _) e = e
      go (Err r) e = absurd ((broken_entry e).0 (k r))

-- ---- the entries in turn: what the check of n entries from i on says

abbrev Checks : List Entry → ℕ → ℕ → Result ⊤ TableError → Type 0
Checks t n i (Err fault.BadShape) = ⊥
Checks t n i (Ok _) = (j : ℕ) → i ≤ j → j < i + n → judged t j ≡ Ok tt
Checks t n i (Err (fault.Fault r k)) =
    (i ≤ k) × (k < i + n) × (judged t k ≡ Err r) × ((j : ℕ) → i ≤ j → j < k → judged t j ≡ (Ok tt))

checks : (t : List Entry) (n i : ℕ) → Checks t n i (check_from t n i)
unfolding check_from fault_or
checks t zero i = λ j l h. absurd (omega arith)
checks t (suc n) i = go (judged t i) refl (check_from t n (i + 1)) (checks t n (i + 1))
  where
    go : (v : Result ⊤ Rule) → judged t i ≡ v → (c : Result ⊤ TableError) → Checks t n (i + 1) c → Checks t (suc n) i (fault_or v i c)
    go (Ok _) e (Err fault.BadShape) f = f
    go (Ok _) e (Ok _) f = λ j l h. ⊎_elim (λ q. rw (← q) e) (λ (m : i < j). f j (omega arith) (omega arith)) (eq-or-lt_of_le l)
    go (Ok _) e (Err (fault.Fault r k)) f =
        let a : i + 1 ≤ k = f.0 in
        let b : k < i + 1 + n = f.1 in
        (omega arith, omega arith, f.2, λ j l h. ⊎_elim (λ q. rw (← q) e) (λ (m : i < j). f.3 j (omega arith) h) (eq-or-lt_of_le l))
    go (Err r) e c f = (omega arith, omega arith, e, λ j l h. absurd (omega arith))

all_checked : (t : List Entry) (c : Result ⊤ TableError) → check_from t (length t) 0 ≡ c → Checks t (length t) 0 c
all_checked t c e = subst (Checks t (length t) 0) e (checks t (length t) 0)

passed_kept : (t : List Entry) → PassedTable t → (i : ℕ) → i < length t → (r : Rule) → Kept t i r
passed_kept t p i h NoElementId = p.allowed i h
passed_kept t p i h Repeated = λ j l q. let z : j ≡ i = p.once j i (omega arith) h q in omega arith
passed_kept t p i h GlobalInMaster = p.of_ids i h
passed_kept t p i h NoMaster = p.masters i h
passed_kept t p i h OtherPath = p.own_paths_lem i h

-- ---- two lowest faults are one

rule_of : ℕ → Rule
rule_of n =
    cond (eqb n 31) NoElementId (cond (eqb n 32) Repeated (cond (eqb n 33) GlobalInMaster (cond (eqb n 34) NoMaster OtherPath)))

back : (r : Rule) → rule_of (rule_number r) ≡ r
unfolding rule_of
back NoElementId = refl
back Repeated = refl
back GlobalInMaster = refl
back NoMaster = refl
back OtherPath = refl

fault_one : (t : List Entry) (q r : Rule) (k i : ℕ) → LowestFault t q k → LowestFault t r i → ◌≡◌ {A = Result ⊤ TableError} (Err (fault.Fault q k)) (Err (fault.Fault r i))
fault_one t q r k i g f =
    let under : k < i → ⊥ = λ l. g.broken (f.lowest k l q) in
    let over : i < k → ⊥ = λ l. f.broken (g.lowest i l r) in
    let e : k ≡ i = omega arith in
    let before : rule_number q < rule_number r → ⊥ = λ l. g.broken (subst (λ (j : ℕ). Kept t j q) (sym e) (f.first q l)) in
    let after : rule_number r < rule_number q → ⊥ = λ l. f.broken (subst (λ (j : ℕ). Kept t j r) e (g.first r l)) in
    let n : rule_number q ≡ rule_number r = omega arith in
    ap₂ (λ r i. Err (fault.Fault r i)) (sym (back q) ∙ ap rule_of n ∙ back r) e

-- ---- the check

fault_not_bad : {r : Rule} {i : ℕ} → ◌≡◌ {A = Result ⊤ TableError} (Err (fault.Fault r i)) (Err fault.BadShape) → ⊥
fault_not_bad e = let z : ◌≡◌ {A = ℕ} 0 1 = cc in omega arith

passed_not_bad : ◌≡◌ {A = Result ⊤ TableError} (Ok tt) (Err fault.BadShape) → ⊥
passed_not_bad e = let z : ◌≡◌ {A = ℕ} 0 1 = cc in omega arith

module _ (es ps : List ℕ) where
  pub shape_bad : good_shape es ps ≡ false → check_table es ps ≡ Err fault.BadShape
  unfolding check_table
  shape_bad e = rw e

  shape_good : good_shape es ps ≡ true → check_table es ps ≡ check_from (table_of es ps) (length (table_of es ps)) 0
  unfolding check_table
  shape_good e = rw e

  -- an answer other than BadShape is of a table of good shape
  pub answered : (check_table es ps ≡ Err fault.BadShape → ⊥) → good_shape es ps ≡ true
  answered n = go (good_shape es ps) refl
    where
      go : (b : Bool) → good_shape es ps ≡ b → good_shape es ps ≡ true
      go true e = e
      go false e = absurd (n (shape_bad e))

  -- a table that passes has the facts
  pub passed_gives : check_table es ps ≡ Ok tt → PassedTable (table_of es ps)
  passed_gives e = record {
    allowed = λ i h. kept i h NoElementId;
    once = λ i j hi hj q. go i j hi hj q (dec_le (suc i) j) (dec_le (suc j) i);
    of_ids = λ i h. kept i h GlobalInMaster;
    masters = λ i h. kept i h NoMaster;
    own_paths_lem = λ i h. kept i h OtherPath;
  }
    where
      t : List Entry
      t = table_of es ps

      kept : (i : ℕ) → i < length t → (r : Rule) → Kept t i r
      kept i h = sound_entry t i h (all_checked t (Ok tt) (sym (shape_good (answered (λ q. passed_not_bad (sym e ∙ q)))) ∙ e) i (omega arith) (omega arith))

      go : (i j : ℕ) → i < length t → j < length t → (at t i).id ≡ (at t j).id → Dec (i < j) → Dec (j < i) → i ≡ j
      go i j hi hj q (yes l) d = absurd (kept j hj Repeated i l q)
      go i j hi hj q (no n) (yes l) = absurd (kept i hi Repeated j l (sym q))
      go i j hi hj q (no n) (no m) = omega arith

  -- and a table of good shape with the facts passes
  pub passes_where : good_shape es ps ≡ true → PassedTable (table_of es ps) → check_table es ps ≡ Ok tt
  passes_where good p = shape_good good ∙ go (check_from t (length t) 0) refl
    where
      t : List Entry
      t = table_of es ps

      go : (c : Result ⊤ TableError) → check_from t (length t) 0 ≡ c → check_from t (length t) 0 ≡ Ok tt
      go (Err fault.BadShape) e = absurd (all_checked t (Err fault.BadShape) e)
      go (Ok _) e = e
      go (Err (fault.Fault r k)) e =
          let f = all_checked t (Err (fault.Fault r k)) e in
          let h : k < length t = omega arith in
          absurd ((broken_entry t k h f.2).0 (passed_kept t p k h r))

  -- a fault that is named is the lowest, and its rule the first
  pub fault_is : {r : Rule} {i : ℕ} → check_table es ps ≡ Err (fault.Fault r i) → LowestFault (table_of es ps) r i
  fault_is {r} {i} e = record {
    there = there;
    broken = here.0;
    first = here.1;
    lowest = λ j l. sound_entry t j (omega (arith, there)) (f.3 j (omega arith) l);
  }
    where
      t : List Entry
      t = table_of es ps

      f : Checks t (length t) 0 (Err (fault.Fault r i))
      f = all_checked t (Err (fault.Fault r i)) (sym (shape_good (answered (λ q. fault_not_bad (sym e ∙ q)))) ∙ e)

      there : i < length t
      there = let b : i < 0 + length t = f.1 in omega arith

      here : (Kept t i r → ⊥) × ((s : Rule) → rule_number s < rule_number r → Kept t i s)
      here = broken_entry t i there f.2

  -- and where there is one, the check names it
  pub fault_where : {r : Rule} {i : ℕ} → good_shape es ps ≡ true → LowestFault (table_of es ps) r i → check_table es ps ≡ Err (fault.Fault r i)
  fault_where {r} {i} good f = go (check_table es ps) refl
    where
      go : (c : Result ⊤ TableError) → check_table es ps ≡ c → check_table es ps ≡ Err (fault.Fault r i)
      go (Err fault.BadShape) e = absurd (all_checked (table_of es ps) (Err fault.BadShape) (sym (shape_good good) ∙ e))
      go (Ok _) e = absurd (f.broken (passed_kept (table_of es ps) (passed_gives e) i f.there r))
      go (Err (fault.Fault q k)) e = e ∙ fault_one (table_of es ps) q r k i (fault_is e) f
