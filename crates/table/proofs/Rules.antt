-- The five rules as facts, and that the tests of the check say them. Assumes nothing.
use Prim.Native.Nat.{ℕ, ◌<◌}
use mathlib.Core.Path.{◌≡◌, refl, sym, ap, ◌∙◌}
use mathlib.Core.Bool.{Bool, true, false, false≢true, not, and-eq-true_iff}
use mathlib.Core.List.{List, [], ◌∷◌, ◌++◌, Memᴰ, append_assoc, append-nil, nil≢cons, head-eq_of_cons-eq, tail-eq_of_cons-eq}
use borrow.Author.Tests.{not-true, eqb-false, ne_eqb}
use native.Mathlib.Omega.{arith}
use lib.Dec.{eqb}
use lib.ListN.{length, get_or, take, length-take}
use lib.Seq.{get_or-take}
use Rattle.basics.specs.Lists.{every}
use Rattle.table.specs.Table.{Entry, unlisted, data_type_of, path_of, is_master, same_path}
use Rattle.table.specs.Check.{listed, is_id, only_ids, master_of_ids, master_or_global, all_masters, own_paths, keeps}
use Rattle.table.specs.Passed.{at, Masters, OwnPaths, Kept}
use Rattle.table.specs.declared.types.TagDataType.{TagDataType}
use Rattle.table.specs.declared.types.TagDataType.TheVariants.{Untyped, Master, UnsignedInt, Integer, Utf8, Binary, Float}
use Rattle.table.specs.declared.types.PathPart.{PathPart}
use Rattle.table.specs.declared.types.PathPart.TheVariants.{Id, Global}
use Rattle.table.specs.declared.types.Rule.{Rule}
use Rattle.table.specs.declared.types.Rule.TheVariants.{NoElementId, Repeated, GlobalInMaster, NoMaster, OtherPath}
use Rattle.basics.proofs.Every.{every_member, every_of, any_none, any_of_none}
use Rattle.table.proofs.Same.{path_same, path_self}

-- ---- 33 and 34

pub master_is : (k : TagDataType) → is_master k ≡ true → k ≡ Master
unfolding is_master
master_is Untyped e = absurd (false≢true e)
master_is Master e = refl
master_is UnsignedInt e = absurd (false≢true e)
master_is Integer e = absurd (false≢true e)
master_is Utf8 e = absurd (false≢true e)
master_is Binary e = absurd (false≢true e)
master_is Float e = absurd (false≢true e)

of_ids_sound : (k : TagDataType) (path : List PathPart) → master_of_ids k path ≡ true → k ≡ Master → only_ids path ≡ true
unfolding master_of_ids is_master
of_ids_sound k path e q = rw q at e

of_ids_complete : (k : TagDataType) (path : List PathPart) → (k ≡ Master → only_ids path ≡ true) → master_of_ids k path ≡ true
unfolding master_of_ids
of_ids_complete k path h = go (is_master k) refl
  where
    go : (b : Bool) → is_master k ≡ b → master_of_ids k path ≡ true
    go true e = rw e (h (master_is k e))
    go false e = rw e

masters_sound : (t : List Entry) (path : List PathPart) → all_masters t path ≡ true → Masters t path
unfolding all_masters master_or_global
masters_sound t path e x m = master_is (data_type_of t x) (every_member (master_or_global t) e m)

masters_complete : (t : List Entry) (path : List PathPart) → Masters t path → all_masters t path ≡ true
unfolding all_masters master_or_global is_master
masters_complete t path h = every_of (master_or_global t) path each
  where
    each : (p : PathPart) → Memᴰ p path → master_or_global t p ≡ true
    each (Id x) m = rw (h x m)
    each (Global least most) m = refl

-- ---- 35

pub no_part : (before after : List PathPart) (x : ℕ) → ◌≡◌ {A = List PathPart} [] (before ++ Id x ∷ after) → ⊥
no_part [] after x e = nil≢cons e
no_part (b ∷ before) after x e = nil≢cons e

not_id : {x : ℕ} (p : PathPart) → is_id p ≡ false → p ≡ Id x → ⊥
not_id p n e = false≢true (sym n ∙ ap is_id e)

own_sound : (t : List Entry) (pre path : List PathPart) → own_paths t pre path ≡ true → OwnPaths t pre path
unfolding own_paths only_ids every
own_sound t pre [] e before x after q o = absurd (no_part before after x q)
own_sound t pre (Id y ∷ path) e [] x after q o =
    let z : y ≡ x = cc in
    rw (← z, append-nil) (path_same (path_of t y) pre ((and-eq-true_iff (same_path (path_of t y) pre) _).0 e).0)
own_sound t pre (Id y ∷ path) e (b ∷ before) x after q o =
    let z : b ≡ Id y = sym (head-eq_of_cons-eq q) in
    let o' : only_ids before ≡ true = ((and-eq-true_iff (is_id b) (only_ids before)).0 o).1 in
    let e' = ((and-eq-true_iff (same_path (path_of t y) pre) (own_paths t (pre ++ (Id y ∷ [])) path)).0 e).1 in
    own_sound t (pre ++ (Id y ∷ [])) path e' before x after (tail-eq_of_cons-eq q) o' ∙ rw z (append_assoc pre (Id y ∷ []) before)
own_sound t pre (Global least most ∷ path) e [] x after q o = absurd (not_id (Global least most) refl (head-eq_of_cons-eq q))
own_sound t pre (Global least most ∷ path) e (b ∷ before) x after q o =
    absurd (false≢true (ap is_id (head-eq_of_cons-eq q) ∙ ((and-eq-true_iff (is_id b) (only_ids before)).0 o).0))

own_complete : (t : List Entry) (pre path : List PathPart) → OwnPaths t pre path → own_paths t pre path ≡ true
unfolding own_paths only_ids every
own_complete t pre [] h = refl
own_complete t pre (Id y ∷ path) h =
    let here : same_path (path_of t y) pre ≡ true = rw (h [] y path refl refl, append-nil) (path_self pre) in
    let later : OwnPaths t (pre ++ (Id y ∷ [])) path =
    λ before x after q o. h (Id y ∷ before) x after (ap (λ (l : List PathPart). Id y ∷ l) q) o ∙ sym (append_assoc pre (Id y ∷ []) before) in
    (and-eq-true_iff (same_path (path_of t y) pre) _).1 (here, own_complete t (pre ++ (Id y ∷ [])) path later)
own_complete t pre (Global least most ∷ path) h = refl

-- ---- all five

module _ (t : List Entry) (i : ℕ) (h : i < length t) where
  abbrev has_it : Entry → Bool
  has_it e = eqb e.id (at t i).id

  pub kept_sound : (r : Rule) → keeps t i (at t i) r ≡ true → Kept t i r
  unfolding keeps listed
  kept_sound NoElementId e = e
  kept_sound Repeated e = λ j k.
      let l : j < length (take i t) = simp length-take (omega arith) in
      let none = any_none has_it (take i t) unlisted (not-true (listed (at t i).id (take i t)) e) j l in
      eqb-false (at t j).id (at t i).id (rw (get_or-take i t j unlisted k) at none)
  kept_sound GlobalInMaster e = of_ids_sound _ _ e
  kept_sound NoMaster e = masters_sound t _ e
  kept_sound OtherPath e = own_sound t [] _ e

  pub kept_complete : (r : Rule) → Kept t i r → keeps t i (at t i) r ≡ true
  unfolding keeps listed
  kept_complete NoElementId f = f
  kept_complete Repeated f = ap not (any_of_none has_it (take i t) unlisted each)
    where
      each : (j : ℕ) → j < length (take i t) → has_it (get_or (take i t) j unlisted) ≡ false
      each j k =
          let l : j < i = omega (arith, length-take i t) in
          rw (get_or-take i t j unlisted l) (ne_eqb _ _ (f j l))
  kept_complete GlobalInMaster f = of_ids_complete _ _ f
  kept_complete NoMaster f = masters_complete t _ f
  kept_complete OtherPath f = own_complete t [] _ f
