-- What a table that passed says of an ID that is looked up. Assumes nothing.
use Prim.Native.Nat.{ℕ, ◌<◌}
use mathlib.Core.Path.{◌≡◌, refl, sym, ap, ◌∙◌}
use mathlib.Core.Bool.{Bool, true, false, cond, and-eq-true_iff}
use mathlib.Core.List.Memᴰ
use mathlib.Core.List.{List, [], ◌∷◌, ◌++◌, Memᴰ}
use borrow.Author.Tests.{eqb-true}
use native.Mathlib.Omega.{arith}
use lib.Dec.{eqb}
use lib.ListN.{length, length-append}
use Rattle.basics.specs.Lists.{every}
use Rattle.table.specs.Table.{Entry, entry_for, data_type_of, path_of}
use Rattle.table.specs.Check.{allowed_id, is_id, only_ids}
use Rattle.table.specs.declared.types.TagDataType.TheVariants.{Untyped, Master}
use Rattle.table.specs.declared.types.PathPart.{PathPart}
use Rattle.table.specs.declared.types.PathPart.TheVariants.{Id}
use Rattle.table.proofs.Entries.{first_entry, for_every}
use Rattle.table.specs.Passed.{at, Masters, OwnPaths, PassedTable}
use Rattle.table.proofs.Rules.{no_part}

-- an ID with a type has an entry of its own
pub own_entry : (t : List Entry) (id : ℕ) → (data_type_of t id ≡ Untyped → ⊥) → (entry_for t id).id ≡ id
unfolding entry_for
own_entry [] id n = absurd (n refl)
own_entry (e ∷ t) id n = go (eqb e.id id) refl n (own_entry t id)
  where
    go : (b : Bool) → eqb e.id id ≡ b → ((cond b e (entry_for t id)).kind ≡ Untyped → ⊥)
        → ((data_type_of t id ≡ Untyped → ⊥) → (entry_for t id).id ≡ id)
        → (cond (eqb e.id id) e (entry_for t id)).id ≡ id
    go true q n below = rw q (eqb-true _ _ q)
    go false q n below = rw q (below n)

-- where a member stands in a path of IDs, only IDs stand before it
split_at_member : {x : ℕ} {path : List PathPart} → Memᴰ (Id x) path
    → (before : List PathPart) × (after : List PathPart) × (path ≡ before ++ Id x ∷ after)
split_at_member (Memᴰ.head {xs} q) = ([], xs, ap (λ (p : PathPart). p ∷ xs) (sym q))
split_at_member (Memᴰ.tail {x = p} m) =
    let s = split_at_member m in
    (p ∷ s.0, s.1, ap (λ (l : List PathPart). p ∷ l) s.2)

front_ids : (before rest : List PathPart) → only_ids (before ++ rest) ≡ true → only_ids before ≡ true
unfolding only_ids every
front_ids [] rest e = refl
front_ids (p ∷ before) rest e =
    let both = (and-eq-true_iff (is_id p) (only_ids (before ++ rest))).0 e in
    (and-eq-true_iff (is_id p) (only_ids before)).1 (both.0, front_ids before rest both.1)

module _ (t : List Entry) (passed : PassedTable t) where
  -- each entry is the one that counts for its ID
  pub entry_counts : (i : ℕ) → i < length t → entry_for t (at t i).id ≡ at t i
  entry_counts i h =
      first_entry t (at t i).id i (omega arith) (λ j l e. let z : j ≡ i = passed.once j i (omega arith) h e in omega arith) (λ _. refl)

  pub typed_allowed : (id : ℕ) → (data_type_of t id ≡ Untyped → ⊥) → allowed_id id ≡ true
  typed_allowed id n =
      let each : Entry → Type 0 = λ e. (e.kind ≡ Untyped → ⊥) → allowed_id e.id ≡ true in
      rw (own_entry t id n) at (for_every each t (λ u. absurd (u refl)) (λ i h u. passed.allowed i h) id n)

  pub master_of_ids_lem : (id : ℕ) → data_type_of t id ≡ Master → only_ids (path_of t id) ≡ true
  unfolding only_ids every
  master_of_ids_lem id e = for_every (λ e. e.kind ≡ Master → only_ids e.path ≡ true) t (λ u. refl) (λ i h. passed.of_ids i h) id e

  pub path_masters : (id : ℕ) → Masters t (path_of t id)
  path_masters id = for_every (λ e. Masters t e.path) t (λ x m. absurd (Memᴰ.not-nil m)) (λ i h. passed.masters i h) id

  -- the path of an ID in a path, with only IDs before it, is what stands before it
  pub prefix_path : (id : ℕ) → OwnPaths t [] (path_of t id)
  prefix_path id = for_every (λ e. OwnPaths t [] e.path) t (λ before x after q o. absurd (no_part before after x q)) (λ i h. passed.own_paths_lem i h) id

  -- the first ID of a path is a root
  pub root_path : (id x : ℕ) (after : List PathPart) → path_of t id ≡ Id x ∷ after → path_of t x ≡ []
  unfolding only_ids every
  root_path id x after q = prefix_path id [] x after q refl

  -- no ID is in its own path
  pub not_own : (x : ℕ) → Memᴰ (Id x) (path_of t x) → ⊥
  not_own x m =
      let s = split_at_member m in
      let o : only_ids (path_of t x) ≡ true = master_of_ids_lem x (path_masters x x m) in
      let e : path_of t x ≡ s.0 = prefix_path x s.0 x s.1 s.2 (front_ids s.0 (Id x ∷ s.1) (rw s.2 at o)) in
      let l = ap length (sym s.2 ∙ e) in
      omega (arith, simp length-append at l)
