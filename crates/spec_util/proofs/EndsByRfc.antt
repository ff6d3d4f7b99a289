-- RFC 8794, section 6.2, and who ends whom: the RFC's relation as a test, for every table; and for a Master of a table
-- that the check passes, the port's rule is the RFC's but for an ID that the table does not have, which ends a root.
-- Assumes nothing.
use Prim.Native.Nat.{ℕ, suc, ◌-◌}
use mathlib.Core.Path.{◌≡◌, refl, sym, ap, ap₂, ◌∙◌}
use mathlib.Core.Bool.{Bool, true, false, false≢true, true≢false, not, ◌&&◌, ◌||◌, or-true}
use mathlib.Core.List.Memᴰ
use mathlib.Core.List.{List, [], ◌∷◌, ◌++◌, Memᴰ}
use mathlib.Core.Logic.{◌↔◌, ◌⊎◌, inl, inr, ⊎_elim}
use borrow.Author.Tests.{not-true, eq-eqb, eqb-true}
use native.Mathlib.Omega.{arith}
use lib.Dec.{eqb}
use lib.ListN.{length, get_or, take, drop, length-append, take-append-drop, drop_of_length-le}
use lib.Seq.{drop-cons, drop_at}
use Rattle.basics.specs.Lists.{every, any}
use Rattle.basics.proofs.Bools.{both, and_both, same_truth}
use Rattle.basics.proofs.Every.{every_at, every_front}
use Rattle.table.specs.Table.{Entry, table_of, data_type_of, path_of, same_path, is_typed}
use Rattle.table.specs.Check.{is_id, only_ids, check_table}
use Rattle.table.specs.Passed.{PassedTable}
use Rattle.table.specs.declared.types.TagDataType.TheVariants.{Master}
use Rattle.table.specs.declared.types.PathPart.{PathPart}
use Rattle.table.specs.declared.types.PathPart.TheVariants.{Id, Global}
use Rattle.table.proofs.Same.{path_same, path_self}
use Rattle.table.proofs.Entries.{untyped_path}
use Rattle.table.proofs.Passed.{passed_gives}
use Rattle.table.proofs.Consequences.{master_of_ids_lem, path_masters, prefix_path, not_own}
use Rattle.spec_util.specs.Ended.{is_id_of, has_id, is_parent, is_sibling, is_typed_root, is_ended_by}
use Rattle.spec_util.specs.Rfc8794.{NotGlobal, IsParentOf, IsDirectParentOf, ShareDirectParent, EndsUnknownSize, last_part, is_ended_by_rfc, untyped_at_root}
use Rattle.spec_util.specs.Rfc8794.EndsUnknownSize.{a_parent, a_sibling, a_root}
use Rattle.std.specs.Prelude.{Ok}

-- ---- parents

-- an ID that is found in a path stands there
has_parent : (x : ℕ) (path : List PathPart) → has_id x path ≡ true → Memᴰ (Id x) path
unfolding has_id any is_id_of
has_parent x [] e = absurd (false≢true e)
has_parent x (Id y ∷ path) e = go (eqb y x) refl e (has_parent x path)
  where
    go : (b : Bool) → eqb y x ≡ b → (b || has_id x path) ≡ true → (has_id x path ≡ true → Memᴰ (Id x) path) → Memᴰ (Id x) (Id y ∷ path)
    go true q e below = Memᴰ.head (ap Id (sym (eqb-true y x q)))
    go false q e below = Memᴰ.tail (below e)
has_parent x (Global least most ∷ path) e = Memᴰ.tail (has_parent x path e)

-- and one that stands there is found
parent_has : {x : ℕ} {path : List PathPart} → Memᴰ (Id x) path → has_id x path ≡ true
unfolding has_id any is_id_of
parent_has {x} (Memᴰ.head {xs} q) = rw (← q, eq-eqb x x refl)
parent_has {x} (Memᴰ.tail {x = p} m) = rw (parent_has m) (or-true (is_id_of x p))

-- ---- direct parents

no_parts : (path : List PathPart) → length path ≡ 0 → path ≡ []
no_parts path e = drop_of_length-le path {i = 0} (omega arith)

id_of : (p : PathPart) → is_id p ≡ true → (x : ℕ) × (p ≡ Id x)
id_of (Id x) e = (x, refl)
id_of (Global least most) e = absurd (false≢true e)

-- a path of IDs is empty, or its last part is an ID
last_id : (path : List PathPart) → only_ids path ≡ true → (path ≡ []) ⊎ ((x : ℕ) × (last_part path ≡ Id x ∷ []))
unfolding only_ids last_part
last_id [] o = inl refl
last_id (p ∷ path) o =
    let n = length (p ∷ path) - 1 in
    let x = id_of (get_or (p ∷ path) n (Id 0)) (every_at is_id (p ∷ path) (Id 0) o n (omega arith)) in
    let rest : drop (suc n) (p ∷ path) ≡ [] = drop_of_length-le (p ∷ path) {i = suc n} (omega arith) in
    inr (x.0, drop-cons (p ∷ path) n (Id 0) (omega arith) ∙ ap₂ (λ (q : PathPart) (l : List PathPart). q ∷ l) x.1 rest)

-- the direct parent is the last part
last_of : (above : List PathPart) (x : ℕ) → last_part (above ++ (Id x ∷ [])) ≡ Id x ∷ []
unfolding last_part
last_of above x =
    let l = length-append above (Id x ∷ []) in
    drop_at above (Id x ∷ []) (length (above ++ (Id x ∷ [])) - 1) (omega arith)

direct_of_last : (t : List Entry) (x y : ℕ) → last_part (path_of t y) ≡ Id x ∷ [] → IsDirectParentOf t x y
unfolding last_part
direct_of_last t x y e =
    let path = path_of t y in
    record {
      above = take (length path - 1) path;
      path = sym (take-append-drop (length path - 1) path) ∙ ap (λ (l : List PathPart). take (length path - 1) path ++ l) e;
    }

last_of_direct : (t : List Entry) (x y : ℕ) → IsDirectParentOf t x y → last_part (path_of t y) ≡ Id x ∷ []
last_of_direct t x y d = ap last_part d.path ∙ last_of d.above x

-- ---- the test is the relation

module _ (t : List Entry) (master id : ℕ) where
  -- equal last parts, of which the second is an ID, are a direct parent that is shared
  share : only_ids (path_of t id) ≡ true → last_part (path_of t master) ≡ last_part (path_of t id) → (path_of t id ≡ []) ⊎ ShareDirectParent t id master
  share o e = ⊎_elim (λ q. inl q) (λ x. inr (record { parent = x.0; of_one = direct_of_last t x.0 id x.1; of_other = direct_of_last t x.0 master (e ∙ x.1) })) (last_id (path_of t id) o)

  not_in : (x y : ℕ) → is_parent t y x ≡ false → IsParentOf t x y → ⊥
  unfolding is_parent
  not_in x y n m = true≢false (sym (parent_has m) ∙ n)

  pub rfc_sound : is_ended_by_rfc t master id ≡ true → EndsUnknownSize t master id
  unfolding is_ended_by_rfc is_parent
  rfc_sound e =
      go (is_parent t master id) (is_parent t id master) (same_path (last_part (path_of t master)) (last_part (path_of t id))) (eqb (length (path_of t id)) 0)
      refl refl refl refl (both (is_typed (data_type_of t id) && only_ids (path_of t id)) _ e).right
    where
      element : NotGlobal t id
      element =
          let b = both (is_typed (data_type_of t id)) (only_ids (path_of t id)) (both (is_typed (data_type_of t id) && only_ids (path_of t id)) _ e).left in
          record { typed = b.left; ids = b.right }

      root : eqb (length (path_of t id)) 0 ≡ true → EndsUnknownSize t master id
      root q = a_root element (no_parts (path_of t id) (eqb-true _ _ q))

      go : (p d s r : Bool) → is_parent t master id ≡ p → is_parent t id master ≡ d → same_path (last_part (path_of t master)) (last_part (path_of t id)) ≡ s
          → eqb (length (path_of t id)) 0 ≡ r → (p || not d && s || r) ≡ true → EndsUnknownSize t master id
      go true d s r ep ed es er h = a_parent element (has_parent id (path_of t master) ep)
      go false true s true ep ed es er h = root er
      go false true s false ep ed es er h = absurd (false≢true h)
      go false false true r ep ed es er h =
          ⊎_elim (λ q. a_root element q) (λ s. a_sibling element (not_in master id ed) s) (share element.ids (path_same _ _ es))
      go false false false true ep ed es er h = root er
      go false false false false ep ed es er h = absurd (false≢true h)

  pub rfc_complete : EndsUnknownSize t master id → is_ended_by_rfc t master id ≡ true
  unfolding is_ended_by_rfc is_parent
  rfc_complete (a_parent element p) = rw (element.typed, element.ids, parent_has p)
  rfc_complete (a_sibling element n s) =
      let x = s.parent in
      let last = last_of_direct t x master s.of_other ∙ sym (last_of_direct t x id s.of_one) in
      rw (element.typed, element.ids, none (has_id master (path_of t id)) refl, last, path_self (last_part (path_of t id)), or-true (has_id id (path_of t master)))
    where
      none : (b : Bool) → has_id master (path_of t id) ≡ b → has_id master (path_of t id) ≡ false
      none true q = absurd (n (has_parent master (path_of t id) q))
      none false q = q
  rfc_complete (a_root element e) =
      rw (element.typed, element.ids, eq-eqb (length (path_of t id)) 0 (ap length e))
      (or-true (is_parent t master id || not (is_parent t id master) && same_path (last_part (path_of t master)) (last_part (path_of t id))))

-- ---- a Master of a table that the check passes

module _ (es ps : List ℕ) where
  -- the table that the words are
  abbrev t : List Entry
  t = table_of es ps

  module _ (passed : check_table es ps ≡ (Ok tt)) (master id : ℕ) (m : data_type_of t master ≡ Master) where
    rules : PassedTable t
    rules = passed_gives es ps passed

    path_ids_lem : only_ids (path_of t master) ≡ true
    path_ids_lem = master_of_ids_lem t rules master m

    -- what the port's rule lets end, by each of its three tests
    by_parent : is_parent t master id ≡ true → EndsUnknownSize t master id
    unfolding is_parent is_typed
    by_parent e =
        let above = has_parent id (path_of t master) e in
        let kind = path_masters t rules master id above in
        a_parent (record { typed = ap is_typed kind; ids = master_of_ids_lem t rules id kind }) above

    by_sibling : is_sibling t master id ≡ true → EndsUnknownSize t master id ⊎ (untyped_at_root t master id ≡ true)
    unfolding is_sibling untyped_at_root
    by_sibling e = go (is_typed (data_type_of t id)) refl
      where
        same : path_of t master ≡ path_of t id
        same = path_same _ _ e

        go : (b : Bool) → is_typed (data_type_of t id) ≡ b → EndsUnknownSize t master id ⊎ (untyped_at_root t master id ≡ true)
        go true q =
            let element : NotGlobal t id = record { typed = q; ids = rw same at path_ids_lem } in
            inl (⊎_elim (λ z. a_root element z)
            (λ s. a_sibling element (λ k. not_own t rules master (rw (← same) at k)) s)
            (share t master id element.ids (ap last_part same)))
        go false q = inr (and_both (ap not q) (eq-eqb _ 0 (ap length (same ∙ untyped_path es ps id q))))

    by_root : is_typed_root t id ≡ true → EndsUnknownSize t master id
    unfolding is_typed_root only_ids every
    by_root e =
        let b = both (is_typed (data_type_of t id)) (eqb (length (path_of t id)) 0) e in
        let none = no_parts (path_of t id) (eqb-true _ _ b.right) in
        a_root (record { typed = b.left; ids = rw none }) none

    ended_is : is_ended_by t master id ≡ true → EndsUnknownSize t master id ⊎ (untyped_at_root t master id ≡ true)
    unfolding is_ended_by
    ended_is e = go (is_parent t master id) (is_sibling t master id) refl refl e
      where
        go : (p s : Bool) → is_parent t master id ≡ p → is_sibling t master id ≡ s → (p || s || is_typed_root t id) ≡ true
            → EndsUnknownSize t master id ⊎ (untyped_at_root t master id ≡ true)
        go true s ep eq h = inl (by_parent ep)
        go false true ep eq h = by_sibling eq
        go false false ep eq h = inl (by_root h)

    -- the path of a shared direct parent is what stands above it in both, so the paths are equal
    same_path_lem : NotGlobal t id → ShareDirectParent t id master → path_of t master ≡ path_of t id
    unfolding every only_ids
    same_path_lem element s =
        let a = above id element.ids s.of_one in
        let b = above master path_ids_lem s.of_other in
        s.of_other.path ∙ ap (λ (l : List PathPart). l ++ (Id s.parent ∷ [])) (sym b ∙ a) ∙ sym s.of_one.path
      where
        above : (y : ℕ) → only_ids (path_of t y) ≡ true → (d : IsDirectParentOf t s.parent y) → path_of t s.parent ≡ d.above
        above y o d =
            prefix_path t rules y d.above s.parent [] d.path (every_front is_id d.above (Id s.parent ∷ []) (rw d.path at o))

    rfc_ends : EndsUnknownSize t master id → is_ended_by t master id ≡ true
    unfolding is_ended_by is_parent is_sibling is_typed_root
    rfc_ends (a_parent element k) = rw (parent_has k)
    rfc_ends (a_sibling element n s) =
        let path = path_of t id in
        rw (same_path_lem element s, path_self path, or-true (has_id id path))
    rfc_ends (a_root element e) =
        rw (element.typed, eq-eqb (length (path_of t id)) 0 (ap length e))
        (or-true (is_parent t master id || is_sibling t master id))

    untyped_ends : untyped_at_root t master id ≡ true → is_ended_by t master id ≡ true
    unfolding untyped_at_root is_ended_by is_parent is_sibling same_path
    untyped_ends e =
        let b = both (not (is_typed (data_type_of t id))) (eqb (length (path_of t master)) 0) e in
        let none = no_parts (path_of t master) (eqb-true _ _ b.right) in
        rw (none, untyped_path es ps id (not-true _ b.left), or-true (has_id id []))

    -- what has no type ends nothing by the RFC
    typed_ends : is_ended_by_rfc t master id ≡ true → is_typed (data_type_of t id) ≡ true
    unfolding is_ended_by_rfc
    typed_ends e = (both _ _ (both _ _ e).left).left

    -- an ID ends a Master by the port's rule exactly where it does by the RFC, but where the table does not have the ID
    -- and the Master is a root
    pub ends_agree : untyped_at_root t master id ≡ false
        → (is_ended_by t master id ≡ true) ↔ EndsUnknownSize t master id
    ends_agree n = (λ e. ⊎_elim (λ r. r) (λ u. absurd (true≢false (sym u ∙ n))) (ended_is e), rfc_ends)

    -- and there it ends the Master by the port's rule, and does not by the RFC
    pub ends_differ : untyped_at_root t master id ≡ true
        → (is_ended_by t master id ≡ true) × (EndsUnknownSize t master id → ⊥)
    unfolding untyped_at_root
    ends_differ u =
        let untyped = not-true (is_typed (data_type_of t id)) (both _ _ u).left in
        (untyped_ends u, λ r. true≢false (sym (typed_ends (rfc_complete t master id r)) ∙ untyped))

    -- both at once, as tests
    pub ended_as_rfc : is_ended_by t master id ≡ (is_ended_by_rfc t master id || untyped_at_root t master id)
    ended_as_rfc = same_truth _ _ to (from (is_ended_by_rfc t master id) refl)
      where
        to : is_ended_by t master id ≡ true → (is_ended_by_rfc t master id || untyped_at_root t master id) ≡ true
        to e = ⊎_elim (λ r. rw (rfc_complete t master id r)) (λ u. rw u (or-true (is_ended_by_rfc t master id))) (ended_is e)

        from : (b : Bool) → is_ended_by_rfc t master id ≡ b → (is_ended_by_rfc t master id || untyped_at_root t master id) ≡ true
            → is_ended_by t master id ≡ true
        from true q e = rfc_ends (rfc_sound t master id q)
        from false q e = untyped_ends (rw q at e)

    -- and the other way round: by the RFC those IDs with a type end it that do by the port's rule
    pub rfc_as_ended : is_ended_by_rfc t master id ≡ (is_typed (data_type_of t id) && is_ended_by t master id)
    unfolding untyped_at_root
    rfc_as_ended = same_truth _ _ (λ e. and_both (typed_ends e) (rfc_ends (rfc_sound t master id e))) from
      where
        from : (is_typed (data_type_of t id) && is_ended_by t master id) ≡ true → is_ended_by_rfc t master id ≡ true
        from e =
            let b = both (is_typed (data_type_of t id)) _ e in
            rfc_complete t master id ((ends_agree (rw b.left)).0 b.right)

  -- an element whose path is all IDs ends none of the masters that its path names
  module _ (passed : check_table es ps ≡ (Ok tt)) (id : ℕ) (typed : is_typed (data_type_of t id) ≡ true) (ids : only_ids (path_of t id) ≡ true) where
    pub ends_no_parent : (before : List PathPart) (x : ℕ) (after : List PathPart) → path_of t id ≡ before ++ Id x ∷ after → is_ended_by t x id ≡ false
    unfolding untyped_at_root only_ids
    ends_no_parent before x after q = go (is_ended_by t x id) refl
      where
        named : PassedTable t
        named = passed_gives es ps passed

        parent : IsParentOf t x id
        parent = rw q (Memᴰ.append_right before (Memᴰ.head refl))

        above : path_of t x ≡ before
        above = prefix_path t named id before x after q (every_front is_id before (Id x ∷ after) (rw q at ids))

        never : EndsUnknownSize t x id → ⊥
        never (a_parent element k) = not_own t named id (rw q (Memᴰ.append_left (Id x ∷ after) (rw above at k)))
        never (a_sibling element n s) = n parent
        never (a_root element e) = let l = ap length (sym q ∙ e) in omega (arith, simp length-append at l)

        go : (b : Bool) → is_ended_by t x id ≡ b → is_ended_by t x id ≡ false
        go true e = absurd (never ((ends_agree passed x id (path_masters t named id x parent) (rw typed)).0 e))
        go false e = e
