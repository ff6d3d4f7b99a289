-- RFC 8794, section 11.1.6, and the path walk: the parents that a path names, as a relation and as a test; and the walk
-- over masters that stay open accepts exactly those, where a Global stands in the path at its end or nowhere. Assumes
-- nothing.
use Prim.Native.Nat.{ℕ, suc, ◌+◌, ◌-◌, ◌≤◌, ◌<◌}
use mathlib.Core.Path.{◌≡◌, refl, sym, ap, ◌∙◌}
use mathlib.Core.Bool.{Bool, true, false, false≢true, not, ◌&&◌, ◌||◌, and-true, and-false, or-true}
use mathlib.Core.List.{List, [], ◌∷◌, ◌++◌, map, head-eq_of_cons-eq, tail-eq_of_cons-eq}
use mathlib.Core.Logic.{◌↔◌}
use borrow.Author.Tests.{not-true, eq-eqb, ne_eqb, eqb-true, lt-leb, le-leb, le-ltb, lt-ltb, ltb-true}
use native.Mathlib.Numerals.{add-one}
use native.Mathlib.Omega.{arith}
use lib.Dec.{eqb}
use lib.ListN.{length, get_or, drop, length-drop, length-map}
use lib.Seq.{drop-cons}
use Rattle.basics.specs.Lists.{every}
use Rattle.basics.proofs.Bools.{both, and_both}
use Rattle.basics.proofs.Every.{every_other}
use Rattle.table.specs.Table.{Entry, path_of, path_ids}
use Rattle.table.specs.Check.{only_ids}
use Rattle.table.specs.declared.types.PathPart.{PathPart}
use Rattle.table.specs.declared.types.PathPart.TheVariants.{Id, Global}
use Rattle.spec_util.specs.Walk.{over_max, under_min, is_id_at, walk_global, walk_at, walk_part, unknown_and_ended, walk_master, min_met, walk_end, go_on, walk_from, place_along, validate_tag_path}
use Rattle.spec_util.specs.Rfc8794.{in_bounds, PathNames, passes_after, path_names, global_only_last, stays_open}
use Rattle.spec_util.specs.declared.types.OpenTag.{OpenTag}
use Rattle.std.specs.Prelude.{None, Option, Some}

-- ---- the test is the relation

module _ (test : List ℕ → Bool) (least most : Option ℕ) where
  -- where the parents are cut in those that a Global stands for and the rest
  record Cut (n : ℕ) (parents : List ℕ) : Type 0 where
    between : List ℕ
    rest : List ℕ
    whole : parents ≡ between ++ rest
    bounds : in_bounds least most (n + length between) ≡ true
    passes : test rest ≡ true

  cut_here : (n : ℕ) (parents : List ℕ) → (in_bounds least most n && test parents) ≡ true → Cut n parents
  cut_here n parents e =
      let b = both (in_bounds least most n) (test parents) e in
      let z : n + 0 ≡ n = omega arith in
      record { between = []; rest = parents; whole = refl; bounds = rw z b.left; passes = b.right }

  cut_later : (n x : ℕ) (parents : List ℕ) → Cut (n + 1) parents → Cut n (x ∷ parents)
  cut_later n x parents c =
      let z : n + suc (length c.between) ≡ n + 1 + length c.between = omega arith in
      record { between = x ∷ c.between; rest = c.rest; whole = ap (λ (l : List ℕ). x ∷ l) c.whole; bounds = rw z c.bounds; passes = c.passes }

  cut_sound : (n : ℕ) (parents : List ℕ) → passes_after test least most n parents ≡ true → Cut n parents
  unfolding passes_after
  cut_sound n [] e = cut_here n [] e
  cut_sound n (x ∷ parents) e = go (in_bounds least most n && test (x ∷ parents)) refl e (cut_sound (n + 1) parents)
    where
      go : (b : Bool) → (in_bounds least most n && test (x ∷ parents)) ≡ b → (b || passes_after test least most (n + 1) parents) ≡ true
          → (passes_after test least most (n + 1) parents ≡ true → Cut (n + 1) parents) → Cut n (x ∷ parents)
      go true q e later = cut_here n (x ∷ parents) q
      go false q e later = cut_later n x parents (later e)

  cut_complete : (n : ℕ) (between rest : List ℕ) → in_bounds least most (n + length between) ≡ true → test rest ≡ true
      → passes_after test least most n (between ++ rest) ≡ true
  unfolding passes_after
  cut_complete n [] [] b p = let z : n + 0 ≡ n = omega arith in and_both (rw z at b) p
  cut_complete n [] (x ∷ rest) b p =
      let z : n + 0 ≡ n = omega arith in
      rw (and_both (rw z at b) p)
  cut_complete n (x ∷ between) rest b p =
      let z : n + suc (length between) ≡ n + 1 + length between = omega arith in
      rw (cut_complete (n + 1) between rest (rw z at b) p) (or-true (in_bounds least most n && test (x ∷ between ++ rest)))

pub names_sound : (path : List PathPart) (parents : List ℕ) → path_names path parents ≡ true → PathNames path parents
unfolding path_names
names_sound [] [] e = refl
names_sound [] (y ∷ parents) e = absurd (false≢true e)
names_sound (Id x ∷ path) [] e = absurd (false≢true e)
names_sound (Id x ∷ path) (y ∷ parents) e =
    let b = both (eqb x y) (path_names path parents) e in
    (parents, ap (λ (n : ℕ). n ∷ parents) (sym (eqb-true x y b.left)), names_sound path parents b.right)
names_sound (Global least most ∷ path) parents e =
    let c = cut_sound (λ rest. path_names path rest) least most 0 parents e in
    let z : 0 + length c.between ≡ length c.between = omega arith in
    (c.between, c.rest, c.whole, rw z at c.bounds, names_sound path c.rest c.passes)

pub names_complete : (path : List PathPart) (parents : List ℕ) → PathNames path parents → path_names path parents ≡ true
unfolding path_names
names_complete [] parents e = rw e
names_complete (Id x ∷ path) parents s = rw s.1 (and_both (eq-eqb x x refl) (names_complete path s.0 s.2))
names_complete (Global least most ∷ path) parents s =
    let z : 0 + length s.0 ≡ length s.0 = omega arith in
    rw s.2 (cut_complete (λ rest. path_names path rest) least most 0 s.0 s.1 (rw z s.3) (names_complete path s.1 s.4))

-- a path of IDs names its IDs
pub names_ids : (path : List PathPart) (parents : List ℕ) → only_ids path ≡ true → PathNames path parents ↔ (parents ≡ path_ids path)
unfolding only_ids every path_ids
names_ids [] parents o = (λ e. e, λ e. e)
names_ids (Id x ∷ path) parents o =
    (λ s. s.1 ∙ ap (λ (l : List ℕ). x ∷ l) ((names_ids path s.0 o).0 s.2), λ e. (path_ids path, e, (names_ids path (path_ids path) o).1 refl))
names_ids (Global least most ∷ path) parents o = absurd (false≢true o)

-- and has its Globals, none, at its end
ids_last : (path : List PathPart) → only_ids path ≡ true → global_only_last path ≡ true
unfolding only_ids every global_only_last
ids_last [] o = refl
ids_last (Id x ∷ path) o = ids_last path o
ids_last (Global least most ∷ path) o = absurd (false≢true o)

-- a Global at the end names any parents, within its bounds
last_passes : (least most : Option ℕ) (n : ℕ) (parents : List ℕ)
    → passes_after (λ rest. path_names [] rest) least most n parents ≡ in_bounds least most (n + length parents)
unfolding passes_after path_names
last_passes least most n [] = let z : n + 0 ≡ n = omega arith in rw z (and-true (in_bounds least most n))
last_passes least most n (x ∷ parents) =
    let z : n + suc (length parents) ≡ n + 1 + length parents = omega arith in
    rw (z, and-false (in_bounds least most n)) (last_passes least most (n + 1) parents)

-- ---- the walk

-- what stands at the marker, and after it
pub record At (path : List PathPart) (marker : ℕ) (p : PathPart) (rest : List PathPart) : Type 0 where
  pub there : marker < length path
  pub count : length path ≡ marker + 1 + length rest
  pub part : get_or path marker (Id 0) ≡ p
  pub later : drop (marker + 1) path ≡ rest

pub at : (path : List PathPart) (marker : ℕ) (p : PathPart) (rest : List PathPart) → drop marker path ≡ p ∷ rest → At path marker p rest
at path marker p rest e =
    let l : length path - marker ≡ suc (length rest) = sym (length-drop marker path) ∙ ap length e in
    let h : marker < length path = omega arith in
    let c = sym (drop-cons path marker (Id 0) h) ∙ e in
    record { there = h; count = omega arith; part = head-eq_of_cons-eq c; later = rw add-one (tail-eq_of_cons-eq c) }

pub over_more : (most : Option ℕ) (n k : ℕ) → n ≤ k → over_max n most ≡ true → over_max k most ≡ true
unfolding over_max
over_more None n k h e = absurd (false≢true e)
over_more (Some m) n k h e = lt-ltb m k (omega (arith, ltb-true m n e))

pub over_out : (least most : Option ℕ) (n : ℕ) → over_max n most ≡ true → in_bounds least most n ≡ false
unfolding in_bounds
over_out least most n e = rw e (and-false (not (under_min n least)))

module _ (t : List Entry) (path : List PathPart) (id : ℕ) where
  -- at a master that stays open the walk takes the part at the marker
  walk_on : (m : OpenTag) (ms : List OpenTag) (marker counter : ℕ) → stays_open t id m ≡ true → marker < length path
      → walk_from false t path id marker counter (m ∷ ms)
      ≡ go_on (walk_at false path (get_or path marker (Id 0)) m.id marker counter) (λ next so_far. walk_from false t path id next so_far ms)
  unfolding walk_from walk_master walk_part stays_open
  walk_on m ms marker counter s h = rw (not-true (unknown_and_ended false t m.known m.id id) s, lt-leb (length path) marker h)

  walk_past : (m : OpenTag) (ms : List OpenTag) (marker counter : ℕ) → stays_open t id m ≡ true → length path ≤ marker
      → walk_from false t path id marker counter (m ∷ ms) ≡ false
  unfolding walk_from walk_master walk_part go_on stays_open
  walk_past m ms marker counter s h = rw (not-true (unknown_and_ended false t m.known m.id id) s, le-leb (length path) marker h)

  -- a Global at the end counts the masters that are left
  module _ (least most : Option ℕ) (marker : ℕ) (a : At path marker (Global least most) []) where
    pub ends_in_global : (counter : ℕ) → over_max counter most ≡ false → walk_end path marker counter ≡ in_bounds least most (counter + 0)
    unfolding walk_end min_met in_bounds
    ends_in_global counter o =
        let z : counter + 0 ≡ counter = omega arith in
        rw (z, a.part, o, ne_eqb marker (length path) (λ e. omega arith), eq-eqb (marker + 1) (length path) (omega arith))
        (sym (and-true (not (under_min counter least))))

    walk_global_lem : (ms : List OpenTag) (counter : ℕ) → over_max counter most ≡ false → every (stays_open t id) ms ≡ true
        → walk_from false t path id marker counter ms ≡ in_bounds least most (counter + length ms)
    unfolding every walk_from walk_at walk_global is_id_at go_on
    walk_global_lem [] counter o s = ends_in_global counter o
    walk_global_lem (m ∷ ms) counter o s =
        let b = both (stays_open t id m) (every (stays_open t id) ms) s in
        walk_on m ms marker counter b.left a.there ∙ go (over_max (counter + 1) most) refl (λ q. walk_global_lem ms (counter + 1) q b.right)
      where
        go : (b : Bool) → over_max (counter + 1) most ≡ b
            → (over_max (counter + 1) most ≡ false → walk_from false t path id marker (counter + 1) ms ≡ in_bounds least most (counter + 1 + length ms))
            → go_on (walk_at false path (get_or path marker (Id 0)) m.id marker counter) (λ next so_far. walk_from false t path id next so_far ms)
            ≡ in_bounds least most (counter + suc (length ms))
        go true q later =
            rw (a.part, q)
            (sym (over_out least most (counter + suc (length ms)) (over_more most (counter + 1) _ (omega arith) q)))
        go false q later =
            let z : counter + suc (length ms) ≡ counter + 1 + length ms = omega arith in
            rw (z, a.part, q, le-ltb (marker + 1) (length path) (omega arith)) (later q)

  pub ends_before : (marker counter x : ℕ) (rest : List PathPart) → At path marker (Id x) rest → walk_end path marker counter ≡ false
  unfolding walk_end min_met
  ends_before marker counter x rest a =
      rw (a.part, ne_eqb marker (length path) (λ e. omega arith)) (and-false (eqb (marker + 1) (length path)))

  pub ends_at_end : (marker counter : ℕ) → marker ≡ length path → walk_end path marker counter ≡ true
  unfolding walk_end
  ends_at_end marker counter e = rw (eq-eqb marker (length path) e)

  pub none_over : (most : Option ℕ) → over_max 0 most ≡ false
  unfolding over_max
  none_over None = refl
  none_over (Some n) = le-ltb n 0 (omega arith)

  walk_names_from : (ms : List OpenTag) (marker : ℕ) (rest : List PathPart) → marker ≤ length path → drop marker path ≡ rest
      → global_only_last rest ≡ true → every (stays_open t id) ms ≡ true
      → walk_from false t path id marker 0 ms ≡ path_names rest (map (λ (m : OpenTag). m.id) ms)
  unfolding every walk_from walk_at go_on path_names global_only_last
  walk_names_from [] marker [] l e g s =
      let d : length path - marker ≡ 0 = sym (length-drop marker path) ∙ ap length e in
      ends_at_end marker 0 (omega arith)
  walk_names_from (m ∷ ms) marker [] l e g s =
      let d : length path - marker ≡ 0 = sym (length-drop marker path) ∙ ap length e in
      walk_past m ms marker 0 (both (stays_open t id m) (every (stays_open t id) ms) s).left (omega arith)
  walk_names_from [] marker (Id x ∷ rest) l e g s = ends_before marker 0 x rest (at path marker (Id x) rest e)
  walk_names_from (m ∷ ms) marker (Id x ∷ rest) l e g s =
      let b = both (stays_open t id m) (every (stays_open t id) ms) s in
      let a = at path marker (Id x) rest e in
      walk_on m ms marker 0 b.left a.there
      ∙ go a.part (eqb x m.id) refl (walk_names_from ms (marker + 1) rest (omega arith) a.later g b.right)
    where
      go : get_or path marker (Id 0) ≡ Id x → (b : Bool) → eqb x m.id ≡ b
          → walk_from false t path id (marker + 1) 0 ms ≡ path_names rest (map (λ (m : OpenTag). m.id) ms)
          → go_on (walk_at false path (get_or path marker (Id 0)) m.id marker 0) (λ next so_far. walk_from false t path id next so_far ms)
          ≡ (eqb x m.id && path_names rest (map (λ (m : OpenTag). m.id) ms))
      go p true q later = rw (p, q) later
      go p false q later = rw (p, q)
  walk_names_from ms marker (Global least most ∷ []) l e g s =
      walk_global_lem least most marker (at path marker (Global least most) [] e) ms 0 (none_over most) s
      ∙ ap (λ (n : ℕ). in_bounds least most (0 + n)) (sym (length-map ms (λ (m : OpenTag). m.id)))
      ∙ sym (last_passes least most 0 (map (λ (m : OpenTag). m.id) ms))
  walk_names_from ms marker (Global least most ∷ p ∷ rest) l e g s = absurd (omega (arith, eqb-true (suc (length rest)) 0 g))

-- ---- what is proved of the walk

module _ (t : List Entry) (id : ℕ) (ms : List OpenTag) where
  -- masters of known size stay open
  pub known_stay : every (λ (m : OpenTag). m.known) ms ≡ true → every (stays_open t id) ms ≡ true
  unfolding stays_open unknown_and_ended
  known_stay k = every_other (λ (m : OpenTag). m.known) (stays_open t id) (λ m e. rw e) ms k

  -- the walk over masters that stay open is the RFC's test, where a Global stands at the path's end or nowhere
  pub walk_names : global_only_last (path_of t id) ≡ true → every (stays_open t id) ms ≡ true
      → validate_tag_path false t id ms ≡ path_names (path_of t id) (map (λ (m : OpenTag). m.id) ms)
  unfolding validate_tag_path place_along
  walk_names g s = walk_names_from t (path_of t id) id ms 0 (path_of t id) (omega arith) refl g s

  -- so an ID is accepted in masters of known size exactly where its path names them
  pub accepted_where_named : global_only_last (path_of t id) ≡ true → every (λ (m : OpenTag). m.known) ms ≡ true
      → (validate_tag_path false t id ms ≡ true) ↔ PathNames (path_of t id) (map (λ (m : OpenTag). m.id) ms)
  accepted_where_named g k =
      let e = walk_names g (known_stay k) in
      (λ v. names_sound _ _ (sym e ∙ v), λ p. e ∙ names_complete _ _ p)

  -- one whose path is all IDs is accepted in masters that stay open exactly where they are that path
  pub accepted_in_open : only_ids (path_of t id) ≡ true → every (stays_open t id) ms ≡ true
      → (validate_tag_path false t id ms ≡ true) ↔ (map (λ (m : OpenTag). m.id) ms ≡ path_ids (path_of t id))
  accepted_in_open o s =
      let e = walk_names (ids_last _ o) s in
      let ids = names_ids (path_of t id) (map (λ (m : OpenTag). m.id) ms) o in
      (λ v. ids.0 (names_sound _ _ (sym e ∙ v)), λ q. e ∙ names_complete _ _ (ids.1 q))

  -- so it is in masters of known size
  pub accepted_in_its_path : only_ids (path_of t id) ≡ true → every (λ (m : OpenTag). m.known) ms ≡ true
      → (validate_tag_path false t id ms ≡ true) ↔ (map (λ (m : OpenTag). m.id) ms ≡ path_ids (path_of t id))
  accepted_in_its_path o k = accepted_in_open o (known_stay k)
