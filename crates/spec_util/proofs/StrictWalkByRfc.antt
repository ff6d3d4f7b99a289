-- RFC 8794, section 11.1.6, and the path walk in the strict mode: what the walk accepts the path names; and it accepts
-- all that the path names, where the ID after a Global tells where the Global ends. So it does for masters that are
-- different from each other, where no two Globals stand side by side. Assumes nothing.
use Prim.Native.Nat.{ℕ, ◌+◌, ◌-◌, ◌≤◌}
use mathlib.Core.Path.{◌≡◌, refl, sym, ap, ◌∙◌}
use mathlib.Core.Bool.{Bool, true, false, cond, false≢true, true≢false, not, ◌&&◌, ◌||◌, and-false, or-true}
use mathlib.Core.List.{List, [], ◌∷◌, map}
use mathlib.Core.Logic.{◌↔◌}
use borrow.Author.Tests.{not-true, eq-eqb, ne_eqb, eqb-true, lt-leb, le-leb, le-ltb, lt-ltb}
use native.Mathlib.Omega.{arith}
use lib.Dec.{eqb}
use lib.ListN.{length, drop, length-drop}
use Rattle.basics.specs.Lists.{every, any}
use Rattle.basics.proofs.Bools.{both, and_both, or_none, same_truth}
use Rattle.table.specs.Table.{Entry, path_ids}
use Rattle.table.specs.Check.{only_ids}
use Rattle.table.specs.declared.types.PathPart.{PathPart}
use Rattle.table.specs.declared.types.PathPart.TheVariants.{Id, Global}
use Rattle.spec_util.specs.Ended.{is_id_of}
use Rattle.spec_util.specs.Walk.{over_max, under_min, is_id_at, walk_global_strictly, walk_at, walk_part, walk_master, walk_end, go_on, walk_from}
use Rattle.spec_util.specs.Rfc8794.{in_bounds, PathNames, passes_after, path_names, globals_apart, all_different, at_most_once, read_one_way}
use Rattle.spec_util.specs.declared.types.OpenTag.{OpenTag}
use Rattle.spec_util.specs.declared.types.Walk.TheVariants.{Refuse, On}
use Rattle.spec_util.proofs.WalkByRfc.{At, at, over_more, over_out, ends_in_global, ends_before, ends_at_end, none_over, names_sound, names_complete, names_ids}
use Rattle.std.specs.Prelude.{Option}

abbrev ids_of : List OpenTag → List ℕ
ids_of ms = map (λ (m : OpenTag). m.id) ms

-- ---- one master

-- the part that follows is this ID
abbrev next_is : List PathPart → ℕ → Bool
next_is [] x = false
next_is (p ∷ rest) x = is_id_of x p

-- a part that is this ID
id_is : (x : ℕ) (rest : List PathPart) → next_is rest x ≡ true → (after : List PathPart) × (rest ≡ Id x ∷ after)
unfolding is_id_of
id_is x [] e = absurd (false≢true e)
id_is x (Id y ∷ rest) e = (rest, ap (λ (n : ℕ). Id n ∷ rest) (eqb-true y x e))
id_is x (Global least most ∷ rest) e = absurd (false≢true e)

module _ (t : List Entry) (path : List PathPart) (id : ℕ) (m : OpenTag) (ms : List OpenTag) (marker n : ℕ) where
  next_at : {p : PathPart} (rest : List PathPart) → At path marker p rest → is_id_at path (marker + 1) m.id ≡ next_is rest m.id
  unfolding is_id_at
  next_at [] a = rw (le-ltb (marker + 1) (length path) (omega arith))
  next_at (q ∷ rest) a =
      let b = at path (marker + 1) q rest a.later in
      rw (lt-ltb (marker + 1) (length path) b.there, b.part)

  walk_past : length path ≤ marker → walk_from true t path id marker n (m ∷ ms) ≡ false
  unfolding walk_from walk_master walk_part go_on
  walk_past h = rw (le-leb (length path) marker h)

  -- at an ID it is this master
  walk_id : (x : ℕ) (rest : List PathPart) → At path marker (Id x) rest
      → walk_from true t path id marker n (m ∷ ms) ≡ (eqb x m.id && walk_from true t path id (marker + 1) n ms)
  unfolding walk_from walk_master walk_part walk_at go_on
  walk_id x rest a = rw (lt-leb (length path) marker a.there, a.part) (go (eqb x m.id) refl)
    where
      go : (b : Bool) → eqb x m.id ≡ b
          → go_on (walk_at true path (Id x) m.id marker n) (λ next so_far. walk_from true t path id next so_far ms)
          ≡ (eqb x m.id && walk_from true t path id (marker + 1) n ms)
      go true q = rw q
      go false q = rw q

  -- at a Global it is the next part, or one of those in between
  walk_global_lem : (least most : Option ℕ) (rest : List PathPart) → At path marker (Global least most) rest
      → walk_from true t path id marker n (m ∷ ms)
      ≡ cond (next_is rest m.id) (not (under_min n least) && walk_from true t path id (marker + 2) 0 ms)
      (not (over_max (n + 1) most) && walk_from true t path id marker (n + 1) ms)
  unfolding walk_from walk_master walk_part walk_at walk_global_strictly go_on
  walk_global_lem least most rest a =
      rw (lt-leb (length path) marker a.there, a.part, next_at rest a) (go (next_is rest m.id) (under_min n least) (over_max (n + 1) most))
    where
      go : (b under over : Bool)
          → go_on (cond b (cond under Refuse (On (marker + 2) 0)) (cond over Refuse (On marker (n + 1)))) (λ next so_far. walk_from true t path id next so_far ms)
          ≡ cond b (not under && walk_from true t path id (marker + 2) 0 ms) (not over && walk_from true t path id marker (n + 1) ms)
      go true true over = refl
      go true false over = refl
      go false under true = refl
      go false under false = refl

-- ---- a Global that stands for n parents already

-- what the parts from here on name, where a Global that is first stands for n parents already
unfoldable names_from : List PathPart → ℕ → List ℕ → Bool
names_from [] n parents = path_names [] parents
names_from (Id x ∷ path) n parents = path_names (Id x ∷ path) parents
names_from (Global least most ∷ path) n parents = passes_after (λ rest. path_names path rest) least most n parents

names_start : (path : List PathPart) (parents : List ℕ) → names_from path 0 parents ≡ path_names path parents
unfolding names_from path_names
names_start [] parents = refl
names_start (Id x ∷ path) parents = refl
names_start (Global least most ∷ path) parents = refl

-- the counter at a part: 0 but at a Global, and there not over max
abbrev Within : List PathPart → ℕ → Type 0
Within [] n = Unit {0}
Within (Id x ∷ path) n = n ≡ 0
Within (Global least most ∷ path) n = over_max n most ≡ false

within_start : (path : List PathPart) → Within path 0
within_start [] = tt
within_start (Id x ∷ path) = refl
within_start (Global least most ∷ path) = none_over [] [] 0 most

module _ (test : List ℕ → Bool) (least most : Option ℕ) where
  -- what passes has not counted over max
  passes_within : (n : ℕ) (parents : List ℕ) → passes_after test least most n parents ≡ true → over_max n most ≡ false
  unfolding passes_after
  passes_within n parents e = go (over_max n most) refl
    where
      over : (n : ℕ) (parents : List ℕ) → over_max n most ≡ true → passes_after test least most n parents ≡ false
      over n [] o = rw (over_out least most n o)
      over n (x ∷ parents) o = rw (over_out least most n o) (over (n + 1) parents (over_more most n (n + 1) (omega arith) o))

      go : (b : Bool) → over_max n most ≡ b → over_max n most ≡ false
      go true o = absurd (true≢false (sym e ∙ over n parents o))
      go false o = o

-- two tests of which neither passes
neither : (a b : Bool) → (a || b) ≡ false → (a ≡ false) × (b ≡ false)
neither true b e = absurd (true≢false e)
neither false b e = (refl, e)

-- an ID that is not among the parents is not named after a Global
absent : (least most : Option ℕ) (x : ℕ) (path : List PathPart) (n : ℕ) (parents : List ℕ) → any (eqb x) parents ≡ false
    → passes_after (λ rest. path_names (Id x ∷ path) rest) least most n parents ≡ false
unfolding passes_after path_names any
absent least most x path n [] e = and-false (in_bounds least most n)
absent least most x path n (y ∷ parents) e =
    let b = neither (eqb x y) (any (eqb x) parents) e in
    rw (b.0, and-false (in_bounds least most n)) (absent least most x path (n + 1) parents b.1)

-- ---- what the walk accepts the path names

module _ (t : List Entry) (path : List PathPart) (id : ℕ) where
  -- inside the path the walk does not end
  ends_inside : (marker n : ℕ) (p q : PathPart) (rest : List PathPart) → At path marker p (q ∷ rest) → walk_end path marker n ≡ false
  unfolding walk_end
  ends_inside marker n p q rest a =
      rw (ne_eqb marker (length path) (λ e. omega arith), ne_eqb (marker + 1) (length path) (λ e. omega arith))

  -- after a Global and the ID that follows it
  after_next : (marker x : ℕ) (least most : Option ℕ) (rest after : List PathPart) → At path marker (Global least most) rest → rest ≡ Id x ∷ after
      → drop (marker + 2) path ≡ after
  after_next marker x least most rest after a q =
      let z : marker + 1 + 1 ≡ marker + 2 = omega arith in
      rw z at (at path (marker + 1) (Id x) after (a.later ∙ q)).later

  abbrev Sound : List OpenTag → Type 0
  Sound ms =
      (marker n : ℕ) (rest : List PathPart) → drop marker path ≡ rest → Within rest n → walk_from true t path id marker n ms ≡ true
      → names_from rest n (ids_of ms) ≡ true

  sound_id : (m : OpenTag) (ms : List OpenTag) → Sound ms → (marker n x : ℕ) (rest : List PathPart) → drop marker path ≡ Id x ∷ rest → n ≡ 0
      → walk_from true t path id marker n (m ∷ ms) ≡ true → (eqb x m.id && path_names rest (ids_of ms)) ≡ true
  sound_id m ms later marker n x rest e z w =
      let a = at path marker (Id x) rest e in
      let b = both (eqb x m.id) _ (sym (walk_id t path id m ms marker n x rest a) ∙ w) in
      and_both b.left (sym (names_start rest (ids_of ms)) ∙ later (marker + 1) 0 rest a.later (within_start rest) (rw z at b.right))

  sound_global : (m : OpenTag) (ms : List OpenTag) → Sound ms → (marker n : ℕ) (least most : Option ℕ) (rest : List PathPart)
      → drop marker path ≡ Global least most ∷ rest → over_max n most ≡ false → walk_from true t path id marker n (m ∷ ms) ≡ true
      → passes_after (λ after. path_names rest after) least most n (m.id ∷ ids_of ms) ≡ true
  unfolding names_from path_names passes_after in_bounds
  sound_global m ms later marker n least most rest e o w =
      let a = at path marker (Global least most) rest e in
      go a (next_is rest m.id) refl (sym (walk_global_lem t path id m ms marker n least most rest a) ∙ w)
    where
      go : At path marker (Global least most) rest → (b : Bool) → next_is rest m.id ≡ b
          → cond b (not (under_min n least) && walk_from true t path id (marker + 2) 0 ms) (not (over_max (n + 1) most) && walk_from true t path id marker (n + 1) ms) ≡ true
          → passes_after (λ after. path_names rest after) least most n (m.id ∷ ids_of ms) ≡ true
      go a true q w =
          let s = id_is m.id rest q in
          let b = both (not (under_min n least)) _ w in
          let named = sym (names_start s.0 (ids_of ms)) ∙ later (marker + 2) 0 s.0 (after_next marker m.id least most rest s.0 a s.1) (within_start s.0) b.right in
          let here : path_names rest (m.id ∷ ids_of ms) ≡ true = rw s.1 (and_both (eq-eqb m.id m.id refl) named) in
          rw (b.left, o, here)
      go a false q w =
          let b = both (not (over_max (n + 1) most)) _ w in
          rw (later marker (n + 1) (Global least most ∷ rest) e (not-true _ b.left) b.right)
          (or-true (in_bounds least most n && path_names rest (m.id ∷ ids_of ms)))

  sound : (ms : List OpenTag) → Sound ms
  unfolding walk_from names_from path_names passes_after
  sound [] marker n [] e c w = refl
  sound [] marker n (Id x ∷ rest) e c w = absurd (true≢false (sym w ∙ ends_before t path id marker n x rest (at path marker (Id x) rest e)))
  sound [] marker n (Global least most ∷ []) e c w =
      let z : n + 0 ≡ n = omega arith in
      and_both (rw z at (sym (ends_in_global t path id least most marker (at path marker (Global least most) [] e) n c) ∙ w)) refl
  sound [] marker n (Global least most ∷ p ∷ rest) e c w =
      absurd (true≢false (sym w ∙ ends_inside marker n (Global least most) p rest (at path marker (Global least most) (p ∷ rest) e)))
  sound (m ∷ ms) marker n [] e c w =
      let d : length path - marker ≡ 0 = sym (length-drop marker path) ∙ ap length e in
      absurd (true≢false (sym w ∙ walk_past t path id m ms marker n (omega arith)))
  sound (m ∷ ms) marker n (Id x ∷ rest) e c w = sound_id m ms (sound ms) marker n x rest e c w
  sound (m ∷ ms) marker n (Global least most ∷ rest) e c w = sound_global m ms (sound ms) marker n least most rest e c w

  -- the path names the masters that the strict walk accepts
  pub accepted_named : (ms : List OpenTag) → walk_from true t path id 0 0 ms ≡ true → PathNames path (map (λ (m : OpenTag). m.id) ms)
  accepted_named ms w = names_sound path (ids_of ms) (sym (names_start path (ids_of ms)) ∙ sound ms 0 0 path refl (within_start path) w)

-- ---- what the path names the walk accepts

gone_once : (x : ℕ) (parents : List ℕ) → any (eqb x) parents ≡ false → at_most_once x parents ≡ true
unfolding any at_most_once
gone_once x [] e = refl
gone_once x (y ∷ parents) e =
    let b = neither (eqb x y) (any (eqb x) parents) e in
    rw b.0 (gone_once x parents b.1)

once_later : (x y : ℕ) (parents : List ℕ) → at_most_once x (y ∷ parents) ≡ true → at_most_once x parents ≡ true
unfolding at_most_once
once_later x y parents e = go (eqb x y) e
  where
    go : (b : Bool) → cond b (not (any (eqb x) parents)) (at_most_once x parents) ≡ true → at_most_once x parents ≡ true
    go true e = gone_once x parents (not-true _ e)
    go false e = e

one_way_later : (path : List PathPart) (y : ℕ) (parents : List ℕ) → read_one_way path (y ∷ parents) ≡ true → read_one_way path parents ≡ true
unfolding read_one_way
one_way_later [] y parents e = refl
one_way_later (Id x ∷ path) y parents e = one_way_later path y parents e
one_way_later (Global least most ∷ []) y parents e = refl
one_way_later (Global least most ∷ Id x ∷ path) y parents e =
    let b = both (at_most_once x (y ∷ parents)) (read_one_way path (y ∷ parents)) e in
    and_both (once_later x y parents b.left) (one_way_later path y parents b.right)
one_way_later (Global least most ∷ Global low high ∷ path) y parents e = absurd (false≢true e)

-- a parent that is not the next ID is not named there
not_named : (least most : Option ℕ) (rest : List PathPart) (y : ℕ) (parents : List ℕ) → read_one_way (Global least most ∷ rest) (y ∷ parents) ≡ true
    → next_is rest y ≡ false → path_names rest (y ∷ parents) ≡ false
unfolding read_one_way is_id_of path_names
not_named least most [] y parents e q = refl
not_named least most (Id x ∷ rest) y parents e q = rw q
not_named least most (Global low high ∷ rest) y parents e q = absurd (false≢true e)

module _ (t : List Entry) (path : List PathPart) (id : ℕ) where
  abbrev Complete : List OpenTag → Type 0
  Complete ms =
      (marker n : ℕ) (rest : List PathPart) → marker ≤ length path → drop marker path ≡ rest → Within rest n → read_one_way rest (ids_of ms) ≡ true
      → names_from rest n (ids_of ms) ≡ true → walk_from true t path id marker n ms ≡ true

  complete_id : (m : OpenTag) (ms : List OpenTag) → Complete ms → (marker n x : ℕ) (rest : List PathPart) → drop marker path ≡ Id x ∷ rest → n ≡ 0
      → read_one_way rest (m.id ∷ ids_of ms) ≡ true → (eqb x m.id && path_names rest (ids_of ms)) ≡ true → walk_from true t path id marker n (m ∷ ms) ≡ true
  complete_id m ms later marker n x rest e z one p =
      let a = at path marker (Id x) rest e in
      let there = a.there in
      let b = both (eqb x m.id) (path_names rest (ids_of ms)) p in
      let on = later (marker + 1) 0 rest (omega arith) a.later (within_start rest) (one_way_later rest m.id (ids_of ms) one) (names_start rest (ids_of ms) ∙ b.right) in
      walk_id t path id m ms marker n x rest a ∙ and_both b.left (rw z on)

  complete_global : (m : OpenTag) (ms : List OpenTag) → Complete ms → (marker n : ℕ) (least most : Option ℕ) (rest : List PathPart)
      → drop marker path ≡ Global least most ∷ rest → read_one_way (Global least most ∷ rest) (m.id ∷ ids_of ms) ≡ true
      → passes_after (λ after. path_names rest after) least most n (m.id ∷ ids_of ms) ≡ true → walk_from true t path id marker n (m ∷ ms) ≡ true
  unfolding names_from path_names passes_after in_bounds read_one_way at_most_once
  complete_global m ms later marker n least most rest e one p =
      let a = at path marker (Global least most) rest e in
      walk_global_lem t path id m ms marker n least most rest a ∙ go a (next_is rest m.id) refl
    where
      go : At path marker (Global least most) rest → (b : Bool) → next_is rest m.id ≡ b
          → cond b (not (under_min n least) && walk_from true t path id (marker + 2) 0 ms) (not (over_max (n + 1) most) && walk_from true t path id marker (n + 1) ms) ≡ true
      go a true q =
          let s = id_is m.id rest q in
          let once = both (at_most_once m.id (m.id ∷ ids_of ms)) (read_one_way s.0 (m.id ∷ ids_of ms)) (rw s.1 at one) in
          let gone : any (eqb m.id) (ids_of ms) ≡ false = not-true _ (rw (eq-eqb m.id m.id refl) at once.left) in
          let none : passes_after (λ after. path_names rest after) least most (n + 1) (ids_of ms) ≡ false = rw s.1 (absent least most m.id s.0 (n + 1) (ids_of ms) gone) in
          let here = both (in_bounds least most n) (path_names rest (m.id ∷ ids_of ms)) (or_none _ ∙ rw none at p) in
          let after = after_next t path id marker m.id least most rest s.0 a s.1 in
          let fits : marker + 2 ≤ length path = let k = ap length s.1 in omega arith in
          let named : (eqb m.id m.id && path_names s.0 (ids_of ms)) ≡ true = rw s.1 at here.right in
          and_both (both (not (under_min n least)) _ here.left).left
          (later (marker + 2) 0 s.0 fits after (within_start s.0) (one_way_later s.0 m.id (ids_of ms) once.right)
          (names_start s.0 (ids_of ms) ∙ (both (eqb m.id m.id) _ named).right))
      go a false q =
          let there = a.there in
          let on : passes_after (λ after. path_names rest after) least most (n + 1) (ids_of ms) ≡ true = rw (not_named least most rest m.id (ids_of ms) one q, and-false (in_bounds least most n)) at p in
          let under = passes_within (λ after. path_names rest after) least most (n + 1) (ids_of ms) on in
          and_both (ap not under) (later marker (n + 1) (Global least most ∷ rest) (omega arith) e under (one_way_later (Global least most ∷ rest) m.id (ids_of ms) one) on)

  complete : (ms : List OpenTag) → Complete ms
  unfolding walk_from names_from path_names passes_after read_one_way
  complete [] marker n [] h e c one p =
      let d : length path - marker ≡ 0 = sym (length-drop marker path) ∙ ap length e in
      ends_at_end t path id marker n (omega arith)
  complete [] marker n (Id x ∷ rest) h e c one p = absurd (false≢true p)
  complete [] marker n (Global least most ∷ []) h e c one p =
      let z : n + 0 ≡ n = omega arith in
      ends_in_global t path id least most marker (at path marker (Global least most) [] e) n c ∙ rw z (both (in_bounds least most n) true p).left
  complete [] marker n (Global least most ∷ Id x ∷ rest) h e c one p = absurd (false≢true (both (in_bounds least most n) false p).right)
  complete [] marker n (Global least most ∷ Global low high ∷ rest) h e c one p = absurd (false≢true one)
  complete (m ∷ ms) marker n [] h e c one p = absurd (false≢true p)
  complete (m ∷ ms) marker n (Id x ∷ rest) h e c one p = complete_id m ms (complete ms) marker n x rest e c one p
  complete (m ∷ ms) marker n (Global least most ∷ rest) h e c one p = complete_global m ms (complete ms) marker n least most rest e one p

  -- where the ID after a Global tells where the Global ends, the strict walk is the RFC's test
  pub walk_names_strictly : (ms : List OpenTag) → read_one_way path (map (λ (m : OpenTag). m.id) ms) ≡ true
      → walk_from true t path id 0 0 ms ≡ path_names path (map (λ (m : OpenTag). m.id) ms)
  walk_names_strictly ms one =
      same_truth _ _ (λ w. sym (names_start path (ids_of ms)) ∙ sound t path id ms 0 0 path refl (within_start path) w)
      (λ p. complete ms 0 0 path (omega arith) refl (within_start path) one (names_start path (ids_of ms) ∙ p))

-- ---- where it does

-- in a path of IDs, whatever the masters
pub ids_one_way : (path : List PathPart) (parents : List ℕ) → only_ids path ≡ true → read_one_way path parents ≡ true
unfolding only_ids every read_one_way
ids_one_way [] parents o = refl
ids_one_way (Id x ∷ path) parents o = ids_one_way path parents o
ids_one_way (Global least most ∷ path) parents o = absurd (false≢true o)

-- so there it accepts the IDs of the path, and no others
pub accepted_ids : (t : List Entry) (path : List PathPart) (id : ℕ) (ms : List OpenTag) → only_ids path ≡ true
    → (walk_from true t path id 0 0 ms ≡ true) ↔ (map (λ (m : OpenTag). m.id) ms ≡ path_ids path)
accepted_ids t path id ms o =
    let e = walk_names_strictly t path id ms (ids_one_way path (ids_of ms) o) in
    let ids = names_ids path (ids_of ms) o in
    (λ w. ids.0 (accepted_named t path id ms w), λ q. e ∙ names_complete path (ids_of ms) (ids.1 q))

-- of parents that are different each is there at most once
different_once : (x : ℕ) (parents : List ℕ) → all_different parents ≡ true → at_most_once x parents ≡ true
unfolding all_different at_most_once
different_once x [] d = refl
different_once x (y ∷ parents) d =
    let b = both (not (any (eqb y) parents)) (all_different parents) d in
    go (eqb x y) refl b.left (different_once x parents b.right)
  where
    go : (b : Bool) → eqb x y ≡ b → not (any (eqb y) parents) ≡ true → at_most_once x parents ≡ true
        → cond b (not (any (eqb x) parents)) (at_most_once x parents) ≡ true
    go true q gone later = rw (eqb-true x y q) gone
    go false q gone later = later

-- in any path without two Globals side by side, where the masters are different from each other
pub different_one_way : (path : List PathPart) (parents : List ℕ) → globals_apart path ≡ true → all_different parents ≡ true → read_one_way path parents ≡ true
unfolding globals_apart read_one_way
different_one_way [] parents g d = refl
different_one_way (Id x ∷ path) parents g d = different_one_way path parents g d
different_one_way (Global least most ∷ []) parents g d = refl
different_one_way (Global least most ∷ Id x ∷ path) parents g d = and_both (different_once x parents d) (different_one_way path parents g d)
different_one_way (Global least most ∷ Global low high ∷ path) parents g d = absurd (false≢true g)

-- so there the strict walk is the RFC's test
pub walk_names_different : (t : List Entry) (path : List PathPart) (id : ℕ) (ms : List OpenTag) → globals_apart path ≡ true
    → all_different (map (λ (m : OpenTag). m.id) ms) ≡ true → walk_from true t path id 0 0 ms ≡ path_names path (map (λ (m : OpenTag). m.id) ms)
walk_names_different t path id ms g d = walk_names_strictly t path id ms (different_one_way path (ids_of ms) g d)
