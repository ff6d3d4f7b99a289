-- Where an element belongs in the strict mode: it leaves open the masters below those at the top that it ends, and
-- belongs where the walk along its path accepts them and it ends none of them. With a table that the check passes the
-- walk alone decides. An ID with a type and a path of IDs that belongs strictly belongs as ported. Assumes nothing.
use Prim.Native.Nat.{ℕ, ◌+◌, ◌-◌}
use mathlib.Core.Path.{◌≡◌, refl, sym, ap, ◌∙◌}
use mathlib.Core.Bool.{Bool, true, false, cond, false≢true, not, ◌&&◌, and-false}
use mathlib.Core.List.{List, [], ◌∷◌, ◌++◌, map, reverse, reverse-append, reverse-reverse, append-nil, append_assoc, nil≢cons, head-eq_of_cons-eq, tail-eq_of_cons-eq}
use mathlib.Core.Logic.{◌↔◌}
use native.Mathlib.Numerals.{add-one}
use lib.ListN.{length, take, drop, length-reverse, length-drop, take-append-drop}
use lib.Seq.{drop_at}
use Rattle.basics.specs.Lists.{every}
use Rattle.basics.proofs.Bools.{both, and_both}
use Rattle.basics.proofs.Every.{every_of, every_other, every_reversed}
use Rattle.table.specs.Table.{Entry, table_of, data_type_of, path_of, path_ids, is_typed}
use Rattle.table.specs.Check.{only_ids, check_table}
use Rattle.table.specs.declared.types.PathPart.{PathPart}
use Rattle.table.specs.declared.types.PathPart.TheVariants.{Id, Global}
use Rattle.spec_util.specs.Ended.{is_ended_in}
use Rattle.spec_util.specs.Walk.{unknown_and_ended, walk_master, go_on, walk_from, ended_tops, left_open, place_along, validate_tag_path}
use Rattle.spec_util.specs.Rfc8794.{path_names, read_one_way, stays_open}
use Rattle.spec_util.specs.declared.types.OpenTag.{OpenTag}
use Rattle.spec_util.specs.declared.types.Walk.{Walk}
use Rattle.spec_util.specs.declared.types.Walk.TheVariants.{Accept, Refuse, On}
use Rattle.spec_util.proofs.EndsByRfc.{ends_no_parent}
use Rattle.spec_util.proofs.WalkByRfc.{accepted_in_open}
use Rattle.spec_util.proofs.StrictEndings.{strictly_none, typed_as_ported, typed_unknown}
use Rattle.spec_util.proofs.StrictWalkByRfc.{walk_names_strictly, accepted_ids}
use Rattle.std.specs.Prelude.{Ok}

-- the ID does not end the master strictly
abbrev stays_strictly : List Entry → ℕ → OpenTag → Bool
stays_strictly t id m = not (unknown_and_ended true t m.known m.id id)

-- ---- the masters at the top

drop_reversed : {A : Type 0} (l : List A) (n : ℕ) → drop (length l - n) l ≡ reverse (take n (reverse l))
drop_reversed l n =
    let r = reverse l in
    let whole : l ≡ reverse (drop n r) ++ reverse (take n r) = sym (reverse-reverse l) ∙ ap reverse (sym (take-append-drop n r)) ∙ reverse-append (take n r) (drop n r) in
    ap (drop (length l - n)) whole ∙ drop_at (reverse (drop n r)) (reverse (take n r)) (length l - n) (simp (length-reverse, length-drop))

module _ (strict : Bool) (t : List Entry) (id : ℕ) where
  abbrev ends : OpenTag → Bool
  ends m = unknown_and_ended strict t m.known m.id id

  tops_ended : (l : List OpenTag) → every ends (take (ended_tops strict t id l) l) ≡ true
  unfolding ended_tops every
  tops_ended [] = refl
  tops_ended (m ∷ l) = go (ends m) refl (tops_ended l)
    where
      go : (b : Bool) → ends m ≡ b → every ends (take (ended_tops strict t id l) l) ≡ true → every ends (take (cond b (ended_tops strict t id l + 1) 0) (m ∷ l)) ≡ true
      go true q later = rw (add-one, q) later
      go false q later = refl

  -- it ends each master above those that it leaves open
  pub above_ended : (masters : List OpenTag)
      → every (λ (m : OpenTag). unknown_and_ended strict t m.known m.id id) (drop (length masters - ended_tops strict t id (reverse masters)) masters) ≡ true
  above_ended masters =
      let tops = reverse masters in
      rw drop_reversed (every_reversed ends (take (ended_tops strict t id tops) tops) (tops_ended tops))

-- ---- any table

module _ (t : List Entry) (id : ℕ) (ids : only_ids (path_of t id) ≡ true) (masters : List OpenTag) where
  -- an ID with a path of IDs belongs exactly where those left open are that path, and it ends none of them
  pub place_is : (validate_tag_path true t id masters ≡ true)
      ↔ ((map (λ (m : OpenTag). m.id) (left_open true t id masters) ≡ path_ids (path_of t id))
      × (every (λ (m : OpenTag). not (unknown_and_ended true t m.known m.id id)) (left_open true t id masters) ≡ true))
  unfolding validate_tag_path place_along
  place_is =
      let walk = accepted_ids t (path_of t id) id (left_open true t id masters) ids in
      (λ e. let b = both _ _ e in (walk.0 b.right, b.left), λ p. and_both p.1 (walk.1 p.0))

-- ---- strictly and as ported

module _ (t : List Entry) (path : List PathPart) (id : ℕ) where
  -- as ported, a walk accepts at once at a master that the ID ends
  accepts_more : (kept : List OpenTag) (m : OpenTag) (rest : List OpenTag) (marker counter : ℕ) → unknown_and_ended false t m.known m.id id ≡ true
      → walk_from false t path id marker counter kept ≡ true → walk_from false t path id marker counter (kept ++ m ∷ rest) ≡ true
  unfolding walk_from walk_master go_on
  accepts_more [] m rest marker counter e w = rw e
  accepts_more (k ∷ kept) m rest marker counter e w =
      go (walk_master false t path id k.id k.known marker counter) w (λ next so_far. accepts_more kept m rest next so_far e)
    where
      go : (w : Walk) → go_on w (λ next so_far. walk_from false t path id next so_far kept) ≡ true
          → ((next so_far : ℕ) → walk_from false t path id next so_far kept ≡ true → walk_from false t path id next so_far (kept ++ m ∷ rest) ≡ true)
          → go_on w (λ next so_far. walk_from false t path id next so_far (kept ++ m ∷ rest)) ≡ true
      go Accept w later = refl
      go Refuse w later = absurd (false≢true w)
      go (On next so_far) w later = later next so_far w

  accepts_above : (kept above : List OpenTag) → every (ends false t id) above ≡ true → walk_from false t path id 0 0 kept ≡ true
      → walk_from false t path id 0 0 (kept ++ above) ≡ true
  unfolding every
  accepts_above kept [] e w = rw append-nil w
  accepts_above kept (m ∷ above) e w = accepts_more kept m above 0 0 (both (ends false t id m) _ e).left w

module _ (t : List Entry) (id : ℕ) (typed : is_typed (data_type_of t id) ≡ true) (ids : only_ids (path_of t id) ≡ true) (masters : List OpenTag) where
  -- an ID with a type and a path of IDs that belongs strictly belongs as ported
  pub strictly_so_ported : validate_tag_path true t id masters ≡ true → validate_tag_path false t id masters ≡ true
  unfolding validate_tag_path place_along stays_open left_open
  strictly_so_ported e = rw take-append-drop at (accepts_above t (path_of t id) id left above above-too ((accepted_in_open t id left ids left-too).1 place.0))
    where
      left : List OpenTag
      left = left_open true t id masters

      above : List OpenTag
      above = drop (length masters - ended_tops true t id (reverse masters)) masters

      place : (map (λ (m : OpenTag). m.id) left ≡ path_ids (path_of t id)) × (every (stays_strictly t id) left ≡ true)
      place = (place_is t id ids masters).0 e

      left-too : every (stays_open t id) left ≡ true
      left-too =
          every_other (stays_strictly t id) (stays_open t id) (λ m s. sym (ap not (typed_unknown t id typed ids true m.known m.id)) ∙ s) left place.1

      above-too : every (ends false t id) above ≡ true
      above-too =
          every_other (ends true t id) (ends false t id) (λ m s. sym (typed_unknown t id typed ids true m.known m.id) ∙ s) above (above_ended true t id masters)

-- ---- a table that the check passes

module _ (es ps : List ℕ) where
  -- the table that the words are
  abbrev t : List Entry
  t = table_of es ps

  module _ (passed : check_table es ps ≡ (Ok tt)) (id : ℕ) where
    -- masters that are the path of an ID stay open before it
    path_stays : is_typed (data_type_of t id) ≡ true → only_ids (path_of t id) ≡ true → (ms : List OpenTag) (before after : List PathPart) → path_of t id ≡ before ++ after
        → only_ids after ≡ true → map (λ (m : OpenTag). m.id) ms ≡ path_ids after → every (stays_strictly t id) ms ≡ true
    unfolding every only_ids path_ids unknown_and_ended
    path_stays typed ids [] before after q o e = refl
    path_stays typed ids (m ∷ ms) before [] q o e = absurd (nil≢cons (sym e))
    path_stays typed ids (m ∷ ms) before (Id x ∷ after) q o e =
        let same : m.id ≡ x = head-eq_of_cons-eq e in
        let none : is_ended_in true t m.id id ≡ false = typed_as_ported t id typed ids true m.id ∙ rw same (ends_no_parent es ps passed id typed ids before x after q) in
        rw (none, and-false (not m.known))
        (path_stays typed ids ms (before ++ (Id x ∷ [])) after (q ∙ sym (append_assoc before (Id x ∷ []) after)) o (tail-eq_of_cons-eq e))
    path_stays typed ids (m ∷ ms) before (Global least most ∷ after) q o e = absurd (false≢true o)

    -- where the walk accepts masters, the ID ends none of them
    pub accepted_stay : (ms : List OpenTag) → walk_from true t (path_of t id) id 0 0 ms ≡ true
        → every (λ (m : OpenTag). not (unknown_and_ended true t m.known m.id id)) ms ≡ true
    unfolding unknown_and_ended is_ended_in
    accepted_stay ms w = go (is_typed (data_type_of t id) && only_ids (path_of t id)) refl
      where
        go : (b : Bool) → (is_typed (data_type_of t id) && only_ids (path_of t id)) ≡ b → every (stays_strictly t id) ms ≡ true
        go true q =
            let b = both (is_typed (data_type_of t id)) (only_ids (path_of t id)) q in
            path_stays b.left b.right ms [] (path_of t id) refl b.right ((accepted_ids t (path_of t id) id ms b.right).0 w)
        go false q = every_of (stays_strictly t id) ms (λ m _. rw (strictly_none t m.id id q, and-false (not m.known)))

    -- so the walk over those left open decides where it belongs
    pub place_by_walk : (masters : List OpenTag) → validate_tag_path true t id masters ≡ walk_from true t (path_of t id) id 0 0 (left_open true t id masters)
    unfolding validate_tag_path place_along
    place_by_walk masters = go (walk_from true t (path_of t id) id 0 0 (left_open true t id masters)) refl
      where
        go : (b : Bool) → walk_from true t (path_of t id) id 0 0 (left_open true t id masters) ≡ b
            → (every (stays_strictly t id) (left_open true t id masters) && walk_from true t (path_of t id) id 0 0 (left_open true t id masters))
            ≡ walk_from true t (path_of t id) id 0 0 (left_open true t id masters)
        go true q = rw (accepted_stay (left_open true t id masters) q)
        go false q = rw (q, and-false (every (stays_strictly t id) (left_open true t id masters)))

    -- exactly where the path names them, if the ID after a Global tells where the Global ends
    pub place_by_rfc : (masters : List OpenTag) → read_one_way (path_of t id) (map (λ (m : OpenTag). m.id) (left_open true t id masters)) ≡ true
        → validate_tag_path true t id masters ≡ path_names (path_of t id) (map (λ (m : OpenTag). m.id) (left_open true t id masters))
    place_by_rfc masters one = place_by_walk masters ∙ walk_names_strictly t (path_of t id) id (left_open true t id masters) one

    -- and exactly where they are its path, if that is all IDs
    pub place_by_path : only_ids (path_of t id) ≡ true → (masters : List OpenTag)
        → (validate_tag_path true t id masters ≡ true) ↔ (map (λ (m : OpenTag). m.id) (left_open true t id masters) ≡ path_ids (path_of t id))
    place_by_path ids masters =
        let e = place_by_walk masters in
        let walk = accepted_ids t (path_of t id) id (left_open true t id masters) ids in
        (λ v. walk.0 (sym e ∙ v), λ q. e ∙ walk.1 q)
