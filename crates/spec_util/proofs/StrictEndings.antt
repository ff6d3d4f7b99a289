-- Who ends whom in the strict mode. Of a Master of a table that the check passes it is RFC 8794's section 6.2, with no
-- exception. Of any table, an ID with a type and a path of IDs ends in both modes the same masters, and what ends a
-- master strictly ends it as ported. Assumes nothing.
use Prim.Native.Nat.{ℕ, ◌+◌, ◌-◌}
use mathlib.Core.Path.{◌≡◌, refl, sym, ap, ap₂, ◌∙◌}
use mathlib.Core.Bool.{Bool, true, false, cond, not, ◌&&◌}
use mathlib.Core.List.{List, [], ◌∷◌, reverse}
use mathlib.Core.Logic.{◌↔◌}
use lib.ListN.{length, take}
use Rattle.basics.proofs.Bools.{both, and_both, same_truth}
use Rattle.table.specs.Table.{Entry, table_of, data_type_of, path_of, is_typed}
use Rattle.table.specs.Check.{only_ids, check_table}
use Rattle.table.specs.declared.types.TagDataType.TheVariants.{Master}
use Rattle.spec_util.specs.Ended.{is_ended_by, is_ended_strictly, is_ended_in}
use Rattle.spec_util.specs.Walk.{unknown_and_ended, ended_tops, left_open}
use Rattle.spec_util.specs.Rfc8794.{EndsUnknownSize, is_ended_by_rfc}
use Rattle.spec_util.specs.declared.types.OpenTag.{OpenTag}
use Rattle.spec_util.proofs.EndsByRfc.{rfc_sound, rfc_complete, rfc_as_ended}
use Rattle.std.specs.Prelude.{Ok}

-- ---- any table

module _ (t : List Entry) (master id : ℕ) where
  -- what ends a master strictly ends it as ported
  pub strictly_ends : is_ended_strictly t master id ≡ true → is_ended_by t master id ≡ true
  unfolding is_ended_strictly
  strictly_ends e = (both (is_typed (data_type_of t id) && only_ids (path_of t id)) _ e).right

  -- an ID without type, or with a Global in its path, ends nothing strictly
  pub strictly_none : (is_typed (data_type_of t id) && only_ids (path_of t id)) ≡ false → is_ended_strictly t master id ≡ false
  unfolding is_ended_strictly
  strictly_none e = rw e

module _ (t : List Entry) (id : ℕ) (typed : is_typed (data_type_of t id) ≡ true) (ids : only_ids (path_of t id) ≡ true) where
  -- an ID with a type and a path of IDs ends in both modes what the port's rule says
  pub typed_as_ported : (strict : Bool) (master : ℕ) → is_ended_in strict t master id ≡ is_ended_by t master id
  unfolding is_ended_in is_ended_strictly
  typed_as_ported true master = rw (typed, ids)
  typed_as_ported false master = refl

  -- so of the open masters the same
  pub typed_unknown : (strict known : Bool) (master : ℕ) → unknown_and_ended strict t known master id ≡ unknown_and_ended false t known master id
  unfolding unknown_and_ended
  typed_unknown strict known master =
      ap (λ (b : Bool). not known && b) (typed_as_ported strict master ∙ sym (typed_as_ported false master))

  -- as many at the top
  pub typed_tops : (strict : Bool) (l : List OpenTag) → ended_tops strict t id l ≡ ended_tops false t id l
  unfolding ended_tops
  typed_tops strict [] = refl
  typed_tops strict (m ∷ l) =
      ap₂ (λ (b : Bool) (n : ℕ). cond b (n + 1) 0) (typed_unknown strict m.known m.id) (typed_tops strict l)

  -- and the same stay open
  pub typed_left : (strict : Bool) (masters : List OpenTag) → left_open strict t id masters ≡ left_open false t id masters
  unfolding left_open
  typed_left strict masters = ap (λ (n : ℕ). take (length masters - n) masters) (typed_tops strict (reverse masters))

-- ---- a Master of a table that the check passes

module _ (es ps : List ℕ) where
  -- the table that the words are
  abbrev t : List Entry
  t = table_of es ps

  module _ (passed : check_table es ps ≡ (Ok tt)) (master id : ℕ) (m : data_type_of t master ≡ Master) where
    -- the strict test is the RFC's
    pub strictly_tested : is_ended_strictly t master id ≡ is_ended_by_rfc t master id
    unfolding is_ended_strictly is_ended_by_rfc
    strictly_tested = same_truth _ _ to from
      where
        ported : is_ended_by_rfc t master id ≡ (is_typed (data_type_of t id) && is_ended_by t master id)
        ported = rfc_as_ended es ps passed master id m

        to : is_ended_strictly t master id ≡ true → is_ended_by_rfc t master id ≡ true
        to e =
            let b = both (is_typed (data_type_of t id) && only_ids (path_of t id)) (is_ended_by t master id) e in
            ported ∙ and_both (both (is_typed (data_type_of t id)) (only_ids (path_of t id)) b.left).left b.right

        from : is_ended_by_rfc t master id ≡ true → is_ended_strictly t master id ≡ true
        from e =
            and_both (both (is_typed (data_type_of t id) && only_ids (path_of t id)) _ e).left
            (both (is_typed (data_type_of t id)) (is_ended_by t master id) (sym ported ∙ e)).right

    -- so an ID ends a Master strictly exactly where it does by the RFC
    pub strictly_as_rfc : (is_ended_strictly t master id ≡ true) ↔ EndsUnknownSize t master id
    strictly_as_rfc =
        (λ e. rfc_sound t master id (sym strictly_tested ∙ e), λ r. strictly_tested ∙ rfc_complete t master id r)
