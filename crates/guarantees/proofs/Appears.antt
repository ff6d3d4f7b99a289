-- Each entry of a checked table can appear. As the first element of an input its header settles a fresh decoder to its
-- path, so that it stands in its place, or settles nothing and needs none. Where its parents are written out, each of
-- them starts in its place and puts the next one in its own. Assumes nothing.
use Prim.Native.Nat.{ℕ, suc, ◌+◌, ◌*◌, ◌≤◌, ◌<◌}
use mathlib.Core.Path.{◌≡◌, refl, sym, ap, ◌∙◌, subst}
use mathlib.Core.Bool.{Bool, true, false, and-false, false≢true}
use mathlib.Core.List.{List, [], ◌∷◌, ◌++◌, append_assoc, append-nil, Memᴰ}
use native.Mathlib.Omega.{arith}
use lib.ListN.{length, drop, length-append}
use lib.Seq.{drop-append-add}
use Rattle.basics.specs.Lists.{every}
use Rattle.basics.proofs.Bools.{cond_no}
use Rattle.basics.proofs.Every.{every_front}
use Rattle.table.specs.BenchTable.{bench_entries, bench_parts}
use Rattle.tools.specs.ElementId.{element_id_length, id_bytes}
use Rattle.tools.proofs.Computing.{numbers_compute}
use Rattle.table.specs.Check.{check_table, allowed_id, is_id, only_ids}
use Rattle.table.specs.Passed.{at}
use Rattle.table.specs.Table.{Entry, table_of, entry_for, data_type_of, path_of, path_ids, is_master, is_typed}
use Rattle.table.specs.declared.types.PathPart.{PathPart}
use Rattle.table.specs.declared.types.PathPart.TheVariants.{Id, Global}
use Rattle.table.specs.declared.types.TagDataType.TheVariants.{Master, UnsignedInt}
use Rattle.table.proofs.Consequences.{entry_counts, typed_allowed, path_masters, prefix_path}
use Rattle.table.proofs.Entries.{typed_at}
use Rattle.table.proofs.Examples.{checks}
use Rattle.table.proofs.Passed.{passed_gives}
use Rattle.table.proofs.Shaped.{at_most_16}
use Rattle.tag_parse.specs.Header.{IsId}
use Rattle.tag_parse.specs.declared.types.EBMLSize.TheVariants.{Known}
use Rattle.tag_parse.specs.declared.types.TagHeader.{TagHeader}
use Rattle.tag_parse.specs.declared.types.TagValue.TheVariants as value
use Rattle.tag_parse.proofs.ElementIds.{accepted_octets}
use Rattle.tag_parse.proofs.Ids.{id_at_most_8}
use Rattle.decoder_rules.specs.Moving.{decode}
use Rattle.decoder_rules.specs.OneCall.{settles, step7, noted}
use Rattle.decoder_rules.specs.Record.{farthest, opens, fresh}
use Rattle.decoder_rules.specs.Run.{in_a_row, decode_calls}
use Rattle.decoder_rules.specs.declared.types.Answer.TheVariants as answer
use Rattle.decoder_rules.specs.declared.types.Event.{Event}
use Rattle.decoder_rules.specs.declared.types.Event.TheVariants.{Start, Data}
use Rattle.decoder_rules.specs.declared.types.TagDecoder.{TagDecoder}
use Rattle.decoder_rules.proofs.MoveEffects.{fresh_arrays}
use Rattle.decoder_rules.proofs.MovesKeepGoodState.{fresh_good}
use Rattle.guarantees.specs.Appearing.{empty_element, in_parents, empty_event, tells, header_length, calls_in_parents, AppearsInParents, Appears}
use Rattle.guarantees.proofs.AnyCalls.{good_shape_lem}
use Rattle.guarantees.proofs.InPlace.{header_with, ids_of, Calm, Ready, Tells, element_told, ids_length, Before, placed, ready, Opens, master_told}
use Rattle.std.specs.Prelude.{Ok}

-- a fresh record is calm
fresh_calm : Calm fresh
unfolding every
fresh_calm = record { arrays = fresh_arrays; good = fresh_good; settings = refl; none_waiting = refl; unfinished = refl; sizes = refl }

-- and can settle to any path
fresh_before : (t : List Entry) (x : ℕ) → Before t fresh x
fresh_before t x = record { calm = fresh_calm; masters = λ s. absurd (false≢true s) }

-- ---- the first element of an input

-- what the check passes has the octets of an ID
written : (es ps : List ℕ) → check_table es ps ≡ Ok tt → (x : ℕ) → is_typed (data_type_of (table_of es ps) x) ≡ true → IsId x (element_id_length x) (id_bytes x)
unfolding is_typed allowed_id
written es ps checked x typed =
    accepted_octets x
    (typed_allowed (table_of es ps) (passed_gives es ps checked) x (λ u. false≢true (sym (ap is_typed u) ∙ typed)))

module _ (es ps : List ℕ) (checked : check_table es ps ≡ (Ok tt)) (x : ℕ) (typed : is_typed (data_type_of (table_of es ps) x) ≡ true) where
  -- it is ready to be read, in its place or where nothing settles
  first_ready : Ready (table_of es ps) (noted ps fresh (step7 (table_of es ps) fresh (header_with (table_of es ps) x (element_id_length x) (Known 0)))) x
  unfolding noted every
  first_ready = go (only_ids (path_of t x)) refl
    where
      t : List Entry
      t = table_of es ps

      h : TagHeader
      h = header_with t x (element_id_length x) (Known 0)

      go : (b : Bool) → only_ids (path_of t x) ≡ b → Ready t (noted ps fresh (step7 t fresh h)) x
      go true ids = ready es ps checked x typed ids _ (placed es ps checked x typed ids fresh (element_id_length x) (Known 0) (fresh_before t x))
      go false ids =
          rw (cond_no (settles t fresh h) _ _ (rw ids (and-false (is_typed (data_type_of t x)))))
          (record { calm = fresh_calm; room = omega arith; stay = refl; walked = λ s. absurd (false≢true s) })

  -- so its event is answered
  first_told : Tells (decode es ps fresh (empty_element x)) (empty_event (data_type_of (table_of es ps) x) x 0 (header_length x)) (header_length x)
  first_told =
      let i = written es ps checked x typed in
      element_told es ps (good_shape_lem es ps checked) x (element_id_length x) (id_bytes x) i typed fresh fresh_calm []
      (omega (arith, length-append (id_bytes x) (0x80 ∷ []), i.count, id_at_most_8 i)) first_ready

-- ---- in its parents

-- the IDs of two paths, one after the other
ids_append : (a b : List PathPart) → path_ids (a ++ b) ≡ path_ids a ++ path_ids b
unfolding path_ids
ids_append [] b = refl
ids_append (Id x ∷ a) b = ap (λ (l : List ℕ). x ∷ l) (ids_append a b)
ids_append (Global least most ∷ a) b = ids_append a b

module _ (es ps : List ℕ) (d : TagDecoder) (s : List ℕ) {e : Event} {k : ℕ} (told : Tells (decode es ps d s) e k) where
  -- a call that tells an event is followed by those on what it left
  row_goes_on : (n : ℕ) → (decode_calls (suc n) es ps d s).calls ≡ tells e k ∷ (decode_calls n es ps (decode es ps d s).state (drop k s)).calls
  unfolding in_a_row
  row_goes_on n = rw (told.answer, told.taken)

  -- or is the last
  row_ends : (decode_calls 1 es ps d s).calls ≡ tells e k ∷ []
  unfolding in_a_row
  row_ends = row_goes_on 0

module _ (es ps : List ℕ) (checked : check_table es ps ≡ (Ok tt)) (x : ℕ)
    (typed : is_typed (data_type_of (table_of es ps) x) ≡ true) (ids : only_ids (path_of (table_of es ps) x) ≡ true) where
  -- what stands in the path of x after `before`: a Master whose path that is
  record Parent (before : List PathPart) (y : ℕ) : Type 0 where
    master : data_type_of (table_of es ps) y ≡ Master
    own : path_of (table_of es ps) y ≡ before
    octets : IsId y (element_id_length y) (id_bytes y)

  -- by rules 34 and 35
  parent : (before : List PathPart) (y : ℕ) (rest : List PathPart) → path_of (table_of es ps) x ≡ before ++ Id y ∷ rest → Parent before y
  unfolding only_ids is_typed
  parent before y rest q =
      let rules = passed_gives es ps checked in
      let member : Memᴰ (Id y) (path_of (table_of es ps) x) = rw q (mathlib.Core.List.Memᴰ.append_right before (mathlib.Core.List.Memᴰ.head refl)) in
      let master = path_masters (table_of es ps) rules x y member in
      record {
        master = master;
        own = prefix_path (table_of es ps) rules x before y rest q (every_front is_id before (Id y ∷ rest) (rw q at ids));
        octets = written es ps checked y (ap is_typed master);
      }

  -- the calls on what is left, on a record whose open masters, if it is settled, are the parents before
  calls_in_parents_lem : (before rest : List PathPart) → path_of (table_of es ps) x ≡ before ++ rest → only_ids rest ≡ true → (d : TagDecoder) → Calm d
      → (d.settled ≡ true → ids_of (opens d) ≡ path_ids before) → d.position + length (in_parents (path_ids rest) x) ≤ farthest
      → (decode_calls (length (path_ids rest) + 1) es ps d (in_parents (path_ids rest) x)).calls
      ≡ calls_in_parents (data_type_of (table_of es ps) x) d.position (path_ids rest) x
  unfolding in_parents calls_in_parents path_ids only_ids every
  calls_in_parents_lem before [] q o d calm above near =
      let t = table_of es ps in
      let path : path_of t x ≡ before = q ∙ append-nil before in
      let stands : Before t d x = record { calm = calm; masters = λ s. above s ∙ ap path_ids (sym path) } in
      let p = placed es ps checked x typed ids d (element_id_length x) (Known 0) stands in
      let told = element_told es ps (good_shape_lem es ps checked) x (element_id_length x) (id_bytes x) (written es ps checked x typed) typed d calm [] near (ready es ps checked x typed ids _ p) in
      row_ends es ps d (empty_element x) told
  calls_in_parents_lem before (Id y ∷ rest) q o d calm above near =
      let t = table_of es ps in
      let len = header_length y in
      let left = in_parents (path_ids rest) x in
      let s = id_bytes y ++ 0xFF ∷ left in
      let p = parent before y rest q in
      let stands : Before t d y = record { calm = calm; masters = λ s. above s ∙ ap path_ids (sym p.own) } in
      let r : Opens t d.position (decode es ps d s) y len = master_told es ps checked y (element_id_length y) (id_bytes y) p.octets p.master d left stands near in
      let count : suc (length (path_ids rest)) + 1 ≡ suc (length (path_ids rest) + 1) = omega arith in
      let count_of = p.octets.count in
      let back : drop len s ≡ left = rw count_of at (drop-append-add (id_bytes y) (0xFF ∷ left) 1) in
      let inside = r.masters ∙ ap (λ (l : List PathPart). path_ids l ++ (y ∷ [])) p.own ∙ sym (ids_append before (Id y ∷ [])) in
      let others =
      calls_in_parents_lem (before ++ (Id y ∷ [])) rest (q ∙ sym (append_assoc before (Id y ∷ []) rest)) o (decode es ps d s).state r.calm (λ _. inside)
      (omega (arith, r.place, length-append (id_bytes y) (0xFF ∷ left))) in
      rw (count, row_goes_on es ps d s r.told (length (path_ids rest) + 1), back, others, r.place)
  calls_in_parents_lem before (Global least most ∷ rest) q o d calm above near = absurd (false≢true o)

  -- at most 9 bytes for each parent and for the element
  in_reach : (before rest : List PathPart) → path_of (table_of es ps) x ≡ before ++ rest → only_ids rest ≡ true → length (in_parents (path_ids rest) x) ≤ 9 * (length rest + 1)
  unfolding in_parents path_ids only_ids every
  in_reach before [] q o =
      let i = written es ps checked x typed in
      omega (arith, length-append (id_bytes x) (0x80 ∷ []), i.count, id_at_most_8 i)
  in_reach before (Id y ∷ rest) q o =
      let later = in_reach (before ++ (Id y ∷ [])) rest (q ∙ sym (append_assoc before (Id y ∷ []) rest)) o in
      let i = (parent before y rest q).octets in
      omega (arith, length-append (id_bytes y) (0xFF ∷ in_parents (path_ids rest) x), i.count, id_at_most_8 i)
  in_reach before (Global least most ∷ rest) q o = absurd (false≢true o)

  -- so from a fresh decoder on
  place_told : (decode_calls (length (path_of (table_of es ps) x) + 1) es ps fresh (in_parents (path_ids (path_of (table_of es ps) x)) x)).calls
      ≡ calls_in_parents (data_type_of (table_of es ps) x) 0 (path_ids (path_of (table_of es ps) x)) x
  place_told =
      let path = path_of (table_of es ps) x in
      let near = in_reach [] path refl ids in
      rw (← ids_length path ids) (calls_in_parents_lem [] path refl ids fresh fresh_calm (λ s. absurd (false≢true s)) (omega (arith, near, at_most_16 es ps (good_shape_lem es ps checked) x)))

-- ---- every entry

-- each entry of a table that the check passes can appear
pub appears : (es ps : List ℕ) → check_table es ps ≡ Ok tt → Appears es ps
appears es ps checked = record {
  alone = λ i h.
      (first_told es ps checked (at t i).id (typed i h)).answer
      ∙ ap (λ (e : Entry). Ok (answer.Event (empty_event e.kind (at t i).id 0 (header_length (at t i).id)))) (counts i h);
  in_parents_lem = λ i h ids.
      subst (λ (e : Entry). AppearsInParents es ps (record { id = (at t i).id; kind = e.kind; path = e.path; range = e.range })) (counts i h)
      (place_told es ps checked (at t i).id (typed i h) (ap (λ (e : Entry). only_ids e.path) (counts i h) ∙ ids));
}
  where
    t : List Entry
    t = table_of es ps

    counts : (i : ℕ) → i < length t → entry_for t (at t i).id ≡ at t i
    counts i h = entry_counts t (passed_gives es ps checked) i h

    typed : (i : ℕ) → i < length t → is_typed (data_type_of t (at t i).id) ≡ true
    typed i h = ap (λ (e : Entry). is_typed e.kind) (counts i h) ∙ typed_at es ps i h

-- so each of document 01's bench table
pub bench_appears : Appears bench_entries bench_parts
bench_appears = appears bench_entries bench_parts checks.bench_passes

-- Amount in Feed in Session, in bytes and as it is told
pub record AmountAppears : Type 0 where
  pub written : in_parents (0x4E01 ∷ 0xA1 ∷ []) 0xA2 ≡ 0x4E ∷ 0x01 ∷ 0xFF ∷ 0xA1 ∷ 0xFF ∷ 0xA2 ∷ 0x80 ∷ []
  pub told : calls_in_parents UnsignedInt 0 (0x4E01 ∷ 0xA1 ∷ []) 0xA2
      ≡ tells (Start 0x4E01 0) 3 ∷ tells (Start 0xA1 3) 2 ∷ tells (Data 0xA2 5 (value.UnsignedInt 0)) 2 ∷ []

-- computed
pub amount_appears : AmountAppears
unfolding in_parents calls_in_parents is_master numbers_compute
amount_appears = record { written = refl; told = refl }
