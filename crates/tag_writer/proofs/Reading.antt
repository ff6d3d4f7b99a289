-- The central induction: a run of elements that is well placed is read as its events, whatever stands after it, and
-- leaves the open masters as they were, with so many children more in the innermost. Assumes nothing.
use Prim.Native.Nat.{ℕ, suc, ◌+◌, ◌^◌, ◌≤◌, ◌<◌}
use mathlib.Core.Path.{◌≡◌, refl, sym, ap, subst, ◌∙◌}
use mathlib.Core.Bool.{Bool, true, false, false≢true, true≢false}
use mathlib.Core.List.{List, [], ◌∷◌, ◌++◌, map, append_assoc}
use mathlib.Core.Logic.{◌⊎◌, inl, inr}
use native.Mathlib.Omega.{arith}
use borrow.Author.Tests.{le-leb}
use lib.ListN.{length, drop, length-append, length-map}
use lib.Seq.{take-length, drop-length, drop_at, get_or_at}
use Rattle.basics.specs.Lists.{every}
use Rattle.basics.proofs.ArrayOf32.{filled_at}
use Rattle.basics.proofs.Bools.{both}
use Rattle.table.specs.Check.{check_table, only_ids}
use Rattle.table.specs.Shape.{good_shape}
use Rattle.table.specs.Table.{Entry, table_of, data_type_of, path_of, same_path, is_master, is_typed}
use Rattle.table.specs.declared.types.PathPart.TheVariants.{Id, Global}
use Rattle.table.specs.declared.types.TagDataType.{TagDataType}
use Rattle.table.specs.declared.types.TagDataType.TheVariants as type
use Rattle.table.proofs.Consequences.{master_of_ids_lem}
use Rattle.table.proofs.Passed.{passed_gives, answered}
use Rattle.table.proofs.Rules.{master_is}
use Rattle.table.proofs.Same.{path_same}
use Rattle.table.proofs.Shaped.{at_most_16}
use Rattle.spec_util.specs.Walk.{most_open, no_tag}
use Rattle.spec_util.specs.declared.types.OpenTag.{OpenTag}
use Rattle.tag_parse.specs.Header.{too_long, numeric}
use Rattle.tag_parse.specs.declared.types.EBMLSize.TheVariants.{Known}
use Rattle.tag_parse.specs.declared.types.Range.{Range}
use Rattle.decoder_rules.specs.Moving.{master_at}
use Rattle.decoder_rules.specs.OneCall.{is_full}
use Rattle.decoder_rules.specs.Record.{end_for, with_one_more, counted_last}
use Rattle.decoder_rules.specs.declared.types.Event.{Event}
use Rattle.decoder_rules.specs.declared.types.Event.TheVariants as event
use Rattle.decoder_rules.specs.declared.types.TagDecoder.{TagDecoder}
use Rattle.tag_writer.specs.Counts.{children_in}
use Rattle.tag_writer.specs.Document.{Value, Element, value, master, Run, none, then, payload, header_bytes, size_of_element, size_of_run, element_bytes, run_bytes}
use Rattle.tag_writer.specs.Items.{start, datum}
use Rattle.tag_writer.specs.ReadBack.{is_taken}
use Rattle.tag_writer.specs.Write.{anywhere, goes_in, good_element, good_run}
use Rattle.tag_writer.proofs.Asked.{asked_value, asked_master, asked_run}
use Rattle.tag_writer.proofs.Children.{once_more, times_more, with_count, more_length, more_ids, more_all, times_new}
use Rattle.tag_writer.proofs.Comes.{Comes, none_full, the_note, starts, holds}
use Rattle.tag_writer.proofs.Ends.{Stands, stands_clear, ends}
use Rattle.tag_writer.proofs.Lengths.{header_some, element_some, element_length, run_length}
use Rattle.tag_writer.proofs.Placing.{ids_of, either_of}
use Rattle.tag_writer.proofs.Standing.{standing, All, all_other, all_more, Reaching, reaching_less}
use Rattle.tag_writer.proofs.Telling.{TopKnown, started, ended, held, Tells, nothing, tells_more, tells_step}
use Rattle.tag_writer.proofs.ValueBack.{Fits, value_told, value_back, value_short, value_typed, not_numeric}
use Rattle.std.specs.Prelude.{Err, None, Ok, Result, ⊤}
use Rattle.table.specs.declared.types.TableError.TheVariants as fault
use Rattle.table.specs.declared.types.TableError.{TableError}

-- ---- the events of a document that begins at place p

-- the range of a payload of n bytes after a header of len bytes
abbrev pub range_at : ℕ → ℕ → ℕ → Range
range_at p len n = record { begin = p + len; end = p + (len + n) }

-- the events of an element and of a run; an End has the number of the master's children
unfoldable mutual
  pub element_events : ℕ → Element → List Event
  element_events p (value x v) =
      event.Data x p (value_told v (range_at p (length (header_bytes x (length (payload v)))) (length (payload v)))) ∷ []
  element_events p (master x r) =
      event.Start x p
      ∷ (run_events (p + length (header_bytes x (size_of_run r))) r ++ (event.End (record { id = x; offset = p; count = children_in r }) ∷ []))

  pub run_events : ℕ → Run → List Event
  run_events p none = []
  run_events p (then e r) = element_events p e ++ run_events (p + size_of_element e) r

-- ---- runs of calls

-- the calls from d on s give these events, take all but the rest, and leave the masters st, k of them as before, at the
-- place p
pub record Ran (strict : Bool) (es ps : List ℕ) (k p : ℕ) (st : List OpenTag) (evs : List Event) (d : TagDecoder) (s rest : List ℕ) : Type 0 where
  pub after : TagDecoder
  pub tells : Tells es ps evs k d s k after rest
  pub stands : Stands strict p st after

-- the masters have room for size bytes more
pub record Room (t : List Entry) (p size : ℕ) (st : List OpenTag) (s : List ℕ) : Type 0 where
  pub few : length st ≤ 17
  pub reach : All (Reaching t p (p + size)) st
  pub near : p + length s ≤ 2 ^ 62

-- every value is in range, and every mark taken
unfoldable mutual
  pub FitsElement : Bool → Element → Type 0
  FitsElement strict (value x v) = Fits v × (is_taken strict (datum x v) ≡ true)
  FitsElement strict (master x r) = (is_taken strict (start x) ≡ true) × FitsRun strict r

  pub FitsRun : Bool → Run → Type 0
  FitsRun strict none = Unit {0}
  FitsRun strict (then e r) = FitsElement strict e × FitsRun strict r

-- a type of the table is one
typed_of : (k : TagDataType) → (k ≡ type.Untyped → ⊥) → is_typed k ≡ true
unfolding is_typed
typed_of type.Untyped n = absurd (n refl)
typed_of type.Master n = refl
typed_of type.UnsignedInt n = refl
typed_of type.Integer n = refl
typed_of type.Utf8 n = refl
typed_of type.Binary n = refl
typed_of type.Float n = refl

-- every child has a byte, so a run has no more of them than bytes
children_few : (r : Run) → children_in r ≤ size_of_run r
unfolding children_in size_of_run
children_few none = omega arith
children_few (then e r) = omega (arith, element_some e, children_few r)

-- with one child more the masters reach as far, from a later place
reach_more : (t : List Entry) (p q lim l : ℕ) → p < q → l ≤ lim → (st : List OpenTag) → All (Reaching t p lim) st → All (Reaching t q l) (once_more st)
unfolding with_one_more
reach_more t p q lim l h k st a =
    more_all {P = Reaching t p lim} {Q = Reaching t q l}
    (reaching_less {t = t} {p = p} {q = q} {lim = lim} {l = l} (omega arith) k)
    (λ m r. record {
      known = r.known;
      start = omega (arith, r.start);
      count = omega (arith, r.count);
      size = r.size;
      reach = omega (arith, r.reach);
      master = r.master;
    })
    st a

-- all of these masters are on the stack
all_stand : (strict b : Bool) (p : ℕ) (st : List OpenTag) → (b ≡ false → st ≡ []) → Stands strict p st (standing strict b p st [])
all_stand strict b p st root = record {
  settled = b;
  k = length st;
  within = omega arith;
  outer = λ l. absurd (omega arith);
  root = root;
  is = rw (take-length st, drop-length st);
}

-- a master of known size is put on k others
new_top : {strict b : Bool} {p : ℕ} (st : List OpenTag) (m : OpenTag) (k : ℕ) → length st ≡ k → k < most_open → m.known ≡ true → TopKnown k (standing strict b p (st ++ (m ∷ [])) [])
new_top st m k e few known =
    let n : length (st ++ (m ∷ [])) ≡ suc k = omega (arith, length-append st (m ∷ [])) in
    record { count = n; few = few; known = rw (filled_at no_tag (st ++ (m ∷ [])) k no_tag (omega arith), get_or_at st m [] no_tag k e) known }

none_more : (st : List OpenTag) → st ≡ [] → once_more st ≡ []
unfolding counted_last
none_more st e = ap once_more e

module _ (es ps : List ℕ) (passed : check_table es ps ≡ (Ok tt)) (strict : Bool) where
  abbrev t : List Entry
  t = table_of es ps

  -- a table that passes its check has a good shape
  pub shape : good_shape es ps ≡ true
  shape = answered es ps (λ q. no (sym passed ∙ q))
    where
      no : ◌≡◌ {A = Result ⊤ TableError} (Ok tt) (Err fault.BadShape) → ⊥
      no e = let z : ◌≡◌ {A = ℕ} 0 1 = cc in omega arith

  -- ---- a value

  -- an element is read so: it is one child more in the innermost master
  abbrev Runs : Element → Type 0
  Runs e = (p : ℕ) (st : List OpenTag) (rest : List ℕ) (d : TagDecoder) → Stands strict p st d → good_element t (ids_of st) e ≡ true → FitsElement strict e
      → Room t p (size_of_element e) st (element_bytes e ++ rest)
      → Ran strict es ps (length st) (p + size_of_element e) (once_more st) (element_events p e) d (element_bytes e ++ rest) rest

  runs_value : (x : ℕ) (v : Value) → Runs (value x v)
  unfolding size_of_element element_bytes element_events FitsElement is_taken
  runs_value x v p st rest d a good fits room =
      let n = length (payload v) in
      let H = header_bytes x n in
      let g = asked_value t (ids_of st) x v good in
      let k = value_typed (data_type_of t x) v g.kind in
      let short = value_short (data_type_of t x) v g.kind in
      let taken = both _ _ fits.1 in
      let assoc : (H ++ payload v) ++ rest ≡ H ++ (payload v ++ rest) = append_assoc H (payload v) rest in
      let c : Comes strict t a.settled p st x n (payload v ++ rest) = record {
        back = g.back;
        form = taken.left;
        goes = g.goes;
        typed = typed_of (data_type_of t x) k.1;
        short = short;
        size = g.size;
        few = omega (arith, room.few);
        reach = room.reach;
        near = rw assoc at room.near;
        root = a.root;
      } in
      let some : 1 ≤ length H = header_some x n in
      let lim = p + (length H + n) in
      let clear = stands_clear a (none_full t p lim st (omega arith) room.reach) in
      let read = value_back strict (data_type_of t x) (range_at p (length H) n) v g.kind fits.0 taken.right (omega arith) in
      let note = the_note es ps shape strict a.settled p st x n (payload v ++ rest) c in
      let call = holds es ps shape strict a.settled p st x n (payload v ++ rest) c (payload v) rest (value_told v (range_at p (length H) n)) refl refl k.0 read in
      let left : drop (length H + n) (H ++ (payload v ++ rest)) ≡ rest =
      ap (drop (length H + n)) (sym assoc) ∙ drop_at (H ++ payload v) rest (length H + n) (length-append H (payload v)) in
      record {
        after = standing strict note.settled lim (once_more st) [];
        tells = rw (assoc, clear) (tells_step call (held (more_length st)) left nothing);
        stands = all_stand strict note.settled lim (once_more st) (λ f. none_more st (note.root f));
      }

  -- ---- a master

  -- a run is read so: its elements are so many children more in the innermost master
  abbrev RunsAll : Run → Type 0
  RunsAll r = (p : ℕ) (st : List OpenTag) (rest : List ℕ) (d : TagDecoder) → Stands strict p st d → good_run t (ids_of st) r ≡ true → FitsRun strict r
      → Room t p (size_of_run r) st (run_bytes r ++ rest)
      → Ran strict es ps (length st) (p + size_of_run r) (times_more (children_in r) st) (run_events p r) d (run_bytes r ++ rest) rest

  -- a master goes where its path of IDs says, so not deeper than 16
  master_path : (x : ℕ) (st : List OpenTag) → is_master (data_type_of t x) ≡ true → goes_in t (ids_of st) x ≡ true → (only_ids (path_of t x) ≡ true) × (length st ≤ 16)
  unfolding goes_in anywhere only_ids every
  master_path x st m g = (ids, short (either_of (same_path (path_of t x) (Global None None ∷ [])) (same_path (path_of t x) (map Id (ids_of st))) g))
    where
      ids : only_ids (path_of t x) ≡ true
      ids = master_of_ids_lem t (passed_gives es ps passed) x (master_is (data_type_of t x) m)

      short : (same_path (path_of t x) (Global None None ∷ []) ≡ true) ⊎ (same_path (path_of t x) (map Id (ids_of st)) ≡ true) → length st ≤ 16
      short (inl a) =
          let e : only_ids (Global None None ∷ []) ≡ true = ap only_ids (sym (path_same (path_of t x) (Global None None ∷ []) a)) ∙ ids in
          absurd (false≢true e)
      short (inr b) =
          let e = ap length (path_same (path_of t x) (map Id (ids_of st)) b) in
          omega (arith, at_most_16 es ps shape x, length-map (ids_of st) Id, length-map st (λ (m : OpenTag). m.id))

  ids_last : (st : List OpenTag) (m : OpenTag) → ids_of (st ++ (m ∷ [])) ≡ ids_of st ++ (m.id ∷ [])
  ids_last [] m = refl
  ids_last (y ∷ st) m = ap (λ (l : List ℕ). y.id ∷ l) (ids_last st m)

  runs_master : (x : ℕ) (r : Run) → RunsAll r → Runs (master x r)
  unfolding size_of_element element_bytes element_events FitsElement is_taken is_full end_for
  runs_master x r kids p st rest d a good fits room =
      let n = size_of_run r in
      let H = header_bytes x n in
      let g = asked_master t (ids_of st) x r good in
      let kind = master_is (data_type_of t x) g.kind in
      let deep = master_path x st g.kind g.goes in
      let short : too_long (data_type_of t x) n ≡ false = not_numeric (data_type_of t x) n (ap numeric kind) in
      let assoc : (H ++ run_bytes r) ++ rest ≡ H ++ (run_bytes r ++ rest) = append_assoc H (run_bytes r) rest in
      let c : Comes strict t a.settled p st x n (run_bytes r ++ rest) = record {
        back = g.back;
        form = fits.0;
        goes = g.goes;
        typed = typed_of (data_type_of t x) (λ u. no_master_lem (sym kind ∙ u));
        short = short;
        size = g.size;
        few = omega (arith, room.few);
        reach = room.reach;
        near = rw assoc at room.near;
        root = a.root;
      } in
      let some : 1 ≤ length H = header_some x n in
      let clear = stands_clear a (none_full t p (p + (length H + n)) st (omega arith) room.reach) in
      let note = the_note es ps shape strict a.settled p st x n (run_bytes r ++ rest) c in
      let call = starts es ps shape strict a.settled p st x n (run_bytes r ++ rest) c g.kind in
      let q = p + length H in
      let m : OpenTag = master_at x (Known n) p (length H) in
      let full-m : OpenTag = with_count (children_in r) m in
      let outer = once_more st in
      let inner = outer ++ (m ∷ []) in
      let set : note.settled ≡ true = note.by_ids deep.0 in
      let as_many : length outer ≡ length st = more_length st in
      let len : length inner ≡ length outer + 1 = length-append outer (m ∷ []) in
      let around : (place : ℕ) → q ≤ place → All (Reaching t place (q + n)) outer =
      λ place h. reach_more t p place (p + (length H + n)) (q + n) (omega arith) (omega arith) st room.reach in
      let far : p + length (H ++ (run_bytes r ++ rest)) ≤ 2 ^ 62 = rw assoc at room.near in
      let ids : ids_of inner ≡ ids_of st ++ (x ∷ []) = ids_last outer m ∙ ap (λ (l : List ℕ). l ++ (x ∷ [])) (more_ids st) in
      let one = kids q inner rest (standing strict note.settled q inner [])
      (all_stand strict note.settled q inner (λ f. absurd (true≢false (sym set ∙ f))))
      (rw ids g.children) fits.1
      (record {
        few = omega (arith, deep.1);
        reach = all_more (Reaching t q (q + n)) outer m (around q (omega arith)) (record { known = refl; start = omega arith; count = omega arith; size = g.size; reach = omega arith; master = g.kind });
        near = omega (arith, length-append H (run_bytes r ++ rest));
      }) in
      let grown : times_more (children_in r) inner ≡ outer ++ (full-m ∷ []) = times_new (children_in r) outer m refl in
      let standing-now = subst (λ (l : List OpenTag). Stands strict (q + n) l one.after) grown one.stands in
      let few-children = children_few r in
      let full : is_full (q + n) full-m ≡ true = le-leb (q + n) (q + n) (omega arith) in
      let last = ends es ps shape strict (q + n) (q + n) outer full-m rest (omega (arith, deep.1))
      (omega (arith, length-append H (run_bytes r ++ rest), length-append (run_bytes r) rest, run_length r)) full
      (all_more (Reaching t (q + n) (q + n)) outer full-m (around (q + n) (omega arith))
      (record { known = refl; start = omega arith; count = omega arith; size = g.size; reach = omega arith; master = g.kind }))
      standing-now in
      let left : drop (length H) (H ++ (run_bytes r ++ rest)) ≡ run_bytes r ++ rest = drop_at H (run_bytes r ++ rest) (length H) refl in
      let one_more : length inner ≡ suc (length st) = omega arith in
      let inside = subst (λ (k : ℕ). Tells es ps (run_events q r) k (standing strict note.settled q inner []) (run_bytes r ++ rest) k one.after rest) one_more one.tells in
      let place : q + n ≡ p + (length H + n) = omega arith in
      record {
        after = last.0;
        tells = rw (assoc, clear) (tells_step call (started (new_top outer m (length st) as_many (omega (arith, deep.1)) refl)) left (tells_more inside (tells_step last.1 ended refl nothing)));
        stands = subst (λ (y : ℕ). Stands strict y outer last.0) place last.2;
      }
    where
      no_master_lem : type.Master ≡ type.Untyped → ⊥
      no_master_lem e = let z : ◌≡◌ {A = ℕ} 0 1 = cc in omega arith

  -- ---- a run, and the two together

  runs_then : (e : Element) (r : Run) → Runs e → RunsAll r → RunsAll (then e r)
  unfolding size_of_element element_bytes element_events FitsRun children_in times_more
  runs_then e r first others p st rest d a good fits room =
      let g = asked_run t (ids_of st) e r good in
      let E = element_bytes e in
      let n = size_of_element e in
      let some : 1 ≤ n = element_some e in
      let assoc : (E ++ run_bytes r) ++ rest ≡ E ++ (run_bytes r ++ rest) = append_assoc E (run_bytes r) rest in
      let far : p + length (E ++ (run_bytes r ++ rest)) ≤ 2 ^ 62 = rw assoc at room.near in
      let as_many : length (once_more st) ≡ length st = more_length st in
      let one = first p st (run_bytes r ++ rest) d a g.0 fits.0
      (record {
        few = room.few;
        reach = all_other (reaching_less {p = p} {q = p} {lim = p + (n + size_of_run r)} {l = p + n} (omega arith) (omega arith)) st room.reach;
        near = far;
      }) in
      let two = others (p + n) (once_more st) rest one.after one.stands (rw (more_ids st) g.1) fits.1
      (record {
        few = omega (arith, room.few);
        reach = reach_more t p (p + n) (p + (n + size_of_run r)) (p + n + size_of_run r) (omega arith) (omega arith) st room.reach;
        near = omega (arith, length-append E (run_bytes r ++ rest), element_length e);
      }) in
      let others-tell = subst (λ (k : ℕ). Tells es ps (run_events (p + n) r) k one.after (run_bytes r ++ rest) k two.after rest) as_many two.tells in
      let place : p + n + size_of_run r ≡ p + (n + size_of_run r) = omega arith in
      record {
        after = two.after;
        tells = rw assoc (tells_more one.tells others-tell);
        stands = subst (λ (y : ℕ). Stands strict y (times_more (children_in r) (once_more st)) two.after) place two.stands;
      }

  runs_none : RunsAll none
  unfolding size_of_run run_bytes run_events children_in times_more
  runs_none p st rest d a good fits room =
      let place : p ≡ p + 0 = omega arith in
      record { after = d; tells = nothing; stands = subst (λ (y : ℕ). Stands strict y st d) place a }

  mutual
    -- an element that is well placed is read as its events
    pub runs_element : (e : Element) → Runs e
    runs_element (value x v) = runs_value x v
    runs_element (master x r) = runs_master x r (runs_run r)

    -- so is a run
    pub runs_run : (r : Run) → RunsAll r
    runs_run none = runs_none
    runs_run (then e r) = runs_then e r (runs_element e) (runs_run r)
