-- One element where it belongs: on a record whose open masters are of unknown size and are the parents that its path
-- names, an element that holds nothing is answered by its event, and a Master of unknown size by its Start, after which
-- the record is such a one for what belongs in that master. Assumes nothing.
use Prim.Native.Nat.{ℕ, ◌+◌, ◌≤◌, ◌<◌}
use mathlib.Core.Path.{◌≡◌, refl, sym, ap, ◌∙◌, subst}
use mathlib.Core.Bool.{Bool, true, false, not, ◌&&◌, ◌||◌, and-false, or-true, false≢true}
use mathlib.Core.List.{List, [], ◌∷◌, ◌++◌, map, reverse, map-append, append_assoc, head-eq_of_cons-eq, tail-eq_of_cons-eq, nil≢cons}
use borrow.Author.Tests.{le-leb}
use native.Mathlib.Nat.{add-zero}
use native.Mathlib.Omega.{arith}
use lib.Dec.{ltb}
use lib.ListN.{length, take, drop, length-append, length-map}
use lib.Seq.{take_at, drop_at}
use Rattle.basics.specs.Lists.{every, first_index}
use Rattle.basics.proofs.Bools.{both, and_both, cond_yes, cond_no, not-false}
use Rattle.basics.proofs.Every.{every_append, every_other, every_reversed}
use Rattle.tools.specs.Bytes.{be_from, be_bytes}
use Rattle.tools.specs.Integer.{integer_of}
use Rattle.tools.specs.Vint.{IsVint, read_vint}
use Rattle.tools.proofs.Rfc8794.{written_is, read_complete}
use Rattle.utf8.specs.Rfc3629.{text_after}
use Rattle.table.specs.Check.{check_table, only_ids}
use Rattle.table.specs.Shape.{good_shape}
use Rattle.table.specs.Table.{Entry, table_of, spec_for, data_type_of, path_of, range_of, path_ids, is_master, is_typed}
use Rattle.table.specs.declared.types.PathPart.{PathPart}
use Rattle.table.specs.declared.types.PathPart.TheVariants.{Id, Global}
use Rattle.table.specs.declared.types.TagDataType.{TagDataType}
use Rattle.table.specs.declared.types.TagDataType.TheVariants as type
use Rattle.table.proofs.Consequences.{master_of_ids_lem}
use Rattle.table.proofs.Entries.{path_in}
use Rattle.table.proofs.Passed.{passed_gives}
use Rattle.table.proofs.Shaped.{at_most_16}
use Rattle.spec_util.specs.Ended.{is_ended_by, is_ended_in}
use Rattle.spec_util.specs.Rfc8794.{stays_open}
use Rattle.spec_util.specs.Walk.{most_open, open_tag, unknown_and_ended, ended_tops, validate_tag_path}
use Rattle.spec_util.specs.declared.types.OpenTag.{OpenTag}
use Rattle.spec_util.proofs.EndsByRfc.{ends_no_parent}
use Rattle.spec_util.proofs.WalkByRfc.{accepted_in_open}
use Rattle.tag_parse.specs.Header.{numeric, too_long, size_of, header_of, sized_by, sized, read_header, IsId}
use Rattle.tag_parse.specs.Payload.{value_of}
use Rattle.tag_parse.specs.declared.types.EBMLSize.{EBMLSize}
use Rattle.tag_parse.specs.declared.types.EBMLSize.TheVariants.{Known, Unknown}
use Rattle.tag_parse.specs.declared.types.TagHeader.{TagHeader}
use Rattle.tag_parse.proofs.Cases.{header_sized, not_long, long_by_kind}
use Rattle.tag_parse.proofs.Ids.{id_complete}
use Rattle.decoder_rules.specs.Moving.{move, apply, decode}
use Rattle.decoder_rules.specs.OneCall.{good_open, good_form, check10to12, check_record10to12, check13, is_full, settles, step7, noted, step8, reaches, fits_inside, step9}
use Rattle.decoder_rules.specs.Record.{farthest, opens, first_settings, at_position, implied, settled_to, with_one_more, counted, opened}
use Rattle.decoder_rules.specs.declared.types.Action.{Action}
use Rattle.decoder_rules.specs.declared.types.Action.TheVariants as act
use Rattle.decoder_rules.specs.declared.types.Answer.TheVariants as answer
use Rattle.decoder_rules.specs.declared.types.Decoded.{Decoded}
use Rattle.decoder_rules.specs.declared.types.Event.{Event}
use Rattle.decoder_rules.specs.declared.types.Event.TheVariants.{Start}
use Rattle.decoder_rules.specs.declared.types.Settings.{Settings}
use Rattle.decoder_rules.specs.declared.types.TagDecoder.{TagDecoder}
use Rattle.decoder_rules.proofs.Exits.{is_too_large, AtElement, HeaderExit, starts, holds, AtHeader, on_header, exit_decides}
use Rattle.decoder_rules.proofs.GoodState.{GoodState, is_good_state, is_good_open}
use Rattle.decoder_rules.proofs.Counting.{counted_settings, counted_notes, counted_count, counted_waiting_count, counted_arrays, counted-map, counted_every, counted_good}
use Rattle.decoder_rules.proofs.MoveEffects.{Arrays, opens-length, settled_settings, settled_finished, settled_opens, settled_waiting_count, settled_arrays, opened_settings, opened_notes, opened-opens, opened_waiting_count, opened_arrays, with_notes_settings, with_notes_position, with_notes_finished, with_notes_opens, with_notes_count, with_notes_waiting_count, with_notes_arrays}
use Rattle.decoder_rules.proofs.MoveLaws.{noted-position}
use Rattle.decoder_rules.proofs.MovesKeepGoodState.{settled_good, opened_good}
use Rattle.guarantees.specs.Appearing.{empty_value, empty_event}
use Rattle.guarantees.proofs.AnyCalls.{good_shape_lem}
use Rattle.guarantees.proofs.Decided.{is_master_lem}
use Rattle.guarantees.proofs.Ends.{unknown}
use Rattle.decoder_rules.proofs.Places.{settled_step7}
use Rattle.std.specs.Prelude.{Ok, Result, Some}
use Rattle.decoder_rules.specs.declared.types.DecodeError.{DecodeError}
use Rattle.tools.specs.declared.status.Status.TheVariants as status

-- ---- the header: an ID and one octet of size

-- the header of the ID x in n octets, with a size of one octet
abbrev pub header_with : List Entry → ℕ → ℕ → EBMLSize → TagHeader
header_with t x n z = record { id = x; kind = data_type_of t x; path = range_of t x; size = z; len = n + 1 }

module _ (t : List Entry) (x n : ℕ) (octets : List ℕ) (i : IsId x n octets) where
  -- it is read, whatever follows
  header_read : (b v : ℕ) (rest : List ℕ) → IsVint 1 v (b ∷ []) → too_long (data_type_of t x) v ≡ false
      → read_header t (octets ++ b ∷ rest) ≡ Ok (status.Complete (header_of x (spec_for t x) n v 1))
  unfolding sized sized_by
  header_read b v rest w short =
      let s = octets ++ b ∷ rest in
      let front : take n s ≡ octets = take_at octets (b ∷ rest) n i.count in
      let back : drop n s ≡ b ∷ rest = drop_at octets (b ∷ rest) n i.count in
      header_sized t s (id_complete s x n (rw front i)) (sym (ap read_vint back ∙ read_complete 1 v (b ∷ []) rest w)) ∙ rw short

  -- so with the size 0
  empty_header : (rest : List ℕ) → read_header t (octets ++ 0x80 ∷ rest) ≡ Ok (status.Complete (header_with t x n (Known 0)))
  unfolding be_bytes size_of
  empty_header rest = header_read 0x80 0 rest (written_is 1 0 (omega arith) (omega arith) (omega arith)) (not_long (data_type_of t x) 0 (omega arith))

  -- and of a Master with the size Unknown
  open_header : (rest : List ℕ) → data_type_of t x ≡ type.Master → read_header t (octets ++ 0xFF ∷ rest) ≡ Ok (status.Complete (header_with t x n Unknown))
  unfolding be_bytes size_of
  open_header rest m =
      header_read 0xFF 127 rest (written_is 1 127 (omega arith) (omega arith) (omega arith)) (long_by_kind (data_type_of t x) 127 (omega arith) ∙ ap numeric m)

-- ---- a record on which an element can be read

-- the IDs of open masters, outermost first
abbrev pub ids_of : List OpenTag → List ℕ
ids_of l = map (λ (m : OpenTag). m.id) l

-- the settings are those at first, nothing waits, the end of input has not come, and no open master has a known size
pub record Calm (d : TagDecoder) : Type 0 where
  pub arrays : Arrays d
  pub good : GoodState d
  pub settings : d.settings ≡ first_settings
  pub none_waiting : d.waiting_count ≡ 0
  pub unfinished : d.finished ≡ false
  pub sizes : every unknown (opens d) ≡ true

-- no master of unknown size is full
none_full : (p : ℕ) (l : List OpenTag) → every unknown l ≡ true → first_index (is_full p) l ≡ length l
unfolding every first_index is_full
none_full p [] e = refl
none_full p (m ∷ l) e =
    let b = both (unknown m) (every unknown l) e in
    rw (not-false m.known b.left, none_full p l b.right) (omega arith)

-- 13 does not come before the end of input
before_finish : (f : Bool) (n : ℕ) → f ≡ false → check13 f n ≡ Ok tt
unfolding check13
before_finish f n e = rw e

-- so a header is read: 1 to 4 are passed
at_header : (es ps : List ℕ) (d : TagDecoder) (s : List ℕ) (h : TagHeader) → good_shape es ps ≡ true → Calm d → d.position + length s ≤ farthest → 0 < length s
    → read_header (table_of es ps) s ≡ Ok (status.Complete h) → AtHeader es ps d s h
at_header es ps d s h shape calm near some read = record {
  at_bytes = record {
    none_full = record {
      reading = record {
        admitted = record {
          first = unfold check_record10to12 check10to12 in rw (shape, is_good_state d calm.good, le-leb _ _ near);
          second = before_finish d.finished (length s) calm.unfinished;
        };
        none_waiting = calm.none_waiting;
        unfinished = calm.unfinished;
      };
      none_full = omega (arith, none_full d.position (opens d) calm.sizes, opens-length d calm.arrays calm.good.open_count);
    };
    some_byte = some;
  };
  read = read;
}

-- ---- 8 to 11

-- d has the note: there is room for one more, no open master ends by the ID x, and where d is settled the walk accepts
-- it
pub record Ready (t : List Entry) (d : TagDecoder) (x : ℕ) : Type 0 where
  pub calm : Calm d
  pub room : d.open_count < most_open
  pub stay : every (stays_open t x) (opens d) ≡ true
  pub walked : d.settled ≡ true → validate_tag_path false t x (opens d) ≡ true

-- 8 by its four tests
passes_8 : (typed settled allowed walked : Bool) → (settled ≡ true → walked ≡ true) → (not typed || not settled || allowed || walked) ≡ true
passes_8 typed true allowed walked h = rw (h refl) (or-true (not typed || false || allowed))
passes_8 true false allowed walked h = refl
passes_8 false false allowed walked h = refl

-- 10 closes none of those that stay open
none_ended : (t : List Entry) (x : ℕ) (l : List OpenTag) → every (stays_open t x) l ≡ true → ended_tops false t x l ≡ 0
unfolding every ended_tops stays_open unknown_and_ended
none_ended t x [] e = refl
none_ended t x (m ∷ l) e = cond_no _ _ 0 (not-false (not m.known && is_ended_in false t m.id x) (both _ (every (stays_open t x) l) e).left)

-- an element that holds nothing has this value
empty_value_lem : (kind : TagDataType) (p : ℕ) → value_of false kind [] (record { begin = p; end = p }) ≡ Ok (empty_value kind p)
unfolding value_of integer_of be_from text_after
empty_value_lem type.UnsignedInt p = refl
empty_value_lem type.Integer p = refl
empty_value_lem type.Utf8 p = refl
empty_value_lem type.Binary p = refl
empty_value_lem type.Float p = refl
empty_value_lem type.Master p = refl
empty_value_lem type.Untyped p = refl

-- what ends inside every open master fits
fits_by : (d : TagDecoder) (n : ℕ) → every (reaches (d.position + n)) (opens d) ≡ true → fits_inside d n ≡ true
unfolding fits_inside
fits_by d n e = rw e (or-true d.settings.allow_oversized)

-- as ported every Unknown size passes 9
open_passes : (d : TagDecoder) (len : ℕ) → d.settings.strict ≡ false → step9 d len Unknown ≡ Ok tt
unfolding step9
open_passes d len e = rw e

-- as ported every form of an ID is taken
ported_form : (strict : Bool) (x : ℕ) → strict ≡ false → good_form strict x ≡ true
unfolding good_form
ported_form strict x e = rw e

module _ (t : List Entry) (d : TagDecoder) (x : ℕ) (r : Ready t d x) (n : ℕ) where
  -- 8 and 10 are passed
  at_element : (z : EBMLSize) → step9 d (n + 1) z ≡ Ok tt → AtElement t d (header_with t x n z)
  at_element z fits = record {
    valid = record {
      path = unfold step8 in passes_8 (is_typed (data_type_of t x)) d.settled d.settings.allow_hierarchy (validate_tag_path d.settings.strict t x (opens d))
          (λ u. ap (λ (s : Settings). validate_tag_path s.strict t x (opens d)) r.calm.settings ∙ r.walked u);
      size = fits;
    };
    none_ended =
        omega
        (arith, ap (λ (s : Settings). ended_tops s.strict t x (reverse (opens d))) r.calm.settings ∙ none_ended t x (reverse (opens d)) (every_reversed (stays_open t x) (opens d) r.stay));
  }

  -- 9, of the size 0
  nothing_fits : step9 d (n + 1) (Known 0) ≡ Ok tt
  unfolding step9
  nothing_fits =
      let end = d.position + (n + 1 + 0) in
      let inside : every (reaches end) (opens d) ≡ true = every_other unknown (reaches end) (λ m q. unfold reaches in rw q) (opens d) r.calm.sizes in
      let fits : fits_inside d (n + 1 + 0) ≡ true = fits_by d (n + 1 + 0) inside in
      let small : is_too_large d 0 ≡ false = ap (λ (s : Settings). s.max_given && ltb s.max_size 0) r.calm.settings in
      cond_yes (fits_inside d (n + 1 + 0)) _ _ fits ∙ cond_no (is_too_large d 0) _ _ small

  -- a Master starts, of either size
  start_exit : (s : List ℕ) (z : EBMLSize) → step9 d (n + 1) z ≡ Ok tt → is_master (data_type_of t x) ≡ true → HeaderExit t d (header_with t x n z) s (Ok (act.Start x z (n + 1)))
  start_exit s z fits k = starts (at_element z fits) k r.room

  -- any other element that holds nothing is a Data
  data-exit : (s : List ℕ) → n + 1 ≤ length s → is_master (data_type_of t x) ≡ false
      → HeaderExit t d (header_with t x n (Known 0)) s (Ok (act.Data x (empty_value (data_type_of t x) (d.position + (n + 1))) (n + 1 + 0)))
  data-exit s l k =
      let z : n + 1 + 0 ≡ n + 1 = omega arith in
      let v = empty_value (data_type_of t x) (d.position + (n + 1)) in
      holds 0 v (record { at = at_element (Known 0) nothing_fits; no_master_lem = k; known = refl }) (omega arith)
      (rw z (ap (λ (u : Settings). value_of u.strict (data_type_of t x) [] (record { begin = d.position + (n + 1); end = d.position + (n + 1) })) r.calm.settings ∙ empty_value_lem (data_type_of t x) (d.position + (n + 1))))

-- ---- the call

-- what a call decides on a header it does, on the record with the note
done : (es ps : List ℕ) (d : TagDecoder) (s : List ℕ) (h : TagHeader) (a : Result Action DecodeError) → AtHeader es ps d s h → is_typed h.kind ≡ true → d.settings.strict ≡ false
    → HeaderExit (table_of es ps) (noted ps d (step7 (table_of es ps) d h)) h s a → decode es ps d s ≡ move (noted ps d (step7 (table_of es ps) d h)) a
unfolding apply
done es ps d s h a at typed ported x =
    ap (apply ps d) (sym (exit_decides es ps d s (on_header h at (and_both (ported_form d.settings.strict h.id ported) (rw typed)) x)))

-- a call answers this event and takes n bytes
pub record Tells (r : Decoded) (e : Event) (n : ℕ) : Type 0 where
  pub answer : r.answer ≡ Ok (answer.Event e)
  pub taken : r.taken ≡ n

module _ (es ps : List ℕ) (shape : good_shape es ps ≡ true) (x n : ℕ) (octets : List ℕ) (i : IsId x n octets) (typed : is_typed (data_type_of (table_of es ps) x) ≡ true)
    (d : TagDecoder) (calm : Calm d) (rest : List ℕ) where
  -- an element that holds nothing
  pub element_told : d.position + length (octets ++ 0x80 ∷ rest) ≤ farthest → Ready (table_of es ps) (noted ps d (step7 (table_of es ps) d (header_with (table_of es ps) x n (Known 0)))) x
      → Tells (decode es ps d (octets ++ 0x80 ∷ rest)) (empty_event (data_type_of (table_of es ps) x) x d.position (n + 1)) (n + 1)
  element_told near ready = go (is_master (data_type_of t x)) refl
    where
      t : List Entry
      t = table_of es ps

      h : TagHeader
      h = header_with t x n (Known 0)

      s : List ℕ
      s = octets ++ 0x80 ∷ rest

      e : TagDecoder
      e = noted ps d (step7 t d h)

      long : length s ≡ n + (1 + length rest)
      long = length-append octets (0x80 ∷ rest) ∙ omega (arith, i.count)

      ported : d.settings.strict ≡ false
      ported = ap (λ (u : Settings). u.strict) calm.settings

      at : AtHeader es ps d s h
      at = at_header es ps d s h shape calm near (omega (arith, long)) (empty_header t x n octets i rest)

      go : (b : Bool) → is_master (data_type_of t x) ≡ b → Tells (decode es ps d s) (empty_event (data_type_of t x) x d.position (n + 1)) (n + 1)
      go true k =
          let q = done es ps d s h (Ok (act.Start x (Known 0) (n + 1))) at typed ported (start_exit t e x ready n s (Known 0) (nothing_fits t e x ready n) k) in
          unfold move in rw (q, k, noted-position ps d (step7 t d h)) (record { answer = refl; taken = refl })
      go false k =
          let q = done es ps d s h _ at typed ported (data-exit t e x ready n s (omega (arith, long)) k) in
          unfold move in rw (q, k, noted-position ps d (step7 t d h), add-zero) (record { answer = refl; taken = refl })

-- ---- the place: the open masters are those that the path names

-- the masters that a path implies are of unknown size
implied_unknown : (path : List PathPart) → every unknown (map implied path) ≡ true
unfolding every
implied_unknown [] = refl
implied_unknown (Id x ∷ path) = implied_unknown path
implied_unknown (Global least most ∷ path) = implied_unknown path

-- and of a path of IDs they are these IDs
implied_ids : (path : List PathPart) → only_ids path ≡ true → ids_of (map implied path) ≡ path_ids path
unfolding only_ids every path_ids
implied_ids [] o = refl
implied_ids (Id x ∷ path) o = ap (λ (l : List ℕ). x ∷ l) (implied_ids path o)
implied_ids (Global least most ∷ path) o = absurd (false≢true o)

-- a path of IDs has as many
pub ids_length : (path : List PathPart) → only_ids path ≡ true → length (path_ids path) ≡ length path
ids_length path o = ap length (sym (implied_ids path o)) ∙ length-map (map implied path) (λ (m : OpenTag). m.id) ∙ length-map path implied

-- a record that can settle still, or whose open masters are the parents of the ID x
pub record Before (t : List Entry) (d : TagDecoder) (x : ℕ) : Type 0 where
  pub calm : Calm d
  pub masters : d.settled ≡ true → ids_of (opens d) ≡ path_ids (path_of t x)

-- a record whose open masters are the parents of the ID x
pub record Placed (t : List Entry) (d : TagDecoder) (x : ℕ) : Type 0 where
  pub calm : Calm d
  pub masters : ids_of (opens d) ≡ path_ids (path_of t x)

-- settled to a path that fits it, a record is as calm
settled_calm : (d : TagDecoder) (path : List PathPart) → Calm d → length path ≤ most_open → Calm (settled_to d path)
settled_calm d path calm short = record {
  arrays = settled_arrays d calm.arrays path short;
  good = settled_good d calm.good path short;
  settings = settled_settings d path ∙ calm.settings;
  none_waiting = settled_waiting_count d path ∙ calm.none_waiting;
  unfinished = settled_finished d path ∙ calm.unfinished;
  sizes = rw (settled_opens d path) (implied_unknown path);
}

-- a master that does not end by the ID x stays open
stays_open_lem : (t : List Entry) (x : ℕ) (m : OpenTag) → is_ended_by t m.id x ≡ false → stays_open t x m ≡ true
unfolding stays_open unknown_and_ended is_ended_in
stays_open_lem t x m e = ap not (ap (λ (b : Bool). not m.known && b) e ∙ and-false (not m.known))

module _ (es ps : List ℕ) (checked : check_table es ps ≡ (Ok tt)) (x : ℕ) (typed : is_typed (data_type_of (table_of es ps) x) ≡ true) (ids : only_ids (path_of (table_of es ps) x) ≡ true) where
  -- a path has at most 16 parts
  few : length (path_of (table_of es ps) x) ≤ 16
  few = at_most_16 es ps (good_shape_lem es ps checked) x

  -- 7: a record that is not settled settles to the path
  settles_to : (d : TagDecoder) (n : ℕ) (z : EBMLSize) → d.settled ≡ false → noted ps d (step7 (table_of es ps) d (header_with (table_of es ps) x n z)) ≡ settled_to d (path_of (table_of es ps) x)
  unfolding noted
  settles_to d n z u =
      let h = header_with (table_of es ps) x n z in
      let note : step7 (table_of es ps) d h ≡ Some h.path = cond_yes (settles (table_of es ps) d h) _ _ (and_both (and_both (ap not u) typed) ids) in
      ap (noted ps d) note ∙ ap (settled_to d) (path_in es ps x)

  -- so with the note the open masters are the parents
  pub placed : (d : TagDecoder) (n : ℕ) (z : EBMLSize) → Before (table_of es ps) d x → Placed (table_of es ps) (noted ps d (step7 (table_of es ps) d (header_with (table_of es ps) x n z))) x
  unfolding noted
  placed d n z b = go d.settled refl
    where
      t : List Entry
      t = table_of es ps

      path : List PathPart
      path = path_of t x

      go : (s : Bool) → d.settled ≡ s → Placed t (noted ps d (step7 t d (header_with t x n z))) x
      go true u = rw (settled_step7 t d (header_with t x n z) u) (record { calm = b.calm; masters = b.masters u })
      go false u = rw (settles_to d n z u) (record {
        calm = settled_calm d path b.calm (omega (arith, few));
        masters = ap ids_of (settled_opens d path) ∙ implied_ids path ids;
      })

  -- none of them ends by the ID
  all_stay : (before rest : List PathPart) (l : List OpenTag) → path_of (table_of es ps) x ≡ before ++ rest → only_ids rest ≡ true → ids_of l ≡ path_ids rest → every (stays_open (table_of es ps) x) l ≡ true
  unfolding every only_ids path_ids
  all_stay before [] [] q o e = refl
  all_stay before [] (m ∷ l) q o e = absurd (nil≢cons (sym e))
  all_stay before (Id y ∷ rest) [] q o e = absurd (nil≢cons e)
  all_stay before (Id y ∷ rest) (m ∷ l) q o e =
      let ended : is_ended_by (table_of es ps) m.id x ≡ false = rw (head-eq_of_cons-eq e) (ends_no_parent es ps checked x typed ids before y rest q) in
      and_both (stays_open_lem (table_of es ps) x m ended)
      (all_stay (before ++ (Id y ∷ [])) rest l (q ∙ sym (append_assoc before (Id y ∷ []) rest)) o (tail-eq_of_cons-eq e))
  all_stay before (Global least most ∷ rest) l q o e = absurd (false≢true o)

  -- so the element can be read
  pub ready : (d : TagDecoder) → Placed (table_of es ps) d x → Ready (table_of es ps) d x
  ready d p =
      let t = table_of es ps in
      let stay = all_stay [] (path_of t x) (opens d) refl ids p.masters in
      let many = ap length p.masters in
      record {
        calm = p.calm;
        room = omega (arith, few, ids_length (path_of t x) ids, many, length-map (opens d) (λ (m : OpenTag). m.id), opens-length d p.calm.arrays p.calm.good.open_count);
        stay = stay;
        walked = λ _. (accepted_in_open t x (opens d) ids stay).1 p.masters;
      }

-- ---- a Start, and the record that it leaves

-- the record at p, where a child of the innermost master was counted
abbrev moved_on : TagDecoder → ℕ → TagDecoder
moved_on d p = counted (at_position d p)

module _ (d : TagDecoder) (p : ℕ) (calm : Calm d) (room : d.open_count < most_open) where
  arrays_there : Arrays (at_position d p)
  arrays_there = with_notes_arrays d calm.arrays p d.settled d.finished

  few_there : (at_position d p).open_count ≤ most_open
  few_there = omega (arith, with_notes_count d p d.settled d.finished)

  -- it has its places
  arrays_at : Arrays (moved_on d p)
  arrays_at = counted_arrays (at_position d p) arrays_there

  -- and room
  room_at : (moved_on d p).open_count < most_open
  room_at = omega (arith, counted_count (at_position d p), with_notes_count d p d.settled d.finished)

  -- the same masters are open
  ids_at : ids_of (opens (moved_on d p)) ≡ ids_of (opens d)
  unfolding with_one_more
  ids_at = counted-map (at_position d p) arrays_there few_there (λ (m : OpenTag). m.id) (λ m. refl) ∙ ap ids_of (with_notes_opens d p d.settled d.finished)

  -- none of known size
  sizes_at : every unknown (opens (moved_on d p)) ≡ true
  unfolding with_one_more
  sizes_at = counted_every (at_position d p) arrays_there few_there unknown unknown (λ m f. f) (λ m f. f) (rw (with_notes_opens d p d.settled d.finished) calm.sizes)

  -- a master more stands above the others
  opened_at : (m : OpenTag) → opens (opened (moved_on d p) m) ≡ opens (moved_on d p) ++ (m ∷ [])
  opened_at m = opened-opens (moved_on d p) m (omega (arith, arrays_at.masters, room_at))

  -- with one of unknown size the record is as calm
  opened_calm : (x q : ℕ) → d.position < p → p ≤ farthest → Calm (opened (moved_on d p) (open_tag x false 0 q p))
  unfolding every
  opened_calm x q later near =
      let c = at_position d p in
      let e = moved_on d p in
      let m = open_tag x false 0 q p in
      let starts : good_open p m ≡ true = is_good_open p m (record { start = omega arith; size = λ k. absurd (false≢true k); count = omega arith }) in
      let place : e.position ≡ p = (counted_notes c).position ∙ with_notes_position d p d.settled d.finished in
      record {
        arrays = opened_arrays e arrays_at m;
        good = opened_good e (counted_good d calm.good calm.arrays p later near) arrays_at m room_at (subst (λ (k : ℕ). good_open k m ≡ true) (sym place) starts);
        settings = opened_settings e m ∙ counted_settings c ∙ with_notes_settings d p d.settled d.finished ∙ calm.settings;
        none_waiting = opened_waiting_count e m ∙ counted_waiting_count c ∙ with_notes_waiting_count d p d.settled d.finished ∙ calm.none_waiting;
        unfinished = (opened_notes e m).finished ∙ (counted_notes c).finished ∙ with_notes_finished d p d.settled d.finished ∙ calm.unfinished;
        sizes = rw (opened_at m) (every_append unknown (opens e) (m ∷ []) sizes_at refl);
      }

-- a call at the position p told the Start of x and took n bytes, and its record stands inside x
pub record Opens (t : List Entry) (p : ℕ) (r : Decoded) (x n : ℕ) : Type 0 where
  pub told : Tells r (Start x p) n
  pub calm : Calm r.state
  pub masters : ids_of (opens r.state) ≡ path_ids (path_of t x) ++ (x ∷ [])
  pub place : r.state.position ≡ p + n

-- the Start of a master of unknown size is such
start_opens : (t : List Entry) (d : TagDecoder) (x n : ℕ) → Placed t d x → d.open_count < most_open → 0 < n → d.position + n ≤ farthest → Opens t d.position (move d (Ok (act.Start x Unknown n))) x n
unfolding move
start_opens t d x n p room some near =
    let q = d.position + n in
    let m = open_tag x false 0 d.position q in
    record {
      told = record { answer = refl; taken = refl };
      calm = opened_calm d q p.calm room x d.position (omega arith) near;
      masters =
          ap ids_of (opened_at d q p.calm room m) ∙ map-append (λ (m : OpenTag). m.id) (opens (moved_on d q)) (m ∷ [])
          ∙ ap (λ (l : List ℕ). l ++ (x ∷ [])) (ids_at d q p.calm room ∙ p.masters);
      place = (opened_notes (moved_on d q) m).position ∙ (counted_notes (at_position d q)).position ∙ with_notes_position d q d.settled d.finished;
    }

-- a Master of unknown size starts
pub master_told : (es ps : List ℕ) → check_table es ps ≡ Ok tt → (x n : ℕ) (octets : List ℕ) → IsId x n octets → data_type_of (table_of es ps) x ≡ type.Master
    → (d : TagDecoder) (rest : List ℕ) → Before (table_of es ps) d x → d.position + length (octets ++ 0xFF ∷ rest) ≤ farthest
    → Opens (table_of es ps) d.position (decode es ps d (octets ++ 0xFF ∷ rest)) x (n + 1)
unfolding is_typed
master_told es ps checked x n octets i master d rest before near =
    subst (λ (a : Decoded). Opens t d.position a x (n + 1)) (sym q)
    (subst (λ (k : ℕ). Opens t k (move e (Ok (act.Start x Unknown (n + 1)))) x (n + 1)) place (start_opens t e x (n + 1) p r.room (omega arith) (omega (arith, place, long))))
  where
    t : List Entry
    t = table_of es ps

    h : TagHeader
    h = header_with t x n Unknown

    s : List ℕ
    s = octets ++ 0xFF ∷ rest

    e : TagDecoder
    e = noted ps d (step7 t d h)

    place : e.position ≡ d.position
    place = noted-position ps d (step7 t d h)

    long : length s ≡ n + (1 + length rest)
    long = length-append octets (0xFF ∷ rest) ∙ omega (arith, i.count)

    ids : only_ids (path_of t x) ≡ true
    ids = master_of_ids_lem t (passed_gives es ps checked) x master

    p : Placed t e x
    p = placed es ps checked x (ap is_typed master) ids d n Unknown before

    r : Ready t e x
    r = ready es ps checked x (ap is_typed master) ids e p

    q : decode es ps d s ≡ move e (Ok (act.Start x Unknown (n + 1)))
    q =
        done es ps d s h (Ok (act.Start x Unknown (n + 1))) (at_header es ps d s h (good_shape_lem es ps checked) before.calm near (omega (arith, long)) (open_header t x n octets i rest master))
        (ap is_typed master) (ap (λ (u : Settings). u.strict) before.calm.settings) (start_exit t e x r n s Unknown (open_passes e (n + 1) (ap (λ (u : Settings). u.strict) p.calm.settings)) (is_master_lem _ master))
