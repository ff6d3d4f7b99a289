-- What is decided at a call with a checked table, read off the view of its exits: of each refusal, of each event and of
-- the note, what the promises need. Assumes nothing.
use Prim.Native.Nat.{ℕ, ◌+◌, ◌^◌, ◌≤◌, ◌<◌}
use mathlib.Core.Path.{◌≡◌, refl, sym, ap, ◌∙◌, subst}
use mathlib.Core.Bool.{Bool, true, false, cond, not, ◌&&◌, ◌||◌, true≢false, false≢true}
use mathlib.Core.List.Memᴰ
use mathlib.Core.List.{List, [], ◌∷◌, map}
use native.Mathlib.Omega.{arith}
use borrow.Author.Tests.{leb-false}
use lib.Dec.{leb, eqb}
use lib.ListN.{length, drop, length-map}
use Rattle.tools.specs.Bytes.{Octets}
use Rattle.tools.specs.Float.{arr_to_f64}
use Rattle.utf8.specs.Rfc3629.{is_text}
use Rattle.basics.specs.Lists.{every}
use Rattle.table.specs.Shape.{good_shape}
use Rattle.table.specs.Check.{only_ids}
use Rattle.table.specs.Table.{Entry, table_of, parts_of, parts_in, data_type_of, path_of, is_master, is_typed}
use Rattle.table.specs.declared.types.PathPart.{PathPart}
use Rattle.table.specs.declared.types.PathPart.TheVariants.{Id, Global}
use Rattle.table.specs.declared.types.TagDataType.{TagDataType}
use Rattle.table.specs.declared.types.TagDataType.TheVariants as type
use Rattle.table.specs.Passed.{Masters}
use Rattle.table.proofs.Rules.{master_is}
use Rattle.table.specs.Passed.{PassedTable}
use Rattle.table.proofs.Consequences.{master_of_ids_lem, path_masters}
use Rattle.spec_util.specs.declared.types.OpenTag.{OpenTag}
use Rattle.tag_parse.proofs.Headers.{header_sound, header_long, header_spec, known_small}
use Rattle.tag_parse.specs.Header.{read_header}
use Rattle.tag_parse.specs.Payload.{text_of, text_value, value_of, float_or21}
use Rattle.tag_parse.specs.declared.types.EBMLSize.{EBMLSize}
use Rattle.tag_parse.specs.declared.types.EBMLSize.TheVariants.{Known, Unknown}
use Rattle.tag_parse.specs.declared.types.ParseError.{ParseError}
use Rattle.tag_parse.specs.declared.types.ParseError.TheVariants as parse
use Rattle.tag_parse.specs.declared.types.Range.{Range}
use Rattle.tag_parse.specs.declared.types.TagHeader.{TagHeader}
use Rattle.tag_parse.specs.declared.types.TagValue.{TagValue}
use Rattle.decoder_rules.specs.Record.{opens, implied}
use Rattle.decoder_rules.specs.Numbers.{error_number, parse_error}
use Rattle.decoder_rules.specs.OneCall.{check10to12, check_record10to12, step3, good_form, refusal6, settles, step7, is_settle, noted, reaches, fits_inside, step10}
use Rattle.decoder_rules.specs.Deciding.{plain, decide}
use Rattle.decoder_rules.specs.declared.types.Action.{Action}
use Rattle.decoder_rules.specs.declared.types.Action.TheVariants as act
use Rattle.decoder_rules.specs.declared.types.Decision.{Decision}
use Rattle.decoder_rules.specs.declared.types.DecodeError.{DecodeError}
use Rattle.decoder_rules.specs.declared.types.DecodeError.TheVariants as error
use Rattle.decoder_rules.specs.declared.types.TagDecoder.{TagDecoder}
use Rattle.decoder_rules.proofs.HeaderPath.{path_read, path_few}
use Rattle.decoder_rules.proofs.GoodState.{GoodState, is_good_state}
use Rattle.decoder_rules.proofs.Exits as exit
use Rattle.decoder_rules.proofs.Exits.{all_masters, payload_of, Valid, HasPayload, NoneFull, Closing, HeaderExit, Exit, exits, valid_fits}
use Rattle.decoder_rules.proofs.MoveEffects.{settled_opens, settled_count}
use Rattle.decoder_rules.proofs.MoveLaws.{noted_settled, noted_waiting_count, noted_finished}
use Rattle.basics.proofs.Every.{every_drop}
use Rattle.basics.proofs.Bools.{pick, cond_yes, both, and_both, not-false}
use Rattle.guarantees.specs.History.{declared_end, header_end, end_after}
use Rattle.guarantees.specs.Promises.{value_kind, HeaderAlone, WholeData}
use Rattle.guarantees.proofs.Ends.{FullBatch, step3_batch, step10_batch}
use Rattle.std.specs.Prelude.{Err, None, Ok, Option, Result, Some, ⊤}
use Rattle.table.specs.declared.types.Path.{Path}
use Rattle.tools.specs.declared.errors.ToolError.{ToolError}
use Rattle.tools.specs.declared.status.Status.TheVariants as status

-- ---- a Master of the table

-- what the table calls a Master passes the test
pub is_master_lem : (k : TagDataType) → k ≡ type.Master → is_master k ≡ true
unfolding is_master
is_master_lem k e = rw e

-- the parents that a path implies are Masters of the table
pub implied_masters : (t : List Entry) (path : List PathPart) → only_ids path ≡ true → Masters t path → all_masters t (map implied path) ≡ true
unfolding every only_ids
implied_masters t [] o m = refl
implied_masters t (Id x ∷ path) o m =
    and_both (is_master_lem _ (m x (Memᴰ.head refl))) (implied_masters t path o (λ y k. m y (Memᴰ.tail k)))
implied_masters t (Global least most ∷ path) o m = absurd (false≢true o)

-- ---- a refusal

-- a refusal that may come of this record
pub record Mild (d : TagDecoder) (e : DecodeError) : Type 0 where
  pub not_10 : error_number e ≡ 10 → ⊥
  pub not_11 : error_number e ≡ 11 → ⊥
  pub not_23 : error_number e ≡ 23 → ⊥
  pub not_24 : error_number e ≡ 24 → ⊥
  pub at_19 : error_number e ≡ 19 → (d.waiting_count ≡ 0) × (32 ≤ d.open_count)

-- a refusal with another number than these
abbrev Other : ℕ → Type 0
Other n = (n ≡ 10 → ⊥) × (n ≡ 11 → ⊥) × (n ≡ 23 → ⊥) × (n ≡ 24 → ⊥) × (n ≡ 19 → ⊥)

-- such a refusal may come of any record
pub mild : (d : TagDecoder) (e : DecodeError) → Other (error_number e) → Mild d e
mild d e o = record { not_10 = o.0; not_11 = o.1; not_23 = o.2; not_24 = o.3; at_19 = λ q. absurd (o.4 q) }

-- a refusal of an ID may come of any record
pub id_mild : (d : TagDecoder) (b : Bool) → Mild d (cond b error.InvalidTagId error.InvalidIdForm)
id_mild d true = mild d error.InvalidTagId (omega arith)
id_mild d false = mild d error.InvalidIdForm (omega arith)

-- a refusal of a header or of a payload may come of any record
pub parse_mild : (d : TagDecoder) (e : ParseError) → Mild d (parse_error e)
parse_mild d parse.InvalidTagData = mild d error.InvalidTagData (omega arith)
parse_mild d parse.FromUtf8Error = mild d error.FromUtf8Error (omega arith)
parse_mild d parse.ReadF64Mismatch = mild d error.ReadF64Mismatch (omega arith)

-- ---- a value has the kind that was asked for

-- what a payload is read as has this kind
abbrev OfKind : TagDataType → Result TagValue ParseError → Type 0
OfKind k (Ok v) = value_kind v ≡ k
OfKind k (Err e) = Unit {0}

float_kind : (r : Result ℕ ToolError) → OfKind type.Float (float_or21 r)
float_kind (Ok x) = refl
float_kind (Err x) = tt

one_text_kind : (s : List ℕ) (r : Range) → OfKind type.Utf8 (text_of s r)
one_text_kind s r = pick (OfKind type.Utf8) (is_text s) _ _ (λ e. refl) (λ e. tt)

text_kind : (strict : Bool) (s : List ℕ) (r : Range) → OfKind type.Utf8 (text_value strict s r)
text_kind true s r = one_text_kind _ _
text_kind false s r = one_text_kind s r

-- a Master has no payload
data-kind : (strict : Bool) (k : TagDataType) (s : List ℕ) (r : Range) → is_master k ≡ false → OfKind k (value_of strict k s r)
unfolding value_of is_master
data-kind strict type.UnsignedInt s r n = refl
data-kind strict type.Integer s r n = refl
data-kind strict type.Utf8 s r n = text_kind strict s r
data-kind strict type.Binary s r n = refl
data-kind strict type.Float s r n = pick (OfKind type.Float) (eqb (length s) 0) _ _ (λ e. refl) (λ e. float_kind (arr_to_f64 s))
data-kind strict type.Master s r n = absurd (true≢false n)
data-kind strict type.Untyped s r n = refl

-- ---- what was decided

-- nothing waits, and the end of input has not come
pub record Reading (d : TagDecoder) : Type 0 where
  pub none_waiting : d.waiting_count ≡ 0
  pub unfinished : d.finished ≡ false

-- where the child-size test is on, an element that ends at e ends inside every open master of known size
abbrev pub Inside : TagDecoder → ℕ → Type 0
Inside d e = d.settings.allow_oversized ≡ false → every (reaches e) (opens d) ≡ true

-- the same of an element with a header of len bytes and this size
abbrev pub InsideSize : TagDecoder → ℕ → EBMLSize → Type 0
InsideSize d len Unknown = Unit {0}
InsideSize d len (Known n) = Inside d (d.position + (len + n))

-- a known size is below 2^56
abbrev pub Small : EBMLSize → Type 0
Small Unknown = Unit {0}
Small (Known n) = n < 2 ^ 56

-- the header at the front of the bytes is that of the ID x
pub record Heads (t : List Entry) (s : List ℕ) (x : ℕ) : Type 0 where
  pub its : TagHeader
  pub is_read : read_header t s ≡ Ok (status.Complete its)
  pub same_id : its.id ≡ x

-- what holds where a Start was decided
pub record Starts (t : List Entry) (d : TagDecoder) (s : List ℕ) (x : ℕ) (z : EBMLSize) (len : ℕ) : Type 0 where
  pub heads : Heads t s x
  pub alone : HeaderAlone t s len
  pub some : 0 < len
  pub reading : Reading d
  pub settled : d.settled ≡ true
  pub master : data_type_of t x ≡ type.Master
  pub end : declared_end t d.position s ≡ end_after (d.position + len) z
  pub small : Small z
  pub inside : InsideSize d len z

-- what holds where a Data was decided
pub record Holds (t : List Entry) (d : TagDecoder) (s : List ℕ) (x : ℕ) (v : TagValue) (n : ℕ) : Type 0 where
  pub heads : Heads t s x
  pub reading : Reading d
  pub kind : value_kind v ≡ data_type_of t x
  pub whole : WholeData d.settings.strict t s d.position n v
  -- an element whose path is all IDs settles
  pub settled : (is_typed (data_type_of t x) && only_ids (path_of t x)) ≡ true → d.settled ≡ true
  pub some : 0 < n
  pub end : declared_end t d.position s ≡ Some (d.position + n)
  pub inside : Inside d (d.position + n)

-- why all above the first n close: by the position (3), or by the ID of the header at the front of the bytes (10)
pub data ClosesFor (t : List Entry) (d : TagDecoder) (s : List ℕ) (n : ℕ) : Type 0 where
  by_position : step3 d ≡ n → ClosesFor t d s n
  by_next_id : (h : TagHeader) → read_header t s ≡ Ok (status.Complete h) → step10 t d h.id ≡ n → ClosesFor t d s n

-- what holds where the closing of all above the first n was decided
pub record Closes (t : List Entry) (d : TagDecoder) (s : List ℕ) (n : ℕ) : Type 0 where
  pub reading : Reading d
  pub batch : FullBatch d n
  pub why : ClosesFor t d s n

-- d has the note
abbrev pub Facts : List Entry → TagDecoder → List ℕ → Result Action DecodeError → Type 0
Facts t d s (Err e) = Mild d e
Facts t d s (Ok (act.NeedMore missing)) = Reading d
Facts t d s (Ok act.Finish) = (d.waiting_count ≡ 0) × (d.finished ≡ true)
Facts t d s (Ok act.HandOut) = Unit {0}
Facts t d s (Ok (act.Close k)) = Closes t d s k
Facts t d s (Ok (act.Start x z len)) = Starts t d s x z len
Facts t d s (Ok (act.Data x v n)) = Holds t d s x v n

-- ---- a closing: no table fault

-- where all are Masters of the table, all above the first k are
pub no_fault : (t : List Entry) (k : ℕ) (l : List OpenTag) → all_masters t l ≡ true → all_masters t (drop k l) ≡ false → ⊥
no_fault t k l m e = true≢false (sym (every_drop (λ m. is_master (data_type_of t m.id)) k l m) ∙ e)

module _ (t : List Entry) (d : TagDecoder) (s : List ℕ) (reading : Reading d) (masters : all_masters t (opens d) ≡ true) where
  closing_facts : (k : ℕ) {a : Result Action DecodeError} → FullBatch d k → ClosesFor t d s k → Closing t d k a → Facts t d s a
  closing_facts k batch why (exit.closes e) = record { reading = reading; batch = batch; why = why }
  closing_facts k batch why (exit.no_master_lem e) = absurd (no_fault t k (opens d) masters e)

-- ---- 8 to 11, of a header that was read; d has the note

or_off : (a b : Bool) → (a || b) ≡ true → a ≡ false → b ≡ true
or_off true b e f = absurd (true≢false f)
or_off false b e f = e

module _ (t : List Entry) (d : TagDecoder) (s : List ℕ) (byte : Octets s) (h : TagHeader) (is : read_header t s ≡ Ok (status.Complete h)) where
  end_is : declared_end t d.position s ≡ end_after (d.position + h.len) h.size
  unfolding declared_end
  end_is = ap (header_end d.position) is

  its_head : Heads t s h.id
  its_head = record { its = h; is_read = is; same_id = refl }

  inside_size : Valid t d h → (z : EBMLSize) → h.size ≡ z → InsideSize d h.len z
  inside_size v Unknown e = tt
  inside_size v (Known n) e = λ off. unfold fits_inside in or_off d.settings.allow_oversized _ (valid_fits t d h n v e) off

  small_size : (z : EBMLSize) → h.size ≡ z → Small z
  small_size Unknown e = tt
  small_size (Known n) e = known_small n (header_sound t s h byte is) e

  module _ (reading : Reading d) where
    start_facts : Valid t d h → is_master h.kind ≡ true → d.settled ≡ true → Starts t d s h.id h.size h.len
    start_facts v k settled = record {
      heads = its_head;
      alone = record { its = h; read = is; no_more = refl };
      some = omega (arith, header_long (header_sound t s h byte is));
      reading = reading;
      settled = settled;
      master = sym (header_spec t s h is).kind ∙ master_is h.kind k;
      end = end_is;
      small = small_size h.size refl;
      inside = inside_size v h.size refl;
    }

    data-facts : ((is_typed h.kind && only_ids (path_of t h.id)) ≡ true → d.settled ≡ true) → (n : ℕ) (v : TagValue) → HasPayload t d h n → h.len + n ≤ length s → payload_of d h n s ≡ Ok v → Holds t d s h.id v (h.len + n)
    data-facts settles n v has l e =
        let a : d.position + h.len + n ≡ d.position + (h.len + n) = omega arith in
        let k : value_kind v ≡ h.kind = subst (OfKind h.kind) e (data-kind _ h.kind _ _ has.no_master_lem) in
        record {
          heads = its_head;
          reading = reading;
          kind = k ∙ (header_spec t s h is).kind;
          whole = record { its = h; read = is; size = n; known = has.known; count = refl; within = l; value = e };
          settled = λ q. settles (ap (λ (k : TagDataType). is_typed k && only_ids (path_of t h.id)) (header_spec t s h is).kind ∙ q);
          some = omega (arith, header_long (header_sound t s h byte is));
          end = end_is ∙ ap (end_after (d.position + h.len)) has.known ∙ ap Some a;
          inside = inside_size has.at.valid (Known n) has.known;
        }

    full_19 : 32 ≤ d.open_count → Mild d error.TooManyOpen
    full_19 l = record { not_10 = omega arith; not_11 = omega arith; not_23 = omega arith; not_24 = omega arith; at_19 = λ q. (reading.none_waiting, l) }

    module _ (masters : all_masters t (opens d) ≡ true) (count : length (opens d) ≡ d.open_count) (settled : is_master h.kind ≡ true → d.settled ≡ true)
        (settles : (is_typed h.kind && only_ids (path_of t h.id)) ≡ true → d.settled ≡ true) where
      header_facts : {a : Result Action DecodeError} → HeaderExit t d h s a → Facts t d s a
      header_facts (exit.misplaced p) = mild d error.HierarchyError (omega arith)
      header_facts (exit.oversized n p e f) = mild d error.OversizedChildElement (omega arith)
      header_facts (exit.too_large n p e f g) = mild d error.InvalidTagSize (omega arith)
      header_facts (exit.past_end p e f g) = mild d error.UnknownSizePastEnd (omega arith)
      header_facts (exit.ends_tops v l c) = closing_facts t d s reading masters (step10 t d h.id) (step10_batch t d h.id count l) (by_next_id h is refl) c
      header_facts (exit.too_many at k l) = full_19 l
      header_facts (exit.starts at k l) = start_facts at.valid k (settled k)
      header_facts (exit.no_size at k e) = mild d error.InvalidTagData (omega arith)
      header_facts (exit.payload_incomplete n has l) = reading
      header_facts (exit.payload_refused n x has l e) = parse_mild d x
      header_facts (exit.holds n v has l e) = data-facts settles n v has l e

-- ---- 7: the note

-- settling comes once, and the parents that it implies are Masters of the table
pub record Settles (t : List Entry) (d : TagDecoder) (path : List PathPart) : Type 0 where
  pub unsettled : d.settled ≡ false
  pub masters : all_masters t (map implied path) ≡ true
  pub short : length path ≤ 32

-- what holds of the note that was decided
abbrev pub NoteFacts : List ℕ → List Entry → TagDecoder → Option Path → Type 0
NoteFacts ps t d None = Unit {0}
NoteFacts ps t d (Some path) = Settles t d (parts_in (parts_of ps) path)

all_three : (a b c : Bool) → a ≡ false → b ≡ true → c ≡ true → (not a && b && c) ≡ true
all_three a b c p q r = rw (p, q, r)

module _ (es ps : List ℕ) (s : List ℕ) (h : TagHeader) (is : read_header (table_of es ps) s ≡ Ok (status.Complete h)) where
  path_is : parts_in (parts_of ps) h.path ≡ path_of (table_of es ps) h.id
  path_is = path_read es ps s h is

  -- the path of a header that was read fits the record
  pub path_short : good_shape es ps ≡ true → length (parts_in (parts_of ps) h.path) ≤ 32
  path_short shape = omega (arith, path_few es ps s h is shape)

module _ (es ps : List ℕ) (shape : good_shape es ps ≡ true) (passed : PassedTable (table_of es ps)) (s : List ℕ) (h : TagHeader) (is : read_header (table_of es ps) s ≡ Ok (status.Complete h)) where
  -- it holds of the note of a header that was read
  pub step7_facts : (d : TagDecoder) → NoteFacts ps (table_of es ps) d (step7 (table_of es ps) d h)
  step7_facts d =
      pick (NoteFacts ps (table_of es ps) d) (settles (table_of es ps) d h) (Some h.path) None
      (λ e.
      let ids = both (not d.settled && is_typed h.kind) (only_ids (path_of (table_of es ps) h.id)) e in
      record {
        unsettled = not-false d.settled (both (not d.settled) (is_typed h.kind) ids.left).left;
        masters = rw (path_is es ps s h is) (implied_masters (table_of es ps) (path_of (table_of es ps) h.id) ids.right (path_masters (table_of es ps) passed h.id));
        short = path_short es ps s h is shape;
      })
      (λ e. tt)

  -- an element whose path is all IDs is read only once settled
  element_settles : (d : TagDecoder) → (is_typed h.kind && only_ids (path_of (table_of es ps) h.id)) ≡ true → (noted ps d (step7 (table_of es ps) d h)).settled ≡ true
  element_settles d q = noted_settled ps d (step7 (table_of es ps) d h) ∙ go d.settled refl
    where
      go : (b : Bool) → d.settled ≡ b → (b || is_settle (step7 (table_of es ps) d h)) ≡ true
      go true e = refl
      go false e =
          let k = both (is_typed h.kind) (only_ids (path_of (table_of es ps) h.id)) q in
          ap is_settle (cond_yes (settles (table_of es ps) d h) (Some h.path) None (all_three _ _ _ e k.left k.right))

  -- so is a Master: its path holds IDs only (rule 33)
  master_settles : (d : TagDecoder) → is_master h.kind ≡ true → (noted ps d (step7 (table_of es ps) d h)).settled ≡ true
  unfolding is_typed
  master_settles d k =
      let kind : h.kind ≡ type.Master = master_is h.kind k in
      let typed : is_typed h.kind ≡ true = rw kind in
      element_settles d (and_both typed (master_of_ids_lem (table_of es ps) passed h.id (sym (header_spec (table_of es ps) s h is).kind ∙ kind)))

-- the note keeps what the promises need
noted_reading : (ps : List ℕ) (d : TagDecoder) (n : Option Path) → Reading d → Reading (noted ps d n)
noted_reading ps d n r = record { none_waiting = noted_waiting_count ps d n ∙ r.none_waiting; unfinished = noted_finished ps d n ∙ r.unfinished }

-- the open masters are Masters of the table with the note too
pub noted_masters : (ps : List ℕ) (t : List Entry) (d : TagDecoder) (n : Option Path) → NoteFacts ps t d n → all_masters t (opens d) ≡ true → all_masters t (opens (noted ps d n)) ≡ true
unfolding noted
noted_masters ps t d None f m = m
noted_masters ps t d (Some path) f m = rw (settled_opens d (parts_in (parts_of ps) path)) f.masters

noted_count : (ps : List ℕ) (d : TagDecoder) (n : Option Path) → length (opens d) ≡ d.open_count → length (opens (noted ps d n)) ≡ (noted ps d n).open_count
unfolding noted
noted_count ps d None e = e
noted_count ps d (Some path) e =
    ap length (settled_opens d (parts_in (parts_of ps) path)) ∙ length-map (parts_in (parts_of ps) path) implied ∙ sym (settled_count d (parts_in (parts_of ps) path))

-- ---- 1

-- the refusal 12: n bytes reach beyond 2^62
pub record TooFar (d : TagDecoder) (n : ℕ) (e : DecodeError) : Type 0 where
  pub number : error_number e ≡ 12
  pub beyond : 2 ^ 62 < d.position + n

-- a check that fails does so with 12
abbrev FailsFar : TagDecoder → ℕ → Result ⊤ DecodeError → Type 0
FailsFar d n (Ok _) = Unit {0}
FailsFar d n (Err e) = TooFar d n e

-- of 10 to 12 only 12 comes, on a good record and with a table of good shape
pub only_far : (es ps : List ℕ) (d : TagDecoder) (n : ℕ) {e : DecodeError} → good_shape es ps ≡ true → GoodState d → check_record10to12 es ps d n ≡ Err e → TooFar d n e
unfolding check_record10to12 check10to12
only_far es ps d n shape good q =
    subst (FailsFar d n) q
    (rw (shape, is_good_state d good)
    (pick (FailsFar d n) (leb (d.position + n) (2 ^ 62)) (Ok _) (Err error.TooFar) (λ f. tt) (λ f. record { number = refl; beyond = leb-false _ _ f })))

-- ---- the decision

-- what holds of a decision: of its note, and of its action on the record with the note
pub record AllFacts (ps : List ℕ) (t : List Entry) (d : TagDecoder) (s : List ℕ) (a : Decision) : Type 0 where
  pub note : NoteFacts ps t d a.note
  pub action : Facts t (noted ps d a.note) s a.action

module _ (es ps : List ℕ) (shape : good_shape es ps ≡ true) (passed : PassedTable (table_of es ps)) (d : TagDecoder) (s : List ℕ) (byte : Octets s)
    (masters : all_masters (table_of es ps) (opens d) ≡ true) (count : length (opens d) ≡ d.open_count) (good : GoodState d) where
  plain_facts : (a : Result Action DecodeError) → Facts (table_of es ps) d s a → AllFacts ps (table_of es ps) d s (plain a)
  unfolding noted
  plain_facts a f = record { note = tt; action = f }

  reading_by : exit.Reading es ps d s → Reading d
  reading_by r = record { none_waiting = r.none_waiting; unfinished = r.unfinished }

  more_facts : {m : ℕ} → NoneFull es ps d s → AllFacts ps (table_of es ps) d s (plain (Ok (act.NeedMore m)))
  more_facts {m} n = plain_facts (Ok (act.NeedMore m)) (reading_by n.reading)

  exit_facts : {a : Decision} → Exit es ps d s a → AllFacts ps (table_of es ps) d s a
  exit_facts (exit.refused_first x e) = plain_facts (Err x) (let q = (only_far es ps d (length s) shape good e).number in mild d x (omega arith))
  exit_facts (exit.after_finish e f l) = plain_facts (Err error.AfterFinish) (mild d error.AfterFinish (omega arith))
  exit_facts (exit.hands_out ok w) = plain_facts (Ok act.HandOut) tt
  exit_facts (exit.finished ok w f) = plain_facts (Ok act.Finish) (w, f)
  exit_facts (exit.closes_full r l c) = plain_facts _ (closing_facts (table_of es ps) d s (reading_by r) masters (step3 d) (step3_batch d count l) (by_position refl) c)
  exit_facts (exit.no_byte n z) = more_facts n
  exit_facts (exit.header_incomplete at e) = more_facts at.none_full
  exit_facts (exit.header_refused x at e) = plain_facts (Err (parse_error x)) (parse_mild d x)
  exit_facts (exit.id_refused h at f) = plain_facts (Err (refusal6 d h)) (id_mild d (good_form d.settings.strict h.id))
  exit_facts (exit.on_header h at f x) =
      let t = table_of es ps in
      let n = step7 t d h in
      let e = noted ps d n in
      let note = step7_facts es ps shape passed s h at.read d in
      let reading = noted_reading ps d n (reading_by at.at_bytes.none_full.reading) in
      record {
        note = note;
        action = header_facts t e s byte h at.read reading (noted_masters ps t d n note masters) (noted_count ps d n count) (master_settles es ps shape passed s h at.read d)
            (element_settles es ps shape passed s h at.read d) x;
      }

  -- of the decision of any call on a good record with a checked table: what the promises need
  pub decide_facts : AllFacts ps (table_of es ps) d s (decide es ps d s)
  decide_facts = exit_facts (exits es ps d s)
