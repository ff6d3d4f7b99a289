-- The view of a call's exits: every way in which `decide` ends, each with the facts that hold there. `exits` says that
-- there is no other, `exit_decides` that whoever has the facts of a case knows the decision. Number tests stand as
-- orders, the others as equations. Assumes nothing.
use Prim.Native.Nat.{ℕ, ◌-◌, ◌+◌, ◌≤◌, ◌<◌}
use mathlib.Core.Path.{◌≡◌, refl, sym, ap, ◌∙◌}
use mathlib.Core.Bool.{Bool, true, false, cond, not, ◌&&◌, ◌||◌, false≢true}
use mathlib.Core.List.{List}
use native.Mathlib.Omega.{arith}
use borrow.Author.Tests.{ltb-true, ltb-false, leb-true, leb-false, eqb-true, eqb-false, lt-ltb, le-ltb, le-leb, lt-leb, eq-eqb, ne_eqb}
use lib.Dec.{leb, ltb, eqb}
use lib.ListN.{length, take, drop}
use Rattle.basics.specs.Lists.{every}
use Rattle.table.specs.Table.{Entry, table_of, data_type_of, is_master}
use Rattle.table.specs.declared.types.Path.{Path}
use Rattle.spec_util.specs.Walk.{most_open}
use Rattle.spec_util.specs.declared.types.OpenTag.{OpenTag}
use Rattle.tag_parse.specs.Header.{read_header}
use Rattle.tag_parse.specs.Payload.{value_of}
use Rattle.tag_parse.specs.declared.types.EBMLSize.{EBMLSize}
use Rattle.tag_parse.specs.declared.types.EBMLSize.TheVariants.{Known, Unknown}
use Rattle.tag_parse.specs.declared.types.ParseError.{ParseError}
use Rattle.tag_parse.specs.declared.types.TagHeader.{TagHeader}
use Rattle.tag_parse.specs.declared.types.TagValue.{TagValue}
use Rattle.decoder_rules.specs.Record.{opens}
use Rattle.decoder_rules.specs.OneCall.{check_record10to12, check13, and_then, step1, step3, close_or_fault, step6, refusal6, settles, step7, noted, step8, fits_inside, step9, valid_header, step10, data_or, read_element, element_of, step11}
use Rattle.decoder_rules.specs.Deciding.{least_header, plain, steps10_11, unless, steps8_11, steps6_11, step5, steps4_11, steps2_11, or_refuse, decide}
use Rattle.decoder_rules.specs.Numbers.{parse_error}
use Rattle.decoder_rules.specs.declared.types.Action.{Action}
use Rattle.decoder_rules.specs.declared.types.Action.TheVariants as act
use Rattle.decoder_rules.specs.declared.types.Decision.{Decision}
use Rattle.decoder_rules.specs.declared.types.DecodeError.{DecodeError}
use Rattle.decoder_rules.specs.declared.types.DecodeError.TheVariants as error
use Rattle.decoder_rules.specs.declared.types.TagDecoder.{TagDecoder}
use Rattle.basics.proofs.Bools.{absurd_eq, pick, both, cond_yes, cond_no}
use Rattle.std.specs.Prelude.{Err, None, Ok, Option, Result, Some, ⊤}
use Rattle.tools.specs.declared.status.Status.{Status}
use Rattle.tools.specs.declared.status.Status.TheVariants as status

-- ---- closing

-- every one of these masters is a Master of the table
abbrev pub all_masters : List Entry → List OpenTag → Bool
all_masters t l = every (λ m. is_master (data_type_of t m.id)) l

-- how the closing of all above the first k ends: they close, or 24
pub data Closing (t : List Entry) (d : TagDecoder) (k : ℕ) : Result Action DecodeError → Type 0 where
  closes : all_masters t (drop k (opens d)) ≡ true → Closing t d k (Ok (act.Close k))
  no_master_lem : all_masters t (drop k (opens d)) ≡ false → Closing t d k (Err error.NotAMaster)

-- ---- 8 to 11; d has the note

-- n is over the greatest size
abbrev pub is_too_large : TagDecoder → ℕ → Bool
is_too_large d n = d.settings.max_given && ltb d.settings.max_size n

-- what is read of a payload of n bytes
abbrev pub payload_of : TagDecoder → TagHeader → ℕ → List ℕ → Result TagValue ParseError
payload_of d h n s =
    value_of d.settings.strict h.kind (take n (drop h.len s)) (record { begin = d.position + h.len; end = d.position + (h.len + n) })

-- 8 and 9 are passed
pub record Valid (t : List Entry) (d : TagDecoder) (h : TagHeader) : Type 0 where
  pub path : step8 t d h ≡ true
  pub size : step9 d h.len h.size ≡ Ok tt

-- 10 is passed too: no open master ends by this ID
pub record AtElement (t : List Entry) (d : TagDecoder) (h : TagHeader) : Type 0 where
  pub valid : Valid t d h
  pub none_ended : d.open_count ≤ step10 t d h.id

-- the element is no Master and has n bytes of payload
pub record HasPayload (t : List Entry) (d : TagDecoder) (h : TagHeader) (n : ℕ) : Type 0 where
  pub at : AtElement t d h
  pub no_master_lem : is_master h.kind ≡ false
  pub known : h.size ≡ Known n

-- every way in which 8 to 11 end
pub data HeaderExit (t : List Entry) (d : TagDecoder) (h : TagHeader) (s : List ℕ) : Result Action DecodeError → Type 0 where
  misplaced : step8 t d h ≡ false → HeaderExit t d h s (Err error.HierarchyError)
  oversized : (n : ℕ) → step8 t d h ≡ true → h.size ≡ Known n → fits_inside d (h.len + n) ≡ false → HeaderExit t d h s (Err error.OversizedChildElement)
  too_large : (n : ℕ) → step8 t d h ≡ true → h.size ≡ Known n → fits_inside d (h.len + n) ≡ true → is_too_large d n ≡ true
      → HeaderExit t d h s (Err error.InvalidTagSize)
  past_end : step8 t d h ≡ true → h.size ≡ Unknown → d.settings.strict ≡ true → fits_inside d h.len ≡ false
      → HeaderExit t d h s (Err error.UnknownSizePastEnd)
  ends_tops : {a : Result Action DecodeError} → Valid t d h → step10 t d h.id < d.open_count → Closing t d (step10 t d h.id) a → HeaderExit t d h s a
  too_many : AtElement t d h → is_master h.kind ≡ true → most_open ≤ d.open_count → HeaderExit t d h s (Err error.TooManyOpen)
  starts : AtElement t d h → is_master h.kind ≡ true → d.open_count < most_open → HeaderExit t d h s (Ok (act.Start h.id h.size h.len))
  no_size : AtElement t d h → is_master h.kind ≡ false → h.size ≡ Unknown → HeaderExit t d h s (Err error.InvalidTagData)
  payload_incomplete : (n : ℕ) → HasPayload t d h n → length s < h.len + n → HeaderExit t d h s (Ok (act.NeedMore (h.len + n - length s)))
  payload_refused : (n : ℕ) (x : ParseError) → HasPayload t d h n → h.len + n ≤ length s → payload_of d h n s ≡ Err x
      → HeaderExit t d h s (Err (parse_error x))
  holds : (n : ℕ) (v : TagValue) → HasPayload t d h n → h.len + n ≤ length s → payload_of d h n s ≡ Ok v
      → HeaderExit t d h s (Ok (act.Data h.id v (h.len + n)))

-- ---- the whole decision

-- 1 is passed
pub record Admitted (es ps : List ℕ) (d : TagDecoder) (s : List ℕ) : Type 0 where
  pub first : check_record10to12 es ps d (length s) ≡ Ok tt
  pub second : check13 d.finished (length s) ≡ Ok tt

-- 2 is passed: no End waits, and the end of input has not come
pub record Reading (es ps : List ℕ) (d : TagDecoder) (s : List ℕ) : Type 0 where
  pub admitted : Admitted es ps d s
  pub none_waiting : d.waiting_count ≡ 0
  pub unfinished : d.finished ≡ false

-- 3 is passed: no open master is full
pub record NoneFull (es ps : List ℕ) (d : TagDecoder) (s : List ℕ) : Type 0 where
  pub reading : Reading es ps d s
  pub none_full : d.open_count ≤ step3 d

-- 4 is passed: some byte is there
pub record AtBytes (es ps : List ℕ) (d : TagDecoder) (s : List ℕ) : Type 0 where
  pub none_full : NoneFull es ps d s
  pub some_byte : 0 < length s

-- 5 is passed: the header h was read
pub record AtHeader (es ps : List ℕ) (d : TagDecoder) (s : List ℕ) (h : TagHeader) : Type 0 where
  pub at_bytes : AtBytes es ps d s
  pub read : read_header (table_of es ps) s ≡ Ok (status.Complete h)

-- every way in which a call is decided; after step 6 the note is that of step 7, and 8 to 11 go by the record with it
pub data Exit (es ps : List ℕ) (d : TagDecoder) (s : List ℕ) : Decision → Type 0 where
  refused_first : (x : DecodeError) → check_record10to12 es ps d (length s) ≡ Err x → Exit es ps d s (plain (Err x))
  after_finish : check_record10to12 es ps d (length s) ≡ Ok tt → d.finished ≡ true → 0 < length s → Exit es ps d s (plain (Err error.AfterFinish))
  hands_out : Admitted es ps d s → 0 < d.waiting_count → Exit es ps d s (plain (Ok act.HandOut))
  finished : Admitted es ps d s → d.waiting_count ≡ 0 → d.finished ≡ true → Exit es ps d s (plain (Ok act.Finish))
  closes_full : {a : Result Action DecodeError} → Reading es ps d s → step3 d < d.open_count → Closing (table_of es ps) d (step3 d) a → Exit es ps d s (plain a)
  no_byte : NoneFull es ps d s → length s ≡ 0 → Exit es ps d s (plain (Ok (act.NeedMore least_header)))
  header_incomplete : {m : ℕ} → AtBytes es ps d s → read_header (table_of es ps) s ≡ Ok (status.NeedMore m) → Exit es ps d s (plain (Ok (act.NeedMore m)))
  header_refused : (x : ParseError) → AtBytes es ps d s → read_header (table_of es ps) s ≡ Err x → Exit es ps d s (plain (Err (parse_error x)))
  id_refused : (h : TagHeader) → AtHeader es ps d s h → step6 d h ≡ false → Exit es ps d s (plain (Err (refusal6 d h)))
  on_header : {a : Result Action DecodeError} (h : TagHeader) → AtHeader es ps d s h → step6 d h ≡ true → HeaderExit (table_of es ps) (noted ps d (step7 (table_of es ps) d h)) h s a
      → Exit es ps d s (record { note = step7 (table_of es ps) d h; action = a })

-- ---- complete

-- a closing ends in one of these ways
pub closing_exits : (t : List Entry) (d : TagDecoder) (k : ℕ) → Closing t d k (close_or_fault t d k)
unfolding close_or_fault
closing_exits t d k = pick (Closing t d k) (all_masters t (drop k (opens d))) (Ok (act.Close k)) (Err error.NotAMaster) (λ e. closes e) (λ e. no_master_lem e)

module _ (t : List Entry) (d : TagDecoder) (h : TagHeader) (s : List ℕ) where
  abbrev By : Result Action DecodeError → Type 0
  By a = HeaderExit t d h s a

  data-exits : (n : ℕ) → HasPayload t d h n → h.len + n ≤ length s → (r : Result TagValue ParseError) → payload_of d h n s ≡ r → By (data_or h.id (h.len + n) r)
  data-exits n at l (Ok v) e = holds n v at l e
  data-exits n at l (Err x) e = payload_refused n x at l e

  element_exits : AtElement t d h → is_master h.kind ≡ false → (z : EBMLSize) → h.size ≡ z → By (element_of d.settings.strict d.position h z s)
  unfolding element_of read_element
  element_exits at k Unknown e = no_size at k e
  element_exits at k (Known n) e =
      let has : HasPayload t d h n = record { at = at; no_master_lem = k; known = e } in
      pick By (ltb (length s) (h.len + n)) (Ok (act.NeedMore (h.len + n - length s))) (data_or h.id (h.len + n) (payload_of d h n s))
      (λ f. payload_incomplete n has (ltb-true _ _ f))
      (λ f. data-exits n has (ltb-false _ _ f) (payload_of d h n s) refl)

  step11_exits : AtElement t d h → By (step11 d.settings.strict d.open_count d.position h s)
  unfolding step11
  step11_exits at =
      pick By (is_master h.kind) (cond (leb most_open d.open_count) (Err error.TooManyOpen) (Ok (act.Start h.id h.size h.len)))
      (element_of d.settings.strict d.position h h.size s)
      (λ k. pick By (leb most_open d.open_count) (Err error.TooManyOpen) (Ok (act.Start h.id h.size h.len))
      (λ f. too_many at k (leb-true _ _ f))
      (λ f. starts at k (leb-false _ _ f)))
      (λ k. element_exits at k h.size refl)

  steps10_exits : Valid t d h → By (steps10_11 t d h s)
  unfolding steps10_11
  steps10_exits v =
      pick By (ltb (step10 t d h.id) d.open_count) (close_or_fault t d (step10 t d h.id)) (step11 d.settings.strict d.open_count d.position h s)
      (λ f. ends_tops v (ltb-true _ _ f) (closing_exits t d (step10 t d h.id)))
      (λ f. step11_exits (record { valid = v; none_ended = ltb-false _ _ f }))

  -- what is done where 8 and 9 answer c
  abbrev After : Result ⊤ DecodeError → Type 0
  After c = By (unless c (steps10_11 t d h s))

  -- strict, and the rest does not hold
  neither : {A : Type 0} (m b : Bool) → (m ≡ true → b ≡ false → A) → (not m || b) ≡ false → A
  neither true false found e = found refl refl
  neither true true found e = absurd (false≢true (sym e))
  neither false b found e = absurd (false≢true (sym e))

  step9_exits : step8 t d h ≡ true → (z : EBMLSize) → h.size ≡ z → After (step9 d h.len z)
  step9_exits p Unknown e =
      unfold step9 in
      pick After (not d.settings.strict || fits_inside d h.len) (Ok tt) (Err error.UnknownSizePastEnd)
      (λ f. steps10_exits (record { path = p; size = unfold step9 in rw (e, f) }))
      (λ f. neither d.settings.strict (fits_inside d h.len) (λ m g. past_end p e m g) f)
  step9_exits p (Known n) e =
      unfold step9 in
      pick After (fits_inside d (h.len + n)) (cond (is_too_large d n) (Err error.InvalidTagSize) (Ok tt)) (Err error.OversizedChildElement)
      (λ f. pick After (is_too_large d n) (Err error.InvalidTagSize) (Ok tt)
      (λ g. too_large n p e f g)
      (λ g. steps10_exits (record { path = p; size = unfold step9 in rw (e, f, g) })))
      (λ f. oversized n p e f)

  -- 8 to 11 end in one of these ways
  pub header_exits : HeaderExit t d h s (steps8_11 t d h s)
  unfolding steps8_11 valid_header
  header_exits =
      pick After (step8 t d h) (step9 d h.len h.size) (Err error.HierarchyError) (λ p. step9_exits p h.size refl) (λ p. misplaced p)

module _ (es ps : List ℕ) (d : TagDecoder) (s : List ℕ) where
  abbrev Ends : Decision → Type 0
  Ends a = Exit es ps d s a

  steps6_exits : (h : TagHeader) → AtHeader es ps d s h → Ends (steps6_11 ps (table_of es ps) d h s)
  unfolding steps6_11
  steps6_exits h at =
      let e = noted ps d (step7 (table_of es ps) d h) in
      pick Ends (step6 d h) (record { note = step7 (table_of es ps) d h; action = steps8_11 (table_of es ps) e h s }) (plain (Err (refusal6 d h)))
      (λ f. on_header h at f (header_exits (table_of es ps) e h s))
      (λ f. id_refused h at f)

  step5_exits : AtBytes es ps d s → (r : Result (Status TagHeader) ParseError) → read_header (table_of es ps) s ≡ r → Ends (step5 ps (table_of es ps) d s r)
  unfolding step5
  step5_exits at (Ok (status.NeedMore missing)) e = header_incomplete at e
  step5_exits at (Err x) e = header_refused x at e
  step5_exits at (Ok (status.Complete h)) e = steps6_exits h (record { at_bytes = at; read = e })

  steps4_exits : NoneFull es ps d s → Ends (steps4_11 ps (table_of es ps) d s)
  unfolding steps4_11
  steps4_exits n =
      pick Ends (eqb (length s) 0) (plain (Ok (act.NeedMore least_header))) (step5 ps (table_of es ps) d s (read_header (table_of es ps) s))
      (λ f. no_byte n (eqb-true _ _ f))
      (λ f.
      let some : 0 < length s = omega (arith, eqb-false (length s) 0 f) in
      step5_exits (record { none_full = n; some_byte = some }) (read_header (table_of es ps) s) refl)

  steps2_exits : Admitted es ps d s → Ends (steps2_11 ps (table_of es ps) d s)
  unfolding steps2_11
  steps2_exits ok =
      let t = table_of es ps in
      let from3 = cond (ltb (step3 d) d.open_count) (plain (close_or_fault t d (step3 d))) (steps4_11 ps t d s) in
      pick Ends (ltb 0 d.waiting_count) (plain (Ok act.HandOut)) (cond d.finished (plain (Ok act.Finish)) from3) (λ f. hands_out ok (ltb-true _ _ f))
      (λ f.
      let none : d.waiting_count ≡ 0 = omega (arith, ltb-false 0 d.waiting_count f) in
      pick Ends d.finished (plain (Ok act.Finish)) from3 (λ g. finished ok none g)
      (λ g.
      let reading : Reading es ps d s = record { admitted = ok; none_waiting = none; unfinished = g } in
      pick Ends (ltb (step3 d) d.open_count) (plain (close_or_fault t d (step3 d))) (steps4_11 ps t d s)
      (λ i. closes_full reading (ltb-true _ _ i) (closing_exits t d (step3 d)))
      (λ i. steps4_exits (record { reading = reading; none_full = ltb-false _ _ i }))))

  -- where 13 answers c
  abbrev Second : Result ⊤ DecodeError → Type 0
  Second c = Ends (or_refuse c (steps2_11 ps (table_of es ps) d s))

  second_exits : check_record10to12 es ps d (length s) ≡ Ok tt → Second (check13 d.finished (length s))
  unfolding check13
  second_exits p =
      pick Second (d.finished && ltb 0 (length s)) (Err error.AfterFinish) (Ok tt)
      (λ e. let b = both d.finished (ltb 0 (length s)) e in after_finish p b.left (ltb-true _ _ b.right))
      (λ e. steps2_exits (record { first = p; second = cond_no _ _ _ e }))

  -- a call is decided in one of these ways
  pub exits : Exit es ps d s (decide es ps d s)
  unfolding decide
  exits = go (check_record10to12 es ps d (length s)) refl
    where
      go : (c : Result ⊤ DecodeError) → check_record10to12 es ps d (length s) ≡ c → Second (and_then c (check13 d.finished (length s)))
      go (Ok _) p = second_exits p
      go (Err x) p = refused_first x p

-- ---- sound

-- whoever has the facts of a case knows what the closing decides
pub closing_decides : (t : List Entry) (d : TagDecoder) (k : ℕ) {a : Result Action DecodeError} → Closing t d k a → a ≡ close_or_fault t d k
unfolding close_or_fault
closing_decides t d k (closes e) = sym (cond_yes _ _ _ e)
closing_decides t d k (no_master_lem e) = sym (cond_no _ _ _ e)

-- 8 and 9 are passed, as `valid_header` says it
pub valid_header_lem : (t : List Entry) (d : TagDecoder) (h : TagHeader) → Valid t d h → valid_header t d h ≡ Ok tt
unfolding valid_header
valid_header_lem t d h v = cond_yes _ _ _ v.path ∙ v.size

-- and the other way
pub valid_by : (t : List Entry) (d : TagDecoder) (h : TagHeader) → valid_header t d h ≡ Ok tt → Valid t d h
unfolding valid_header
valid_by t d h e = go (step8 t d h) refl e
  where
    go : (b : Bool) → step8 t d h ≡ b → cond b (step9 d h.len h.size) (Err error.HierarchyError) ≡ Ok tt → Valid t d h
    go true p q = record { path = p; size = q }
    go false p q = let z : ◌≡◌ {A = ℕ} 0 1 = cc in absurd_eq z

-- an element of known size that passed 9 ends inside every open master of known size, or need not
pub valid_fits : (t : List Entry) (d : TagDecoder) (h : TagHeader) (n : ℕ) → Valid t d h → h.size ≡ Known n → fits_inside d (h.len + n) ≡ true
unfolding step9
valid_fits t d h n v e = by (fits_inside d (h.len + n)) (rw e at v.size)
  where
    by : (b : Bool) → ◌≡◌ {A = Result ⊤ DecodeError} (cond b (cond (is_too_large d n) (Err error.InvalidTagSize) (Ok tt)) (Err error.OversizedChildElement)) (Ok tt) → b ≡ true
    by true q = refl
    by false q = let z : ◌≡◌ {A = ℕ} 0 1 = cc in absurd_eq z

module _ (t : List Entry) (d : TagDecoder) (h : TagHeader) (s : List ℕ) where
  -- 9 on a size that is Known
  step9_known : {n : ℕ} {c : Result ⊤ DecodeError} → h.size ≡ Known n → step9 d h.len (Known n) ≡ c → step9 d h.len h.size ≡ c
  step9_known e q = rw e q

  -- and on one that is Unknown
  step9_unknown : {c : Result ⊤ DecodeError} → h.size ≡ Unknown → step9 d h.len Unknown ≡ c → step9 d h.len h.size ≡ c
  step9_unknown e q = rw e q

  -- a header that 8 or 9 refuses
  pub invalid_decides : {x : DecodeError} → valid_header t d h ≡ Err x → Err x ≡ steps8_11 t d h s
  unfolding steps8_11
  invalid_decides e = rw e

  valid_decides : {a : Result Action DecodeError} → Valid t d h → a ≡ steps10_11 t d h s → a ≡ steps8_11 t d h s
  unfolding steps8_11
  valid_decides v q = rw (valid_header_lem t d h v) q

  -- past 10 the decision is that of 11
  pub element_decides : {a : Result Action DecodeError} → AtElement t d h → a ≡ step11 d.settings.strict d.open_count d.position h s → a ≡ steps8_11 t d h s
  element_decides at q = valid_decides at.valid (unfold steps10_11 in q ∙ sym (cond_no _ _ _ (le-ltb _ _ at.none_ended)))

  payload_decides : {a : Result Action DecodeError} {n : ℕ} → HasPayload t d h n → a ≡ read_element d.settings.strict d.position h n s → a ≡ steps8_11 t d h s
  payload_decides has q =
      element_decides has.at (unfold step11 element_of in q ∙ rw has.known (sym (cond_no _ _ _ has.no_master_lem)))

  -- whoever has the facts of a case knows what 8 to 11 decide
  pub header_decides : {a : Result Action DecodeError} → HeaderExit t d h s a → a ≡ steps8_11 t d h s
  header_decides (misplaced p) = invalid_decides (unfold valid_header in cond_no _ _ _ p)
  header_decides (oversized n p e f) =
      invalid_decides (unfold valid_header in cond_yes _ _ _ p ∙ step9_known e (unfold step9 in cond_no _ _ _ f))
  header_decides (too_large n p e f g) =
      invalid_decides (unfold valid_header in cond_yes _ _ _ p ∙ step9_known e (unfold step9 in cond_yes _ _ _ f ∙ cond_yes _ _ _ g))
  header_decides (past_end p e m f) =
      invalid_decides
      (unfold valid_header in cond_yes _ _ _ p ∙ step9_unknown e (unfold step9 in cond_no _ _ _ (ap (λ (b : Bool). not b || fits_inside d h.len) m ∙ f)))
  header_decides (ends_tops v l c) =
      valid_decides v (unfold steps10_11 in closing_decides t d (step10 t d h.id) c ∙ sym (cond_yes _ _ _ (lt-ltb _ _ l)))
  header_decides (too_many at k l) = element_decides at (unfold step11 in sym (cond_yes _ _ _ k ∙ cond_yes _ _ _ (le-leb _ _ l)))
  header_decides (starts at k l) = element_decides at (unfold step11 in sym (cond_yes _ _ _ k ∙ cond_no _ _ _ (lt-leb _ _ l)))
  header_decides (no_size at k e) = element_decides at (unfold step11 element_of in rw e (sym (cond_no _ _ _ k)))
  header_decides (payload_incomplete n has l) = payload_decides has (unfold read_element in sym (cond_yes _ _ _ (lt-ltb _ _ l)))
  header_decides (payload_refused n x has l e) = payload_decides has (unfold read_element in rw e (sym (cond_no _ _ _ (le-ltb _ _ l))))
  header_decides (holds n v has l e) = payload_decides has (unfold read_element in rw e (sym (cond_no _ _ _ (le-ltb _ _ l))))

module _ (ps : List ℕ) (t : List Entry) (d : TagDecoder) (h : TagHeader) (s : List ℕ) where
  -- 6 to 11 where 6 refuses the ID
  pub id_refused_decides : step6 d h ≡ false → plain (Err (refusal6 d h)) ≡ steps6_11 ps t d h s
  unfolding steps6_11
  id_refused_decides f = sym (cond_no _ _ _ f)

  -- and where it passes: the note n, and 8 to 11 on the record with it
  pub noted_decides : (n : Option Path) {a : Result Action DecodeError} → step6 d h ≡ true → n ≡ step7 t d h → a ≡ steps8_11 t (noted ps d n) h s
      → record { note = n; action = a } ≡ steps6_11 ps t d h s
  unfolding steps6_11
  noted_decides n f p q = rw (q, p) (sym (cond_yes _ _ _ f))

module _ (es ps : List ℕ) (d : TagDecoder) (s : List ℕ) where
  -- a call that 1 refuses
  pub refused_decides : {x : DecodeError} → step1 es ps d (length s) ≡ Err x → plain (Err x) ≡ decide es ps d s
  unfolding decide
  refused_decides e = rw e

  -- 1 is passed, as `step1` says it
  pub step1_pass : Admitted es ps d s → step1 es ps d (length s) ≡ Ok tt
  step1_pass ok = rw (ok.first, ok.second)

  -- and the other way
  pub admitted_by : step1 es ps d (length s) ≡ Ok tt → Admitted es ps d s
  admitted_by e = go (check_record10to12 es ps d (length s)) refl e
    where
      go : (c : Result ⊤ DecodeError) → check_record10to12 es ps d (length s) ≡ c → and_then c (check13 d.finished (length s)) ≡ Ok tt → Admitted es ps d s
      go (Ok _) p q = record { first = p; second = q }
      go (Err x) p q = let z : ◌≡◌ {A = ℕ} 0 1 = cc in absurd_eq z

  -- after the end of input a call that is admitted was lent no byte
  pub finished_unlent : Admitted es ps d s → d.finished ≡ true → length s ≡ 0
  unfolding check13
  finished_unlent ok f = by (ltb 0 (length s)) refl (rw f at ok.second)
    where
      by : (b : Bool) → ltb 0 (length s) ≡ b → ◌≡◌ {A = Result ⊤ DecodeError} (cond b (Err error.AfterFinish) (Ok tt)) (Ok tt) → length s ≡ 0
      by true l q = let z : ◌≡◌ {A = ℕ} 0 1 = cc in absurd_eq z
      by false l q = omega (arith, ltb-false 0 (length s) l)

  admitted_decides : {a : Decision} → Admitted es ps d s → a ≡ steps2_11 ps (table_of es ps) d s → a ≡ decide es ps d s
  unfolding decide
  admitted_decides ok q = q ∙ sym (ap (λ (c : Result ⊤ DecodeError). or_refuse c (steps2_11 ps (table_of es ps) d s)) (step1_pass ok))

  reading_decides : {a : Decision} → Reading es ps d s
      → a ≡ cond (ltb (step3 d) d.open_count) (plain (close_or_fault (table_of es ps) d (step3 d))) (steps4_11 ps (table_of es ps) d s) → a ≡ decide es ps d s
  reading_decides r q =
      let none : d.waiting_count ≤ 0 = omega (arith, r.none_waiting) in
      admitted_decides r.admitted (unfold steps2_11 in q ∙ sym (cond_no _ _ _ (le-ltb _ _ none) ∙ cond_no _ _ _ r.unfinished))

  past3_decides : {a : Decision} → NoneFull es ps d s → a ≡ steps4_11 ps (table_of es ps) d s → a ≡ decide es ps d s
  past3_decides n q = reading_decides n.reading (q ∙ sym (cond_no _ _ _ (le-ltb _ _ n.none_full)))

  bytes-decide : {a : Decision} {r : Result (Status TagHeader) ParseError} → AtBytes es ps d s → read_header (table_of es ps) s ≡ r → a ≡ step5 ps (table_of es ps) d s r → a ≡ decide es ps d s
  unfolding steps4_11
  bytes-decide at e q =
      let some : length s ≡ 0 → ⊥ = λ z. omega (arith, at.some_byte) in
      past3_decides at.none_full (q ∙ rw e (sym (cond_no _ _ _ (ne_eqb _ _ some))))

  -- once a header is read, the decision is that of 6 to 11
  pub read_decides : {h : TagHeader} {a : Decision} → AtHeader es ps d s h → a ≡ steps6_11 ps (table_of es ps) d h s → a ≡ decide es ps d s
  unfolding step5
  read_decides at q = bytes-decide at.at_bytes at.read q

  -- whoever has the facts of a case knows the decision
  pub exit_decides : {a : Decision} → Exit es ps d s a → a ≡ decide es ps d s
  exit_decides (refused_first x e) = unfold decide in rw e
  exit_decides (after_finish e f l) = unfold decide check13 in rw (e, f, lt-ltb _ _ l)
  exit_decides (hands_out ok l) = admitted_decides ok (unfold steps2_11 in sym (cond_yes _ _ _ (lt-ltb _ _ l)))
  exit_decides (finished ok w f) =
      let none : d.waiting_count ≤ 0 = omega arith in
      admitted_decides ok (unfold steps2_11 in sym (cond_no _ _ _ (le-ltb _ _ none) ∙ cond_yes _ _ _ f))
  exit_decides (closes_full r l c) = reading_decides r (ap plain (closing_decides (table_of es ps) d (step3 d) c) ∙ sym (cond_yes _ _ _ (lt-ltb _ _ l)))
  exit_decides (no_byte n z) = past3_decides n (unfold steps4_11 in sym (cond_yes _ _ _ (eq-eqb _ _ z)))
  exit_decides (header_incomplete at e) = bytes-decide at e (unfold step5 in refl)
  exit_decides (header_refused x at e) = bytes-decide at e (unfold step5 in refl)
  exit_decides (id_refused h at f) = read_decides at (id_refused_decides ps (table_of es ps) d h s f)
  exit_decides (on_header h at f x) =
      let t = table_of es ps in
      let n = step7 t d h in
      read_decides at (noted_decides ps t d h s n f refl (header_decides t (noted ps d n) h s x))

-- ---- read off the view

-- a call that settles to the path p: the header that it read, and what it has passed
pub record Settling (es ps : List ℕ) (d : TagDecoder) (s : List ℕ) (p : Path) : Type 0 where
  pub h : TagHeader
  pub at : AtHeader es ps d s h
  pub typed : step6 d h ≡ true
  pub settling : settles (table_of es ps) d h ≡ true
  pub path : h.path ≡ p

-- whether an action answers that it is finished
abbrev pub is_finish : Result Action DecodeError → Bool
is_finish (Err e) = false
is_finish (Ok (act.NeedMore missing)) = false
is_finish (Ok act.Finish) = true
is_finish (Ok act.HandOut) = false
is_finish (Ok (act.Close k)) = false
is_finish (Ok (act.Start x z len)) = false
is_finish (Ok (act.Data x v n)) = false

closing_no_finish : {t : List Entry} {d : TagDecoder} {k : ℕ} {a : Result Action DecodeError} → Closing t d k a → is_finish a ≡ false
closing_no_finish (closes e) = refl
closing_no_finish (no_master_lem e) = refl

header_no_finish : {t : List Entry} {d : TagDecoder} {h : TagHeader} {s : List ℕ} {a : Result Action DecodeError} → HeaderExit t d h s a → is_finish a ≡ false
header_no_finish (misplaced p) = refl
header_no_finish (oversized n p e f) = refl
header_no_finish (too_large n p e f g) = refl
header_no_finish (past_end p e m f) = refl
header_no_finish (ends_tops v l c) = closing_no_finish c
header_no_finish (too_many at k l) = refl
header_no_finish (starts at k l) = refl
header_no_finish (no_size at k e) = refl
header_no_finish (payload_incomplete n has l) = refl
header_no_finish (payload_refused n x has l e) = refl
header_no_finish (holds n v has l e) = refl

module _ (es ps : List ℕ) (d : TagDecoder) (s : List ℕ) where
  by_settles : (h : TagHeader) {p : Path} (b : Bool) → settles (table_of es ps) d h ≡ b → ◌≡◌ {A = Option Path} (cond b (Some h.path) None) (Some p) → (settles (table_of es ps) d h ≡ true) × (h.path ≡ p)
  by_settles h true e q = (e, cc)
  by_settles h false e q = let z : ◌≡◌ {A = ℕ} 0 1 = cc in absurd_eq z

  -- where the note settles, a header was read
  pub settling_exit : {a : Decision} {p : Path} → Exit es ps d s a → a.note ≡ Some p → Settling es ps d s p
  settling_exit (refused_first x e) q = let z : ◌≡◌ {A = ℕ} 0 1 = cc in absurd_eq z
  settling_exit (after_finish e f l) q = let z : ◌≡◌ {A = ℕ} 0 1 = cc in absurd_eq z
  settling_exit (hands_out ok w) q = let z : ◌≡◌ {A = ℕ} 0 1 = cc in absurd_eq z
  settling_exit (finished ok w f) q = let z : ◌≡◌ {A = ℕ} 0 1 = cc in absurd_eq z
  settling_exit (closes_full r l c) q = let z : ◌≡◌ {A = ℕ} 0 1 = cc in absurd_eq z
  settling_exit (no_byte n y) q = let z : ◌≡◌ {A = ℕ} 0 1 = cc in absurd_eq z
  settling_exit (header_incomplete at e) q = let z : ◌≡◌ {A = ℕ} 0 1 = cc in absurd_eq z
  settling_exit (header_refused x at e) q = let z : ◌≡◌ {A = ℕ} 0 1 = cc in absurd_eq z
  settling_exit (id_refused h at f) q = let z : ◌≡◌ {A = ℕ} 0 1 = cc in absurd_eq z
  settling_exit (on_header h at f x) q =
      let b = by_settles h (settles (table_of es ps) d h) refl q in
      record { h = h; at = at; typed = f; settling = b.0; path = b.1 }

  -- the finish is decided only after the end of input, where no End waits
  pub finish_exit : {a : Decision} → Exit es ps d s a → is_finish a.action ≡ true → (d.waiting_count ≡ 0) × (d.finished ≡ true)
  finish_exit (refused_first x e) q = absurd (false≢true q)
  finish_exit (after_finish e f l) q = absurd (false≢true q)
  finish_exit (hands_out ok w) q = absurd (false≢true q)
  finish_exit (finished ok w f) q = (w, f)
  finish_exit (closes_full r l c) q = absurd (false≢true (sym (closing_no_finish c) ∙ q))
  finish_exit (no_byte n z) q = absurd (false≢true q)
  finish_exit (header_incomplete at e) q = absurd (false≢true q)
  finish_exit (header_refused x at e) q = absurd (false≢true q)
  finish_exit (id_refused h at f) q = absurd (false≢true q)
  finish_exit (on_header h at f x) q = absurd (false≢true (sym (header_no_finish x) ∙ q))
