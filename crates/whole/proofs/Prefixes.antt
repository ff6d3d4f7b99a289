-- No part at the front of a whole night with one record is whole, if it ends before the night does and both are read
-- strictly, or both as ported: the root, whose end its first header tells, is closed at its end, and with one record
-- nothing comes behind it. Assumes nothing.
use Prim.Native.Nat.{ℕ, zero, suc, ◌+◌, ◌-◌, ◌*◌, ◌^◌, ◌≤◌, ◌<◌}
use mathlib.Core.Path.{◌≡◌, refl, sym, ap, ◌∙◌}
use mathlib.Core.Bool.{Bool, true, false, cond, false≢true}
use mathlib.Core.List.{List, [], ◌∷◌, ◌++◌}
use mathlib.Core.Logic.{inl}
use native.Mathlib.Omega.{arith}
use borrow.Author.Tests.{eqb-true}
use lib.Dec.{ltb, eqb}
use lib.ListN.{length, take, drop, get_or, set, replicate, length-drop, length-append}
use Rattle.basics.proofs.Bools.{both}
use Rattle.tools.specs.Bytes.{Octets}
use Rattle.table.specs.BenchTable.{bench_entries, bench_parts}
use Rattle.table.specs.Table.{Entry, table_of}
use Rattle.table.proofs.Examples.{checks}
use Rattle.spec_util.specs.Walk.{no_tag}
use Rattle.spec_util.specs.declared.types.OpenTag.{OpenTag}
use Rattle.tag_parse.specs.declared.types.EBMLSize.{EBMLSize}
use Rattle.tag_parse.specs.declared.types.EBMLSize.TheVariants.{Known, Unknown}
use Rattle.tag_parse.specs.declared.types.TagHeader.{TagHeader}
use Rattle.tag_parse.proofs.Cases.{octets_drop}
use Rattle.decoder_rules.specs.Record.{end_of, with_open, with_notes, with_settings, counted_last, counted, opened}
use Rattle.decoder_rules.specs.OneCall.{step7, noted}
use Rattle.decoder_rules.specs.Moving.{needs_more, master_at, move, apply, decode}
use Rattle.decoder_rules.specs.EndOfInput.{decode_eof}
use Rattle.decoder_rules.specs.declared.types.Action.{Action}
use Rattle.decoder_rules.specs.declared.types.Answer.{Answer}
use Rattle.decoder_rules.specs.declared.types.Answer.TheVariants as answer
use Rattle.decoder_rules.specs.declared.types.Decision.{Decision}
use Rattle.decoder_rules.specs.declared.types.Decoded.{Decoded}
use Rattle.decoder_rules.specs.declared.types.Event.TheVariants as event
use Rattle.decoder_rules.specs.declared.types.Settings.{Settings}
use Rattle.decoder_rules.specs.declared.types.TagDecoder.{TagDecoder}
use Rattle.decoder_rules.proofs.EndExits as at
use Rattle.decoder_rules.proofs.EndExits.{EndExit, EofExit, eof_exits}
use Rattle.decoder_rules.proofs.Exits as exit
use Rattle.decoder_rules.proofs.Exits.{HeaderExit, Exit, exits}
use Rattle.decoder_rules.proofs.MoveLaws.{noted_settings}
use Rattle.tag_decoder.proofs.CallLaws.{eof_facts}
use Rattle.tag_decoder_laws.proofs.AppendedBytes.{octets_front, decode_local}
use Rattle.event_list.specs.Whole.{Answered, answered_by}
use Rattle.whole.specs.Checking.{top_is_sized}
use Rattle.whole.specs.Night.{is_event, read_from, answers_to, is_root_at0, has_front, has_size, finishes, is_record, records, IsWhole, IsOneWhole}
use Rattle.whole.proofs.Readings.{read_on, finish-later}
use Rattle.whole.proofs.Turns.{start_settles}
use Rattle.whole.proofs.Roots.{RootOpen, SizedApart, sized-apart, records-apart, ends_at, ends_behind}
use Rattle.event_list.specs.Reading.{begun, started}
use Rattle.event_list.specs.Run.{joined, NoneEmpty, Runs}
use Rattle.whole.specs.Checking.{verdict_of}
use Rattle.whole.specs.declared.types.Verdict.TheVariants.{Whole}
use Rattle.whole.proofs.WholeNights.{whole_is_whole}
use Rattle.std.specs.Prelude.{Err, Ok, Result}
use Rattle.decoder_rules.specs.declared.types.DecodeError.{DecodeError}
use Rattle.decoder_rules.specs.declared.types.Refusal.{Refusal}

-- ---- the first answer

top_known : (a b k : Bool) → cond a false (cond b false k) ≡ true → k ≡ true
top_known true b k e = absurd (false≢true e)
top_known false true k e = absurd (false≢true e)
top_known false false k e = e

-- the first of all masters is opened
record OpenedFirst (l : List OpenTag) (n : ℕ) (m : OpenTag) : Type 0 where
  alone : take (n + 1) (set l n m) ≡ m ∷ []
  there : get_or (set l n m) 0 no_tag ≡ m
  sized : m.known ≡ true

opened_first : (l : List OpenTag) (n : ℕ) (m : OpenTag) → n + 1 ≡ 1 → (get_or (set l n m) (n + 1 - 1) no_tag).known ≡ true → OpenedFirst l n m
opened_first [] zero m e k = absurd (false≢true k)
opened_first (x ∷ l) zero m e k = record { alone = refl; there = refl; sized = k }
opened_first l (suc n) m e k = absurd (omega arith)

-- it ends where its size says
abbrev first_end : TagDecoder → ℕ
first_end d = end_of (get_or d.«open» 0 no_tag)

start_opens : (e : TagDecoder) (h : TagHeader) (z : EBMLSize) → e.settings.allow_oversized ≡ false → e.open_count + 1 ≡ 1
    → top_is_sized (opened (counted (with_notes e (e.position + h.len) e.settled e.finished)) (master_at h.id z e.position h.len)) ≡ true
    → RootOpen (first_end (opened (counted (with_notes e (e.position + h.len) e.settled e.finished)) (master_at h.id z e.position h.len)))
    (opened (counted (with_notes e (e.position + h.len) e.settled e.finished)) (master_at h.id z e.position h.len))
unfolding counted opened with_open with_notes
start_opens e h Unknown t one k =
    let l = counted_last e.open_count e.«open» in
    let m = master_at h.id Unknown e.position h.len in
    let w = opened_first l e.open_count m one (top_known (eqb (e.open_count + 1) 0) (ltb 32 (e.open_count + 1)) (get_or (set l e.open_count m) (e.open_count + 1 - 1) no_tag).known k) in
    absurd (false≢true w.sized)
start_opens e h (Known n) t one k =
    let l = counted_last e.open_count e.«open» in
    let m = master_at h.id (Known n) e.position h.len in
    let w = opened_first l e.open_count m one (top_known (eqb (e.open_count + 1) 0) (ltb 32 (e.open_count + 1)) (get_or (set l e.open_count m) (e.open_count + 1 - 1) no_tag).known k) in
    let end : end_of (get_or (set l e.open_count m) 0 no_tag) ≡ e.position + h.len + n = ap end_of w.there in
    record {
      root = m;
      outermost = record { others = []; is = w.alone };
      known = refl;
      end = sym end;
      within = omega (arith, end);
      tested = t;
    }

-- what a Start of a root at 0 that has a size leaves
abbrev Opens : Decoded → Type 0
Opens r = is_root_at0 r.answer r.state ≡ true → has_size r.answer r.state ≡ true → RootOpen (first_end r.state) r.state

header_opens : {t : List Entry} {h : TagHeader} {s : List ℕ} (e : TagDecoder) {a : Result Action DecodeError} → e.settings.allow_oversized ≡ false → HeaderExit t e h s a → Opens (move e a)
unfolding move
header_opens e t (exit.misplaced p) i z = absurd (false≢true i)
header_opens e t (exit.oversized n p y g) i z = absurd (false≢true i)
header_opens e t (exit.too_large n p y g k) i z = absurd (false≢true i)
header_opens e t (exit.past_end p y g k) i z = absurd (false≢true i)
header_opens e t (exit.ends_tops v k (exit.closes c)) i z = absurd (false≢true i)
header_opens e t (exit.ends_tops v k (exit.no_master_lem c)) i z = absurd (false≢true i)
header_opens e t (exit.too_many at k g) i z = absurd (false≢true i)
header_opens {h = h} e t (exit.starts at k g) i z =
    let w : eqb (e.open_count + 1) 1 ≡ true = unfold counted in unfold opened in unfold with_open in unfold with_notes in (both (eqb e.position 0) (eqb (e.open_count + 1) 1) i).right in
    start_opens e h h.size t (eqb-true _ _ w) z
header_opens e t (exit.no_size at k y) i z = absurd (false≢true i)
header_opens e t (exit.payload_incomplete n has g) i z = absurd (false≢true i)
header_opens e t (exit.payload_refused n x has g y) i z = absurd (false≢true i)
header_opens e t (exit.holds n v has g y) i z = absurd (false≢true i)

module _ (strict : Bool) (es ps : List ℕ) (s : List ℕ) where
  exit_opens : {a : Decision} → Exit es ps (begun strict) s a → Opens (apply ps (begun strict) a)
  unfolding apply move with_settings
  exit_opens (exit.refused_first x e) i z = absurd (false≢true i)
  exit_opens (exit.after_finish e g l) i z = absurd (false≢true i)
  exit_opens (exit.hands_out ok w) i z = absurd (false≢true i)
  exit_opens (exit.finished ok w g) i z = absurd (false≢true i)
  exit_opens (exit.closes_full r l (exit.closes c)) i z = absurd (false≢true i)
  exit_opens (exit.closes_full r l (exit.no_master_lem c)) i z = absurd (false≢true i)
  exit_opens (exit.no_byte n y) i z = absurd (false≢true i)
  exit_opens (exit.header_incomplete at e) i z = absurd (false≢true i)
  exit_opens (exit.header_refused x at e) i z = absurd (false≢true i)
  exit_opens (exit.id_refused h at g) i z = absurd (false≢true i)
  exit_opens (exit.on_header h at g x) i z =
      header_opens (noted ps (begun strict) (step7 (table_of es ps) (begun strict) h)) (ap (λ (t : Settings). t.allow_oversized) (noted_settings ps (begun strict) (step7 (table_of es ps) (begun strict) h))) x i z

  end_opens : {t : List Entry} {e : TagDecoder} {r : Decoded} → EndExit t e s r → is_root_at0 r.answer r.state ≡ true → ⊥
  unfolding move
  end_opens (at.bytes_left l) i = false≢true i
  end_opens (at.master_cut y l) i = false≢true i
  end_opens (at.no_master_lem n m) i = false≢true i
  end_opens (at.finishes n m y) i = false≢true i
  end_opens (at.closes_all n m l) i = false≢true i

  -- it is what decode answers, with the root open
  record FirstOpen (r : Decoded) : Type 0 where
    decoded : r ≡ decode es ps (begun strict) s
    asks : needs_more r.answer ≡ false
    root_open : RootOpen (first_end r.state) r.state

  root_asks : (a : Result Answer Refusal) (d : TagDecoder) → is_root_at0 a d ≡ true → needs_more a ≡ false
  root_asks (Ok (answer.Event e)) d i = refl
  root_asks (Ok (answer.NeedMore missing)) d i = absurd (false≢true i)
  root_asks (Ok answer.Finished) d i = refl
  root_asks (Err r) d i = refl

  eof_opens : {r : Decoded} → EofExit es ps (begun strict) s r → is_root_at0 r.answer r.state ≡ true → has_size r.answer r.state ≡ true → FirstOpen r
  eof_opens (at.as_decoded q) i z = record { decoded = refl; asks = root_asks (decode es ps (begun strict) s).answer (decode es ps (begun strict) s).state i; root_open = exit_opens (exits es ps (begun strict) s) i z }
  eof_opens (at.at_end q x) i z = absurd (end_opens x i)

  first_open : is_root_at0 (decode_eof es ps (begun strict) s).answer (decode_eof es ps (begun strict) s).state ≡ true
      → has_size (decode_eof es ps (begun strict) s).answer (decode_eof es ps (begun strict) s).state ≡ true → FirstOpen (decode_eof es ps (begun strict) s)
  first_open i z = eof_opens (eof_exits es ps (begun strict) s) i z

root_is_record : (a : Result Answer Refusal) (d : TagDecoder) → is_root_at0 a d ≡ true → is_record a d ≡ true
root_is_record (Ok (answer.Event (event.Start x p))) d i = (both (eqb p 0) (eqb d.open_count 1) i).right
root_is_record (Ok (answer.Event (event.End e))) d i = absurd (false≢true i)
root_is_record (Ok (answer.Event (event.Data x p v))) d i = absurd (false≢true i)
root_is_record (Ok (answer.NeedMore missing)) d i = absurd (false≢true i)
root_is_record (Ok answer.Finished) d i = absurd (false≢true i)
root_is_record (Err r) d i = absurd (false≢true i)

root_is_event : (a : Result Answer Refusal) (d : TagDecoder) → is_root_at0 a d ≡ true → is_event a ≡ true
root_is_event (Ok (answer.Event e)) d i = refl
root_is_event (Ok (answer.NeedMore missing)) d i = absurd (false≢true i)
root_is_event (Ok answer.Finished) d i = absurd (false≢true i)
root_is_event (Err r) d i = absurd (false≢true i)

-- a root's Start, as an event
record IsStart (a : Result Answer Refusal) : Type 0 where
  x : ℕ
  p : ℕ
  is : a ≡ Ok (answer.Event (event.Start x p))

root_is_start : (a : Result Answer Refusal) (d : TagDecoder) → is_root_at0 a d ≡ true → IsStart a
root_is_start (Ok (answer.Event (event.Start y q))) d i = record { x = y; p = q; is = refl }
root_is_start (Ok (answer.Event (event.End e))) d i = absurd (false≢true i)
root_is_start (Ok (answer.Event (event.Data x p v))) d i = absurd (false≢true i)
root_is_start (Ok (answer.NeedMore missing)) d i = absurd (false≢true i)
root_is_start (Ok answer.Finished) d i = absurd (false≢true i)
root_is_start (Err r) d i = absurd (false≢true i)

-- ---- whole nights of the bench table

module _ (strict : Bool) (s : List ℕ) (byte : Octets s) (w : IsWhole strict bench_entries bench_parts s) where
  abbrev R : Decoded
  R = decode_eof bench_entries bench_parts (begun strict) s

  abbrev fuel : ℕ
  fuel = 256 * length s + 128

  abbrev rest : List Answered
  rest = read_from bench_entries bench_parts fuel R.state (drop R.taken s)

  one_more : answers_to strict bench_entries bench_parts s ≡ read_from bench_entries bench_parts (suc fuel) (begun strict) s
  one_more = ap (λ (n : ℕ). read_from bench_entries bench_parts n (begun strict) s) (omega arith)

  root_first : is_root_at0 R.answer R.state ≡ true
  root_first = unfold read_from in unfold has_front in (rw one_more at w.front)

  all_are : answers_to strict bench_entries bench_parts s ≡ answered_by R ∷ rest
  all_are = one_more ∙ read_on bench_entries bench_parts fuel (begun strict) s (root_is_event R.answer R.state root_first)

  sizes_apart : SizedApart (answered_by R) rest
  sizes_apart = sized-apart (answered_by R) rest (rw all_are at w.sizes)

  opens_first : FirstOpen strict bench_entries bench_parts s R
  opens_first = first_open strict bench_entries bench_parts s root_first sizes_apart.sized_first

  settled_first : R.state.settled ≡ true
  settled_first = start_settles bench_entries bench_parts checks.bench_passes (begun strict) s byte (root_is_start R.answer R.state root_first).is

  finish_rest : finishes rest ≡ true
  finish_rest = (finish-later (answered_by R) rest (root_is_event R.answer R.state root_first) (rw all_are at w.finish)).0

  -- how many bytes there are
  all_bytes : R.state.position + length (drop R.taken s) ≡ length s
  unfolding with_settings
  all_bytes = let facts = eof_facts bench_entries bench_parts (begun strict) s byte in omega (arith, facts.moves, facts.within, length-drop R.taken s)

  -- not fewer than up to the root's end
  not_before : first_end R.state ≤ length s
  not_before =
      let h = ends_behind bench_entries bench_parts fuel (first_end R.state) R.state (drop R.taken s) (octets_drop R.taken s byte) settled_first opens_first.root_open sizes_apart.sized_rest finish_rest in
      omega (arith, all_bytes)

  -- with one record, just so many
  just_there : records (answers_to strict bench_entries bench_parts s) ≡ 1 → length s ≡ first_end R.state
  just_there one =
      let n = records-apart (answered_by R) rest 1 (rw all_are at one) true (root_is_record R.answer R.state root_first) in
      let none : records rest ≡ 0 = omega arith in
      let h = ends_at bench_entries bench_parts fuel (first_end R.state) R.state (drop R.taken s) (octets_drop R.taken s byte) settled_first (inl opens_first.root_open) sizes_apart.sized_rest none finish_rest in
      omega (arith, all_bytes)

-- a whole night with one record has no part at its front that is whole and ends before it does
pub no_front_is_whole : (strict : Bool) (s rest : List ℕ) (n m : ℕ) → Octets (s ++ rest) → length (s ++ rest) ≤ 2 ^ 62 → 0 < length rest → IsOneWhole strict bench_entries bench_parts (s ++ rest) n m
    → IsWhole strict bench_entries bench_parts s → ⊥
unfolding with_settings
no_front_is_whole strict s rest n m byte few some w part =
    let bytes : Octets s = octets_front s rest byte in
    let a = opens_first strict s bytes part in
    let local = decode_local bench_entries bench_parts (begun strict) s rest (bytes 0) refl (omega arith) (ap (λ (x : Decoded). needs_more x.answer) (sym a.decoded) ∙ a.asks) in
    let b = opens_first strict (s ++ rest) byte w.whole in
    let same : decode_eof bench_entries bench_parts (begun strict) (s ++ rest) ≡ decode_eof bench_entries bench_parts (begun strict) s = b.decoded ∙ local ∙ sym a.decoded in
    let end : first_end (decode_eof bench_entries bench_parts (begun strict) (s ++ rest)).state ≡ first_end (decode_eof bench_entries bench_parts (begun strict) s).state = ap (λ (x : Decoded). first_end x.state) same in
    let whole-end = just_there strict (s ++ rest) byte w.whole w.one in
    let part_end = not_before strict s bytes part in
    absurd (omega (arith, length-append s rest, end, whole-end, part_end))

-- so of two inputs of which the one is a front of the other, and shorter, the check does not call both WHOLE, with
-- buffers of any sizes and the inputs in any pieces
pub front_not_told : (strict : Bool) (size size' : ℕ) → 0 < size → 0 < size' → (ps qs : List (List ℕ)) (rest : List ℕ) → joined qs ≡ joined ps ++ rest → 0 < length rest → NoneEmpty ps → NoneEmpty qs
    → Octets (joined qs) → length (joined qs) ≤ 2 ^ 62 → {l k : List Answered} → Runs (started strict) (replicate size 0) ps l → Runs (started strict) (replicate size' 0) qs k
    → {n m n' m' : ℕ} → verdict_of l ≡ Whole n m → verdict_of k ≡ Whole n' m' → ⊥
front_not_told strict size size' some some' ps qs rest e more apart apart' byte few run run' {n} {m} {n'} {m'} v v' =
    let byte' : Octets (joined ps ++ rest) = rw e at byte in
    let few' : length (joined ps ++ rest) ≤ 2 ^ 62 = rw e at few in
    let whole = rw e at (whole_is_whole strict size' some' qs apart' byte few run' n' m' v') in
    let part = whole_is_whole strict size some ps apart (octets_front (joined ps) rest byte') (omega (arith, length-append (joined ps) rest)) run n m v in
    no_front_is_whole strict (joined ps) rest n' m' byte' few' more whole part.whole
