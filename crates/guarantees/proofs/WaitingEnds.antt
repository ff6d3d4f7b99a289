-- What each call makes of the Ends that wait and of the open masters, counted: it hands out no event, or an element,
-- where none waits, or an End that waited, or the first End of the masters that it closes, and why it closes them.
-- Assumes nothing.
use Prim.Native.Nat.{ℕ, suc, ◌+◌, ◌≤◌}
use mathlib.Core.Path.{◌≡◌, refl}
use mathlib.Core.Bool.{Bool, true, false}
use mathlib.Core.List.{List, []}
use native.Mathlib.Omega.{arith}
use lib.ListN.{length, drop_of_length-le}
use Rattle.tools.specs.Bytes.{Octets}
use Rattle.table.specs.Shape.{good_shape}
use Rattle.table.specs.Check.{check_table}
use Rattle.table.specs.Passed.{PassedTable}
use Rattle.table.specs.Table.{Entry, table_of}
use Rattle.table.proofs.Passed.{passed_gives}
use Rattle.decoder_rules.specs.Record.{with_settings, with_open, with_waiting, with_notes, counted, opened, closed_to, handed_out, with_sizes_grown}
use Rattle.decoder_rules.specs.OneCall.{check_record10to12, noted}
use Rattle.decoder_rules.specs.Deciding.{decide}
use Rattle.decoder_rules.specs.Moving.{move, apply, decode}
use Rattle.decoder_rules.specs.Recovery.{try_recover}
use Rattle.decoder_rules.specs.FirstPlace.{record_on, Standing, Incomplete, Valid, Other, stands_at, first_place, recovered_at}
use Rattle.decoder_rules.specs.Settings.{limited_to}
use Rattle.decoder_rules.specs.declared.types.Action.{Action}
use Rattle.decoder_rules.specs.declared.types.Action.TheVariants as act
use Rattle.decoder_rules.specs.declared.types.Answer.{Answer}
use Rattle.decoder_rules.specs.declared.types.Answer.TheVariants as answer
use Rattle.decoder_rules.specs.declared.types.Decoded.{Decoded}
use Rattle.decoder_rules.specs.declared.types.Event.TheVariants as event
use Rattle.decoder_rules.specs.declared.types.TagDecoder.{TagDecoder}
use Rattle.decoder_rules.proofs.EndExits as end
use Rattle.decoder_rules.proofs.EndExits.{EndExit, EofExit, eof_exits}
use Rattle.decoder_rules.proofs.FirstPlace.{recovery_is_first}
use Rattle.decoder_rules.proofs.MoveEffects.{opens-length}
use Rattle.decoder_rules.proofs.MoveLaws.{is_no_event, with_note}
use Rattle.decoder_move.specs.Applies.{ActionApplies}
use Rattle.decoder_move.proofs.DecisionApplies as applies
use Rattle.decoder_move.proofs.DecisionApplies.{decide_applies}
use Rattle.guarantees.specs.Calls.{Call, decoding, ending, recovering, allow, strictly, limit, lent, Response, answered, searched, silent, response_to, next}
use Rattle.guarantees.specs.History.{Started}
use Rattle.guarantees.proofs.AnyCalls.{good_shape_lem}
use Rattle.guarantees.proofs.Decided.{ClosesFor, Facts, decide_facts}
use Rattle.guarantees.proofs.Notes.{search_note_or, note_of}
use Rattle.guarantees.proofs.Steps.{quiet_none_waits}
use Rattle.guarantees.proofs.Tied.{Tied}
use Rattle.std.specs.Prelude.{Err, None, Ok, Option, Result, Some, ⊤}
use Rattle.decoder_rules.specs.declared.types.DecodeError.{DecodeError}
use Rattle.decoder_rules.specs.declared.types.Refusal.{Refusal}

-- ---- what a call tells

-- no event
abbrev pub tells_no_event : Response → Bool
tells_no_event (answered a n) = is_no_event a
tells_no_event (searched a n) = true
tells_no_event silent = true

-- an End
abbrev pub is_end : Result Answer Refusal → Bool
is_end (Ok (answer.Event (event.Start x o))) = false
is_end (Ok (answer.Event (event.End end))) = true
is_end (Ok (answer.Event (event.Data x o v))) = false
is_end (Ok (answer.NeedMore missing)) = false
is_end (Ok answer.Finished) = false
is_end (Err r) = false

-- the same of what any call tells
abbrev pub tells_end : Response → Bool
tells_end (answered a n) = is_end a
tells_end (searched a n) = false
tells_end silent = false

-- a call says that the input has ended
abbrev pub is_ending : Call → Bool
is_ending (decoding s) = false
is_ending (ending s) = true
is_ending (recovering s) = false
is_ending (allow ids hierarchy oversized) = false
is_ending (strictly b) = false
is_ending (limit n) = false

-- ---- a call on the bytes s: d is the record with the note, x is told, and e is the record after it

-- why all above the first k close; over is whether the call says that the input has ended
pub data ClosesBy (t : List Entry) (s : List ℕ) (over : Bool) (d : TagDecoder) (k : ℕ) : Type 0 where
  as_decided : ClosesFor t d s k → ClosesBy t s over d k
  at_end : over ≡ true → s ≡ [] → ClosesBy t s over d k

pub data Moved (t : List Entry) (s : List ℕ) (over : Bool) (d : TagDecoder) (x : Response) (e : TagDecoder) : Type 0 where
  no_event : tells_no_event x ≡ true → e.waiting_count ≡ d.waiting_count → e.open_count ≡ d.open_count → Moved t s over d x e
  element : tells_end x ≡ false → d.waiting_count ≡ 0 → e.waiting_count ≡ 0 → d.open_count ≤ e.open_count → Moved t s over d x e
  hands_out : tells_end x ≡ true → e.waiting_count + 1 ≡ d.waiting_count → Moved t s over d x e
  closes : tells_end x ≡ true → d.waiting_count ≡ 0 → (k : ℕ) → e.open_count ≡ k → k + (e.waiting_count + 1) ≡ d.open_count → ClosesBy t s over d k
      → Moved t s over d x e

module _ (t : List Entry) (s : List ℕ) (over : Bool) (d : TagDecoder) where
  move_moved : (a : Result Action DecodeError) → ActionApplies d (length s) a → Facts t d s a → Moved t s over d (answered (move d a).answer (move d a).taken) (move d a).state
  unfolding move counted opened handed_out closed_to with_open with_waiting with_notes
  move_moved (Err e) g f = no_event refl refl refl
  move_moved (Ok (act.NeedMore missing)) g f = no_event refl refl refl
  move_moved (Ok act.Finish) g f = no_event refl refl refl
  move_moved (Ok act.HandOut) g f = hands_out refl (omega (arith, applies.hands_out d (length s) g))
  move_moved (Ok (act.Close k)) g f = closes refl f.reading.none_waiting k refl (omega (arith, (applies.closes d (length s) k g).0)) (as_decided f.why)
  move_moved (Ok (act.Start x z len)) g f = element refl f.reading.none_waiting f.reading.none_waiting (omega arith)
  move_moved (Ok (act.Data x v n)) g f = element refl f.reading.none_waiting f.reading.none_waiting (omega arith)

  -- the end of input, where no End waits
  ended_moved : over ≡ true → d.waiting_count ≡ 0 → {r : Decoded} → EndExit t d s r → Moved t s over d (answered r.answer r.taken) r.state
  unfolding move closed_to with_open with_waiting with_notes
  ended_moved o none (end.bytes_left l) = no_event refl refl refl
  ended_moved o none (end.master_cut z l) = no_event refl refl refl
  ended_moved o none (end.no_master_lem n m) = no_event refl refl refl
  ended_moved o none (end.finishes n m z) = no_event refl refl refl
  ended_moved o none (end.closes_all n m l) = closes refl none 0 refl (omega arith) (at_end o (drop_of_length-le s {i = 0} (omega (arith, n.no_byte))))

module _ (es ps : List ℕ) (shape : good_shape es ps ≡ true) (passed : PassedTable (table_of es ps)) (d : TagDecoder) {starts : List Started} {left : List ℕ} {p : ℕ}
    (k : Tied (table_of es ps) d starts left p) (s : List ℕ) where
  -- what a call on this record answers, with the record after it
  abbrev MovedAs : Bool → Decoded → Type 0
  MovedAs over r = Moved (table_of es ps) s over (with_note es ps d s) (answered r.answer r.taken) r.state

  decode_moved : (over : Bool) → Octets s → MovedAs over (decode es ps d s)
  unfolding apply
  decode_moved over byte =
      let facts = decide_facts es ps shape passed d s byte k.linked.masters (opens-length d k.linked.arrays k.linked.good.open_count) k.linked.good in
      move_moved (table_of es ps) s over (with_note es ps d s) (decide es ps d s).action (decide_applies es ps d s byte).action facts.action

  exit_moved : Octets s → {r : Decoded} → EofExit es ps d s r → MovedAs true r
  exit_moved byte (end.as_decoded q) = decode_moved true byte
  exit_moved byte (end.at_end {r} q x) =
      ended_moved (table_of es ps) s true (with_note es ps d s) refl (quiet_none_waits es ps shape passed d s byte starts left p k q) x

-- ---- a recovery

-- as many Ends wait, and as many masters are open
record AsMany (d e : TagDecoder) : Type 0 where
  waiting : e.waiting_count ≡ d.waiting_count
  opened : e.open_count ≡ d.open_count

standing_many : (x : Standing) (n : ℕ) (d e : TagDecoder) → AsMany d e → AsMany d (recovered_at x n e).state
unfolding with_sizes_grown with_open
standing_many Incomplete n d e a = a
standing_many Valid n d e a = record { waiting = a.waiting; opened = a.opened }
standing_many Other n d e a = a

recovered_many : (es ps : List ℕ) (d : TagDecoder) (s : List ℕ) → AsMany (noted ps d (search_note_or ps (table_of es ps) d s (check_record10to12 es ps d (length s)))) (try_recover es ps d s).state
unfolding try_recover record_on with_notes noted
recovered_many es ps d s = go (check_record10to12 es ps d (length s)) refl
  where
    t : List Entry
    t = table_of es ps

    i : ℕ
    i = first_place ps t d s

    go : (c : Result ⊤ DecodeError) → check_record10to12 es ps d (length s) ≡ c → AsMany (noted ps d (search_note_or ps t d s c)) (try_recover es ps d s).state
    go (Ok _) e =
        rw (recovery_is_first es ps d s e)
        (standing_many (stands_at ps t d s i) i (noted ps d (search_note_or ps t d s (Ok _))) (record_on ps t d s (suc i) i) (record { waiting = refl; opened = refl }))
    go (Err x) e = rw e (record { waiting = refl; opened = refl })

-- ---- any call

limited_many : (d : TagDecoder) (n : Option ℕ) → AsMany d (limited_to d n)
unfolding with_settings
limited_many d None = record { waiting = refl; opened = refl }
limited_many d (Some n) = record { waiting = refl; opened = refl }

-- what a call on a record that is tied makes of them
pub next_moved : (es ps : List ℕ) → check_table es ps ≡ Ok tt → (d : TagDecoder) {starts : List Started} {left : List ℕ} {p : ℕ} → Tied (table_of es ps) d starts left p
    → (c : Call) → Octets (lent c) → Moved (table_of es ps) (lent c) (is_ending c) (noted ps d (note_of es ps d c)) (response_to es ps d c) (next es ps d c)
unfolding noted with_settings
next_moved es ps checked d k (decoding s) byte = decode_moved es ps (good_shape_lem es ps checked) (passed_gives es ps checked) d k s false byte
next_moved es ps checked d k (ending s) byte = exit_moved es ps (good_shape_lem es ps checked) (passed_gives es ps checked) d k s byte (eof_exits es ps d s)
next_moved es ps checked d k (recovering s) byte = let a = recovered_many es ps d s in no_event refl a.waiting a.opened
next_moved es ps checked d k (allow ids hierarchy oversized) byte = no_event refl refl refl
next_moved es ps checked d k (strictly b) byte = no_event refl refl refl
next_moved es ps checked d k (limit n) byte = let a = limited_many d n in no_event refl a.waiting a.opened
