-- The answers of a program that lists or checks an input are those of the run on its pieces (`program_runs_pieces`),
-- which is one run on all of it (`any_pieces`). And two such programs whose reads give the same bytes print the same
-- (`programs_same_however_cut`), by the laws of event_list and whole. Assumes nothing.
use Prim.Native.Nat.{ℕ, ◌+◌, ◌≤◌, ◌<◌}
use mathlib.Core.Path.{◌≡◌, refl, sym, ap, ◌∙◌, subst}
use mathlib.Core.Bool.{Bool, true, false, false≢true}
use mathlib.Core.List.{List, [], ◌∷◌, ◌++◌, map, flatten}
use native.Mathlib.Omega.{arith}
use native.Mathlib.Decide.{dec_le}
use lib.ListN.{length, take, drop, replicate, length-drop, take-append-drop}
use Rattle.tools.specs.Bytes.{Octets}
use Rattle.tools.proofs.BigEndian.{octets_take}
use Rattle.table.specs.BenchTable.{bench_entries, bench_parts}
use Rattle.decoder_rules.specs.Deciding.{decide}
use Rattle.decoder_rules.specs.Moving.{needs_more, decode}
use Rattle.decoder_rules.specs.Record.{farthest, with_settings}
use Rattle.decoder_rules.specs.declared.types.Answer.{Answer}
use Rattle.decoder_rules.specs.declared.types.Answer.TheVariants as answer
use Rattle.decoder_rules.specs.declared.types.Decoded.{Decoded}
use Rattle.decoder_rules.specs.declared.types.Event.{Event}
use Rattle.decoder_rules.specs.declared.types.TagDecoder.{TagDecoder}
use Rattle.decoder_rules.proofs.MoveLaws.{is_no_event, decode_finished, decode_position, decode_stays}
use Rattle.tag_decoder.proofs.CallLaws.{takes_within}
use Rattle.tag_decoder_laws.proofs.AppendedBytes.{decode_local}
use Rattle.tag_decoder_laws.proofs.EofAsDecoded.{eof_as_decoded}
use Rattle.tag_decoder_laws.proofs.Settling.{settled_once}
use Rattle.event_list.specs.Reading.{begun, started}
use Rattle.event_list.specs.Run.{joined, NoneEmpty, Runs}
use Rattle.event_list.specs.Whole.{next_answer, Answered, answered_by, Answers, goes_on, ends}
use Rattle.event_list.proofs.PrintsTheList.{runs_through, same_however_cut}
use Rattle.event_list.proofs.Views.{seen_all, seen_front, eof_same}
use Rattle.whole.proofs.Readings.{next_is_eof}
use Rattle.whole.proofs.WholeNights.{same_verdict_however_cut}
use Rattle.joining.specs.Joining.{Outcome, after, with, run, in_pieces}
use Rattle.joining.specs.Programs.{as_answer, OfRun, to_its_end, too_large, ProgramsSame}
use Rattle.joining.proofs.Joining.{any_pieces}
use Rattle.joining.proofs.Runs.{of_any_run, run_stops, run_event}
use Rattle.std.specs.Prelude.{Err, Ok, Result}
use Rattle.decoder_rules.specs.declared.types.Refusal.{Refusal}

-- with the bench table
abbrev bench_decode : TagDecoder → List ℕ → Decoded
bench_decode = decode bench_entries bench_parts

abbrev bench_run : TagDecoder → List ℕ → Outcome
bench_run = run bench_entries bench_parts

-- ---- an answer

-- an event first, and then the answers of a run
event_first : (size : ℕ) (e : Event) (r : Decoded) (o : Outcome) (answers : List Answered) → r.answer ≡ Ok (answer.Event e) → OfRun size o answers → OfRun size (after (with e r ∷ []) o) (answered_by r ∷ answers)
event_first size e r o answers q (to_its_end last to is) =
    to_its_end last to (ap (λ (l : List Answered). answered_by r ∷ l) is ∙ ap (λ (a : Result Answer Refusal). record { answer = a; after = r.state } ∷ (map as_answer o.handed ++ last)) q)
event_first size e r o answers q (too_large first others missing d handed is) =
    too_large (with e r ∷ first) others missing d (ap (λ l. with e r ∷ l) handed)
    (ap (λ (l : List Answered). answered_by r ∷ l) is ∙ ap (λ (a : Result Answer Refusal). record { answer = a; after = r.state } ∷ (map as_answer first ++ (record { answer = Ok (answer.NeedMore missing); after = d } ∷ []))) q)

event_then : (size : ℕ) (e : Event) (o : Outcome) {r : Decoded} {s : List ℕ} {answers : List Answered} → r.answer ≡ Ok (answer.Event e)
    → ((others : List Answered) → Answers size (next_answer size r.state (drop r.taken s)) (drop r.taken s) others → OfRun size o others)
    → Answers size r s answers → OfRun size (after (with e r ∷ []) o) answers
event_then size e o q on (goes_on r s {rs} f later) = event_first size e r o rs q (on rs later)
event_then size e o q on (ends r s none) = absurd (none e q)

-- where the next answer needs more, it is the last
asks_at_once : (size : ℕ) (o : Outcome) {r : Decoded} {s : List ℕ} {answers : List Answered} → needs_more r.answer ≡ true → Answers size r s answers → OfRun size o answers
asks_at_once size o asks (goes_on r s q later) = absurd (false≢true (ap needs_more (sym q) ∙ asks))
asks_at_once size o asks (ends r s none) = go r.answer refl asks
  where
    go : (a : Result Answer Refusal) → r.answer ≡ a → needs_more a ≡ true → OfRun size o (answered_by r ∷ [])
    go (Ok (answer.Event e)) q f = absurd (false≢true f)
    go (Ok (answer.NeedMore missing)) q f = too_large [] o.handed missing r.state refl (ap (λ (a : Result Answer Refusal). record { answer = a; after = r.state } ∷ []) q)
    go (Ok answer.Finished) q f = absurd (false≢true f)
    go (Err x) q f = absurd (false≢true f)

-- ---- a run

module _ (size : ℕ) (some : 0 < size) where
  -- the program's answers to s from the record d are those of the run
  abbrev Alike : TagDecoder → List ℕ → Type 0
  Alike d s = d.finished ≡ false → d.position + length s ≤ farthest → (answers : List Answered) → Answers size (next_answer size d s) s answers → OfRun size (bench_run d s) answers

  -- a call without an event, made again, answers the same
  asked_again : (d : TagDecoder) (s : List ℕ) → Octets s → is_no_event (bench_decode d s).answer ≡ true → bench_decode (bench_decode d s).state s ≡ bench_decode d s
  asked_again d s byte q =
      ap (λ (e : TagDecoder). bench_decode e s) (decode_stays bench_entries bench_parts d s q).same ∙ settled_once bench_entries bench_parts d s byte (decide bench_entries bench_parts d s).note refl

  module _ (d : TagDecoder) (s : List ℕ) (byte : Octets s) (open_still : d.finished ≡ false) (near : d.position + length s ≤ farthest) where
    -- what the program sees of s
    abbrev view : List ℕ
    view = take size s

    -- what is answered by what it sees, is answered by all
    seen_is_all : needs_more (bench_decode d view).answer ≡ false → bench_decode d s ≡ bench_decode d view
    seen_is_all quiet =
        let split = take-append-drop size s in
        ap (bench_decode d) (sym split) ∙ decode_local bench_entries bench_parts d view (drop size s) (octets_take size s byte 0) open_still (rw split near) quiet

    -- so after a call without an event, where the program does not ask for more, it has the same next answer
    same_next : is_no_event (bench_decode d s).answer ≡ true → needs_more (next_answer size d s).answer ≡ false → next_answer size (bench_decode d s).state s ≡ next_answer size d s
    same_next q quiet = go (dec_le size (length s))
      where
        go : Dec (size ≤ length s) → next_answer size (bench_decode d s).state s ≡ next_answer size d s
        go (no f) =
            let all : length s < size = omega arith in
            seen_all size (bench_decode d s).state s all ∙ eof_same (bench_decode d s).state d s (asked_again d s byte q) ∙ sym (seen_all size d s all)
        go (yes h) =
            let seen = seen_front size d s h in
            let same = seen_is_all (ap (λ (x : Decoded). needs_more x.answer) (sym seen) ∙ quiet) in
            seen_front size (bench_decode d s).state s h
            ∙ ap (λ (x : Decoded). bench_decode x.state view) same
            ∙ asked_again d view (octets_take size s byte) (ap (λ (x : Decoded). is_no_event x.answer) (sym same) ∙ q)
            ∙ sym seen

    -- the call that ends a run
    last_alike : is_no_event (bench_decode d s).answer ≡ true → (answers : List Answered) → Answers size (next_answer size d s) s answers → OfRun size (bench_run d s) answers
    last_alike q answers to = go (needs_more (next_answer size d s).answer) refl
      where
        go : (b : Bool) → needs_more (next_answer size d s).answer ≡ b → OfRun size (bench_run d s) answers
        go true asks = asks_at_once size (bench_run d s) asks to
        go false quiet =
            let r = bench_decode d s in
            let left : Answers size (next_answer size r.state s) s answers = rw (same_next q quiet) to in
            let unread : drop r.taken s ≡ s = ap (λ (n : ℕ). drop n s) (decode_stays bench_entries bench_parts d s q).none in
            rw (run_stops bench_entries bench_parts d s q) (to_its_end answers (rw unread left) refl)

    -- a call with an event
    event_alike : (e : Event) → (bench_decode d s).answer ≡ Ok (answer.Event e) → Alike (bench_decode d s).state (drop (bench_decode d s).taken s)
        → (answers : List Answered) → Answers size (next_answer size d s) s answers → OfRun size (bench_run d s) answers
    event_alike e q on answers to = go (needs_more (next_answer size d s).answer) refl
      where
        go : (b : Bool) → needs_more (next_answer size d s).answer ≡ b → OfRun size (bench_run d s) answers
        go true asks = asks_at_once size (bench_run d s) asks to
        go false quiet =
            let r = bench_decode d s in
            let rest = drop r.taken s in
            let same : next_answer size d s ≡ r = next_is_eof size some d s byte (λ f. absurd (false≢true (sym open_still ∙ f))) near quiet ∙ eof_as_decoded bench_entries bench_parts d s open_still (ap needs_more q) in
            let near-left : r.state.position + length rest ≤ farthest =
            omega (arith, near, takes_within bench_entries bench_parts d s byte, decode_position bench_entries bench_parts d s, length-drop r.taken s) in
            rw (run_event bench_entries bench_parts d s byte q)
            (event_then size e (bench_run r.state rest) q (on (decode_finished bench_entries bench_parts d s ∙ open_still) near-left) (subst (λ (x : Decoded). Answers size x s answers) same to))

  any_alike : (d : TagDecoder) (s : List ℕ) → Octets s → Alike d s
  any_alike =
      of_any_run bench_entries bench_parts Alike
      (λ d s byte q open_still near answers to. last_alike d s byte open_still near q answers to)
      (λ d s e byte q on open_still near answers to. event_alike d s byte open_still near e q on answers to)

-- ---- the programs

-- the pieces of an input, one behind the other
pieces_joined : (ps : List (List ℕ)) → joined ps ≡ flatten ps
unfolding joined flatten
pieces_joined [] = refl
pieces_joined (p ∷ ps) = ap (λ (s : List ℕ). p ++ s) (pieces_joined ps)

-- the answers of a program whose reads give these pieces are those of the run on them as they come
pub program_runs_pieces : (strict : Bool) (size : ℕ) → 0 < size → (ps : List (List ℕ)) {answers : List Answered} → NoneEmpty ps → Octets (joined ps) → length (joined ps) ≤ farthest
    → Runs (started strict) (replicate size 0) ps answers → OfRun size (in_pieces bench_entries bench_parts (bench_run (begun strict) []) ps) answers
unfolding with_settings
program_runs_pieces strict size some ps {answers} none_empty byte few program =
    let d = begun strict in
    let is = pieces_joined ps in
    let at_once : OfRun size (bench_run d (joined ps)) answers = any_alike size some d (joined ps) byte refl (omega arith) answers (runs_through strict size ps none_empty byte few program) in
    let pieces = any_pieces bench_entries bench_parts d [] ps (subst Octets is byte) refl (omega (arith, few, ap length is)) in
    subst (λ (o : Outcome). OfRun size o answers) (ap (bench_run d) is ∙ sym pieces) at_once

-- however its reads cut an input, a program prints the same
pub programs_same_however_cut : (strict : Bool) (size : ℕ) (s : List ℕ) → Octets s → length s ≤ farthest → ProgramsSame strict size s
programs_same_however_cut strict size s byte few = record {
  lists = λ ps qs p q text other x y. same_however_cut strict size ps qs (p.all ∙ sym q.all) p.none_empty q.none_empty (rw p.all byte) (rw p.all few) x y;
  verdicts = λ ps qs p q l k x y. same_verdict_however_cut strict size ps qs (p.all ∙ sym q.all) p.none_empty q.none_empty (rw p.all byte) (rw p.all few) x y;
}
