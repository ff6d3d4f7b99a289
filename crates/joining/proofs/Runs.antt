-- A run is what a reader has in mind: no run is cut short by how it is defined (`runs`), and what is true of a call
-- that ends a run and goes from what a call with an event leaves to that call, is true of any run (`of_any_run`): every
-- event brings the end nearer. Assumes nothing.
use Prim.Native.Nat.{ℕ, zero, suc, ◌+◌, ◌*◌, ◌≤◌, ◌<◌}
use mathlib.Core.Path.{◌≡◌, refl, sym, ap, ◌∙◌, subst}
use mathlib.Core.Bool.{true, false, true≢false}
use mathlib.Core.List.{List, [], ◌∷◌, ◌++◌}
use native.Mathlib.Omega.{arith}
use lib.ListN.{length, drop, length-drop}
use lib.Seq.{drop-append_seam}
use Rattle.tools.specs.Bytes.{Octets}
use Rattle.tag_parse.proofs.Cases.{octets_drop}
use Rattle.decoder_rules.specs.Moving.{decode}
use Rattle.decoder_rules.specs.declared.types.Answer.{Answer}
use Rattle.decoder_rules.specs.declared.types.Answer.TheVariants as answer
use Rattle.decoder_rules.specs.declared.types.Decoded.{Decoded}
use Rattle.decoder_rules.specs.declared.types.Event.{Event}
use Rattle.decoder_rules.specs.declared.types.TagDecoder.{TagDecoder}
use Rattle.decoder_rules.proofs.MoveLaws.{is_no_event}
use Rattle.tag_decoder_laws.proofs.Nearer.{weight, event_nearer, event_light}
use Rattle.joining.specs.Joining.{Outcome, ended_by, after, with, goes_on_with, run_for, most_events, run, NoEvent, Runs}
use Rattle.std.specs.Prelude.{Err, Ok, Result}
use Rattle.decoder_rules.specs.declared.types.Refusal.{Refusal}

-- ---- an answer

-- an answer is an event or ends the run
pub data Kind (a : Result Answer Refusal) : Type 0 where
  is_event_lem : (e : Event) → a ≡ Ok (answer.Event e) → Kind a
  is_last : is_no_event a ≡ true → Kind a

-- which of the two
pub kind : (a : Result Answer Refusal) → Kind a
kind (Ok (answer.Event e)) = is_event_lem e refl
kind (Ok (answer.NeedMore missing)) = is_last refl
kind (Ok answer.Finished) = is_last refl
kind (Err x) = is_last refl

-- what the test of an answer says
pub no_event : (a : Result Answer Refusal) → is_no_event a ≡ true → NoEvent a
no_event a q e f = true≢false (sym q ∙ ap is_no_event f)

-- and what makes it say so
pub ends_run : (a : Result Answer Refusal) → NoEvent a → is_no_event a ≡ true
ends_run (Ok (answer.Event e)) none = absurd (none e refl)
ends_run (Ok (answer.NeedMore missing)) none = refl
ends_run (Ok answer.Finished) none = refl
ends_run (Err x) none = refl

-- an answer that is no event is the last
last_stops : (others : TagDecoder → List ℕ → Outcome) (a : Result Answer Refusal) (r : Decoded) (s : List ℕ) → is_no_event a ≡ true → goes_on_with others a r s ≡ ended_by r s
last_stops others (Ok (answer.Event e)) r s q = absurd (true≢false (sym q))
last_stops others (Ok (answer.NeedMore missing)) r s q = refl
last_stops others (Ok answer.Finished) r s q = refl
last_stops others (Err x) r s q = refl

-- the back of octets are octets
pub octets_back : (s u : List ℕ) → Octets (s ++ u) → Octets u
octets_back s u byte = subst Octets (drop-append_seam s u) (octets_drop (length s) (s ++ u) byte)

module _ (es ps : List ℕ) where
  -- ---- what is left after a call

  -- the record
  abbrev pub state_after : TagDecoder → List ℕ → TagDecoder
  state_after d s = (decode es ps d s).state

  -- the bytes
  abbrev pub rest_after : TagDecoder → List ℕ → List ℕ
  rest_after d s = drop (decode es ps d s).taken s

  -- fewer events than this are to come
  abbrev ahead : TagDecoder → List ℕ → ℕ
  ahead d s = 256 * length s + weight d

  fewer : (d : TagDecoder) (s : List ℕ) → Octets s → {e : Event} → (decode es ps d s).answer ≡ Ok (answer.Event e) → ahead (state_after d s) (rest_after d s) < ahead d s
  fewer d s byte q = rw (length-drop (decode es ps d s).taken s) (event_nearer es ps d s byte q)

  -- what is true of a call that ends a run, and of a call with an event where it is true of what that leaves
  module _ (P : TagDecoder → List ℕ → Type 0)
      (at_last : (d : TagDecoder) (s : List ℕ) → Octets s → is_no_event (decode es ps d s).answer ≡ true → P d s)
      (at-event : (d : TagDecoder) (s : List ℕ) (e : Event) → Octets s → (decode es ps d s).answer ≡ Ok (answer.Event e) → P (state_after d s) (rest_after d s) → P d s) where
    one_call_lem : (d : TagDecoder) (s : List ℕ) → Octets s → Kind (decode es ps d s).answer
        → (ahead (state_after d s) (rest_after d s) < ahead d s → P (state_after d s) (rest_after d s)) → P d s
    one_call_lem d s byte (is_event_lem e q) on = at-event d s e byte q (on (fewer d s byte q))
    one_call_lem d s byte (is_last q) on = at_last d s byte q

    any_calls : (n : ℕ) (d : TagDecoder) (s : List ℕ) → Octets s → ahead d s < n → P d s
    any_calls zero d s byte h = absurd (omega arith)
    any_calls (suc n) d s byte h =
        one_call_lem d s byte (kind (decode es ps d s).answer)
        (λ k. any_calls n (state_after d s) (rest_after d s) (octets_drop (decode es ps d s).taken s byte) (omega (arith, k, h)))

    -- is true of any run
    pub of_any_run : (d : TagDecoder) (s : List ℕ) → Octets s → P d s
    of_any_run d s byte = any_calls (suc (ahead d s)) d s byte (omega arith)

  -- ---- at most so many calls

  for_stops : (n : ℕ) (d : TagDecoder) (s : List ℕ) → is_no_event (decode es ps d s).answer ≡ true → run_for n es ps d s ≡ ended_by (decode es ps d s) s
  unfolding run_for
  for_stops zero d s q = refl
  for_stops (suc n) d s q = last_stops (run_for n es ps) (decode es ps d s).answer (decode es ps d s) s q

  for_event : (n : ℕ) (d : TagDecoder) (s : List ℕ) {e : Event} → (decode es ps d s).answer ≡ Ok (answer.Event e)
      → run_for (suc n) es ps d s ≡ after (with e (decode es ps d s) ∷ []) (run_for n es ps (state_after d s) (rest_after d s))
  unfolding run_for
  for_event n d s q = ap (λ (a : Result Answer Refusal). goes_on_with (run_for n es ps) a (decode es ps d s) s) q

  for_same : (n : ℕ) (d e : TagDecoder) (s : List ℕ) → decode es ps d s ≡ decode es ps e s → run_for n es ps d s ≡ run_for n es ps e s
  unfolding run_for
  for_same zero d e s q = ap (λ (r : Decoded). ended_by r s) q
  for_same (suc n) d e s q = ap (λ (r : Decoded). goes_on_with (run_for n es ps) r.answer r s) q

  -- so many calls are enough: where the first answers an event, no more are to come
  abbrev Enough : ℕ → TagDecoder → List ℕ → Type 0
  Enough n d s = is_no_event (decode es ps d s).answer ≡ false → ahead d s ≤ n

  -- where they are enough, more make no difference
  abbrev Settled : TagDecoder → List ℕ → Type 0
  Settled d s = (n m : ℕ) → Enough n d s → Enough m d s → run_for n es ps d s ≡ run_for m es ps d s

  event_settled : (d : TagDecoder) (s : List ℕ) (e : Event) → Octets s → (decode es ps d s).answer ≡ Ok (answer.Event e) → Settled (state_after d s) (rest_after d s) → Settled d s
  event_settled d s e byte q on zero m hn hm = absurd (omega (arith, fewer d s byte q, hn (ap is_no_event q)))
  event_settled d s e byte q on (suc n) zero hn hm = absurd (omega (arith, fewer d s byte q, hm (ap is_no_event q)))
  event_settled d s e byte q on (suc n) (suc m) hn hm =
      for_event n d s q
      ∙ ap (after (with e (decode es ps d s) ∷ [])) (on n m (λ f. omega (arith, fewer d s byte q, hn (ap is_no_event q))) (λ f. omega (arith, fewer d s byte q, hm (ap is_no_event q))))
      ∙ sym (for_event m d s q)

  enough : (d : TagDecoder) (s : List ℕ) → Octets s → Settled d s
  enough = of_any_run Settled (λ d s byte q n m hn hm. for_stops n d s q ∙ sym (for_stops m d s q)) event_settled

  most_enough : (d : TagDecoder) (s : List ℕ) → Enough (most_events s) d s
  most_enough d s q = omega (arith, event_light es ps d s q)

  -- ---- a run

  -- a call that answers no event is the whole run
  pub run_stops : (d : TagDecoder) (s : List ℕ) → is_no_event (decode es ps d s).answer ≡ true → run es ps d s ≡ ended_by (decode es ps d s) s
  unfolding run
  run_stops d s q = for_stops (most_events s) d s q

  -- after an event the run goes on with what is left
  pub run_event : (d : TagDecoder) (s : List ℕ) → Octets s → {e : Event} → (decode es ps d s).answer ≡ Ok (answer.Event e)
      → run es ps d s ≡ after (with e (decode es ps d s) ∷ []) (run es ps (state_after d s) (rest_after d s))
  unfolding run
  run_event d s byte {e} q =
      let most = most_enough d s (ap is_no_event q) in
      let left = rest_after d s in
      enough d s byte (most_events s) (suc (most_events s)) (most_enough d s) (λ f. omega (arith, most))
      ∙ for_event (most_events s) d s q
      ∙ ap (after (with e (decode es ps d s) ∷ []))
      (enough (state_after d s) left (octets_drop (decode es ps d s).taken s byte) (most_events s) (most_events left) (λ f. omega (arith, most, fewer d s byte q)) (most_enough (state_after d s) left))

  -- records that answer the first call alike run alike
  pub run_same : (d e : TagDecoder) (s : List ℕ) → decode es ps d s ≡ decode es ps e s → run es ps d s ≡ run es ps e s
  unfolding run
  run_same d e s q = for_same (most_events s) d e s q

  -- a run comes to an answer that is no event
  pub run_ends : (d : TagDecoder) (s : List ℕ) → Octets s → is_no_event (run es ps d s).last ≡ true
  run_ends =
      of_any_run (λ d s. is_no_event (run es ps d s).last ≡ true)
      (λ d s byte q. ap (λ (r : Outcome). is_no_event r.last) (run_stops d s q) ∙ q)
      (λ d s e byte q on. ap (λ (r : Outcome). is_no_event r.last) (run_event d s byte q) ∙ on)

  -- what a run leaves unread are octets
  pub rest_octets : (d : TagDecoder) (s : List ℕ) → Octets s → Octets (run es ps d s).rest
  rest_octets =
      of_any_run (λ d s. Octets (run es ps d s).rest)
      (λ d s byte q. subst (λ (o : Outcome). Octets o.rest) (sym (run_stops d s q)) (octets_drop (decode es ps d s).taken s byte))
      (λ d s e byte q on. subst (λ (o : Outcome). Octets o.rest) (sym (run_event d s byte q)) on)

  -- a run is what a reader has in mind
  pub runs : (d : TagDecoder) (s : List ℕ) → Octets s → Runs es ps d s
  runs d s byte = record {
    stops = λ none. run_stops d s (ends_run (decode es ps d s).answer none);
    goes_on = λ q. run_event d s byte q;
    ends = no_event (run es ps d s).last (run_ends d s byte);
  }
