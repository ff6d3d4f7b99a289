-- What calls in a row are to whoever makes them one by one: `many_calls` makes the calls of `in_a_row`. As many of these as
-- events were handed out told an event each, whose words stand in the list, and after them comes the answer that stops
-- the calls, if there was room for it; the record is the one that they leave, and the bytes that are left are those past
-- what was taken. Assumes nothing.
use Prim.Native.Nat.{ℕ, zero, suc, ◌+◌, ◌≤◌, ◌<◌}
use mathlib.Core.Bool.{Bool, true, false}
use mathlib.Core.List.{List, [], ◌∷◌, map}
use mathlib.Core.Path.{◌≡◌, refl, sym, ap, ◌∙◌}
use native.Mathlib.Omega.{arith}
use lib.ListN.{length, get_or, drop, length-drop}
use lib.Seq.{drop-drop}
use Rattle.tools.specs.Bytes.{Octets}
use Rattle.tag_parse.proofs.Cases.{octets_drop}
use Rattle.decoder_rules.specs.Run.{Told, event, need_more, finish, refusal, told_by, Call, Calls, before, last, goes_on_with, in_a_row}
use Rattle.decoder_rules.specs.declared.types.Answer.{Answer}
use Rattle.decoder_rules.specs.declared.types.Answer.TheVariants as answer
use Rattle.decoder_rules.specs.declared.types.Decoded.{Decoded}
use Rattle.decoder_rules.specs.declared.types.Event.{Event}
use Rattle.decoder_rules.specs.declared.types.TagDecoder.{TagDecoder}
use Rattle.decoder_rules.proofs.MoveLaws.{is_no_event}
use Rattle.many_events.specs.Events.{event_words}
use Rattle.many_events.specs.Many.{InARow, then, stopped, on_from, many_calls, one_call}
use Rattle.many_events.specs.declared.types.Stop.{Stop}
use Rattle.many_events.specs.declared.types.Stop.TheVariants as stop
use Rattle.many_events.proofs.Calling.{call_within, call_takes_none, call_moves}
use Rattle.std.specs.Prelude.{Err, Ok, Result}
use Rattle.decoder_rules.specs.declared.types.Refusal.{Refusal}

-- the words of what a call told, where that is an event: d is the record after it
abbrev pub words_told : TagDecoder → Told → List ℕ
words_told d (event e) = event_words d e
words_told d (need_more missing) = []
words_told d finish = []
words_told d (refusal n p x) = []

-- whether an event was told
abbrev pub is_event : Told → Bool
is_event (event e) = true
is_event (need_more missing) = false
is_event finish = false
is_event (refusal n p x) = false

-- what the call told that stops the others; where there is no room, none was made
abbrev pub last_told : Result Stop Refusal → List Told
last_told (Ok stop.Full) = []
last_told (Ok (stop.NeedMore missing)) = need_more missing ∷ []
last_told (Ok stop.Finished) = finish ∷ []
last_told (Err r) = told_by (Err r) ∷ []

-- no call
abbrev pub no_call : Call
no_call = record { told = finish; taken = 0 }

-- r is handed out by the calls c, with room for n events; d is left by the first i of them where `left i` is d, and s
-- are the bytes before them
pub record ByCalls (n : ℕ) (s : List ℕ) (left : ℕ → TagDecoder) (r : InARow) (c : Calls) : Type 0 where
  pub few : length r.events ≤ n
  pub full : r.stop ≡ Ok stop.Full → length r.events ≡ n
  pub events_told : (i : ℕ) → i < length r.events → is_event (get_or c.calls i no_call).told ≡ true
  pub words : (i : ℕ) → i < length r.events → get_or r.events i [] ≡ words_told (left (suc i)) (get_or c.calls i no_call).told
  pub last_told_lem : map (λ (x : Call). x.told) (drop (length r.events) c.calls) ≡ last_told r.stop
  pub state : r.state ≡ c.left
  pub rest : drop r.taken s ≡ c.rest

-- no more bytes were taken than the bytes s, and the position of d moved by those
pub record Moved (d : TagDecoder) (s : List ℕ) (r : InARow) : Type 0 where
  pub within : r.taken ≤ length s
  pub moves : r.state.position ≡ d.position + r.taken

-- an answer that is no event takes no byte
abbrev pub TakesNone : (TagDecoder → List ℕ → Decoded) → Type 0
TakesNone call = (d : TagDecoder) (s : List ℕ) → is_no_event (call d s).answer ≡ true → (call d s).taken ≡ 0

module _ (call : TagDecoder → List ℕ → Decoded) (none : TakesNone call) where
  -- the record that i calls at most leave
  abbrev pub left_by : TagDecoder → List ℕ → ℕ → TagDecoder
  left_by d s i = (in_a_row call i d s).left

  -- a call, told
  abbrev call_of : TagDecoder → List ℕ → Told → Call
  call_of d s x = record { told = x; taken = (call d s).taken }

  module _ (n : ℕ) (d : TagDecoder) (s : List ℕ) where
    abbrev e : TagDecoder
    e = (call d s).state

    abbrev t : List ℕ
    t = drop (call d s).taken s

    -- a call that stops the others
    stops : (why : Result Stop Refusal) (x : Told) → (why ≡ Ok stop.Full → ⊥) → x ∷ [] ≡ last_told why → (call d s).taken ≡ 0
        → ByCalls (suc n) s (left_by d s) (stopped why e) (last (call_of d s x) e t)
    stops why x part told k =
        record {
          few = omega arith;
          full = λ w. absurd (part w);
          events_told = λ i h. absurd (omega arith);
          words = λ i h. absurd (omega arith);
          last_told_lem = told;
          state = refl;
          rest = rw k;
        }

    -- a call that told an event, and those after it
    module _ (x : Event) (q : (call d s).answer ≡ Ok (answer.Event x)) (m : InARow) (c : Calls) (others : ByCalls n t (left_by e t) m c) where
      left_then : (i : ℕ) → left_by d s (suc i) ≡ left_by e t i
      unfolding in_a_row
      left_then i = ap (λ (a : Result Answer Refusal). (goes_on_with (in_a_row call i) a (call_of d s (told_by a)) e t).left) q

      event_then : ByCalls (suc n) s (left_by d s) (then (event_words e x) (call d s).taken m) (before (call_of d s (event x)) c)
      unfolding in_a_row
      event_then =
          record {
            few = omega (arith, others.few);
            full = λ w. ap suc (others.full w);
            events_told = told;
            words = words_of;
            last_told_lem = others.last_told_lem;
            state = others.state;
            rest = sym (drop-drop m.taken (call d s).taken s) ∙ others.rest;
          }
        where
          told : (i : ℕ) → i < suc (length m.events) → is_event (get_or (call_of d s (event x) ∷ c.calls) i no_call).told ≡ true
          told zero h = refl
          told (suc i) h = others.events_told i (omega arith)

          words_of : (i : ℕ) → i < suc (length m.events)
              → get_or (event_words e x ∷ m.events) i [] ≡ words_told (left_by d s (suc i)) (get_or (call_of d s (event x) ∷ c.calls) i no_call).told
          words_of zero h = ap (λ (y : TagDecoder). event_words y x) (sym (left_then zero))
          words_of (suc i) h = others.words i (omega arith) ∙ ap (λ (y : TagDecoder). words_told y (get_or c.calls i no_call).told) (sym (left_then (suc i)))

    -- by the answer
    by_answer : (a : Result Answer Refusal) → (call d s).answer ≡ a → ByCalls n t (left_by e t) (many_calls call n e t) (in_a_row call n e t)
        → ByCalls (suc n) s (left_by d s) (on_from a (call d s).taken e (many_calls call n e t)) (goes_on_with (in_a_row call n) a (call_of d s (told_by a)) e t)
    by_answer (Ok (answer.Event x)) q others = event_then x q (many_calls call n e t) (in_a_row call n e t) others
    by_answer (Ok (answer.NeedMore missing)) q others = stops _ _ (λ w. let z : ◌≡◌ {A = ℕ} 0 1 = cc in omega arith) refl (none d s (ap is_no_event q))
    by_answer (Ok answer.Finished) q others = stops _ _ (λ w. let z : ◌≡◌ {A = ℕ} 0 1 = cc in omega arith) refl (none d s (ap is_no_event q))
    by_answer (Err r) q others = stops _ _ (λ w. let z : ◌≡◌ {A = ℕ} 0 1 = cc in omega arith) refl (none d s (ap is_no_event q))

  -- calls in a row hand out what the calls one by one told
  pub by_calls : (n : ℕ) (d : TagDecoder) (s : List ℕ) → ByCalls n s (left_by d s) (many_calls call n d s) (in_a_row call n d s)
  unfolding many_calls in_a_row
  by_calls zero d s =
      record {
        few = omega arith;
        full = λ w. refl;
        events_told = λ i h. absurd (omega arith);
        words = λ i h. absurd (omega arith);
        last_told_lem = refl;
        state = refl;
        rest = refl;
      }
  by_calls (suc n) d s = by_answer n d s (call d s).answer refl (by_calls n (call d s).state (drop (call d s).taken s))

module _ (eof : Bool) (es ps : List ℕ) where
  -- so do those at the end of input or before it
  pub many_in_a_row : (n : ℕ) (d : TagDecoder) (s : List ℕ)
      → ByCalls n s (λ i. (in_a_row (one_call eof es ps) i d s).left) (many_calls (one_call eof es ps) n d s) (in_a_row (one_call eof es ps) n d s)
  many_in_a_row n d s = by_calls (one_call eof es ps) (λ e t q. call_takes_none es ps e t eof q) n d s

  module _ (d : TagDecoder) (s : List ℕ) (byte : Octets s) where
    abbrev r : Decoded
    r = one_call eof es ps d s

    -- an answer that is no event
    stays : is_no_event r.answer ≡ true → (why : Result Stop Refusal) → Moved d s (stopped why r.state)
    stays q why = record { within = omega arith; moves = omega (arith, call_moves es ps d s eof byte, call_takes_none es ps d s eof q) }

    -- any answer
    moves_on : (a : Result Answer Refusal) (others : InARow) → r.answer ≡ a → Moved r.state (drop r.taken s) others → Moved d s (on_from a r.taken r.state others)
    moves_on (Ok (answer.Event x)) others q m =
        let k = call_within es ps d s eof byte in
        let l = length-drop r.taken s in
        record { within = omega (arith, m.within); moves = omega (arith, m.moves, call_moves es ps d s eof byte) }
    moves_on (Ok (answer.NeedMore missing)) others q m = stays (ap is_no_event q) _
    moves_on (Ok answer.Finished) others q m = stays (ap is_no_event q) _
    moves_on (Err x) others q m = stays (ap is_no_event q) _

  -- no more bytes are taken than are lent, and the position moves by those
  pub many_moves : (n : ℕ) (d : TagDecoder) (s : List ℕ) → Octets s → Moved d s (many_calls (one_call eof es ps) n d s)
  unfolding many_calls
  many_moves zero d s byte = record { within = omega arith; moves = omega arith }
  many_moves (suc n) d s byte = let r = one_call eof es ps d s in moves_on d s byte r.answer _ refl (many_moves n r.state (drop r.taken s) (octets_drop r.taken s byte))
