-- A run of `decode` calls on the bytes at hand, as a caller makes it until the decoder needs more: a call, and the next
-- on what that one left, up to the first answer that is no event. Document 02, CR 6: "Run a decoder on bytes a until it
-- needs more, then on the unread rest followed by b."
use Rattle.std.specs.Prelude.{ℕ, zero, suc, ◌*◌, ◌≡◌, length, drop, Err, Ok, Result}
use mathlib.Core.List.{List, [], ◌∷◌, ◌++◌, map, flatten}
use Rattle.decoder_rules.specs.Moving.{decode}
use Rattle.decoder_rules.specs.declared.types.Answer.{Answer}
use Rattle.decoder_rules.specs.declared.types.Answer.TheVariants as answer
use Rattle.decoder_rules.specs.declared.types.Decoded.{Decoded}
use Rattle.decoder_rules.specs.declared.types.Event.{Event}
use Rattle.decoder_rules.specs.declared.types.Refusal.{Refusal}
use Rattle.decoder_rules.specs.declared.types.TagDecoder.{TagDecoder}

-- ---- a run

-- an event, and the record that its call left
pub record Handed : Type 0 where
  pub event : Event
  pub left : TagDecoder

-- what a run gives: what it handed out in its order, the answer that ended it (need more with its number, or a refusal
-- with its number and place), the record at its end, and the unread rest
pub record Outcome : Type 0 where
  pub handed : List Handed
  pub last : Result Answer Refusal
  pub state : TagDecoder
  pub rest : List ℕ

-- its events
abbrev pub events_of : Outcome → List Event
events_of r = map (λ h. h.event) r.handed

-- the run of one call, whose result r ended it; s was lent
abbrev pub ended_by : Decoded → List ℕ → Outcome
ended_by r s = record { handed = []; last = r.answer; state = r.state; rest = drop r.taken s }

-- what was handed out before the run r, and then that run
abbrev pub after : List Handed → Outcome → Outcome
after l r = record { handed = l ++ r.handed; last = r.last; state = r.state; rest = r.rest }

-- an event with the result r of its call
abbrev pub with : Event → Decoded → Handed
with e r = record { event = e; left = r.state }

-- by the answer of a call with the bytes s, whose result is r: an event lets the others follow, any other answer is the
-- last
abbrev pub goes_on_with : (TagDecoder → List ℕ → Outcome) → Result Answer Refusal → Decoded → List ℕ → Outcome
goes_on_with others (Ok (answer.Event e)) r s = after (with e r ∷ []) (others r.state (drop r.taken s))
goes_on_with others (Ok (answer.NeedMore missing)) r s = ended_by r s
goes_on_with others (Ok answer.Finished) r s = ended_by r s
goes_on_with others (Err x) r s = ended_by r s

-- at most n + 1 calls
unfoldable pub run_for : ℕ → List ℕ → List ℕ → TagDecoder → List ℕ → Outcome
run_for zero es ps d s = ended_by (decode es ps d s) s
run_for (suc n) es ps d s =
    let r = decode es ps d s in
    goes_on_with (run_for n es ps) r.answer r s

-- more events than these no run hands out: a Start and a Data take bytes, and an End is one of a master that is open or
-- will be, or one that waits
abbrev pub most_events : List ℕ → ℕ
most_events s = 256 * suc (length s)

-- calls until the decoder needs more or refuses. That `most_events` cuts no run short is `Runs`, of any record
unfoldable pub run : List ℕ → List ℕ → TagDecoder → List ℕ → Outcome
run es ps d s = run_for (most_events s) es ps d s

-- an answer that is no event
abbrev pub NoEvent : Result Answer Refusal → Type 0
NoEvent a = (e : Event) → a ≡ Ok (answer.Event e) → ⊥

-- `run` is what a reader has in mind
pub record Runs (es ps : List ℕ) (d : TagDecoder) (s : List ℕ) : Type 0 where
  -- a call that answers no event is the whole run
  pub stops : NoEvent (decode es ps d s).answer → run es ps d s ≡ ended_by (decode es ps d s) s
  -- after an event the run goes on with the record and the bytes that the call left
  pub goes_on : {e : Event} → (decode es ps d s).answer ≡ Ok (answer.Event e)
      → run es ps d s ≡ after (with e (decode es ps d s) ∷ []) (run es ps (decode es ps d s).state (drop (decode es ps d s).taken s))
  -- and it comes to an answer that is no event
  pub ends : NoEvent (run es ps d s).last

-- ---- more bytes

-- "then on the unread rest followed by b": what the run r handed out, and then a run of its record
abbrev pub onward : List ℕ → List ℕ → Outcome → List ℕ → Outcome
onward es ps r b = after r.handed (run es ps r.state (r.rest ++ b))

-- no further call: b stays unread behind the rest
abbrev pub unread_behind : Outcome → List ℕ → Outcome
unread_behind r b = record { handed = r.handed; last = r.last; state = r.state; rest = r.rest ++ b }

-- the pieces of a transfer, one behind the other
abbrev pub joined : List (List ℕ) → List ℕ
joined pieces = flatten pieces

-- each piece when it comes
unfoldable pub in_pieces : List ℕ → List ℕ → Outcome → List (List ℕ) → Outcome
in_pieces es ps r [] = r
in_pieces es ps r (b ∷ later) = in_pieces es ps (onward es ps r b) later

-- ---- joining is composition

-- the answers that end a run of a decoder that is not finished: need more, and a refusal
abbrev pub MoreOrRefused : Result Answer Refusal → Type 0
MoreOrRefused (Ok (answer.Event e)) = ⊥
MoreOrRefused (Ok (answer.NeedMore missing)) = Unit {0}
MoreOrRefused (Ok answer.Finished) = ⊥
MoreOrRefused (Err x) = Unit {0}

-- of a decoder's record d, and of bytes a and then b
pub record Joins (es ps : List ℕ) (d : TagDecoder) (a b : List ℕ) : Type 0 where
  -- "Run a decoder on bytes a until it needs more": so it ends, or with a refusal
  pub ended : MoreOrRefused (run es ps d a).last
  -- "If a brought no refusal, the events, end state and unread rest are those of one run on a followed by b"; and so
  -- are the answer that ends it and the record after every event. It holds too where a was refused, of a caller who
  -- asks again with b
  pub composed : run es ps d (a ++ b) ≡ onward es ps (run es ps d a) b
  -- "if a was refused, the joined run is refused at the same place with the same number, after the same events"; its
  -- record is the same, and its rest is a's rest followed by b
  pub same_refusal : (x : Refusal) → (run es ps d a).last ≡ Err x → run es ps d (a ++ b) ≡ unread_behind (run es ps d a) b
