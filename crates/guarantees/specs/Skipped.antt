-- Document 02, CR 13: what recovery skips in a session, of one table that the table check passes, as a caller can tell
-- it from the answers. Each field speaks of any calls cs on a fresh decoder, or of a recovery after them.
use Rattle.std.specs.Prelude.{ℕ, ◌+◌, ◌≤◌, ◌≡◌, cond, List, [], ◌∷◌, map, length, Err, Ok, Result}
use Rattle.table.specs.Table.{table_of}
use Rattle.spec_util.specs.declared.types.OpenTag.{OpenTag}
use Rattle.decoder_rules.specs.Numbers.{search_refusal}
use Rattle.decoder_rules.specs.Record.{opens, end_of}
use Rattle.decoder_rules.specs.Recovery.{passed_in, is_found}
use Rattle.decoder_rules.specs.FirstPlace.{stands_at, is_valid, first_place}
use Rattle.decoder_rules.specs.declared.types.Answer.TheVariants as answer
use Rattle.decoder_rules.specs.declared.types.Search.{Search}
use Rattle.guarantees.specs.Calls.{Call, recovering, Response, answered, searched, silent, Step, record_after, history, Lent}
use Rattle.guarantees.specs.Promises.{last_response, position_at}
use Rattle.decoder_rules.specs.declared.types.Refusal.{Refusal}

-- ---- the bytes of a session

-- the count of bytes that an event took; of every other answer 0
abbrev pub event_took : Response → ℕ
event_took (answered (Ok (answer.Event e)) n) = n
event_took (answered (Ok (answer.NeedMore missing)) n) = 0
event_took (answered (Ok answer.Finished) n) = 0
event_took (answered (Err r) n) = 0
event_took (searched a n) = 0
event_took silent = 0

-- the count of bytes that a recovery passed over; of every other call 0
abbrev pub recovery_passed : Response → ℕ
recovery_passed (answered a n) = 0
recovery_passed (searched a n) = passed_in a
recovery_passed silent = 0

-- the bytes that the events of this history took
unfoldable pub taken_by_events : List Step → ℕ
taken_by_events [] = 0
taken_by_events (s ∷ h) = taken_by_events h + event_took s.told

-- the bytes that the recoveries of this history passed over
unfoldable pub skipped : List Step → ℕ
skipped [] = 0
skipped (s ∷ h) = skipped h + recovery_passed s.told

-- ---- the ends of what is open

-- the ends of those of these masters whose size is known
unfoldable pub known_ends : List OpenTag → List ℕ
known_ends [] = []
known_ends (m ∷ l) = cond m.known (end_of m ∷ known_ends l) (known_ends l)

-- by how much a recovery lets them grow: "Found: every open known size grows by the bytes passed over. Not found: passed
-- bytes stay taken, no size grows."
abbrev pub grown_by : Result Search Refusal → ℕ
grown_by a = cond (is_found a) (passed_in a) 0

-- ---- the statement

-- what recovery skips, of the table in these words
pub record Skipping (es ps : List ℕ) : Type 0 where
  -- the position reached is the bytes that events took, and those that recoveries passed over
  pub position_is : (cs : List Call) → position_at es ps cs ≡ taken_by_events (history es ps cs) + skipped (history es ps cs)
  -- "Over a session, the sum is at most the position reached."
  pub at_most_position : (cs : List Call) → skipped (history es ps cs) ≤ position_at es ps cs
  -- that is the position in the record
  pub record-position : (cs : List Call) → Lent cs → (record_after es ps cs).position ≡ position_at es ps cs
  -- the bytes that a recovery passes over are those that it takes, "at most the bytes lent"
  pub passed_is_taken : (cs : List Call) (s : List ℕ) (a : Result Search Refusal) (n : ℕ) → last_response es ps cs (recovering s) ≡ searched a n
      → (passed_in a ≡ n) × (passed_in a ≤ length s)
  -- where it is not refused they are "the first place, by the definition's steps, where a valid or an incomplete header
  -- stands", and it finds a header exactly where a valid one stands there
  pub passed_is_first : (cs : List Call) (s : List ℕ) (a : Result Search Refusal) (n : ℕ) → Lent cs → last_response es ps cs (recovering s) ≡ searched a n → search_refusal a ≡ 0
      → (passed_in a ≡ first_place ps (table_of es ps) (record_after es ps cs) s)
      × (is_found a ≡ is_valid (stands_at ps (table_of es ps) (record_after es ps cs) s (passed_in a)))
  -- by what a recovery that found a header passed over, and by no other, the end of every open master of known size grew
  pub ends_grow : (cs : List Call) (s : List ℕ) (a : Result Search Refusal) (n : ℕ) → Lent cs → last_response es ps cs (recovering s) ≡ searched a n
      → known_ends (opens (record_after es ps (recovering s ∷ cs))) ≡ map (λ e. e + grown_by a) (known_ends (opens (record_after es ps cs)))
