-- Document 02, CR 10, in demand 3: "the count equals that in the events handed out". How many children each master has
-- had, as a caller can tell it from the calls and their answers alone. A history stands latest first.
use Rattle.std.specs.Prelude.{ℕ, zero, suc, ◌+◌, ◌*◌, ◌≤◌, ◌≡◌, List, [], ◌∷◌, ◌++◌, map, reverse, length, get_or, drop, Err, Ok, Result}
use Rattle.table.specs.Table.{Entry, table_of}
use Rattle.spec_util.specs.declared.types.OpenTag.{OpenTag}
use Rattle.decoder_rules.specs.Record.{opens, waits}
use Rattle.decoder_rules.specs.declared.types.Answer.{Answer}
use Rattle.decoder_rules.specs.declared.types.Answer.TheVariants as answer
use Rattle.decoder_rules.specs.declared.types.Event.{Event}
use Rattle.decoder_rules.specs.declared.types.Event.TheVariants as event
use Rattle.decoder_rules.specs.declared.types.TagDecoder.{TagDecoder}
use Rattle.decoder_rules.specs.declared.types.WaitingEnd.{WaitingEnd}
use Rattle.guarantees.specs.Calls.{Call, lent, Response, answered, searched, silent, Step, record_after, history, Lent}
use Rattle.guarantees.specs.Settling.{seen_parents}
use Rattle.guarantees.specs.History.{parents_left}
use Rattle.guarantees.specs.Promises.{last_response, Answers, open_at, position_at}
use Rattle.decoder_rules.specs.declared.types.Refusal.{Refusal}

-- ---- the children so far of every master that has not had its End, the innermost first

-- one child more of the first of these, where there is one
abbrev pub child_of_first : List ℕ → List ℕ
child_of_first [] = []
child_of_first (n ∷ l) = (n + 1) ∷ l

-- a Start is a child of the innermost master, and from then on the innermost itself, with no child; a Data is a child of
-- the innermost, and an End takes the innermost away
abbrev pub counts_by_event : Event → List ℕ → List ℕ
counts_by_event (event.Start x o) l = 0 ∷ child_of_first l
counts_by_event (event.End end) l = drop 1 l
counts_by_event (event.Data x o v) l = child_of_first l

-- of the answers only an event changes them
abbrev pub counts_by_answer : Result Answer Refusal → List ℕ → List ℕ
counts_by_answer (Ok (answer.Event e)) l = counts_by_event e l
counts_by_answer (Ok (answer.NeedMore missing)) l = l
counts_by_answer (Ok answer.Finished) l = l
counts_by_answer (Err r) l = l

-- the counts after any call
abbrev pub counts_by : Response → List ℕ → List ℕ
counts_by (answered a n) l = counts_by_answer a l
counts_by (searched a n) l = l
counts_by silent l = l

-- these parents are implied: "for an implied parent, since it was implied", so each has no child yet
abbrev pub with_implied : List ℕ → List ℕ → List ℕ
with_implied parents l = map (λ x. 0) parents ++ l

-- the counts after this history, of the Starts that are open and then of the implied parents that are left; the parents
-- that a call implies come before its event
unfoldable pub child_counts : List ℕ → List Entry → List Step → List ℕ
child_counts ps t [] = []
child_counts ps t (s ∷ h) = counts_by s.told (with_implied (seen_parents ps t h (lent s.call) s.told) (child_counts ps t h))

-- the counts at a call after these, before its event
abbrev pub counts_at : List ℕ → List ℕ → List Call → Call → List ℕ
counts_at es ps cs c =
    with_implied (seen_parents ps (table_of es ps) (history es ps cs) (lent c) (last_response es ps cs c)) (child_counts ps (table_of es ps) (history es ps cs))

-- ---- the same of one master, looked up from the latest event back to its Start

-- the children of a master inside which `inner` others have not had their End, from this event back: its own Start is
-- the last that is looked at, a Start right inside it is a child, and so is a Data; what stands deeper is none. `earlier`
-- tells the same of the events before
abbrev pub back_from : Event → (ℕ → ℕ) → ℕ → ℕ
back_from (event.Start x o) earlier zero = 0
back_from (event.Start x o) earlier (suc zero) = earlier 0 + 1
back_from (event.Start x o) earlier (suc (suc inner)) = earlier (suc inner)
back_from (event.End end) earlier inner = earlier (suc inner)
back_from (event.Data x o v) earlier zero = earlier 0 + 1
back_from (event.Data x o v) earlier (suc inner) = earlier (suc inner)

-- from this answer back
abbrev pub back_from_answer : Result Answer Refusal → (ℕ → ℕ) → ℕ → ℕ
back_from_answer (Ok (answer.Event e)) earlier = back_from e earlier
back_from_answer (Ok (answer.NeedMore missing)) earlier = earlier
back_from_answer (Ok answer.Finished) earlier = earlier
back_from_answer (Err r) earlier = earlier

-- from what a call told back
abbrev pub back_from_told : Response → (ℕ → ℕ) → ℕ → ℕ
back_from_told (answered a n) earlier = back_from_answer a earlier
back_from_told (searched a n) earlier = earlier
back_from_told silent earlier = earlier

-- where these parents are implied, the masters that are open are these, without a child; where none is, those of before
abbrev pub since_implied : List ℕ → (ℕ → ℕ) → ℕ → ℕ
since_implied [] earlier = earlier
since_implied (x ∷ parents) earlier = λ inner. 0

-- from the latest event of this history back
unfoldable pub children_since : List ℕ → List Entry → List Step → ℕ → ℕ
children_since ps t [] = λ inner. 0
children_since ps t (s ∷ h) = back_from_told s.told (since_implied (seen_parents ps t h (lent s.call) s.told) (children_since ps t h))

-- the children of the innermost master at a call after these, before its event
abbrev pub children_at : List ℕ → List ℕ → List Call → Call → ℕ
children_at es ps cs c =
    since_implied (seen_parents ps (table_of es ps) (history es ps cs) (lent c) (last_response es ps cs c)) (children_since ps (table_of es ps) (history es ps cs)) 0

-- ---- what the record holds

-- the counts in a record: of the Ends that wait, and then of the open masters, from the innermost on
abbrev pub counts_in : TagDecoder → List ℕ
counts_in d = map (λ (end : WaitingEnd). end.count) (waits d) ++ map (λ (m : OpenTag). m.count) (reverse (opens d))

-- the sum of these
unfoldable pub total : List ℕ → ℕ
total [] = 0
total (n ∷ l) = n + total l

-- ---- the statement

-- the counts of the table in these words
pub record ChildCounts (es ps : List ℕ) : Type 0 where
  -- an End carries the count of the master that it names, which is the first (`end_matches`)
  pub end_counts_lem : (cs : List Call) (c : Call) → Lent (c ∷ cs) → (end : WaitingEnd) → Answers es ps cs c (Ok (answer.Event (event.End end))) → end.count ≡ get_or (counts_at es ps cs c) 0 0
  -- so it carries how many Starts and Data came right inside that master since its Start, or since it was implied
  pub since_its_start : (cs : List Call) (c : Call) → Lent (c ∷ cs) → (end : WaitingEnd) → Answers es ps cs c (Ok (answer.Event (event.End end))) → end.count ≡ children_at es ps cs c
  -- there is a count for each Start that is open and each implied parent that is left
  pub as_many : (cs : List Call) → Lent cs → length (child_counts ps (table_of es ps) (history es ps cs)) ≡ length (open_at es ps cs) + length (parents_left ps (table_of es ps) (history es ps cs))
  -- the record holds these counts
  pub record-counts : (cs : List Call) → Lent cs → counts_in (record_after es ps cs) ≡ child_counts ps (table_of es ps) (history es ps cs)
  -- a Start or a Data takes two bytes at least, so their sum is at most half the position; so no count exceeds it
  pub at_most_half : (cs : List Call) → Lent cs → 2 * total (child_counts ps (table_of es ps) (history es ps cs)) ≤ position_at es ps cs
