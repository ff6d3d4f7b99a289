-- Demand 3 as one statement: what one table that the table check passes guarantees from a fresh decoder over any calls
-- (decode, end of input, recovery, with any bytes lent at each call; settings changed at any time). The events are those
-- that the answers of those very routines carry: five promises of them, and what stands below the five. Each field speaks
-- of a call c after any calls cs, so of each call of any run; `of_routines` and `of_lent_routines` say that what the
-- routines return, by value and with the record lent, is what the fields speak of.
use Rattle.std.specs.Prelude.{ℕ, ◌+◌, ◌≤◌, ◌≡◌, true, false, List, [], ◌∷◌, length, Ok, Some}
use Rattle.table.specs.Table.{table_of, data_type_of}
use Rattle.tag_parse.specs.declared.types.TagValue.{TagValue}
use Rattle.decoder_rules.specs.Numbers.{answer_refusal}
use Rattle.decoder_rules.specs.Settings.{is_finished}
use Rattle.decoder_rules.specs.declared.types.Answer.TheVariants.{Event, Finished}
use Rattle.decoder_rules.specs.declared.types.Event.{Event as AnEvent}
use Rattle.decoder_rules.specs.declared.types.Event.TheVariants.{Start, End, Data}
use Rattle.decoder_rules.specs.declared.types.TagDecoder.{TagDecoder}
use Rattle.decoder_rules.specs.declared.types.WaitingEnd.{WaitingEnd}
use Rattle.guarantees.specs.Calls.{Call, ending, lent, answered, Step, record_after, history, Lent, refusal_of}
use Rattle.guarantees.specs.Settling.{is_strict_after, seen_parents}
use Rattle.guarantees.specs.History.{declared_end, starts_declared, parents_left, child_test_never_off, never_recovered}
use Rattle.guarantees.specs.Promises.{event_kind, event_id, element_offset, last_response, Answers, open_at, left_at, position_at, HeaderOf, HeaderAlone, WholeData, only_loose, EndMatches, EndsInside, NotFull, EndOr23, ending_again, at_the_end}
use Rattle.guarantees.specs.Counts.{ChildCounts}
use Rattle.guarantees.specs.Results.{Run, NewReturns, ByValue, ByReference, SameAsDefined}

-- demand 3 of the table in these words
pub record Demand3 (es ps : List ℕ) : Type 1 where
  -- in any run of results that the contracts of the routines ensure, the record and the answers are those that the
  -- fields below speak of
  pub of_routines : (cs : List Call) (d : TagDecoder) (h : List Step) → Run NewReturns (ByValue es ps) cs d h → SameAsDefined es ps cs d h
  -- and so they are where the record is lent to each call
  pub of_lent_routines : (cs : List Call) (d : TagDecoder) (h : List Step) → Run NewReturns (ByReference es ps) cs d h → SameAsDefined es ps cs d h
  -- 1. The refusal of a table fault (24) never comes
  pub no_table_fault : (cs : List Call) (c : Call) → Lent (c ∷ cs) → refusal_of (last_response es ps cs c) ≡ 24 → ⊥
  -- 2. Each event has the kind that the table gives its ID, or is raw where it gives none
  pub kind_of_table : (cs : List Call) (c : Call) → Lent (c ∷ cs) → (e : AnEvent) → Answers es ps cs c (Ok (Event e)) → event_kind e ≡ data_type_of (table_of es ps) (event_id e)
  -- the bytes at an element's offset, the front of those lent, are a header with the event's ID and kind
  pub element_header : (cs : List Call) (c : Call) → Lent (c ∷ cs) → (e : AnEvent) (o : ℕ) → element_offset e ≡ Some o → Answers es ps cs c (Ok (Event e)) → HeaderOf (table_of es ps) (lent c) e
  -- the offset of a Start or a Data is the position, the count of all bytes taken before it
  pub offset_is_position : (cs : List Call) (c : Call) → Lent (c ∷ cs) → (e : AnEvent) (o : ℕ) → element_offset e ≡ Some o → Answers es ps cs c (Ok (Event e)) → o ≡ position_at es ps cs
  -- a Start takes its header and nothing more
  pub start_takes_header : (cs : List Call) (c : Call) → Lent (c ∷ cs) → (x o n : ℕ) → last_response es ps cs c ≡ answered (Ok (Event (Start x o))) n → HeaderAlone (table_of es ps) (lent c) n
  -- a Data lay whole in the bytes lent, is taken whole, and its value is that of its payload
  pub data-whole : (cs : List Call) (c : Call) → Lent (c ∷ cs) → (x o n : ℕ) (v : TagValue) → last_response es ps cs c ≡ answered (Ok (Event (Data x o v))) n
      → WholeData (is_strict_after (history es ps cs)) (table_of es ps) (lent c) o n v
  -- 3. Each End names the last Start still open or, where none is open, the innermost parent left of those implied
  -- because reading began below the root; Start and its End also agree in offset, and an implied parent's is 0
  pub end_matches : (cs : List Call) (c : Call) → Lent (c ∷ cs) → (end : WaitingEnd) → Answers es ps cs c (Ok (Event (End end))) → EndMatches (open_at es ps cs) (left_at es ps cs c) end
  -- and it carries how many children the events gave the master that it names: document 02, CR 10, "demand 3 adds: the
  -- count equals that in the events handed out"
  pub children : ChildCounts es ps
  -- parents are implied before all Starts and all Ends: the only events that came before are Data of an ID that has no
  -- type, or a Global in its path, so that nothing is open and no parent is left
  pub implied_first : (cs : List Call) (c : Call) → Lent (c ∷ cs) → (seen_parents ps (table_of es ps) (history es ps cs) (lent c) (last_response es ps cs c) ≡ [] → ⊥)
      → (only_loose (table_of es ps) (history es ps cs) ≡ true) × (open_at es ps cs ≡ []) × (parents_left ps (table_of es ps) (history es ps cs) ≡ [])
  -- 4. When the finish is answered, every Start has had its End
  pub finish_closes : (cs : List Call) (c : Call) → Lent (c ∷ cs) → Answers es ps cs c (Ok Finished) → open_at es ps cs ≡ []
  -- and where no call was a recovery, every implied parent too
  pub finish_closes_parents : (cs : List Call) (c : Call) → Lent (c ∷ cs) → never_recovered (c ∷ cs) ≡ true → Answers es ps cs c (Ok Finished) → left_at es ps cs c ≡ []
  -- where `is_finished` says so, every Start has had its End
  pub is_finished_closes : (cs : List Call) → Lent cs → is_finished (record_after es ps cs) ≡ true → open_at es ps cs ≡ []
  -- and where no call was a recovery, every implied parent too
  pub is_finished_closes_parents : (cs : List Call) → Lent cs → never_recovered cs ≡ true → is_finished (record_after es ps cs) ≡ true
      → parents_left ps (table_of es ps) (history es ps cs) ≡ []
  -- 5. If the child-size test was never switched off and there was no recovery, each element of known size (Start or
  -- Data) ends inside every master of known size then open
  pub element_ends_inside : (cs : List Call) (c : Call) → Lent (c ∷ cs) → child_test_never_off cs ≡ true → never_recovered cs ≡ true → (e : AnEvent) (o end : ℕ)
      → element_offset e ≡ Some o → Answers es ps cs c (Ok (Event e)) → declared_end (table_of es ps) o (lent c) ≡ Some end
      → EndsInside end (starts_declared (table_of es ps) (history es ps cs))
  -- refusal 11 never comes from a fresh decoder
  pub no_bad_state : (cs : List Call) (c : Call) → Lent (c ∷ cs) → refusal_of (last_response es ps cs c) ≡ 11 → ⊥
  -- the limits: at most 32 masters are open or wait for their End, the implied ones with them
  pub at_most_32 : (cs : List Call) → Lent cs → length (open_at es ps cs) + length (parents_left ps (table_of es ps) (history es ps cs)) ≤ 32
  -- so many does the record hold
  pub arrays_hold : (cs : List Call) → Lent cs → (record_after es ps cs).open_count + (record_after es ps cs).waiting_count ≤ 32
  -- 19 comes only where it is 32
  pub at_19_full : (cs : List Call) (c : Call) → Lent (c ∷ cs) → refusal_of (last_response es ps cs c) ≡ 19 → length (open_at es ps cs) + length (left_at es ps cs c) ≡ 32
  -- a record that was cut inside a master of known size does not look whole: if the input ends while such a master is
  -- open and not full, then, whatever bytes are left, the end of input does not answer the finish and does not finish
  -- the record
  pub cut_not_finished : (cs : List Call) (s : List ℕ) → Lent (ending s ∷ cs) → NotFull (open_at es ps cs) (position_at es ps cs)
      → (Answers es ps cs (ending s) (Ok Finished) → ⊥) × ((record_after es ps (ending s ∷ cs)).finished ≡ false)
  -- with no byte left it answers an End that waits or is due, or 23
  pub cut_is_told : (cs : List Call) → Lent cs → NotFull (open_at es ps cs) (position_at es ps cs) → EndOr23 (at_the_end es ps cs)
  -- and where the child-size test was never off, however often it is called again: each call answers an End or 23, and
  -- 23 comes within 32 Ends
  pub cut_always_told : (cs : List Call) → Lent cs → child_test_never_off cs ≡ true → NotFull (open_at es ps cs) (position_at es ps cs)
      → ((n : ℕ) → EndOr23 (at_the_end es ps (ending_again n cs))) × ((n : ℕ) × (n ≤ 32) × (answer_refusal (at_the_end es ps (ending_again n cs)) ≡ 23))
