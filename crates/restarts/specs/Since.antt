-- Document 02, CR 14, of a record that is read back with every count 0: "for the masters then open and the Ends then
-- waiting, demand 3's count is of the events handed out since that reading". What these words say of any calls before
-- the reading and any after it. A history stands latest first.
use Rattle.std.specs.Prelude.{ℕ, ◌+◌, ◌-◌, ◌<◌, ◌≡◌, List, [], ◌∷◌, ◌++◌, map, length, get_or, Err, Ok, Result}
use Rattle.table.specs.Table.{Entry, table_of}
use Rattle.decoder_rules.specs.declared.types.Answer.{Answer}
use Rattle.decoder_rules.specs.declared.types.Answer.TheVariants as answer
use Rattle.decoder_rules.specs.declared.types.Event.{Event}
use Rattle.decoder_rules.specs.declared.types.Event.TheVariants as event
use Rattle.decoder_rules.specs.declared.types.TagDecoder.{TagDecoder}
use Rattle.decoder_rules.specs.declared.types.WaitingEnd.{WaitingEnd}
use Rattle.guarantees.specs.Calls.{Call, lent, Response, answered, searched, silent, Step, response_to, record_after, history, Lent}
use Rattle.guarantees.specs.Settling.{seen_parents}
use Rattle.guarantees.specs.Counts.{counts_by, with_implied, child_counts, counts_in}
use Rattle.guarantees.specs.Promises.{last_response}
use Rattle.restarts.specs.Comparing.{but_counts, without_counts, seen_step}
use Rattle.restarts.specs.Runs.{record_from, history_from}
use Rattle.decoder_rules.specs.declared.types.Refusal.{Refusal}

-- ---- the masters that started since a reading

-- a Start is one master more since the reading, and an End one less, where one is left
abbrev pub later_by_event : Event → ℕ → ℕ
later_by_event (event.Start x o) n = n + 1
later_by_event (event.End end) n = n - 1
later_by_event (event.Data x o v) n = n

-- of the answers only an event changes how many there are
abbrev pub later_by_answer : Result Answer Refusal → ℕ → ℕ
later_by_answer (Ok (answer.Event e)) n = later_by_event e n
later_by_answer (Ok (answer.NeedMore missing)) n = n
later_by_answer (Ok answer.Finished) n = n
later_by_answer (Err r) n = n

-- after any call
abbrev pub later_by : Response → ℕ → ℕ
later_by (answered a k) n = later_by_answer a n
later_by (searched a k) n = n
later_by silent n = n

-- ---- the counts since a reading; `before` is the history before it

module _ (ps : List ℕ) (t : List Entry) (before : List Step) where
  -- the parents that a call implied, where h came since the reading
  abbrev pub parents_since : List Step → List ℕ → Response → List ℕ
  parents_since h s told = seen_parents ps t (h ++ before) s told

  -- the children of every master that has not had its End, the innermost first, where these were counted at the reading
  -- and this history came since: as `child_counts` goes on
  unfoldable pub counts_on_from : List ℕ → List Step → List ℕ
  counts_on_from counts [] = counts
  counts_on_from counts (s ∷ h) = counts_by s.told (with_implied (parents_since h (lent s.call) s.told) (counts_on_from counts h))

  -- the same of "the events handed out since that reading": it begins with a 0 for each master then open and each End then
  -- waiting
  abbrev pub child_counts_since : List Step → List ℕ
  child_counts_since h = counts_on_from (map (λ n. 0) (child_counts ps t before)) h

  -- how many masters that started, or were implied, since the reading have not had their End
  unfoldable pub later_masters : List Step → ℕ
  later_masters [] = 0
  later_masters (s ∷ h) = later_by s.told (length (parents_since h (lent s.call) s.told) + later_masters h)

-- ---- a run with a reading: the calls cs on a fresh decoder, the reading, then the calls ds

module _ (es ps : List ℕ) (cs : List Call) where
  -- the record that was read
  abbrev pub read_back : TagDecoder
  read_back = without_counts (record_after es ps cs)

  module _ (ds : List Call) where
    -- the record after the calls since
    abbrev pub record_since : TagDecoder
    record_since = record_from es ps read_back ds

    -- what the calls since answered
    abbrev pub history_since : List Step
    history_since = history_from es ps read_back ds

    -- what a further call answers
    abbrev pub response_since : Call → Response
    response_since c = response_to es ps record_since c

    -- the parents that it implies
    abbrev pub parents_at : Call → List ℕ
    parents_at c = parents_since ps (table_of es ps) (history es ps cs) history_since (lent c) (response_since c)

    -- the counts at it, before its event
    abbrev pub counts_since_at : Call → List ℕ
    counts_since_at c = with_implied (parents_at c) (child_counts_since ps (table_of es ps) (history es ps cs) history_since)

    -- the masters that started since and are open at it, before its event
    abbrev pub later_at : Call → ℕ
    later_at c = length (parents_at c) + later_masters ps (table_of es ps) (history es ps cs) history_since

-- ---- the statement

-- a run of the table in these words, whose record is read back once with every count 0
pub record CountsAfterReading (es ps : List ℕ) : Type 0 where
  -- it has the history of the run without the reading, but for the counts in Ends
  pub same_history : (cs ds : List Call) → Lent (ds ++ cs)
      → map (seen_step but_counts) (history_since es ps cs ds ++ history es ps cs) ≡ map (seen_step but_counts) (history es ps (ds ++ cs))
  -- an End carries the count, since the reading, of the master that it names, which is the first
  pub end_counts_since : (cs ds : List Call) (c : Call) → Lent (c ∷ (ds ++ cs)) → (end : WaitingEnd) (n : ℕ)
      → response_since es ps cs ds c ≡ answered (Ok (answer.Event (event.End end))) n → end.count ≡ get_or (counts_since_at es ps cs ds c) 0 0
  -- the record holds these counts
  pub record-counts-since : (cs ds : List Call) → Lent (ds ++ cs)
      → counts_in (record_since es ps cs ds) ≡ child_counts_since ps (table_of es ps) (history es ps cs) (history_since es ps cs ds)
  -- while a master that started since is open, the call is answered, count and all, as without the reading
  pub later_exact : (cs ds : List Call) (c : Call) → Lent (c ∷ (ds ++ cs)) → 0 < later_at es ps cs ds c
      → response_since es ps cs ds c ≡ last_response es ps (ds ++ cs) c
