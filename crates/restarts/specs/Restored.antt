-- Document 02, CR 14: "A record restored from layout 2 answers every call as the stored one would have." What these
-- words say of a restored record that is the same as the stored one, whatever the empty places of either hold: of any
-- words for a table and any calls, refused ones too.
use Rattle.std.specs.Prelude.{ℕ, ◌≡◌, List, ◌++◌}
use Rattle.decoder_rules.specs.declared.types.TagDecoder.{TagDecoder}
use Rattle.guarantees.specs.Calls.{Call, record_after, history, Lent}
use Rattle.restarts.specs.Comparing.{Sound, SameRecord}
use Rattle.restarts.specs.Runs.{record_from, history_from}

-- the record d is stored, and the record e restored
pub record AnswersAsStored (es ps : List ℕ) : Type 0 where
  -- any calls on e are answered as on d
  pub same_answers : (d e : TagDecoder) → Sound d → Sound e → SameRecord d e → (cs : List Call) → Lent cs → history_from es ps e cs ≡ history_from es ps d cs
  -- and leave the same record
  pub same_left : (d e : TagDecoder) → Sound d → Sound e → SameRecord d e → (cs : List Call) → Lent cs → SameRecord (record_from es ps d cs) (record_from es ps e cs)
  -- so a run from fresh, after whose calls cs the record is stored and restored, has the history of the run without that
  pub same_history : (cs ds : List Call) → Lent (ds ++ cs) → (e : TagDecoder) → Sound e → SameRecord (record_after es ps cs) e
      → history_from es ps e ds ++ history es ps cs ≡ history es ps (ds ++ cs)
