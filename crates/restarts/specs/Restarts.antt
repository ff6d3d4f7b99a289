-- Document 02, CR 14, "Demand 3 reads the stored record's history": a run of a fresh decoder whose record is stored and
-- restored, at any places and any number of times. A run stands latest first.
use Rattle.std.specs.Prelude.{ℕ, ◌≡◌, false, List, [], ◌∷◌, length, Ok}
use Rattle.tools.specs.Bytes.{Octets}
use Rattle.decoder_rules.specs.Record.{fresh}
use Rattle.decoder_rules.specs.declared.types.TagDecoder.{TagDecoder}
use Rattle.stored_decoder.specs.Words.{decoder_words}
use Rattle.stored_decoder.specs.Block.{block_length, Words64, bytes_of, store_out, restore_from}
use Rattle.stored_decoder.specs.Layout1.{layout1_words}
use Rattle.guarantees.specs.Calls.{Call, lent, next, Step, step_of, record_after, history, Lent}
use Rattle.restarts.specs.Comparing.{without_counts}

-- a turn of a run: a call; or a restart, at which the record is stored in a lent block that holds these bytes, and a
-- decoder with this record is restored from what the block then holds
pub data Turn : Type 0 where
  calling : Call → Turn
  restarting : List ℕ → TagDecoder → Turn

-- the record after a restart of the record d
abbrev pub restarted : TagDecoder → List ℕ → TagDecoder → TagDecoder
restarted d b e = (restore_from e (store_out d b).1).state

-- the calls of a run
unfoldable pub calls_of : List Turn → List Call
calls_of [] = []
calls_of (calling c ∷ ts) = c ∷ calls_of ts
calls_of (restarting b e ∷ ts) = calls_of ts

module _ (es ps : List ℕ) where
  -- the record after this run
  unfoldable pub record_through : List Turn → TagDecoder
  record_through [] = fresh
  record_through (calling c ∷ ts) = next es ps (record_through ts) c
  record_through (restarting b e ∷ ts) = restarted (record_through ts) b e

  -- what its calls answer
  unfoldable pub history_through : List Turn → List Step
  history_through [] = []
  history_through (calling c ∷ ts) = step_of es ps (record_through ts) c ∷ history_through ts
  history_through (restarting b e ∷ ts) = history_through ts

  -- each block that is lent has 2,560 bytes; the bytes lent at each call are octets and the numbers of each record that
  -- is stored have 64 bits, as their types say in code
  unfoldable pub LentThrough : List Turn → Type 0
  LentThrough [] = Unit {0}
  LentThrough (calling c ∷ ts) = Octets (lent c) × LentThrough ts
  LentThrough (restarting b e ∷ ts) = (length b ≡ block_length) × Words64 (decoder_words (record_through ts)) × LentThrough ts

-- what restarts change, with any words for a table
pub record RestartsUnseen (es ps : List ℕ) : Type 0 where
  -- each of them succeeds: the record is stored, and restored
  pub stored : (ts : List Turn) (b : List ℕ) (e : TagDecoder) → LentThrough es ps (restarting b e ∷ ts) → (store_out (record_through es ps ts) b).0 ≡ Ok tt
  pub restored : (ts : List Turn) (b : List ℕ) (e : TagDecoder) → LentThrough es ps (restarting b e ∷ ts) → (restore_from e (store_out (record_through es ps ts) b).1).answer ≡ Ok tt
  -- a run with them leaves the record of the run without them
  pub same_record : (ts : List Turn) → LentThrough es ps ts → record_through es ps ts ≡ record_after es ps (calls_of ts)
  -- and has its history: so all that demand 3 says of that history and that record is said of it
  pub same_history : (ts : List Turn) → LentThrough es ps ts → history_through es ps ts ≡ history es ps (calls_of ts)

-- "Layout 1 .. is read as ported, counts 0"; asked of a block that holds a ported decoder's record "less the words that
-- layout lacks"
pub record ReadFromLayout1 (es ps : List ℕ) : Type 0 where
  -- such a block gives the record with every count 0, whatever the record was before. What its calls then answer is
  -- `CountsAfterReading`
  pub reads : (cs : List Call) → Lent cs → (record_after es ps cs).settings.strict ≡ false → Words64 (layout1_words (record_after es ps cs))
      → (e : TagDecoder) → restore_from e (bytes_of (layout1_words (record_after es ps cs))) ≡ record { answer = Ok tt; state = without_counts (record_after es ps cs) }
