-- What is written is read where it was put: in a document that begins with a root every element lies where the table
-- has it, and an End's count is the number of the elements in its master. So what the pump writes is what the importer
-- files. Document 02, CR 12, of what CR 2's writer writes.
use Rattle.std.specs.Prelude.{ℕ, ◌<◌, ◌≡◌, true, List, ◌∷◌, ◌++◌, length, Ok}
use Rattle.table.specs.Table.{table_of, path_of}
use Rattle.decoder_rules.specs.declared.types.Answer.TheVariants as answer
use Rattle.decoder_rules.specs.declared.types.Event.{Event}
use Rattle.decoder_rules.specs.declared.types.Event.TheVariants as event
use Rattle.decoder_rules.specs.declared.types.WaitingEnd.{WaitingEnd}
use Rattle.guarantees.specs.Calls.{Call, Lent}
use Rattle.guarantees.specs.CutRecords.{InOrder}
use Rattle.guarantees.specs.History.{child_test_never_off}
use Rattle.guarantees.specs.Promises.{event_id, Answers, open_at, position_at}
use Rattle.known_places.specs.CountedInFile.{EndCounts}
use Rattle.known_places.specs.KnownPlaces.{hierarchy_test_on, place_of, OfPath, KnownHere}

-- where any front of the bytes w is read in order, in whatever pieces, with whatever settings and without recovery, and
-- the hierarchy test is on at the last call, places are known
pub record PlacesKnown (es ps w : List ℕ) : Type 0 where
  pub known_here : (s rest : List ℕ) → s ++ rest ≡ w → (cs : List Call) (c : Call) → Lent (c ∷ cs) → InOrder es ps s (c ∷ cs) → hierarchy_test_on cs ≡ true → KnownHere es ps cs c
  -- so every element of a path of IDs lies in the masters that its path names
  pub place : (s rest : List ℕ) → s ++ rest ≡ w → (cs : List Call) (c : Call) → Lent (c ∷ cs) → InOrder es ps s (c ∷ cs) → hierarchy_test_on cs ≡ true
      → (e : Event) → OfPath es ps cs c e → place_of (open_at es ps cs) ≡ path_of (table_of es ps) (event_id e)
  -- and an End comes where its master ends, with the number of the elements that fill it, if the child-size test was
  -- never off
  pub end_counts_lem : (s rest : List ℕ) → s ++ rest ≡ w → (cs : List Call) (c : Call) → Lent (c ∷ cs) → InOrder es ps s (c ∷ cs) → child_test_never_off cs ≡ true
      → (end : WaitingEnd) → Answers es ps cs c (Ok (answer.Event (event.End end))) → EndCounts es ps s cs end

-- what the pump writes is what the importer files, who files at the finish what is read in order: a front of w that is
-- not empty and comes to the finish is all of w, every byte of it taken, and every element lay where the table has it
pub record FiledAsWritten (es ps w : List ℕ) : Type 0 where
  pub all_there : (s rest : List ℕ) → s ++ rest ≡ w → 0 < length s → (cs : List Call) (c : Call) → Lent (c ∷ cs) → InOrder es ps s (c ∷ cs)
      → Answers es ps cs c (Ok answer.Finished) → (s ≡ w) × (position_at es ps cs ≡ length w)
  pub places : PlacesKnown es ps w
