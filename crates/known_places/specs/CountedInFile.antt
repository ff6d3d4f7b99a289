-- An End's count is the number of the elements in its master, in the file: where a record is read in order and every
-- size is known, the End comes where its master ends, and the elements that were counted fill it, one right after the
-- other. Document 02, CR 10 and CR 12.
use Rattle.std.specs.Prelude.{ℕ, ◌+◌, ◌≡◌, true, List, [], ◌∷◌, drop, Ok, Some}
use Rattle.table.specs.Table.{Entry, table_of}
use Rattle.tag_parse.specs.Header.{read_header}
use Rattle.tag_parse.specs.declared.types.TagHeader.{TagHeader}
use Rattle.decoder_rules.specs.declared.types.Answer.TheVariants as answer
use Rattle.decoder_rules.specs.declared.types.Event.TheVariants as event
use Rattle.decoder_rules.specs.declared.types.WaitingEnd.{WaitingEnd}
use Rattle.guarantees.specs.Calls.{Call, history, Lent}
use Rattle.guarantees.specs.CutRecords.{InOrder, every_known}
use Rattle.guarantees.specs.History.{Started, declared_end, child_test_never_off}
use Rattle.guarantees.specs.Promises.{Answers, open_at, position_at}
use Rattle.known_places.specs.KnownPlaces.{ever_implied}
use Rattle.tools.specs.declared.status.Status.TheVariants as status

-- n whole elements of known size stand in the bytes s from the place p on, each right after the one before, and the
-- last ends at f
pub data Row (t : List Entry) (s : List ℕ) (p : ℕ) : (n f : ℕ) → Type 0 where
  no_element : Row t s p 0 p
  one_more : (n o f : ℕ) → Row t s p n o → declared_end t o (drop o s) ≡ Some f → Row t s p (n + 1) f

-- in the bytes s the header of the master m stands at its offset and says where it ends, and n whole elements follow
-- the header up to the place f
pub record Children (t : List Entry) (s : List ℕ) (m : Started) (n f : ℕ) : Type 0 where
  pub its : TagHeader
  pub read : read_header t (drop m.offset s) ≡ Ok (status.Complete its)
  pub end : declared_end t m.offset (drop m.offset s) ≡ m.end
  pub row : Row t s (m.offset + its.len) n f

-- the End that comes after the calls cs, at the position of the bytes s: it is that of the last Start that is open,
-- comes where that master ends, and carries the number of the elements that fill it
pub record EndCounts (es ps s : List ℕ) (cs : List Call) (end : WaitingEnd) : Type 0 where
  pub master : Started
  pub around : List Started
  pub last_open : open_at es ps cs ≡ master ∷ around
  pub same_id : end.id ≡ master.id
  pub same_offset : end.offset ≡ master.offset
  pub at_its_end : master.end ≡ Some (position_at es ps cs)
  pub children : Children (table_of es ps) s master end.count (position_at es ps cs)

-- the counts of the table in these words: the record s is read in order, in whatever pieces, the child-size test was
-- never off, no parent was implied, and every Start was of known size
pub record CountedInFile (es ps : List ℕ) : Type 0 where
  pub end_counts_lem : (s : List ℕ) (cs : List Call) (c : Call) → Lent (c ∷ cs) → InOrder es ps s (c ∷ cs) → child_test_never_off cs ≡ true
      → ever_implied ps (table_of es ps) (history es ps (c ∷ cs)) ≡ [] → every_known (table_of es ps) (history es ps cs) ≡ true
      → (end : WaitingEnd) → Answers es ps cs c (Ok (answer.Event (event.End end))) → EndCounts es ps s cs end
