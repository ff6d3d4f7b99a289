-- What a finish says of the bytes that were read, of one table that the table check passes: when a record that was cut
-- cannot look whole. Each field speaks of a call c after any calls cs on a fresh decoder.
use Rattle.std.specs.Prelude.{ℕ, ◌+◌, ◌≤◌, ◌<◌, ◌≡◌, Bool, true, false, length, drop, Err, None, Ok, Option, Some}
use mathlib.Core.List.{List, [], ◌∷◌, ◌++◌, Memᴰ}
use Rattle.basics.specs.Lists.{every}
use Rattle.table.specs.Table.{Entry, table_of}
use Rattle.table.specs.declared.types.TagDataType.TheVariants.{Master}
use Rattle.tag_parse.specs.Header.{read_header}
use Rattle.tag_parse.specs.declared.types.EBMLSize.TheVariants.{Known}
use Rattle.tag_parse.specs.declared.types.TagHeader.{TagHeader}
use Rattle.decoder_rules.specs.Settings.{is_finished}
use Rattle.decoder_rules.specs.declared.types.Answer.TheVariants as answer
use Rattle.decoder_rules.specs.declared.types.Event.{Event}
use Rattle.decoder_rules.specs.declared.types.Event.TheVariants as event
use Rattle.decoder_rules.specs.declared.types.WaitingEnd.{WaitingEnd}
use Rattle.guarantees.specs.Calls.{Call, decoding, ending, recovering, allow, strictly, limit, lent, Response, answered, searched, silent, Step, record_after, history, Lent}
use Rattle.guarantees.specs.History.{Started, declared_end, starts_open, child_test_never_off, never_recovered}
use Rattle.guarantees.specs.Promises.{Answers, open_at, position_at}
use Rattle.tools.specs.declared.status.Status.TheVariants as status

-- ---- a record read in order

-- at the position p of the record s a call lends what comes next: decode some front of what is unread, the end of input
-- all of it; a setting lends nothing, and a recovery is not made
abbrev pub LendsNext : List ℕ → ℕ → Call → Type 0
LendsNext s p (decoding b) = (rest : List ℕ) × (b ++ rest ≡ drop p s)
LendsNext s p (ending b) = b ≡ drop p s
LendsNext s p (recovering b) = ⊥
LendsNext s p (allow ids hierarchy oversized) = Unit {0}
LendsNext s p (strictly b) = Unit {0}
LendsNext s p (limit n) = Unit {0}

-- these calls read the record s in order, in any pieces, with any settings at any time
unfoldable pub InOrder : List ℕ → List ℕ → List ℕ → List Call → Type 0
InOrder es ps s [] = Unit {0}
InOrder es ps s (c ∷ cs) = LendsNext s (position_at es ps cs) c × InOrder es ps s cs

-- the bytes s begin with a Master of known size, which ends at f
pub record BeginsWithMaster (t : List Entry) (s : List ℕ) (f : ℕ) : Type 0 where
  pub its : TagHeader
  pub read : read_header t s ≡ Ok (status.Complete its)
  pub master : its.kind ≡ Master
  pub size : ℕ
  pub known : its.size ≡ Known size
  pub ends : f ≡ its.len + size

-- the place f in the bytes s is reached from the front by whole elements of known size, each right after the one before
pub data RowTo (t : List Entry) (s : List ℕ) : ℕ → Type 0 where
  front : RowTo t s 0
  after : (o f : ℕ) → RowTo t s o → declared_end t o (drop o s) ≡ Some f → RowTo t s f

-- ---- the Starts that were ever answered

-- a Start is one more
abbrev pub started_by_event : List Entry → List ℕ → Event → List Started → List Started
started_by_event t s (event.Start x o) l = record { id = x; offset = o; end = declared_end t o s } ∷ l
started_by_event t s (event.End end) l = l
started_by_event t s (event.Data x o v) l = l

-- those that were answered, with what a call on the bytes s told
abbrev pub started_by : List Entry → List ℕ → Response → List Started → List Started
started_by t s (answered (Ok (answer.Event e)) n) l = started_by_event t s e l
started_by t s (answered (Ok (answer.NeedMore missing)) n) l = l
started_by t s (answered (Ok answer.Finished) n) l = l
started_by t s (answered (Err r) n) l = l
started_by t s (searched a n) l = l
started_by t s silent l = l

-- every Start of this history, the last one first, each with its end as it was declared
unfoldable pub ever_started : List Entry → List Step → List Started
ever_started t [] = []
ever_started t (s ∷ h) = started_by t (lent s.call) s.told (ever_started t h)

-- a Start's size is known
abbrev pub is_known_end : Option ℕ → Bool
is_known_end None = false
is_known_end (Some e) = true

-- every Start of this history is of known size
abbrev pub every_known : List Entry → List Step → Bool
every_known t h = every (λ m. is_known_end m.end) (ever_started t h)

-- ---- the last element at the top: a Start or a Data that came while no Start was open

-- where it ends after an event, if its size is known; l are the Starts that were open, f is the end before
abbrev pub top_by_event : List Entry → List ℕ → List Started → Event → Option ℕ → Option ℕ
top_by_event t s [] (event.Start x o) f = declared_end t o s
top_by_event t s [] (event.End end) f = f
top_by_event t s [] (event.Data x o v) f = declared_end t o s
top_by_event t s (m ∷ l) e f = f

-- the same after what any call told
abbrev pub top_by : List Entry → List ℕ → List Started → Response → Option ℕ → Option ℕ
top_by t s l (answered (Ok (answer.Event e)) n) f = top_by_event t s l e f
top_by t s l (answered (Ok (answer.NeedMore missing)) n) f = f
top_by t s l (answered (Ok answer.Finished) n) f = f
top_by t s l (answered (Err r) n) f = f
top_by t s l (searched a n) f = f
top_by t s l silent f = f

-- where the last element at the top of this history ends; 0 before the first
unfoldable pub last_top_end : List Entry → List Step → Option ℕ
last_top_end t [] = Some 0
last_top_end t (s ∷ h) = top_by t (lent s.call) (starts_open t h) s.told (last_top_end t h)

-- ---- the statement

-- what a finish says, of the table in these words
pub record CutRecords (es ps : List ℕ) : Type 0 where
  -- a record begins with a Master of known size, and a part of it that is not empty and ends before that master does is
  -- read in order: no call answers the finish. No other size need be known, and any test may be off
  pub cut_root : (s rest : List ℕ) (f : ℕ) → BeginsWithMaster (table_of es ps) (s ++ rest) f → 0 < length s → length s < f
      → (cs : List Call) (c : Call) → Lent (c ∷ cs) → InOrder es ps s (c ∷ cs) → Answers es ps cs c (Ok answer.Finished) → ⊥
  -- nor does `is_finished` ever say so
  pub cut_root_unfinished : (s rest : List ℕ) (f : ℕ) → BeginsWithMaster (table_of es ps) (s ++ rest) f → 0 < length s → length s < f
      → (cs : List Call) → Lent cs → InOrder es ps s cs → is_finished (record_after es ps cs) ≡ false
  -- when the finish is answered of a record that is read in order, all of it has been taken
  pub finish_reads_all : (s : List ℕ) (cs : List Call) (c : Call) → Lent (c ∷ cs) → InOrder es ps s (c ∷ cs) → Answers es ps cs c (Ok answer.Finished)
      → position_at es ps cs ≡ length s
  -- a Start of known size has its End only where it is full, if the child-size test was never off
  pub end_is_full : (cs : List Call) (c : Call) → Lent (c ∷ cs) → child_test_never_off cs ≡ true → (end : WaitingEnd) (f : ℕ) (m : Started) (l : List Started)
      → Answers es ps cs c (Ok (answer.Event (event.End end))) → open_at es ps cs ≡ m ∷ l → m.end ≡ Some f → f ≤ position_at es ps cs
  -- when the finish is answered, every Start of known size that was ever answered has been read to its end, if the
  -- child-size test was never off and there was no recovery
  pub finish_is_whole : (cs : List Call) (c : Call) → Lent (c ∷ cs) → child_test_never_off cs ≡ true → never_recovered cs ≡ true → Answers es ps cs c (Ok answer.Finished)
      → (m : Started) → Memᴰ m (ever_started (table_of es ps) (history es ps cs)) → (f : ℕ) → m.end ≡ Some f → f ≤ position_at es ps cs
  -- and if every Start was of known size, the finish comes exactly at the end of the last element at the top
  pub finish_at_the_end : (cs : List Call) (c : Call) → Lent (c ∷ cs) → child_test_never_off cs ≡ true → never_recovered cs ≡ true
      → every_known (table_of es ps) (history es ps cs) ≡ true → Answers es ps cs c (Ok answer.Finished)
      → last_top_end (table_of es ps) (history es ps cs) ≡ Some (position_at es ps cs)
  -- so a record that is read in order to the finish is a row of whole elements: it was cut, if at all, between two of
  -- them, or before the first
  pub finished_is_row : (s : List ℕ) (cs : List Call) (c : Call) → Lent (c ∷ cs) → InOrder es ps s (c ∷ cs) → child_test_never_off cs ≡ true
      → every_known (table_of es ps) (history es ps cs) ≡ true → Answers es ps cs c (Ok answer.Finished) → RowTo (table_of es ps) s (length s)
