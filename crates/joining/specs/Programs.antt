-- What the programs that list and check an input answer to it, in whatever pieces it is read: a run on the pieces as
-- they come, and then the end of input.
use Rattle.std.specs.Prelude.{ℕ, Bool, List, [], ◌∷◌, ◌++◌, map, ◌≡◌, replicate, Ok}
use Rattle.decoder_rules.specs.declared.types.Answer.TheVariants as answer
use Rattle.decoder_rules.specs.declared.types.TagDecoder.{TagDecoder}
use Rattle.event_list.specs.Reading.{started}
use Rattle.event_list.specs.Run.{joined, NoneEmpty, Runs, Prints}
use Rattle.event_list.specs.Whole.{next_answer, Answered, Answers}
use Rattle.whole.specs.Checking.{verdict_of}
use Rattle.joining.specs.Joining.{Handed, Outcome}

-- an event that was handed out, as an answer
abbrev pub as_answer : Handed → Answered
as_answer h = record { answer = Ok (answer.Event h.event); after = h.left }

-- the answers of a program with a buffer of so many bytes are those of the run r
pub data OfRun (size : ℕ) (r : Outcome) (answers : List Answered) : Type 0 where
  -- its events, and then the answers where what it left unread is all that is to come
  to_its_end : (last : List Answered) → Answers size (next_answer size r.state r.rest) r.rest last → answers ≡ map as_answer r.handed ++ last → OfRun size r answers
  -- or its first events, and then need more: the element that comes next is larger than the buffer
  too_large : (first others : List Handed) (missing : ℕ) (d : TagDecoder) → r.handed ≡ first ++ others → answers ≡ map as_answer first ++ (record { answer = Ok (answer.NeedMore missing); after = d } ∷ [])
      → OfRun size r answers

-- reads that give the bytes s in these pieces: none is empty, since a read of no byte is the end of input
pub record Reads (s : List ℕ) (pieces : List (List ℕ)) : Type 0 where
  pub none_empty : NoneEmpty pieces
  pub all : joined pieces ≡ s

-- two runs, strict or as ported and with a buffer of so many bytes, whose reads give the bytes s in whatever pieces: the
-- lister prints the same, and the check has the same verdict
pub record ProgramsSame (strict : Bool) (size : ℕ) (s : List ℕ) : Type 0 where
  pub lists : (ps qs : List (List ℕ)) → Reads s ps → Reads s qs → (text other : List ℕ) → Prints (started strict) (replicate size 0) ps text → Prints (started strict) (replicate size 0) qs other → text ≡ other
  pub verdicts : (ps qs : List (List ℕ)) → Reads s ps → Reads s qs → (l k : List Answered) → Runs (started strict) (replicate size 0) ps l → Runs (started strict) (replicate size 0) qs k → verdict_of l ≡ verdict_of k
