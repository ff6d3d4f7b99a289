-- A run of the program on an input that comes in pieces: what its calls answer, step by step, and what it prints. It
-- does what crates/lister/src/main.rt does, with reads that the pieces answer; what another program makes of the same
-- answers is its own.
use Rattle.std.specs.Prelude.{ℕ, ◌+◌, ◌-◌, ◌<◌, ◌≡◌, List, [], ◌∷◌, ◌++◌, pos, length, take, drop}
use Rattle.event_list.specs.Reading.{call_once, unread_moved_to_front, after_read}
use Rattle.event_list.specs.Whole.{Answered, lines_of}
use Rattle.event_list.specs.declared.types.Listing.{Listing}
use Rattle.event_list.specs.declared.types.Next.TheVariants.{Line, Last, Read}

-- ---- the input

-- a read of at most n bytes gives the front of the next piece, and nothing where none is left
abbrev pub given : ℕ → List (List ℕ) → List ℕ
given n [] = []
given n (p ∷ ps) = take n p

-- the pieces ps behind what is left of one, unless nothing is left of it
abbrev pub unless_empty : List ℕ → List (List ℕ) → List (List ℕ)
unless_empty [] ps = ps
unless_empty (x ∷ p) ps = (x ∷ p) ∷ ps

-- the pieces that are left after a read of at most n bytes
abbrev pub left : ℕ → List (List ℕ) → List (List ℕ)
left n [] = []
left n (p ∷ ps) = unless_empty (drop n p) ps

-- the whole input
unfoldable pub joined : List (List ℕ) → List ℕ
joined [] = []
joined (p ∷ ps) = p ++ joined ps

-- no piece is empty: only a read of 0 bytes is the end of input
unfoldable pub NoneEmpty : List (List ℕ) → Type 0
NoneEmpty [] = Unit {0}
NoneEmpty (p ∷ ps) = (0 < length p) × NoneEmpty ps

-- ---- the program

-- where the program stands: what it keeps, its buffer, and the pieces to come
pub record Stage : Type 0 where
  pub at : Listing
  pub buffer : List ℕ
  pub pieces : List (List ℕ)

-- k is the record and the buffer with the unread bytes at its front: what is read stands behind them
unfoldable pub refilled : Listing × List ℕ → List (List ℕ) → Stage
refilled k ps =
    let b = k.1 in
    let n = k.0.upto in
    let s = given (length b - n) ps in
    record {
      at = after_read (length b) k.0 (pos (length s));
      buffer = take n b ++ s ++ drop (n + length s) b;
      pieces = left (length b - n) ps;
    }

-- what one call answered, and the record that it left
abbrev pub answered_at : Listing → List ℕ → Answered
answered_at l b = record { answer = (call_once l b).answer; after = (call_once l b).listing.decoder }

-- from a listing, a buffer and the pieces to come, the program's calls have these answers, and it stops; need more that
-- leads to a read is none of them
pub data Runs : Listing → List ℕ → List (List ℕ) → List Answered → Type 0 where
  a_line : (l : Listing) (b : List ℕ) (ps : List (List ℕ)) {rs : List Answered} → (call_once l b).next ≡ Line → Runs (call_once l b).listing b ps rs
      → Runs l b ps (answered_at l b ∷ rs)
  the_last : (l : Listing) (b : List ℕ) (ps : List (List ℕ)) → (call_once l b).next ≡ Last → Runs l b ps (answered_at l b ∷ [])
  a_read : (l : Listing) (b : List ℕ) (ps : List (List ℕ)) {rs : List Answered} → (call_once l b).next ≡ Read
      → Runs (refilled (unread_moved_to_front (call_once l b).listing b) ps).at (refilled (unread_moved_to_front (call_once l b).listing b) ps).buffer (refilled (unread_moved_to_front (call_once l b).listing b) ps).pieces rs
      → Runs l b ps rs

-- the program prints the text and stops: a line for each of its answers
pub record Prints (l : Listing) (b : List ℕ) (ps : List (List ℕ)) (text : List ℕ) : Type 0 where
  pub answers : List Answered
  pub run : Runs l b ps answers
  pub lines : text ≡ lines_of answers
