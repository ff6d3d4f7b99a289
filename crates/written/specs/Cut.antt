-- When what is written cannot look whole although it was cut: a document of one root, from the writer of document 02's
-- CR 2.
use Rattle.std.specs.Prelude.{ℕ, ◌<◌, ◌≡◌, Bool, true, false, List, ◌∷◌, ◌++◌, length, take, Ok}
use Rattle.decoder_rules.specs.Settings.{is_finished}
use Rattle.decoder_rules.specs.declared.types.Answer.TheVariants as answer
use Rattle.guarantees.specs.Calls.{Call, record_after, Lent}
use Rattle.guarantees.specs.CutRecords.{InOrder}
use Rattle.guarantees.specs.Promises.{Answers}
use Rattle.tag_writer.specs.Document.{Element, value, master, Run, none, then}
use Rattle.tag_writer.specs.Write.{write}

-- the bytes that are written, where the writer answers that they are n
abbrev pub written : List ℕ → List ℕ → List ℕ → List ℕ → List ℕ → ℕ → List ℕ
written es ps items vals out n = take n (write es ps items vals out).1

-- whether an element is a master
abbrev pub is_master_element : Element → Bool
is_master_element (value x v) = false
is_master_element (master x children) = true

-- whether a document has one root, a master: the items begin with a Start, and its End is the last of them
abbrev pub is_one_root : Run → Bool
is_one_root none = false
is_one_root (then e none) = is_master_element e
is_one_root (then e (then f r)) = false

-- no cut of the bytes w looks whole: where a front of them that is neither empty nor all is read in order, in whatever
-- pieces, with whatever settings and without recovery, no call answers the finish, and `is_finished` never says so
pub record NoCutLooksWhole (es ps w : List ℕ) : Type 0 where
  pub unanswered : (s rest : List ℕ) → s ++ rest ≡ w → 0 < length s → length s < length w
      → (cs : List Call) (c : Call) → Lent (c ∷ cs) → InOrder es ps s (c ∷ cs) → Answers es ps cs c (Ok answer.Finished) → ⊥
  pub unfinished : (s rest : List ℕ) → s ++ rest ≡ w → 0 < length s → length s < length w
      → (cs : List Call) → Lent cs → InOrder es ps s cs → is_finished (record_after es ps cs) ≡ false
