-- `read` of a waiting End. Assumes nothing.
use native.Mathlib.Omega.{arith}
use native.Mathlib.Nat.{add-zero}
use Rattle.stored_decoder.specs.Words.{end_of}
use Rattle.stored_decoder.proofs.InPlaces.{word_at}
use Rattle.stored_decoder.proofs.places.WaitingEndPlace.read.Goals as goal

pub returns : goal.returns
unfolding end_of
returns c =
    let w = c.args.words.now in
    let o = c.args.at in
    rw (word_at 3 o w 0 (omega arith), word_at 3 o w 1 (omega arith), word_at 3 o w 2 (omega arith), add-zero o)
