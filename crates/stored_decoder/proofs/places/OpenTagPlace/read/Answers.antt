-- `read` of an open master. Assumes nothing.
use native.Mathlib.Omega.{arith}
use native.Mathlib.Nat.{add-zero}
use Rattle.stored_decoder.specs.Words.{master_of}
use Rattle.stored_decoder.proofs.InPlaces.{word_at}
use Rattle.stored_decoder.proofs.places.OpenTagPlace.read.Goals as goal

pub returns : goal.returns
unfolding master_of
returns c =
    let w = c.args.words.now in
    let o = c.args.at in
    rw (word_at 6 o w 0 (omega arith), word_at 6 o w 1 (omega arith), word_at 6 o w 2 (omega arith), word_at 6 o w 3 (omega arith), word_at 6 o w 4 (omega arith), word_at 6 o w 5 (omega arith), add-zero o)
