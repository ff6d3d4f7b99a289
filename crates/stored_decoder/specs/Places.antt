-- How many words a place takes.
use Rattle.std.specs.Prelude.{◌≡◌, length, refl}
use Rattle.spec_util.specs.declared.types.OpenTag.{OpenTag}
use Rattle.decoder_rules.specs.declared.types.WaitingEnd.{WaitingEnd}
use Rattle.stored_decoder.specs.Words.{master_words, end_words}

-- an open master
pub six : (m : OpenTag) → length (master_words m) ≡ 6
unfolding master_words
six m = refl

-- a waiting End
pub three : (e : WaitingEnd) → length (end_words e) ≡ 3
unfolding end_words
three e = refl
