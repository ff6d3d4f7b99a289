-- What a turn gives: what the call returned, and the record that it left, with its position.
use Rattle.std.specs.Prelude.{ℕ}
use Rattle.decoder_rules.specs.declared.types.Decoded.{Decoded}
use Rattle.decoder_rules.specs.declared.types.TagDecoder.{TagDecoder}
use Rattle.tag_decoder_lent.specs.Lent.{reply_of}
use Rattle.tag_decoder_lent.specs.declared.types.Reply.{Reply}
use Rattle.lister_lent.specs.declared.turn.Turned.{Turned}

-- a reply, a position and a record as one
abbrev pub gathered : Reply → ℕ → TagDecoder → Turned
gathered s p d = record { reply = s; place = p; state = d }

-- of an answer by value
abbrev pub turn_of : Decoded → Turned
turn_of a = gathered (reply_of a) a.state.position a.state
