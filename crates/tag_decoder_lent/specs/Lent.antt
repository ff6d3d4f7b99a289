-- A call on a lent record: what it returns, and the record that it leaves, are the two parts of the answer by value.
use Rattle.std.specs.Prelude.{◌≡◌}
use Rattle.decoder_rules.specs.declared.types.Decoded.{Decoded}
use Rattle.decoder_rules.specs.declared.types.Recovered.{Recovered}
use Rattle.decoder_rules.specs.declared.types.TagDecoder.{TagDecoder}
use Rattle.tag_decoder_lent.specs.declared.types.Reply.{Reply}
use Rattle.tag_decoder_lent.specs.declared.types.RecoveryReply.{RecoveryReply}

-- the answer and the count of bytes taken, without the record
abbrev pub reply_of : Decoded → Reply
reply_of a = record { answer = a.answer; taken = a.taken }

-- an answer by value in two parts: the reply, and the record
abbrev pub apart : Decoded → Reply × TagDecoder
apart a = (reply_of a, a.state)

-- the same of a recovery
abbrev pub recovery_reply_of : Recovered → RecoveryReply
recovery_reply_of a = record { answer = a.answer; taken = a.taken }

-- a recovery's answer in the same two parts
abbrev pub recovery_apart : Recovered → RecoveryReply × TagDecoder
recovery_apart a = (recovery_reply_of a, a.state)

-- what is returned, r, and the lent record as it is at exit, d, are the two that the definition gives
pub record ReturnsAndLeaves {A : Type 0} (r : A) (d : TagDecoder) (p : A × TagDecoder) : Type 0 where
  pub answer : r ≡ p.0
  pub left : d ≡ p.1
