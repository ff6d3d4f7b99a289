-- Document 01, "One call of the decoder, in order": the move of a call. The record moves once, by what Deciding.antt
-- decided: by the note, and then by the action.
use Rattle.std.specs.Prelude.{ℕ, ◌+◌, Bool, true, false, List, get_or, Err, Ok, Result}
use Rattle.spec_util.specs.Walk.{open_tag}
use Rattle.spec_util.specs.declared.types.OpenTag.{OpenTag}
use Rattle.tag_parse.specs.declared.types.EBMLSize.{EBMLSize}
use Rattle.tag_parse.specs.declared.types.EBMLSize.TheVariants.{Known, Unknown}
use Rattle.decoder_rules.specs.Record.{ends_from, no_end, at_position, counted, opened, closed_to, handed_out}
use Rattle.decoder_rules.specs.OneCall.{noted}
use Rattle.decoder_rules.specs.Deciding.{decide}
use Rattle.decoder_rules.specs.declared.types.Action.{Action}
use Rattle.decoder_rules.specs.declared.types.Action.TheVariants as act
use Rattle.decoder_rules.specs.declared.types.Answer.{Answer}
use Rattle.decoder_rules.specs.declared.types.Answer.TheVariants as answer
use Rattle.decoder_rules.specs.declared.types.DecodeError.{DecodeError}
use Rattle.decoder_rules.specs.declared.types.Decision.{Decision}
use Rattle.decoder_rules.specs.declared.types.Decoded.{Decoded}
use Rattle.decoder_rules.specs.declared.types.Event.TheVariants as event
use Rattle.decoder_rules.specs.declared.types.TagDecoder.{TagDecoder}
use Rattle.decoder_rules.specs.declared.types.Refusal.{Refusal}

-- an answer, so many bytes taken, and the record after the call
abbrev pub gives : Result Answer Refusal → ℕ → TagDecoder → Decoded
gives a n d = record { answer = a; taken = n; state = d }

-- a refusal at the place p, which takes nothing
abbrev pub refuse : DecodeError → ℕ → TagDecoder → Decoded
refuse e p d = gives (Err (record { error = e; place = p })) 0 d

-- the open master that a header of len bytes at the position p starts
abbrev pub master_at : ℕ → EBMLSize → ℕ → ℕ → OpenTag
master_at x Unknown p len = open_tag x false 0 p (p + len)
master_at x (Known n) p len = open_tag x true n p (p + len)

-- what an action answers, takes and leaves, on the record with the note; a Start counts in the master in which it
-- stands, and not in its own
unfoldable pub move : TagDecoder → Result Action DecodeError → Decoded
move d (Err e) = refuse e d.position d
move d (Ok (act.NeedMore missing)) = gives (Ok (answer.NeedMore missing)) 0 d
move d (Ok act.Finish) = gives (Ok answer.Finished) 0 d
move d (Ok act.HandOut) = gives (Ok (answer.Event (event.End (get_or d.waiting 0 no_end)))) 0 (handed_out d)
move d (Ok (act.Close k)) = gives (Ok (answer.Event (event.End (get_or (ends_from d k) 0 no_end)))) 0 (closed_to d k)
move d (Ok (act.Start x size len)) =
    gives (Ok (answer.Event (event.Start x d.position))) len (opened (counted (at_position d (d.position + len))) (master_at x size d.position len))
move d (Ok (act.Data x v n)) = gives (Ok (answer.Event (event.Data x d.position v))) n (counted (at_position d (d.position + n)))

-- what a decision answers, takes and leaves: the note first, then the action
unfoldable pub apply : List ℕ → TagDecoder → Decision → Decoded
apply ps d a = move (noted ps d a.note) a.action

-- one call with the bytes s
abbrev pub decode : List ℕ → List ℕ → TagDecoder → List ℕ → Decoded
decode es ps d s = apply ps d (decide es ps d s)

-- ---- asked by laws

-- whether an answer asks for more bytes
abbrev pub needs_more : Result Answer Refusal → Bool
needs_more (Ok (answer.Event e)) = false
needs_more (Ok (answer.NeedMore missing)) = true
needs_more (Ok answer.Finished) = false
needs_more (Err r) = false

-- how many bytes it asks for, at least: 0 where it asks for none
abbrev pub missing_in : Result Answer Refusal → ℕ
missing_in (Ok (answer.Event e)) = 0
missing_in (Ok (answer.NeedMore missing)) = missing
missing_in (Ok answer.Finished) = 0
missing_in (Err r) = 0
