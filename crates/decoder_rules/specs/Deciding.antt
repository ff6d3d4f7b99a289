-- Document 01, "One call of the decoder, in order": the steps of OneCall.antt in their order. Deciding only reads; what
-- is decided is a note and an action. Here t is the lent table as entries, d the record, s the bytes lent.
use Rattle.std.specs.Prelude.{ℕ, Bool, true, false, cond, List, ltb, eqb, length, Err, None, Ok, Result, ⊤}
use Rattle.table.specs.Table.{Entry, table_of}
use Rattle.tag_parse.specs.Header.{read_header}
use Rattle.tag_parse.specs.declared.types.TagHeader.{TagHeader}
use Rattle.decoder_rules.specs.Numbers.{parse_error}
use Rattle.decoder_rules.specs.OneCall.{step1, step3, close_or_fault, step6, refusal6, step7, noted, valid_header, step10, step11}
use Rattle.decoder_rules.specs.declared.types.Action.{Action}
use Rattle.decoder_rules.specs.declared.types.Action.TheVariants as act
use Rattle.decoder_rules.specs.declared.types.Decision.{Decision}
use Rattle.decoder_rules.specs.declared.types.TagDecoder.{TagDecoder}
use Rattle.decoder_rules.specs.declared.types.DecodeError.{DecodeError}
use Rattle.tag_parse.specs.declared.types.ParseError.{ParseError}
use Rattle.tools.specs.declared.status.Status.{Status}
use Rattle.tools.specs.declared.status.Status.TheVariants as status

-- a decision with no note
abbrev pub plain : Result Action DecodeError → Decision
plain a = record { note = None; action = a }

-- 10, then 11, on the record with the note
unfoldable pub steps10_11 : List Entry → TagDecoder → TagHeader → List ℕ → Result Action DecodeError
steps10_11 t d h s =
    cond (ltb (step10 t d h.id) d.open_count) (close_or_fault t d (step10 t d h.id))
    (step11 d.settings.strict d.open_count d.position h s)

-- what is done where a test is passed, else its refusal
abbrev pub unless : Result ⊤ DecodeError → Result Action DecodeError → Result Action DecodeError
unless (Ok _) a = a
unless (Err e) a = Err e

-- 8 to 11, on the record with the note
unfoldable pub steps8_11 : List Entry → TagDecoder → TagHeader → List ℕ → Result Action DecodeError
steps8_11 t d h s = unless (valid_header t d h) (steps10_11 t d h s)

-- 6 to 11: the refusal of 6, else the note, and the steps after it on the record with it
unfoldable pub steps6_11 : List ℕ → List Entry → TagDecoder → TagHeader → List ℕ → Decision
steps6_11 ps t d h s =
    cond (step6 d h)
    (record { note = step7 t d h; action = steps8_11 t (noted ps d (step7 t d h)) h s })
    (plain (Err (refusal6 d h)))

-- 5 to 11, by what was read as a header
unfoldable pub step5 : List ℕ → List Entry → TagDecoder → List ℕ → Result (Status TagHeader) ParseError → Decision
step5 ps t d s (Ok (status.NeedMore missing)) = plain (Ok (act.NeedMore missing))
step5 ps t d s (Err e) = plain (Err (parse_error e))
step5 ps t d s (Ok (status.Complete h)) = steps6_11 ps t d h s

-- the bytes of the least header: one of its ID, one of its size
abbrev pub least_header : ℕ
least_header = 2

-- 4 to 11: "No byte: need more."; document 02, CR 1: "no byte at all gives 2"
unfoldable pub steps4_11 : List ℕ → List Entry → TagDecoder → List ℕ → Decision
steps4_11 ps t d s = cond (eqb (length s) 0) (plain (Ok (act.NeedMore least_header))) (step5 ps t d s (read_header t s))

-- 2 to 11: "A waiting End is handed out. If finished: Finished." Then the masters that are full close
unfoldable pub steps2_11 : List ℕ → List Entry → TagDecoder → List ℕ → Decision
steps2_11 ps t d s =
    cond (ltb 0 d.waiting_count) (plain (Ok act.HandOut))
    (cond d.finished (plain (Ok act.Finish))
    (cond (ltb (step3 d) d.open_count) (plain (close_or_fault t d (step3 d)))
    (steps4_11 ps t d s)))

-- the decision where a test is passed, else its refusal
abbrev pub or_refuse : Result ⊤ DecodeError → Decision → Decision
or_refuse (Ok _) a = a
or_refuse (Err e) a = plain (Err e)

-- what a call does with the bytes s: the steps in their order
unfoldable pub decide : List ℕ → List ℕ → TagDecoder → List ℕ → Decision
decide es ps d s = or_refuse (step1 es ps d (length s)) (steps2_11 ps (table_of es ps) d s)

-- ---- asked by laws

-- whether what is decided is to wait for more bytes
abbrev pub action_needs_more : Result Action DecodeError → Bool
action_needs_more (Err e) = false
action_needs_more (Ok (act.NeedMore missing)) = true
action_needs_more (Ok act.Finish) = false
action_needs_more (Ok act.HandOut) = false
action_needs_more (Ok (act.Close k)) = false
action_needs_more (Ok (act.Start x size len)) = false
action_needs_more (Ok (act.Data x v n)) = false

-- how many bytes it waits for, at least: 0 where it waits for none
abbrev pub action_missing : Result Action DecodeError → ℕ
action_missing (Err e) = 0
action_missing (Ok (act.NeedMore missing)) = missing
action_missing (Ok act.Finish) = 0
action_missing (Ok act.HandOut) = 0
action_missing (Ok (act.Close k)) = 0
action_missing (Ok (act.Start x size len)) = 0
action_missing (Ok (act.Data x v n)) = 0
