-- The names of the calls on the decoder. Assumes nothing.
use Rattle.std.specs.Prelude.{ℕ, List, codes}
use Rattle.script_decoder.specs.declared.calls.Call.{Call}
use Rattle.script_decoder.specs.declared.calls.Call.TheVariants as call
use Rattle.script_decoder.specs.declared.calls.Reading.{Reading}
use Rattle.script_decoder.specs.declared.calls.Reading.TheVariants as reading

-- the name of a call on the unread bytes
abbrev pub name_of_reading : Reading → List ℕ
name_of_reading reading.Decode = codes "decode"
name_of_reading reading.EndOfInput = codes "eof"
name_of_reading reading.Recover = codes "recover"

-- a line that makes the call begins with this word
abbrev pub name_of : Call → List ℕ
name_of call.New = codes "new"
name_of call.Show = codes "st"
name_of call.Allow = codes "allow"
name_of call.Max = codes "max"
name_of call.Strict = codes "strict"
name_of call.Set = codes "set"
name_of call.Store = codes "store"
name_of call.Restore = codes "restore"
name_of (call.Read r) = name_of_reading r
