-- The checked table is needed: small tables that the check refuses, and runs with them in which a promise fails,
-- computed. Rules 33 and 34 are the ones that the promises rest on. Assumes nothing.
use Prim.Native.Nat.{ℕ}
use mathlib.Core.Path.{◌≡◌, refl}
use mathlib.Core.List.{List, [], ◌∷◌}
use Rattle.guarantees.proofs.Computing.{history_computes}
use Rattle.table.specs.Check.{check_table}
use Rattle.table.specs.declared.types.Rule.TheVariants.{GlobalInMaster, NoMaster}
use Rattle.decoder_rules.specs.declared.types.Answer.TheVariants.{Event, Finished}
use Rattle.decoder_rules.specs.declared.types.DecodeError.TheVariants.{NotAMaster}
use Rattle.decoder_rules.specs.declared.types.Event.TheVariants.{Start, End, Data}
use Rattle.tag_parse.specs.declared.types.TagValue.TheVariants.{UnsignedInt}
use Rattle.guarantees.specs.Calls.{Call, decoding, ending, answered}
use Rattle.guarantees.specs.Promises.{last_response, open_at}
use Rattle.std.specs.Prelude.{Err, None, Ok}
use Rattle.table.specs.declared.types.TableError.TheVariants as fault

-- ---- rule 34: a path names an ID that is no Master

-- 81 and 82 Unsigned, 82 in 81
abbrev no_master : List ℕ × List ℕ
no_master = (0x81 ∷ 1 ∷ 0 ∷ 0 ∷ 0x82 ∷ 1 ∷ 0 ∷ 1 ∷ [], 0 ∷ 0x81 ∷ 0 ∷ [])

-- `82 81 05`, then the end of input: 81 is implied, and is no Master to close
pub record TableFault : Type 0 where
  pub refused : check_table no_master.0 no_master.1 ≡ Err (fault.Fault NoMaster 1)
  pub amount : last_response no_master.0 no_master.1 [] (decoding (0x82 ∷ 0x81 ∷ 0x05 ∷ [])) ≡ answered (Ok (Event (Data 0x82 0 (UnsignedInt 5)))) 3
  -- promise 1 fails
  pub fault : last_response no_master.0 no_master.1 (decoding (0x82 ∷ 0x81 ∷ 0x05 ∷ []) ∷ []) (ending []) ≡ answered (Err (record { error = NotAMaster; place = 3 })) 0

-- ---- rule 33: the path of a Master holds a Global

-- 81 Master anywhere, 84 Master at the root, 82 Unsigned in 84
abbrev global_master : List ℕ × List ℕ
global_master = (0x81 ∷ 0 ∷ 0 ∷ 1 ∷ 0x84 ∷ 0 ∷ 1 ∷ 0 ∷ 0x82 ∷ 1 ∷ 1 ∷ 1 ∷ [], 1 ∷ 0 ∷ 0 ∷ 0 ∷ 0x84 ∷ 0 ∷ [])

-- `81 FF 82 81 05`: 81 starts and nothing settles; 82 settles, so that the open masters become 84 alone, and the Start
-- of 81 is lost
abbrev started : List Call
started = decoding (0x81 ∷ 0xFF ∷ 0x82 ∷ 0x81 ∷ 0x05 ∷ []) ∷ []

abbrev settled : List Call
settled = decoding (0x82 ∷ 0x81 ∷ 0x05 ∷ []) ∷ started

-- the Start of 81 has no End
pub record LostStart : Type 0 where
  pub refused : check_table global_master.0 global_master.1 ≡ Err (fault.Fault GlobalInMaster 0)
  pub start : last_response global_master.0 global_master.1 [] (decoding (0x81 ∷ 0xFF ∷ 0x82 ∷ 0x81 ∷ 0x05 ∷ [])) ≡ answered (Ok (Event (Start 0x81 0))) 2
  pub still_open : open_at global_master.0 global_master.1 settled ≡ record { id = 0x81; offset = 0; end = None } ∷ []
  -- promise 3 fails: the last Start still open is that of 81, and the End is that of 84
  pub end : last_response global_master.0 global_master.1 settled (ending []) ≡ answered (Ok (Event (End (record { id = 0x84; offset = 0; count = 1 })))) 0

-- `81 FF 84 80`: 84 settles at the root, starts and ends, and the Start of 81 is lost
abbrev rooted : List Call
rooted = decoding [] ∷ decoding (0x84 ∷ 0x80 ∷ []) ∷ decoding (0x81 ∷ 0xFF ∷ 0x84 ∷ 0x80 ∷ []) ∷ []

-- the finish comes before the End of 81
pub record NeverEnds : Type 0 where
  pub still_open : open_at global_master.0 global_master.1 rooted ≡ record { id = 0x81; offset = 0; end = None } ∷ []
  -- promise 4 fails: the finish is answered, and the Start of 81 has had no End
  pub finished : last_response global_master.0 global_master.1 rooted (ending []) ≡ answered (Ok Finished) 0

-- promise 1 fails there
pub table_fault : TableFault
unfolding history_computes
table_fault = record { refused = refl; amount = refl; fault = refl }

-- promise 3 fails there
pub lost_start : LostStart
unfolding history_computes
lost_start = record { refused = refl; start = refl; still_open = refl; end = refl }

-- promise 4 fails there
pub never_ends : NeverEnds
unfolding history_computes
never_ends = record { still_open = refl; finished = refl }
