-- That at most 16 masters are open says no less than it can: a table that passes the check, with 16 masters one inside
-- the other, and a value inside the last. Assumes nothing.
use Prim.Native.Nat.{ℕ}
use mathlib.Core.Path.{◌≡◌, refl}
use mathlib.Core.List.{List, [], ◌∷◌}
use lib.ListN.{length, drop}
use Rattle.table.specs.Check.{check_table}
use Rattle.tag_parse.specs.declared.types.TagValue.TheVariants.{UnsignedInt}
use Rattle.decoder_rules.specs.declared.types.Answer.TheVariants.{Event}
use Rattle.decoder_rules.specs.declared.types.Event.TheVariants.{Data}
use Rattle.guarantees.specs.Calls.{Call, ending, answered}
use Rattle.guarantees.specs.Promises.{last_response, open_at}
use Rattle.guarantees.proofs.Computing.{history_computes}
use Rattle.guarantees.proofs.Examples.{lending}
use Rattle.std.specs.Prelude.{Ok}

-- masters 81 to 90, each in the one before, and 91, Unsigned, in the last
abbrev deep_entries : List ℕ
deep_entries =
    0x81 ∷ 0 ∷ 0 ∷ 0
    ∷ 0x82 ∷ 0 ∷ 0 ∷ 1
    ∷ 0x83 ∷ 0 ∷ 0 ∷ 2
    ∷ 0x84 ∷ 0 ∷ 0 ∷ 3
    ∷ 0x85 ∷ 0 ∷ 0 ∷ 4
    ∷ 0x86 ∷ 0 ∷ 0 ∷ 5
    ∷ 0x87 ∷ 0 ∷ 0 ∷ 6
    ∷ 0x88 ∷ 0 ∷ 0 ∷ 7
    ∷ 0x89 ∷ 0 ∷ 0 ∷ 8
    ∷ 0x8A ∷ 0 ∷ 0 ∷ 9
    ∷ 0x8B ∷ 0 ∷ 0 ∷ 10
    ∷ 0x8C ∷ 0 ∷ 0 ∷ 11
    ∷ 0x8D ∷ 0 ∷ 0 ∷ 12
    ∷ 0x8E ∷ 0 ∷ 0 ∷ 13
    ∷ 0x8F ∷ 0 ∷ 0 ∷ 14
    ∷ 0x90 ∷ 0 ∷ 0 ∷ 15
    ∷ 0x91 ∷ 1 ∷ 0 ∷ 16
    ∷ []

-- the path of 91; the others are fronts of it
abbrev deep_parts : List ℕ
deep_parts =
    0 ∷ 0x81 ∷ 0 ∷ 0 ∷ 0x82 ∷ 0 ∷ 0 ∷ 0x83 ∷ 0 ∷ 0 ∷ 0x84 ∷ 0
    ∷ 0 ∷ 0x85 ∷ 0 ∷ 0 ∷ 0x86 ∷ 0 ∷ 0 ∷ 0x87 ∷ 0 ∷ 0 ∷ 0x88 ∷ 0
    ∷ 0 ∷ 0x89 ∷ 0 ∷ 0 ∷ 0x8A ∷ 0 ∷ 0 ∷ 0x8B ∷ 0 ∷ 0 ∷ 0x8C ∷ 0
    ∷ 0 ∷ 0x8D ∷ 0 ∷ 0 ∷ 0x8E ∷ 0 ∷ 0 ∷ 0x8F ∷ 0 ∷ 0 ∷ 0x90 ∷ 0
    ∷ []

-- 81 to 90 around an empty 91, every size filled in
abbrev deep : List ℕ
deep =
    0x81 ∷ 0xA0 ∷ 0x82 ∷ 0x9E ∷ 0x83 ∷ 0x9C ∷ 0x84 ∷ 0x9A
    ∷ 0x85 ∷ 0x98 ∷ 0x86 ∷ 0x96 ∷ 0x87 ∷ 0x94 ∷ 0x88 ∷ 0x92
    ∷ 0x89 ∷ 0x90 ∷ 0x8A ∷ 0x8E ∷ 0x8B ∷ 0x8C ∷ 0x8C ∷ 0x8A
    ∷ 0x8D ∷ 0x88 ∷ 0x8E ∷ 0x86 ∷ 0x8F ∷ 0x84 ∷ 0x90 ∷ 0x82
    ∷ 0x91 ∷ 0x80 ∷ []

-- up to 91
abbrev at_last : List Call
at_last = lending (2 ∷ 2 ∷ 2 ∷ 2 ∷ 2 ∷ 2 ∷ 2 ∷ 2 ∷ 2 ∷ 2 ∷ 2 ∷ 2 ∷ 2 ∷ 2 ∷ 2 ∷ 2 ∷ []) deep []

-- there 16 are open
pub record Sixteen : Type 0 where
  pub passes : check_table deep_entries deep_parts ≡ Ok tt
  pub handed_out : last_response deep_entries deep_parts at_last (ending (drop 32 deep)) ≡ answered (Ok (Event (Data 0x91 32 (UnsignedInt 0)))) 2
  pub all_open : length (open_at deep_entries deep_parts at_last) ≡ 16

-- and it is so
pub sixteen_open : Sixteen
unfolding history_computes lending
sixteen_open = record { passes = refl; handed_out = refl; all_open = refl }
