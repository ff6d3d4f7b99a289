-- Document 02, CR 1: worked examples of the number of missing bytes, of a fresh decoder with the bench table; and one of
-- a call that as many bytes as are missing never end. Computed from the definitions. Assumes nothing.
use Prim.Native.Nat.{ℕ, zero, suc}
use mathlib.Core.List.{List, [], ◌∷◌, map}
use mathlib.Core.Path.{◌≡◌, refl}
use native.Mathlib.Omega.{arith}
use Rattle.tools.specs.Bytes.{Octets}
use Rattle.table.specs.BenchTable.{bench_entries, bench_parts}
use Rattle.tag_parse.specs.Missing.{SizeBegun}
use Rattle.decoder_rules.specs.Record.{fresh}
use Rattle.decoder_rules.specs.Missing.{Stuck}
use Rattle.decoder_rules.specs.Moving.{missing_in, decode}
use Rattle.decoder_rules.proofs.Computing.{rules_compute}
use Rattle.decoder_rules.proofs.Enough.{stuck}
use Rattle.decoder_rules.proofs.Exits.{AtBytes}

-- how many bytes a fresh decoder asks for
abbrev pub asked : List ℕ → ℕ
asked s = missing_in (decode bench_entries bench_parts fresh s).answer

-- bytes, and how many are missing
abbrev pub examples : List (List ℕ × ℕ)
examples =
    -- "no byte at all gives 2"
    ([], 2)
    -- "while the ID is incomplete": Session's first byte; the first and the first three of an ID of four
    ∷ (0x4E ∷ [], 2)
    ∷ (0x1A ∷ [], 4)
    ∷ (0x1A ∷ 0x45 ∷ 0xDF ∷ [], 2)
    -- a whole ID, also 00; a size of eight bytes that is begun
    ∷ (0x00 ∷ [], 1)
    ∷ (0x4E ∷ 0x01 ∷ [], 1)
    ∷ (0x4E ∷ 0x01 ∷ 0x01 ∷ [], 7)
    -- "a payload gives what it lacks"
    ∷ (0xA3 ∷ 0x82 ∷ [], 2)
    ∷ (0xA3 ∷ 0x82 ∷ 0x6D ∷ [], 1)
    ∷ (0xA3 ∷ 0x82 ∷ 0x6D ∷ 0x6C ∷ [], 0)
    -- a size of two bytes that is begun: with the least and the greatest second byte a payload is missing
    ∷ (0xA3 ∷ 0x41 ∷ [], 1)
    ∷ (0xA3 ∷ 0x41 ∷ 0x00 ∷ [], 256)
    ∷ (0xA3 ∷ 0x41 ∷ 0xFF ∷ [], 511)
    ∷ []

pub all_examples : map (λ (e : List ℕ × ℕ). asked e.0) examples ≡ map (λ (e : List ℕ × ℕ). e.1) examples
unfolding rules_compute
all_examples = refl

-- ---- a Unit whose size is begun: A3 41

abbrev unit : List ℕ
unit = 0xA3 ∷ 0x41 ∷ []

unit_octets : Octets unit
unit_octets zero = omega arith
unit_octets (suc zero) = omega arith
unit_octets (suc (suc i)) = omega arith

unit_begun : SizeBegun unit
unfolding rules_compute
unit_begun = record { x = 0xA3; n = 1; whole = refl; some = λ e. omega arith; first = λ e. omega arith; short = omega arith }

unit_waits : AtBytes bench_entries bench_parts fresh unit
unfolding rules_compute
unit_waits =
    record {
      none_full = record {
        reading = record { admitted = record { first = refl; second = refl }; none_waiting = refl; unfinished = refl };
        none_full = omega arith;
      };
      some_byte = omega arith;
    }

-- one byte is missing, and no byte is enough: each makes a payload of 256 bytes or more
pub unit_stuck : Stuck bench_entries bench_parts fresh unit
unfolding rules_compute
unit_stuck = stuck bench_entries bench_parts fresh unit unit_begun unit_waits unit_octets refl (omega arith) refl refl
