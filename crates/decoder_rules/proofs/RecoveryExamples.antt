-- Recoveries of a fresh decoder with document 01's bench table: what each answers, and the first place by its
-- definition, computed. Assumes nothing.
use Prim.Native.Nat.{ℕ}
use mathlib.Core.Path.{◌≡◌, refl}
use mathlib.Core.List.{List, [], ◌∷◌, map}
use Rattle.table.specs.BenchTable.{bench_entries, bench_parts}
use Rattle.table.specs.Table.{table_of}
use Rattle.decoder_rules.specs.Record.{fresh}
use Rattle.decoder_rules.specs.Recovery.{try_recover, passed_in}
use Rattle.decoder_rules.specs.FirstPlace.{first_place}
use Rattle.decoder_rules.specs.declared.types.Search.{Search}
use Rattle.decoder_rules.specs.declared.types.Search.TheVariants as search
use Rattle.decoder_rules.proofs.Computing.{rules_compute}
use Rattle.std.specs.Prelude.{Ok, Result}
use Rattle.decoder_rules.specs.declared.types.Refusal.{Refusal}

-- the bytes of a recovery, and what is answered
abbrev examples : List (List ℕ × Result Search Refusal)
examples =
    -- a valid header at once, and one after two bytes that begin none
    (0xA2 ∷ 0x81 ∷ 0x78 ∷ [], Ok (search.Found 0)) ∷
    (0x00 ∷ 0x00 ∷ 0xA2 ∷ 0x81 ∷ 0x78 ∷ [], Ok (search.Found 2)) ∷
    -- past a header with an ID that the table has not, and past a Blob over the greatest size
    (0x80 ∷ 0x80 ∷ 0xA2 ∷ 0x81 ∷ [], Ok (search.Found 2)) ∷
    (0xA4 ∷ 0x08 ∷ 0xFF ∷ 0xFF ∷ 0xFF ∷ 0xFF ∷ 0xA2 ∷ 0x81 ∷ [], Ok (search.Found 6)) ∷
    -- up to a header that is incomplete: of the size all is missing, or its second byte; of the ID its second byte
    (0x00 ∷ 0xA2 ∷ [], Ok (search.NotFound 1)) ∷
    (0x80 ∷ 0x80 ∷ 0x4E ∷ [], Ok (search.NotFound 1)) ∷
    (0x4E ∷ [], Ok (search.NotFound 0)) ∷
    -- no byte
    ([], Ok (search.NotFound 0)) ∷ []

-- they are answered so
pub recovered_so : map (λ (e : List ℕ × Result Search Refusal). (try_recover bench_entries bench_parts fresh e.0).answer) examples ≡ map (λ (e : List ℕ × Result Search Refusal). e.1) examples
unfolding rules_compute
recovered_so = refl

-- and so far is the first place
pub first_so : map (λ (e : List ℕ × Result Search Refusal). first_place bench_parts (table_of bench_entries bench_parts) fresh e.0) examples ≡ map (λ (e : List ℕ × Result Search Refusal). passed_in e.1) examples
unfolding rules_compute
first_so = refl
