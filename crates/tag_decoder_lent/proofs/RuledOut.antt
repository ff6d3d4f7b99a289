-- Two ways to store the wrong record, each against the contract of `decode`: a record that stays as it was where more
-- is needed, so that the settling note is lost, and a record that stays as it was after an event. Computed from the
-- definitions. Assumes nothing.
use Prim.Native.Nat.{ℕ}
use mathlib.Core.Bool.{true, false}
use mathlib.Core.Path.{◌≡◌, refl, ap, ◌∙◌}
use mathlib.Core.List.{List, [], ◌∷◌}
use native.Mathlib.Omega.{arith}
use Rattle.decoder_rules.proofs.Computing.{rules_compute}
use Rattle.decoder_rules.specs.Record.{fresh}
use Rattle.decoder_rules.specs.Moving.{decode}
use Rattle.decoder_rules.specs.declared.types.Answer.TheVariants.{NeedMore, Event}
use Rattle.decoder_rules.specs.declared.types.Event.TheVariants.{Start}
use Rattle.decoder_rules.specs.declared.types.TagDecoder.{TagDecoder}
use Rattle.table.specs.BenchTable.{bench_entries, bench_parts}
use Rattle.tag_decoder_lent.specs.Lent.{ReturnsAndLeaves, apart}
use Rattle.tag_decoder_lent.specs.declared.types.Reply.{Reply}
use Rattle.std.specs.Prelude.{Ok}

-- an Amount without its payload, and a Session's start
abbrev amount : List ℕ
amount = 0xA2 ∷ 0x81 ∷ []

abbrev session : List ℕ
session = 0x4E ∷ 0x01 ∷ 0xFF ∷ []

needs_more_lem : ((decode bench_entries bench_parts fresh amount).answer ≡ Ok (NeedMore 1)) × ((decode bench_entries bench_parts fresh amount).state.settled ≡ true)
unfolding rules_compute
needs_more_lem = (refl, refl)

starts : ((decode bench_entries bench_parts fresh session).answer ≡ Ok (Event (Start 0x4E01 0))) × ((decode bench_entries bench_parts fresh session).state.open_count ≡ 1)
unfolding rules_compute
starts = (refl, refl)

pub note_kept : {r : Reply} → ReturnsAndLeaves r fresh (apart (decode bench_entries bench_parts fresh amount)) → ⊥
note_kept l =
    let e : false ≡ true = ap (λ (d : TagDecoder). d.settled) l.left ∙ needs_more_lem.1 in
    let z : ◌≡◌ {A = ℕ} 0 1 = cc in
    omega arith

pub record-stored : {r : Reply} → ReturnsAndLeaves r fresh (apart (decode bench_entries bench_parts fresh session)) → ⊥
record-stored l = omega (arith, ap (λ (d : TagDecoder). d.open_count) l.left ∙ starts.1)
