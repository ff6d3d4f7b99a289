-- `tag_decoder::recovery::ending`, by the place. Assumes nothing.
use Prim.Native.Nat.{ℕ, ◌-◌}
use mathlib.Core.Path.{◌≡◌, refl}
use native.Mathlib.Omega.{arith}
use Rattle.decoder_rules.proofs.GoodState.{good_state_lem}
use Rattle.decoder_rules.specs.declared.types.Search.TheVariants.{NotFound}
use Rattle.decoder_rules.specs.declared.types.TagDecoder.{TagDecoder}
use Rattle.decoder_rules.specs.Recovery.{ending_at, ending}
use Rattle.decoder_rules.specs.declared.types.Place.{Place}
use Rattle.decoder_rules.specs.declared.types.Place.TheVariants.{Stop, Found, On}
use Rattle.tag_decoder.proofs.recovery.ending.Goals as goal
use Rattle.std.specs.Prelude.{Ok}

other : (start : ℕ) (q : Place) (e : TagDecoder) → (q ≡ Found → ⊥)
    → record { answer = Ok (NotFound (e.position - start)); taken = e.position - start; state = e } ≡ ending_at start q e
other start Stop e h = refl
other start Found e h = absurd (h refl)
other start On e h = refl

pub with_sizes_grown-requires : goal.with_sizes_grown-requires
with_sizes_grown-requires c =
    let g = good_state_lem _ c.requires.0 in
    (g.open_count, omega (arith, g.place), g.place, g.masters)

pub returns-in-Found : goal.returns-in-Found
unfolding ending
returns-in-Found c = rw (c.in-Found.is, c.with_sizes_grown.ensures)

pub returns : goal.returns
unfolding ending
returns c = other c.args.start c.args.p.place c.args.p.state c.in_default.not-Found
