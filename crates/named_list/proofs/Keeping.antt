-- What is kept after an event, field by field. Assumes nothing.
use Prim.Native.Nat.{ℕ, ◌+◌, ◌-◌, min}
use mathlib.Core.Path.{◌≡◌, ap, ◌∙◌}
use mathlib.Core.Bool.{Bool, ◌||◌, not}
use lib.Dec.{eqb}
use Rattle.spec_util.specs.declared.types.OpenTag.{OpenTag}
use Rattle.decoder_rules.specs.declared.types.Event.TheVariants.{Start, End}
use Rattle.decoder_rules.specs.declared.types.WaitingEnd.{WaitingEnd}
use Rattle.decoder_rules.specs.declared.types.TagDecoder.{TagDecoder}
use Rattle.named_list.specs.Seen.{seen, innermost, seen_event}
use Rattle.named_list.specs.declared.types.Seen.{Seen}

-- after a Start
pub start_seen : (x p : ℕ) (d : TagDecoder) (s : Seen) {n : ℕ} {b : Bool} {m : OpenTag} → n ≡ min (s.starts + 1) 32 → m ≡ innermost d
    → b ≡ (s.size_missing || not m.known) → seen n s.front_missing b ≡ seen_event (Start x p) d s
unfolding seen_event
start_seen x p d s {n} {b} {m} en em eb =
    ap (λ (k : ℕ). seen k s.front_missing b) en
    ∙ ap (λ (c : Bool). seen (min (s.starts + 1) 32) s.front_missing c) (eb ∙ ap (λ (t : OpenTag). s.size_missing || not t.known) em)

-- after an End
pub end_seen : (e : WaitingEnd) (d : TagDecoder) (s : Seen) {n : ℕ} {b : Bool} → n ≡ s.starts - 1 → b ≡ (s.front_missing || eqb s.starts 0)
    → seen n b s.size_missing ≡ seen_event (End e) d s
unfolding seen_event
end_seen e d s {n} {b} en eb = ap (λ (k : ℕ). seen k b s.size_missing) en ∙ ap (λ (c : Bool). seen (s.starts - 1) c s.size_missing) eb
