-- `tag_writer::matching::is_matched`. The invariant: what is left matches in the Starts on the stack where all matches
-- in none. Assumes nothing.
use Prim.Native.Nat.{ℕ, ◌+◌, ◌-◌, ◌/◌, ◌≤◌, ◌<◌}
use mathlib.Core.Path.{◌≡◌, sym, ap, ◌∙◌}
use native.Mathlib.Omega.{arith}
use lib.ListN.{length, drop, set, length-set, length-take, length-reverse}
use Rattle.tag_writer.specs.Items.{marks_of, matched}
use Rattle.tag_writer.proofs.MatchLaws.{top_down, done_matched, start_matched, value_matched, end_none, end_other, end_same}
use Rattle.tag_writer.proofs.matching.is_matched.Goals as goal

pub loop-i-preserved-then-kind-eq0 : goal.loop-i-preserved-then-kind-eq0
loop-i-preserved-then-kind-eq0 c =
    let l = c.loop-i in
    let a = c.args in
    let there : l.i < length a.items.now / 4 = omega (arith, c.item_count-count.ensures) in
    let room : l.depth < length l.«open» = omega (arith, l.invariant.1, l.invariant.2, c.requires) in (
      omega arith,
      omega (arith, l.invariant.1),
      length-set l.«open» l.depth c.item_word-id.result ∙ l.invariant.2,
      λ vals. ap (λ (x : ℕ). matched (top_down (set l.«open» l.depth x) (l.depth + 1)) (drop (l.i + 1) (marks_of vals a.items.now))) c.item_word-id.ensures
          ∙ start_matched vals a.items.now l.i there l.«open» l.depth (sym c.item_word-kind.ensures ∙ c.if-kind-eq0.true) room ∙ l.invariant.3 vals,
    )

pub returns-then-depth-eq0 : goal.returns-then-depth-eq0
returns-then-depth-eq0 c =
    let l = c.loop-i in
    let a = c.args in
    let there : l.i < length a.items.now / 4 = omega (arith, c.item_count-count.ensures) in
    λ vals. sym (sym (l.invariant.3 vals) ∙ end_none vals a.items.now l.i there l.«open» l.depth (sym c.item_word-kind.ensures ∙ c.if-kind-ne6.false) c.if-depth-eq0.true)

pub returns-then-open-depth : goal.returns-then-open-depth
returns-then-open-depth c =
    let l = c.loop-i in
    let a = c.args in
    let there : l.i < length a.items.now / 4 = omega (arith, c.item_count-count.ensures) in
    let some : l.depth ≡ 0 → ⊥ = c.if-depth-eq0.false in
    let k : l.depth - 1 + 1 ≡ l.depth = omega arith in
    let room : l.depth ≤ length l.«open» = omega (arith, l.invariant.1, l.invariant.2, c.requires) in
    λ vals. sym (sym (l.invariant.3 vals) ∙ end_other vals a.items.now l.i there l.«open» (l.depth - 1) l.depth (sym c.item_word-kind.ensures ∙ c.if-kind-ne6.false) k room (λ z. c.if-open-depth.true (z ∙ sym c.item_word-id.ensures)))

pub loop-i-preserved : goal.loop-i-preserved
loop-i-preserved c =
    let l = c.loop-i in
    let a = c.args in
    let there : l.i < length a.items.now / 4 = omega (arith, c.item_count-count.ensures) in
    let some : l.depth ≡ 0 → ⊥ = c.if-depth-eq0.false in
    let k : l.depth - 1 + 1 ≡ l.depth = omega arith in
    let room : l.depth ≤ length l.«open» = omega (arith, l.invariant.1, l.invariant.2, c.requires) in (
      omega arith,
      omega (arith, l.invariant.1),
      l.invariant.2,
      λ vals. end_same vals a.items.now l.i there l.«open» (l.depth - 1) l.depth (sym c.item_word-kind.ensures ∙ c.if-kind-ne6.false) k room (c.if-open-depth.false ∙ c.item_word-id.ensures) ∙ l.invariant.3 vals,
    )

pub loop-i-preserved-then-kind-ne6 : goal.loop-i-preserved-then-kind-ne6
loop-i-preserved-then-kind-ne6 c =
    let l = c.loop-i in
    let a = c.args in
    let there : l.i < length a.items.now / 4 = omega (arith, c.item_count-count.ensures) in (
      omega arith,
      omega (arith, l.invariant.1),
      l.invariant.2,
      λ vals. value_matched vals a.items.now l.i there (top_down l.«open» l.depth) (λ z. c.if-kind-eq0.false (c.item_word-kind.ensures ∙ z)) (λ z. c.if-kind-ne6.true (c.item_word-kind.ensures ∙ z)) ∙ l.invariant.3 vals,
    )

pub returns : goal.returns
returns c =
    let l = c.loop-i in
    let a = c.args in
    let e : length (top_down l.«open» l.depth) ≡ l.depth = simp (length-reverse, length-take) (omega (arith, l.invariant.1, l.invariant.0, l.invariant.2, c.requires)) in
    λ vals. sym (sym (l.invariant.3 vals) ∙ done_matched vals a.items.now l.i (top_down l.«open» l.depth) l.depth (omega (arith, c.item_count-count.ensures)) e)
