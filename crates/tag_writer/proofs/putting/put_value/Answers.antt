-- `tag_writer::putting::put_value`: the end of the value's own bytes. Assumes nothing.
use Prim.Native.Nat.{ℕ, ◌+◌, ◌-◌}
use mathlib.Core.Path.{◌≡◌, ◌∙◌}
use mathlib.Core.List.{List}
use native.Mathlib.Omega.{arith}
use lib.ListN.{take, drop}
use Rattle.tag_writer.specs.Document.{payload}
use Rattle.tag_writer.specs.Items.{value_at}
use Rattle.tag_writer.proofs.PayloadLaws.{in_values}
use Rattle.tag_writer.proofs.PutLaws.{put_is}
use Rattle.tag_writer.proofs.putting.put_value.Goals as goal

-- the same part, as the code counts
ends : (vals : List ℕ) {w m o o' n n' : ℕ} → w ≡ m → o' ≡ o → n' ≡ n → take m (drop (o + (n - m)) vals) ≡ take w (drop (o' + (n' - w)) vals)
ends vals e f g = rw (e, f, g)

pub overflow_sub-skipped : goal.overflow_sub-skipped
overflow_sub-skipped c =
    let a = c.args in
    let l = c.index-size.ensures ∙ c.value_size.ensures in
    let g = in_values a.values.now (λ j. (c.type_inv.values j).fits) a.kind a.offset a.n (λ z. c.if-size-eq0.false (l ∙ z)) in
    omega (arith, l, g.short, c.index.ensures)

pub overflow_add-index : goal.overflow_add-index
overflow_add-index c =
    let a = c.args in
    let l = c.index-size.ensures ∙ c.value_size.ensures in
    let g = in_values a.values.now (λ j. (c.type_inv.values j).fits) a.kind a.offset a.n (λ z. c.if-size-eq0.false (l ∙ z)) in
    record { fits = omega (arith, g.inside, c.index.ensures, c.index-2.ensures) }

pub put_part-requires : goal.put_part-requires
put_part-requires c =
    let a = c.args in
    let l = c.index-size.ensures ∙ c.value_size.ensures in
    let g = in_values a.values.now (λ m. (c.type_inv.values m).fits) a.kind a.offset a.n (λ z. c.if-size-eq0.false (l ∙ z)) in
    (omega (arith, l, g.inside, g.short, c.index.ensures, c.index-2.ensures), omega (arith, l, c.requires))

pub returns : goal.returns
returns c =
    let a = c.args in
    let l = c.index-size.ensures ∙ c.value_size.ensures in
    let P = payload (value_at a.values.now a.kind a.offset a.n) in
    let g = in_values a.values.now (λ m. (c.type_inv.values m).fits) a.kind a.offset a.n (λ z. c.if-size-eq0.false (l ∙ z)) in
    let q = put_is {P = P} (g.is ∙ ends a.values.now l c.index-2.ensures c.index.ensures) l c.put_part.ensures in
    (q.place, q.bytes)
