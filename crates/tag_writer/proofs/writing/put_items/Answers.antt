-- `tag_writer::writing::put_items`. The invariant: the output is the document up to the item that comes next, and what
-- was there before after it. Assumes nothing.
use Prim.Native.Nat.{ℕ, ◌+◌, ◌/◌, ◌<◌}
use mathlib.Core.Path.{◌≡◌, sym, ap, subst, ◌∙◌}
use mathlib.Core.List.{List, [], ◌++◌}
use native.Mathlib.Omega.{arith}
use lib.ListN.{length, get_or, drop}
use Rattle.tag_writer.specs.Document.{Value, payload, header_bytes}
use Rattle.tag_writer.specs.Flat.{marks_bytes, datum_bytes}
use Rattle.tag_writer.specs.Items.{value_at, marks_of}
use Rattle.tag_writer.proofs.PutLaws.{PutSo, put_all, put_room, put_more, closes_run, closes_next, past_bytes, end_bytes, start_bytes, start_small, value_bytes}
use Rattle.tag_writer.proofs.Sums.{first_element, value_small}
use Rattle.tag_writer.proofs.writing.put_items.Goals as goal

-- the value of the words as they were read
value_same : (vs : List ℕ) {k o n k' o' n' : ℕ} → k' ≡ k → o' ≡ o → n' ≡ n → value_at vs k' o' n' ≡ value_at vs k o n
value_same vs a c d = rw (a, c, d)

-- these bytes come next
abbrev Next : (vals items out₀ bs : List ℕ) (i at : ℕ) (out : List ℕ) → Type 0
Next vals items out₀ bs i at out = PutSo (marks_bytes (marks_of vals items)) out₀ (bs ++ marks_bytes (drop (i + 1) (marks_of vals items))) at out

next : (vals items out₀ bs : List ℕ) (i at : ℕ) (out : List ℕ) → PutSo (marks_bytes (marks_of vals items)) out₀ (marks_bytes (drop i (marks_of vals items))) at out
    → marks_bytes (drop i (marks_of vals items)) ≡ bs ++ marks_bytes (drop (i + 1) (marks_of vals items)) → Next vals items out₀ bs i at out
next vals items out₀ bs i at out p e = subst (λ (r : List ℕ). PutSo (marks_bytes (marks_of vals items)) out₀ r at out) e p

-- an End
pub loop-i-preserved-then-kind-eq6 : goal.loop-i-preserved-then-kind-eq6
loop-i-preserved-then-kind-eq6 c =
    let l = c.loop-i in
    let vs = c.args.values.now in
    let is = c.args.items.now in
    let there : l.i < length is / 4 = omega (arith, c.item_count-count.ensures) in (
      omega arith,
      closes_next vs is l.i there l.invariant.1,
      next vs is c.args.out.now [] l.i l.at l.out l.invariant.2 (end_bytes vs is l.i there (sym c.item_word-kind.ensures ∙ c.if-kind-eq6.true)),
    )

-- a Start
pub put_header-at-requires : goal.put_header-at-requires
put_header-at-requires c =
    let l = c.loop-i in
    let vs = c.args.values.now in
    let is = c.args.items.now in
    let there : l.i < length is / 4 = omega (arith, c.item_count-count.ensures) in
    let kind = sym c.item_word-kind.ensures ∙ c.if-kind-eq0.true in
    let bs = header_bytes c.item_word-id.result (get_or c.args.sizes.now l.i 0) in
    let small = start_small vs is l.i there l.invariant.1 kind c.args.sizes.now c.requires.4 c.requires.0 in
    let comes = next vs is c.args.out.now bs l.i l.at l.out l.invariant.2 (start_bytes vs is l.i there l.invariant.1 kind c.args.sizes.now c.requires.4 c.item_word-id.ensures) in
    (omega (arith, small), put_room (marks_bytes (marks_of vs is)) c.args.out.now bs (marks_bytes (drop (l.i + 1) (marks_of vs is))) l.at l.out c.requires.2 comes)

pub loop-i-preserved-then-kind-eq0 : goal.loop-i-preserved-then-kind-eq0
loop-i-preserved-then-kind-eq0 c =
    let l = c.loop-i in
    let vs = c.args.values.now in
    let is = c.args.items.now in
    let there : l.i < length is / 4 = omega (arith, c.item_count-count.ensures) in
    let kind = sym c.item_word-kind.ensures ∙ c.if-kind-eq0.true in
    let bs = header_bytes c.item_word-id.result (get_or c.args.sizes.now l.i 0) in
    let comes = next vs is c.args.out.now bs l.i l.at l.out l.invariant.2 (start_bytes vs is l.i there l.invariant.1 kind c.args.sizes.now c.requires.4 c.item_word-id.ensures) in (
      omega (arith, there),
      closes_next vs is l.i there l.invariant.1,
      put_more (marks_bytes (marks_of vs is)) c.args.out.now bs (marks_bytes (drop (l.i + 1) (marks_of vs is))) l.at l.out c.requires.2 comes c.put_header-at.ensures.0 c.put_header-at.ensures.1,
    )

-- a value
pub put_datum-at-requires : goal.put_datum-at-requires
put_datum-at-requires c =
    let l = c.loop-i in
    let vs = c.args.values.now in
    let is = c.args.items.now in
    let there : l.i < length is / 4 = omega (arith, c.item_count-count.ensures) in
    let k = c.item_word-kind.ensures in
    let bs = datum_bytes vs c.item_word-kind.result c.item_word-id.result c.item_word-offset.result c.item_word-n.result in
    let first = first_element vs is l.i there (λ z. c.if-kind-eq6.false (k ∙ z)) (closes_run (marks_of vs is) l.i l.invariant.1) in
    let small = value_small vs is l.i there (λ z. c.if-kind-eq0.false (k ∙ z)) c.requires.0 first in
    let comes = next vs is c.args.out.now bs l.i l.at l.out l.invariant.2 (value_bytes vs is l.i there k c.item_word-id.ensures c.item_word-offset.ensures c.item_word-n.ensures c.if-kind-eq0.false c.if-kind-eq6.false) in (
      omega (arith, small, ap (λ (x : Value). length (payload x)) (value_same vs k c.item_word-offset.ensures c.item_word-n.ensures)),
      put_room (marks_bytes (marks_of vs is)) c.args.out.now bs (marks_bytes (drop (l.i + 1) (marks_of vs is))) l.at l.out c.requires.2 comes,
    )

pub loop-i-preserved : goal.loop-i-preserved
loop-i-preserved c =
    let l = c.loop-i in
    let vs = c.args.values.now in
    let is = c.args.items.now in
    let there : l.i < length is / 4 = omega (arith, c.item_count-count.ensures) in
    let bs = datum_bytes vs c.item_word-kind.result c.item_word-id.result c.item_word-offset.result c.item_word-n.result in
    let comes = next vs is c.args.out.now bs l.i l.at l.out l.invariant.2 (value_bytes vs is l.i there c.item_word-kind.ensures c.item_word-id.ensures c.item_word-offset.ensures c.item_word-n.ensures c.if-kind-eq0.false c.if-kind-eq6.false) in (
      omega (arith, there),
      closes_next vs is l.i there l.invariant.1,
      put_more (marks_bytes (marks_of vs is)) c.args.out.now bs (marks_bytes (drop (l.i + 1) (marks_of vs is))) l.at l.out c.requires.2 comes c.put_datum-at.ensures.0 c.put_datum-at.ensures.1,
    )

pub returns : goal.returns
returns c =
    let a = c.args in
    put_all (marks_bytes (marks_of a.values.now a.items.now)) a.out.now c.loop-i.invariant.2 (past_bytes a.values.now a.items.now c.loop-i.i (omega (arith, c.item_count-count.ensures, c.loop-i-test.false)))
