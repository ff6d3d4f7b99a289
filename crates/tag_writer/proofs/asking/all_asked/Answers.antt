-- `tag_writer::asking::all_asked`. The invariant: what is left is matched in the Starts on the stack, and asks what all
-- asks. Assumes nothing.
use Prim.Native.Nat.{ℕ, ◌+◌, ◌*◌, ◌/◌, ◌<◌}
use mathlib.Core.Path.{◌≡◌, sym, ap, ◌∙◌}
use mathlib.Core.List.{List, [], ◌∷◌, ◌++◌}
use native.Mathlib.Omega.{arith}
use lib.ListN.{length, get_or, take, drop, set, length-set}
use Rattle.table.specs.Table.{Entry, table_of}
use Rattle.tag_writer.specs.Flat.{asked, all_asked}
use Rattle.tag_writer.specs.Items.{mark_of, marks_of, matched}
use Rattle.tag_writer.proofs.AskedLaws.{asked_done, asked_false, asked_start, asked_end, asked_value, take_more, take_less, end_closed}
use Rattle.tag_writer.proofs.MatchLaws.{top_down, start_matched, value_matched}
use Rattle.tag_writer.proofs.asking.all_asked.Goals as goal

mark-same : (t : List Entry) (o vs : List ℕ) {k x f n k' x' f' n' : ℕ} → k' ≡ k → x' ≡ x → f' ≡ f → n' ≡ n → asked t o (mark_of vs k' x' f' n') ≡ asked t o (mark_of vs k x f n)
mark-same t o vs a b c d = rw (a, b, c, d)

pub returns-then-not-asked_item : goal.returns-then-not-asked_item
returns-then-not-asked_item c =
    let l = c.loop-i in
    let a = c.args in
    let t = table_of a.entries.now a.parts.now in
    let is = a.items.now in
    let vs = a.values.now in
    let there : l.i < length is / 4 = omega (arith, c.item_count-count.ensures) in
    let room : l.depth < length l.«open» = omega (arith, l.invariant.1, l.invariant.2, c.requires.0) in
    let said : asked t (take l.depth l.«open») (mark_of vs (get_or is (4 * l.i + 0) 0) (get_or is (4 * l.i + 1) 0) (get_or is (4 * l.i + 2) 0) (get_or is (4 * l.i + 3) 0)) ≡ c.asked_item.result =
    sym (c.asked_item.ensures ∙ mark-same t (take l.depth l.«open») vs c.item_word-kind.ensures c.item_word-id.ensures c.item_word-offset.ensures c.item_word-n.ensures) in
    sym (l.invariant.4 ∙ asked_false t vs is l.i there (take l.depth l.«open») (said ∙ c.if-not-asked_item.true))

pub loop-i-preserved-then-kind-eq0 : goal.loop-i-preserved-then-kind-eq0
loop-i-preserved-then-kind-eq0 c =
    let l = c.loop-i in
    let a = c.args in
    let t = table_of a.entries.now a.parts.now in
    let is = a.items.now in
    let vs = a.values.now in
    let there : l.i < length is / 4 = omega (arith, c.item_count-count.ensures) in
    let room : l.depth < length l.«open» = omega (arith, l.invariant.1, l.invariant.2, c.requires.0) in
    let said : asked t (take l.depth l.«open») (mark_of vs (get_or is (4 * l.i + 0) 0) (get_or is (4 * l.i + 1) 0) (get_or is (4 * l.i + 2) 0) (get_or is (4 * l.i + 3) 0)) ≡ c.asked_item.result =
    sym (c.asked_item.ensures ∙ mark-same t (take l.depth l.«open») vs c.item_word-kind.ensures c.item_word-id.ensures c.item_word-offset.ensures c.item_word-n.ensures) in
    let k = sym c.item_word-kind.ensures ∙ c.if-kind-eq0.true in
    let x = c.item_word-id.ensures in (
      omega arith,
      omega (arith, l.invariant.1),
      length-set l.«open» l.depth c.item_word-id.result ∙ l.invariant.2,
      ap (λ (y : ℕ). matched (top_down (set l.«open» l.depth y) (l.depth + 1)) (drop (l.i + 1) (marks_of vs is))) x ∙ start_matched vs is l.i there l.«open» l.depth k room ∙ l.invariant.3,
      l.invariant.4 ∙ asked_start t vs is l.i there (take l.depth l.«open») (said ∙ c.if-not-asked_item.false) k
          ∙ ap (λ (y : ℕ). all_asked t (take l.depth l.«open» ++ (y ∷ [])) (drop (l.i + 1) (marks_of vs is))) (sym x)
          ∙ ap (λ (o : List ℕ). all_asked t o (drop (l.i + 1) (marks_of vs is))) (take_more l.«open» l.depth c.item_word-id.result room),
    )

pub overflow_sub-depth : goal.overflow_sub-depth
overflow_sub-depth c =
    let l = c.loop-i in
    let a = c.args in
    let t = table_of a.entries.now a.parts.now in
    let is = a.items.now in
    let vs = a.values.now in
    let there : l.i < length is / 4 = omega (arith, c.item_count-count.ensures) in
    let room : l.depth < length l.«open» = omega (arith, l.invariant.1, l.invariant.2, c.requires.0) in
    (end_closed vs is l.i there l.«open» l.depth (omega (arith, room)) (sym c.item_word-kind.ensures ∙ c.if-kind-ne6.false) l.invariant.3).some

pub loop-i-preserved : goal.loop-i-preserved
loop-i-preserved c =
    let l = c.loop-i in
    let a = c.args in
    let t = table_of a.entries.now a.parts.now in
    let is = a.items.now in
    let vs = a.values.now in
    let there : l.i < length is / 4 = omega (arith, c.item_count-count.ensures) in
    let room : l.depth < length l.«open» = omega (arith, l.invariant.1, l.invariant.2, c.requires.0) in
    let said : asked t (take l.depth l.«open») (mark_of vs (get_or is (4 * l.i + 0) 0) (get_or is (4 * l.i + 1) 0) (get_or is (4 * l.i + 2) 0) (get_or is (4 * l.i + 3) 0)) ≡ c.asked_item.result =
    sym (c.asked_item.ensures ∙ mark-same t (take l.depth l.«open») vs c.item_word-kind.ensures c.item_word-id.ensures c.item_word-offset.ensures c.item_word-n.ensures) in
    let k = sym c.item_word-kind.ensures ∙ c.if-kind-ne6.false in (
      omega arith,
      omega (arith, l.invariant.1),
      l.invariant.2,
      (end_closed vs is l.i there l.«open» l.depth (omega (arith, room)) k l.invariant.3).rest,
      l.invariant.4 ∙ asked_end t vs is l.i there (take l.depth l.«open») (said ∙ c.if-not-asked_item.false) k
          ∙ ap (λ (o : List ℕ). all_asked t o (drop (l.i + 1) (marks_of vs is))) (take_less l.«open» l.depth (omega (arith, room))),
    )

pub loop-i-preserved-then-kind-ne6 : goal.loop-i-preserved-then-kind-ne6
loop-i-preserved-then-kind-ne6 c =
    let l = c.loop-i in
    let a = c.args in
    let t = table_of a.entries.now a.parts.now in
    let is = a.items.now in
    let vs = a.values.now in
    let there : l.i < length is / 4 = omega (arith, c.item_count-count.ensures) in
    let room : l.depth < length l.«open» = omega (arith, l.invariant.1, l.invariant.2, c.requires.0) in
    let said : asked t (take l.depth l.«open») (mark_of vs (get_or is (4 * l.i + 0) 0) (get_or is (4 * l.i + 1) 0) (get_or is (4 * l.i + 2) 0) (get_or is (4 * l.i + 3) 0)) ≡ c.asked_item.result =
    sym (c.asked_item.ensures ∙ mark-same t (take l.depth l.«open») vs c.item_word-kind.ensures c.item_word-id.ensures c.item_word-offset.ensures c.item_word-n.ensures) in
    let no0 : get_or is (4 * l.i + 0) 0 ≡ 0 → ⊥ = λ z. c.if-kind-eq0.false (c.item_word-kind.ensures ∙ z) in
    let no6 : get_or is (4 * l.i + 0) 0 ≡ 6 → ⊥ = λ z. c.if-kind-ne6.true (c.item_word-kind.ensures ∙ z) in (
      omega arith,
      omega (arith, l.invariant.1),
      l.invariant.2,
      value_matched vs is l.i there (top_down l.«open» l.depth) no0 no6 ∙ l.invariant.3,
      l.invariant.4 ∙ asked_value t vs is l.i there (take l.depth l.«open») (said ∙ c.if-not-asked_item.false) no0 no6,
    )

pub returns : goal.returns
returns c =
    let l = c.loop-i in
    let a = c.args in
    sym (l.invariant.4 ∙ asked_done (table_of a.entries.now a.parts.now) a.values.now a.items.now l.i (take l.depth l.«open») (omega (arith, c.item_count-count.ensures)))
