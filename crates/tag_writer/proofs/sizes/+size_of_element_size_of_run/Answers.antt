-- `tag_writer::sizes::size_of_element` and `size_of_run`: one step of sizing for each answer. Assumes nothing.
use Prim.Native.Nat.{ℕ, ◌+◌, ◌*◌, ◌/◌, ◌<◌}
use mathlib.Core.Path.{◌≡◌, sym, ap, ◌∙◌}
use mathlib.Core.List.{List}
use native.Mathlib.Omega.{arith}
use lib.ListN.{length, get_or}
use Rattle.tag_writer.specs.Document.{payload, header_bytes}
use Rattle.tag_writer.specs.Items.{value_at}
use Rattle.tag_writer.proofs.Tests.{and_then, and_else}
use Rattle.tag_writer.proofs.KeptSizes.{kept_all, kept_both, kept_less, kept_set, in_none, in_same, in_both}
use Rattle.tag_writer.proofs.Sums.{element_there, inner_run, master_sized, master_in_lem, value_sized, value_in, value_small, past_sized, end_sized, first_element, other_elements, next_later, run_sized, sum_bound, run_small}
use Rattle.tag_writer.proofs.sizes.+size_of_element_size_of_run.Goals as goal

-- the words of the item in the size of its value
paid : (vals : List ℕ) {r kind offset n a b d : ℕ} → r ≡ length (payload (value_at vals kind offset n)) → kind ≡ a → offset ≡ b → n ≡ d → r ≡ length (payload (value_at vals a b d))
paid vals e f g h = rw (← f, ← g, ← h) e

-- ---- an element

pub size_of_element-item_word-kind-requires : goal.size_of_element-item_word-kind-requires
size_of_element-item_word-kind-requires t c = (element_there c.args.values.now c.args.items.now c.args.at c.requires.1, omega arith)

pub size_of_element-item_word-id-requires : goal.size_of_element-item_word-id-requires
size_of_element-item_word-id-requires t c = (element_there c.args.values.now c.args.items.now c.args.at c.requires.1, omega arith)

-- a Start, and the run of its children
pub size_of_element-overflow_add-at : goal.size_of_element-overflow_add-at
size_of_element-overflow_add-at t c =
    let there = element_there c.args.values.now c.args.items.now c.args.at c.requires.1 in
    record { fits = omega (arith, there) }

pub size_of_element-size_of_run-inside-requires : goal.size_of_element-size_of_run-inside-requires
size_of_element-size_of_run-inside-requires t c =
    let vs = c.args.values.now in
    let is = c.args.items.now in
    let there = element_there vs is c.args.at c.requires.1 in
    let kind = sym c.item_word-kind.ensures ∙ c.if-kind-eq0.true in
    (omega (arith, c.decreases, there), (c.requires.0, inner_run vs is c.args.at there kind c.requires.1, c.requires.2))

pub size_of_element-offset_bounds-sizes-at : goal.size_of_element-offset_bounds-sizes-at
size_of_element-offset_bounds-sizes-at t c =
    let there = element_there c.args.values.now c.args.items.now c.args.at c.requires.1 in
    record { fits = omega (arith, there) }

pub size_of_element-bounds-sizes-at : goal.size_of_element-bounds-sizes-at
size_of_element-bounds-sizes-at t c =
    omega (arith, c.size_of_run-inside.auto.sizes, c.requires.2, element_there c.args.values.now c.args.items.now c.args.at c.requires.1)

pub size_of_element-header_size-requires : goal.size_of_element-header_size-requires
size_of_element-header_size-requires t c =
    let vs = c.args.values.now in
    let is = c.args.items.now in
    let there = element_there vs is c.args.at c.requires.1 in
    let kind = sym c.item_word-kind.ensures ∙ c.if-kind-eq0.true in
    let r = c.size_of_run-inside in
    omega (arith, (run_small vs is (c.args.at + 1) c.requires.0 (inner_run vs is c.args.at there kind c.requires.1) r.result r.ensures.0 (omega (arith, there))).0)

pub size_of_element-overflow_add-result : goal.size_of_element-overflow_add-result
size_of_element-overflow_add-result t c =
    let vs = c.args.values.now in
    let is = c.args.items.now in
    let there = element_there vs is c.args.at c.requires.1 in
    let kind = sym c.item_word-kind.ensures ∙ c.if-kind-eq0.true in
    let r = c.size_of_run-inside in
    record {
      fits = omega (arith, (run_small vs is (c.args.at + 1) c.requires.0 (inner_run vs is c.args.at there kind c.requires.1) r.result r.ensures.0 (omega (arith, there))).0, c.header_size.ensures.1);
    }

pub size_of_element-overflow_add-result-then-kind-eq0 : goal.size_of_element-overflow_add-result-then-kind-eq0
size_of_element-overflow_add-result-then-kind-eq0 t c =
    let vs = c.args.values.now in
    let is = c.args.items.now in
    let there = element_there vs is c.args.at c.requires.1 in
    let kind = sym c.item_word-kind.ensures ∙ c.if-kind-eq0.true in
    let r = c.size_of_run-inside in
    record {
      fits = omega (arith, (run_small vs is (c.args.at + 1) c.requires.0 (inner_run vs is c.args.at there kind c.requires.1) r.result r.ensures.0 (omega (arith, there))).1);
    }

pub size_of_element-returns-then-small_enough : goal.size_of_element-returns-then-small_enough
size_of_element-returns-then-small_enough t c =
    let vs = c.args.values.now in
    let is = c.args.items.now in
    let at = c.args.at in
    let there = element_there vs is at c.requires.1 in
    let kind = sym c.item_word-kind.ensures ∙ c.if-kind-eq0.true in
    let r = c.size_of_run-inside in
    let size = r.result.size in
    let room : at < length r.new.sizes = omega (arith, r.auto.sizes, c.requires.2, there) in (
      master_sized vs is at there kind r.result c.header_size.result c.small_enough.result r.result.fits r.ensures.0
          (c.header_size.ensures.0 ∙ ap (λ (x : ℕ). length (header_bytes x size)) c.item_word-id.ensures) c.small_enough.ensures (and_then c.if-small_enough.true),
      master_in_lem vs is at there kind r.result r.ensures.0 c.requires.1 room r.ensures.1,
      kept_both (omega arith) (kept_less (omega arith) r.ensures.2) (kept_set at size r.new.sizes),
    )

pub size_of_element-returns-else-small_enough : goal.size_of_element-returns-else-small_enough
size_of_element-returns-else-small_enough t c =
    let vs = c.args.values.now in
    let is = c.args.items.now in
    let at = c.args.at in
    let there = element_there vs is at c.requires.1 in
    let kind = sym c.item_word-kind.ensures ∙ c.if-kind-eq0.true in
    let r = c.size_of_run-inside in
    let size = r.result.size in
    let room : at < length r.new.sizes = omega (arith, r.auto.sizes, c.requires.2, there) in (
      master_sized vs is at there kind r.result c.header_size.result c.small_enough.result c.small_enough.result r.ensures.0
          (c.header_size.ensures.0 ∙ ap (λ (x : ℕ). length (header_bytes x size)) c.item_word-id.ensures) c.small_enough.ensures (and_else _ c.if-small_enough.false),
      master_in_lem vs is at there kind r.result r.ensures.0 c.requires.1 room r.ensures.1,
      kept_both (omega arith) (kept_less (omega arith) r.ensures.2) (kept_set at size r.new.sizes),
    )

-- a value
pub size_of_element-item_word-requires : goal.size_of_element-item_word-requires
size_of_element-item_word-requires t c = (element_there c.args.values.now c.args.items.now c.args.at c.requires.1, omega arith)

pub size_of_element-item_word-requires-2 : goal.size_of_element-item_word-requires-2
size_of_element-item_word-requires-2 t c = (element_there c.args.values.now c.args.items.now c.args.at c.requires.1, omega arith)

pub size_of_element-header_size-requires-2 : goal.size_of_element-header_size-requires-2
size_of_element-header_size-requires-2 t c =
    let vs = c.args.values.now in
    let is = c.args.items.now in
    let there = element_there vs is c.args.at c.requires.1 in
    let small = value_small vs is c.args.at there (λ z. c.if-kind-eq0.false (c.item_word-kind.ensures ∙ z)) c.requires.0 c.requires.1 in
    omega (arith, paid vs c.value_size-n.ensures c.item_word-kind.ensures c.item_word.ensures c.item_word-2.ensures, small)

pub size_of_element-overflow_add-result-2 : goal.size_of_element-overflow_add-result-2
size_of_element-overflow_add-result-2 t c =
    let vs = c.args.values.now in
    let is = c.args.items.now in
    let there = element_there vs is c.args.at c.requires.1 in
    let small = value_small vs is c.args.at there (λ z. c.if-kind-eq0.false (c.item_word-kind.ensures ∙ z)) c.requires.0 c.requires.1 in
    record { fits = omega (arith, paid vs c.value_size-n.ensures c.item_word-kind.ensures c.item_word.ensures c.item_word-2.ensures, small, c.header_size-2.ensures.1) }

pub size_of_element-returns : goal.size_of_element-returns
size_of_element-returns t c =
    let vs = c.args.values.now in
    let is = c.args.items.now in
    let at = c.args.at in
    let there = element_there vs is at c.requires.1 in
    let is_value : get_or is (4 * at + 0) 0 ≡ 0 → ⊥ = λ z. c.if-kind-eq0.false (c.item_word-kind.ensures ∙ z) in
    let n = c.value_size-n.result in (
      value_sized vs is at there is_value n c.header_size-2.result (paid vs c.value_size-n.ensures c.item_word-kind.ensures c.item_word.ensures c.item_word-2.ensures)
          (c.header_size-2.ensures.0 ∙ ap (λ (x : ℕ). length (header_bytes x n)) c.item_word-id.ensures),
      value_in vs is at there is_value c.requires.1 _,
      kept_all at _,
    )

-- ---- a run

pub size_of_run-returns-then-item_count-at : goal.size_of_run-returns-then-item_count-at
size_of_run-returns-then-item_count-at t c =
    (past_sized c.args.values.now c.args.items.now c.args.at (omega (arith, c.item_count.ensures, c.if-item_count-at.true)), in_none _ c.args.at _, kept_all c.args.at _)

pub size_of_run-returns-then-item_word-eq6 : goal.size_of_run-returns-then-item_word-eq6
size_of_run-returns-then-item_word-eq6 t c =
    let there : c.args.at < length c.args.items.now / 4 = omega (arith, c.item_count.ensures, c.if-item_count-at.false) in
    (end_sized c.args.values.now c.args.items.now c.args.at there (sym c.item_word.ensures ∙ c.if-item_word-eq6.true), in_none _ c.args.at _, kept_all c.args.at _)

-- an element comes
pub size_of_run-size_of_element-first-requires : goal.size_of_run-size_of_element-first-requires
size_of_run-size_of_element-first-requires t c =
    let vs = c.args.values.now in
    let is = c.args.items.now in
    let at = c.args.at in
    let there : at < length is / 4 = omega (arith, c.item_count.ensures, c.if-item_count-at.false) in
    let no_end : get_or is (4 * at + 0) 0 ≡ 6 → ⊥ = λ z. c.if-item_word-eq6.false (c.item_word.ensures ∙ z) in
    (omega (arith, c.decreases, there), (c.requires.0, first_element vs is at there no_end c.requires.1, c.requires.2))

pub size_of_run-size_of_run-others-requires : goal.size_of_run-size_of_run-others-requires
size_of_run-size_of_run-others-requires t c =
    let vs = c.args.values.now in
    let is = c.args.items.now in
    let at = c.args.at in
    let there : at < length is / 4 = omega (arith, c.item_count.ensures, c.if-item_count-at.false) in
    let no_end : get_or is (4 * at + 0) 0 ≡ 6 → ⊥ = λ z. c.if-item_word-eq6.false (c.item_word.ensures ∙ z) in
    let f = c.size_of_element-first in
    let later = next_later vs is at there no_end f.result f.ensures.0 c.requires.1 in (
      omega (arith, c.decreases, later),
      (c.requires.0, other_elements vs is at there no_end f.result f.ensures.0 c.requires.1, omega (arith, f.auto.sizes, c.requires.2)),
    )

pub size_of_run-overflow_add-result : goal.size_of_run-overflow_add-result
size_of_run-overflow_add-result t c =
    let vs = c.args.values.now in
    let is = c.args.items.now in
    let at = c.args.at in
    let there : at < length is / 4 = omega (arith, c.item_count.ensures, c.if-item_count-at.false) in
    let no_end : get_or is (4 * at + 0) 0 ≡ 6 → ⊥ = λ z. c.if-item_word-eq6.false (c.item_word.ensures ∙ z) in
    let f = c.size_of_element-first in
    let o = c.size_of_run-others in
    record { fits = omega (arith, sum_bound vs is at there no_end f.result f.ensures.0 o.result o.ensures.0 c.requires.0 c.requires.1) }

pub size_of_run-returns-then-first : goal.size_of_run-returns-then-first
size_of_run-returns-then-first t c =
    let vs = c.args.values.now in
    let is = c.args.items.now in
    let at = c.args.at in
    let there : at < length is / 4 = omega (arith, c.item_count.ensures, c.if-item_count-at.false) in
    let no_end : get_or is (4 * at + 0) 0 ≡ 6 → ⊥ = λ z. c.if-item_word-eq6.false (c.item_word.ensures ∙ z) in
    let f = c.size_of_element-first in
    let o = c.size_of_run-others in
    let later = next_later vs is at there no_end f.result f.ensures.0 c.requires.1 in (
      run_sized vs is at there no_end f.result f.ensures.0 o.result o.ensures.0 o.result.fits (and_then c.if-first.true),
      in_both _ (in_same _ f.ensures.1 (λ j a u. o.ensures.2.same j u)) o.ensures.1,
      kept_both (omega (arith, later)) f.ensures.2 o.ensures.2,
    )

pub size_of_run-returns-else-first : goal.size_of_run-returns-else-first
size_of_run-returns-else-first t c =
    let vs = c.args.values.now in
    let is = c.args.items.now in
    let at = c.args.at in
    let there : at < length is / 4 = omega (arith, c.item_count.ensures, c.if-item_count-at.false) in
    let no_end : get_or is (4 * at + 0) 0 ≡ 6 → ⊥ = λ z. c.if-item_word-eq6.false (c.item_word.ensures ∙ z) in
    let f = c.size_of_element-first in
    let o = c.size_of_run-others in
    let later = next_later vs is at there no_end f.result f.ensures.0 c.requires.1 in (
      run_sized vs is at there no_end f.result f.ensures.0 o.result o.ensures.0 f.result.fits (and_else _ c.if-first.false),
      in_both _ (in_same _ f.ensures.1 (λ j a u. o.ensures.2.same j u)) o.ensures.1,
      kept_both (omega (arith, later)) f.ensures.2 o.ensures.2,
    )
