-- `tag_writer::items::value_size`: one law for each answer. Assumes nothing.
use Prim.Native.Nat.{ℕ, ◌+◌, ◌≤◌}
use mathlib.Core.Path.{ap, ◌∙◌}
use lib.ListN.{length, take, drop}
use Rattle.tools.specs.Bytes.{be_number}
use Rattle.tag_writer.proofs.ValueLaws.{lies, lies_not, size_outside, size_text_lem, size_binary, size_short, size_float, size_unsigned, size_integer, size_none}
use Rattle.tag_writer.proofs.items.value_size.Goals as goal

pub returns-then-not-lies_in : goal.returns-then-not-lies_in
returns-then-not-lies_in c =
    let a = c.args in
    size_outside a.values.now a.kind a.offset a.n (lies_not c.lies_in.ensures c.if-not-lies_in.true)

pub returns-then-kind-eq3 : goal.returns-then-kind-eq3
returns-then-kind-eq3 c =
    let a = c.args in
    let inside : a.offset + a.n ≤ length a.values.now = lies c.lies_in.ensures c.if-not-lies_in.false in
    size_text_lem a.values.now a.kind a.offset a.n inside c.if-kind-eq3.true

pub returns-then-kind-eq4 : goal.returns-then-kind-eq4
returns-then-kind-eq4 c =
    let a = c.args in
    let inside : a.offset + a.n ≤ length a.values.now = lies c.lies_in.ensures c.if-not-lies_in.false in
    size_binary a.values.now a.kind a.offset a.n inside c.if-kind-eq4.true

pub returns-then-n-ne8 : goal.returns-then-n-ne8
returns-then-n-ne8 c =
    let a = c.args in
    let inside : a.offset + a.n ≤ length a.values.now = lies c.lies_in.ensures c.if-not-lies_in.false in
    size_short a.values.now a.kind a.offset a.n inside c.if-kind-eq3.false c.if-kind-eq4.false c.if-n-ne8.true

pub returns-then-kind-eq5 : goal.returns-then-kind-eq5
returns-then-kind-eq5 c =
    let a = c.args in
    let inside : a.offset + a.n ≤ length a.values.now = lies c.lies_in.ensures c.if-not-lies_in.false in
    size_float a.values.now a.kind a.offset a.n inside c.if-n-ne8.false c.if-kind-eq5.true

pub returns-then-kind-eq1 : goal.returns-then-kind-eq1
returns-then-kind-eq1 c =
    let a = c.args in
    let inside : a.offset + a.n ≤ length a.values.now = lies c.lies_in.ensures c.if-not-lies_in.false in
    size_unsigned a.values.now a.kind a.offset a.n inside c.if-n-ne8.false c.unsigned_size.result c.eight.result c.if-kind-eq1.true c.unsigned_size.ensures
    (c.eight.ensures ∙ ap (λ (k : ℕ). be_number (take 8 (drop k a.values.now))) c.index-from.ensures)

pub returns-then-kind-eq2 : goal.returns-then-kind-eq2
returns-then-kind-eq2 c =
    let a = c.args in
    let inside : a.offset + a.n ≤ length a.values.now = lies c.lies_in.ensures c.if-not-lies_in.false in
    size_integer a.values.now a.kind a.offset a.n inside c.if-n-ne8.false c.integer_size.result c.eight-then-kind-eq2.result c.if-kind-eq2.true c.integer_size.ensures
    (c.eight-then-kind-eq2.ensures ∙ ap (λ (k : ℕ). be_number (take 8 (drop k a.values.now))) c.index-from.ensures)

pub returns : goal.returns
returns c =
    let a = c.args in
    let inside : a.offset + a.n ≤ length a.values.now = lies c.lies_in.ensures c.if-not-lies_in.false in
    size_none a.values.now a.kind a.offset a.n inside c.if-n-ne8.false c.if-kind-eq1.false c.if-kind-eq2.false c.if-kind-eq3.false c.if-kind-eq4.false c.if-kind-eq5.false
