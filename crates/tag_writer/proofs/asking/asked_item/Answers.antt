-- `tag_writer::asking::asked_item`: one law for each answer. Assumes nothing.
use mathlib.Core.Path.{sym, ap, ◌∙◌}
use mathlib.Core.Bool.{◌&&◌}
use lib.Dec.{leb}
use lib.ListN.{length, take}
use Rattle.table.specs.Table.{table_of, is_master}
use Rattle.table.specs.declared.types.TagDataType.{TagDataType}
use Rattle.tag_writer.specs.Document.{payload}
use Rattle.tag_writer.specs.Items.{value_at}
use Rattle.tag_writer.specs.Write.{is_of_kind, greatest_size}
use Rattle.tag_writer.proofs.AskedLaws.{item_end, item_back, item_place, item_master, item_value}
use Rattle.tag_writer.proofs.asking.asked_item.Goals as goal

pub returns-then-kind-eq6 : goal.returns-then-kind-eq6
returns-then-kind-eq6 c =
    let a = c.args in
    let t = table_of a.entries.now a.parts.now in
    let o = take a.depth a.ids.now in
    item_end t o a.values.now a.kind a.id a.offset a.n c.if-kind-eq6.true

pub returns-then-not-reads_back : goal.returns-then-not-reads_back
returns-then-not-reads_back c =
    let a = c.args in
    let t = table_of a.entries.now a.parts.now in
    let o = take a.depth a.ids.now in
    item_back t o a.values.now a.kind a.id a.offset a.n c.if-kind-eq6.false (sym c.reads_back.ensures ∙ c.if-not-reads_back.true)

pub returns-then-not-goes_in : goal.returns-then-not-goes_in
returns-then-not-goes_in c =
    let a = c.args in
    let t = table_of a.entries.now a.parts.now in
    let o = take a.depth a.ids.now in
    item_place t o a.values.now a.kind a.id a.offset a.n c.if-kind-eq6.false (sym c.reads_back.ensures ∙ c.if-not-reads_back.false) (sym c.goes_in.ensures ∙ c.if-not-goes_in.true)

pub returns-then-kind-eq0 : goal.returns-then-kind-eq0
returns-then-kind-eq0 c =
    let a = c.args in
    let t = table_of a.entries.now a.parts.now in
    let o = take a.depth a.ids.now in
    item_master t o a.values.now a.kind a.id a.offset a.n c.if-kind-eq6.false (sym c.reads_back.ensures ∙ c.if-not-reads_back.false) (sym c.goes_in.ensures ∙ c.if-not-goes_in.false) c.is_master.result c.if-kind-eq0.true (c.is_master.ensures ∙ ap is_master c.get_tag_data_type-want.ensures)

pub returns : goal.returns
returns c =
    let a = c.args in
    let t = table_of a.entries.now a.parts.now in
    let o = take a.depth a.ids.now in
    item_value t o a.values.now a.kind a.id a.offset a.n c.if-kind-eq6.false (sym c.reads_back.ensures ∙ c.if-not-reads_back.false) (sym c.goes_in.ensures ∙ c.if-not-goes_in.false) c.good_value.result c.if-kind-eq0.false
    (c.good_value.ensures ∙ ap (λ (k : TagDataType). is_of_kind k (value_at a.values.now a.kind a.offset a.n) && leb (length (payload (value_at a.values.now a.kind a.offset a.n))) greatest_size) c.get_tag_data_type-want.ensures)
