-- `tag_parse::header::read_header`: the ID, then the size vint after it, then the type. Assumes nothing.
use Prim.Native.Nat.{ℕ}
use mathlib.Core.Path.{◌≡◌, sym, ap, ◌∙◌}
use mathlib.Core.List.{List}
use native.Mathlib.Omega.{arith}
use lib.ListN.{drop}
use Rattle.tools.specs.Vint.{Front, read_vint}
use Rattle.table.specs.Table.{Entry, spec_for}
use Rattle.tag_parse.specs.Header.{read_tag_id, id_missing, sized, read_header}
use Rattle.tools.proofs.Rfc8794.{read_sound}
use Rattle.tag_parse.proofs.Cases.{IdFront, id_front, octets_drop, rest_is, header_none, header_sized}
use Rattle.tag_parse.proofs.Missing.{id_missing_few}
use Rattle.tag_parse.proofs.header.read_header.Goals as goal
use Rattle.std.specs.Prelude.{Ok}
use Rattle.tools.specs.declared.status.Status.TheVariants as status

pub overflow_add-result : goal.overflow_add-result
overflow_add-result c =
    let s = c.args.input.now in
    let few = id_missing_few s in
    let e : c.in-NeedMore.missing ≡ id_missing (read_tag_id s) = ap id_missing (sym c.in-NeedMore.is ∙ c.read_tag_id.ensures) in
    omega arith

pub slice_bounds-read_vint-start : goal.slice_bounds-read_vint-start
slice_bounds-read_vint-start c =
    let f : IdFront c.in-Complete.id_len c.args.input.now = id_front _ (c.type_inv.input 0).fits (sym c.read_tag_id.ensures ∙ c.in-Complete.is) in
    f.whole

pub slice_bounds-read_vint-count : goal.slice_bounds-read_vint-count
slice_bounds-read_vint-count c =
    let id_of : IdFront c.in-Complete.id_len c.args.input.now = id_front _ (c.type_inv.input 0).fits (sym c.read_tag_id.ensures ∙ c.in-Complete.is) in
    let f = id_of in omega (arith, f.whole)

pub with_size-requires : goal.with_size-requires
with_size-requires c =
    let id_of : IdFront c.in-Complete.id_len c.args.input.now = id_front _ (c.type_inv.input 0).fits (sym c.read_tag_id.ensures ∙ c.in-Complete.is) in
    let vint-at : c.read_vint.result ≡ read_vint (drop c.in-Complete.id_len c.args.input.now) = c.read_vint.ensures
    ∙ ap read_vint (rest_is c.in-Complete.id_len c.args.input.now) in
    let size-front : (v L : ℕ) → c.read_vint.result ≡ Ok (status.Complete (v, L)) → Front L v (drop c.in-Complete.id_len c.args.input.now) = λ v L e. let s = c.args.input.now in
    read_sound _ _ _ (octets_drop c.in-Complete.id_len s (λ i. (c.type_inv.input i).fits)) (sym (vint-at) ∙ e) in
    ((id_of).most, (size-front _ _ (c.in-Ok-Complete.is ∙ ap Ok c.in-Ok-Complete.field-0-is)).vint.at_most_8)

pub returns-in-NeedMore : goal.returns-in-NeedMore
returns-in-NeedMore c = sym (header_none _ _ (sym c.read_tag_id.ensures ∙ c.in-NeedMore.is))

pub returns-in-Ok-NeedMore : goal.returns-in-Ok-NeedMore
unfolding sized
returns-in-Ok-NeedMore c =
    let vint-at : c.read_vint.result ≡ read_vint (drop c.in-Complete.id_len c.args.input.now) = c.read_vint.ensures
    ∙ ap read_vint (rest_is c.in-Complete.id_len c.args.input.now) in
    let sized_of : (t : List Entry) → read_header t c.args.input.now ≡ sized c.in-Complete.id (spec_for t c.in-Complete.id) c.in-Complete.id_len c.read_vint.result = λ t. header_sized t _ (sym c.read_tag_id.ensures ∙ c.in-Complete.is) (vint-at) in
    sym (sized_of _ ∙ rw (c.in-Ok-NeedMore.is ∙ ap Ok c.in-Ok-NeedMore.field-0-is))

pub returns-in-Err : goal.returns-in-Err
unfolding sized
returns-in-Err c =
    let vint-at : c.read_vint.result ≡ read_vint (drop c.in-Complete.id_len c.args.input.now) = c.read_vint.ensures
    ∙ ap read_vint (rest_is c.in-Complete.id_len c.args.input.now) in
    let sized_of : (t : List Entry) → read_header t c.args.input.now ≡ sized c.in-Complete.id (spec_for t c.in-Complete.id) c.in-Complete.id_len c.read_vint.result = λ t. header_sized t _ (sym c.read_tag_id.ensures ∙ c.in-Complete.is) (vint-at) in
    sym (sized_of _ ∙ rw c.in-Err.is)

pub returns-in-Ok-Complete : goal.returns-in-Ok-Complete
unfolding sized
returns-in-Ok-Complete c =
    let vint-at : c.read_vint.result ≡ read_vint (drop c.in-Complete.id_len c.args.input.now) = c.read_vint.ensures
    ∙ ap read_vint (rest_is c.in-Complete.id_len c.args.input.now) in
    let sized_of : (t : List Entry) → read_header t c.args.input.now ≡ sized c.in-Complete.id (spec_for t c.in-Complete.id) c.in-Complete.id_len c.read_vint.result = λ t. header_sized t _ (sym c.read_tag_id.ensures ∙ c.in-Complete.is) (vint-at) in
    c.with_size.ensures ∙ rw c.look_up.ensures (sym (sized_of _ ∙ rw (c.in-Ok-Complete.is ∙ ap Ok c.in-Ok-Complete.field-0-is)))
