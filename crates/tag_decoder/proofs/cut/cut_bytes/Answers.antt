-- `tag_decoder::cut::cut_bytes`: the ID, then the size vint after it, as far as they were read. Assumes nothing.
use Prim.Native.Nat.{ℕ, ◌+◌, ◌≤◌}
use mathlib.Core.Path.{◌≡◌, sym, ap, ◌∙◌}
use native.Mathlib.Omega.{arith}
use lib.ListN.{length, drop, length-drop}
use Rattle.tools.specs.Vint.{read_vint, Front}
use Rattle.tools.proofs.Rfc8794.{read_sound}
use Rattle.tag_parse.proofs.Cases.{IdFront, id_front, octets_drop, rest_is}
use Rattle.decoder_rules.specs.EndOfInput.{cut_size, cut_bytes}
use Rattle.tag_decoder.proofs.cut.cut_bytes.Goals as goal
use Rattle.std.specs.Prelude.{Ok}
use Rattle.tools.specs.declared.status.Status.TheVariants as status

pub returns-in_default : goal.returns-in_default
unfolding cut_bytes
returns-in_default c = c.cut_at.ensures ∙ rw (← c.read_tag_id.ensures, c.in_default.is)

pub slice_bounds-read_vint-count : goal.slice_bounds-read_vint-count
slice_bounds-read_vint-count c =
    let id_of : IdFront c.in-Complete.id_len c.args.input.now = id_front _ (c.type_inv.input 0).fits (sym c.read_tag_id.ensures ∙ c.in-Complete.is) in
    omega (arith, id_of.whole)

pub slice_bounds-read_vint-start : goal.slice_bounds-read_vint-start
slice_bounds-read_vint-start c =
    let id_of : IdFront c.in-Complete.id_len c.args.input.now = id_front _ (c.type_inv.input 0).fits (sym c.read_tag_id.ensures ∙ c.in-Complete.is) in
    omega (arith, id_of.whole)

pub overflow_add-id_len : goal.overflow_add-id_len
overflow_add-id_len c =
    let id_of : IdFront c.in-Complete.id_len c.args.input.now = id_front _ (c.type_inv.input 0).fits (sym c.read_tag_id.ensures ∙ c.in-Complete.is) in
    let vint-at : c.read_vint.result ≡ read_vint (drop c.in-Complete.id_len c.args.input.now) =
    c.read_vint.ensures
    ∙ ap read_vint (rest_is c.in-Complete.id_len c.args.input.now) in
    let size-front : (v L : ℕ) → c.read_vint.result ≡ Ok (status.Complete (v, L)) → Front L v (drop c.in-Complete.id_len c.args.input.now) =
    λ v L e. let s = c.args.input.now in
    read_sound _ _ _ (octets_drop c.in-Complete.id_len s (λ i. (c.type_inv.input i).fits)) (sym vint-at ∙ e) in
    let fits : c.in-Complete.id_len + c.in-Ok-Complete.length ≤ length c.args.input.now =
    let i = id_of in
    let f = size-front _ _ (c.in-Ok-Complete.is ∙ ap Ok c.in-Ok-Complete.field-0-is) in
    let s = c.args.input.now in
    omega (arith, f.whole, i.whole, length-drop c.in-Complete.id_len s) in
    let f = fits in omega arith

pub cut_sized-requires : goal.cut_sized-requires
cut_sized-requires c =
    let id_of : IdFront c.in-Complete.id_len c.args.input.now = id_front _ (c.type_inv.input 0).fits (sym c.read_tag_id.ensures ∙ c.in-Complete.is) in
    let vint-at : c.read_vint.result ≡ read_vint (drop c.in-Complete.id_len c.args.input.now) =
    c.read_vint.ensures
    ∙ ap read_vint (rest_is c.in-Complete.id_len c.args.input.now) in
    let size-front : (v L : ℕ) → c.read_vint.result ≡ Ok (status.Complete (v, L)) → Front L v (drop c.in-Complete.id_len c.args.input.now) =
    λ v L e. let s = c.args.input.now in
    read_sound _ _ _ (octets_drop c.in-Complete.id_len s (λ i. (c.type_inv.input i).fits)) (sym vint-at ∙ e) in
    let fits : c.in-Complete.id_len + c.in-Ok-Complete.length ≤ length c.args.input.now =
    let i = id_of in
    let f = size-front _ _ (c.in-Ok-Complete.is ∙ ap Ok c.in-Ok-Complete.field-0-is) in
    let s = c.args.input.now in
    omega (arith, f.whole, i.whole, length-drop c.in-Complete.id_len s) in
    let f = fits in omega arith

pub returns-in-Ok-Complete : goal.returns-in-Ok-Complete
unfolding cut_bytes
returns-in-Ok-Complete c =
    let vint-at : c.read_vint.result ≡ read_vint (drop c.in-Complete.id_len c.args.input.now) =
    c.read_vint.ensures
    ∙ ap read_vint (rest_is c.in-Complete.id_len c.args.input.now) in
    let cut_of : (p : ℕ) → cut_bytes p c.args.input.now ≡ cut_size p (length c.args.input.now) c.in-Complete.id c.in-Complete.id_len c.read_vint.result = λ p. rw (sym c.read_tag_id.ensures ∙ c.in-Complete.is, ← vint-at) in
    c.cut_sized.ensures ∙ rw c.size_of.ensures (sym (cut_of _ ∙ rw (c.in-Ok-Complete.is ∙ ap Ok c.in-Ok-Complete.field-0-is)))

pub returns-in-Ok-NeedMore : goal.returns-in-Ok-NeedMore
unfolding cut_bytes
returns-in-Ok-NeedMore c =
    let vint-at : c.read_vint.result ≡ read_vint (drop c.in-Complete.id_len c.args.input.now) =
    c.read_vint.ensures
    ∙ ap read_vint (rest_is c.in-Complete.id_len c.args.input.now) in
    let cut_of : (p : ℕ) → cut_bytes p c.args.input.now ≡ cut_size p (length c.args.input.now) c.in-Complete.id c.in-Complete.id_len c.read_vint.result = λ p. rw (sym c.read_tag_id.ensures ∙ c.in-Complete.is, ← vint-at) in
    c.cut_at-in-Ok-NeedMore.ensures ∙ sym (cut_of _ ∙ rw (c.in-Ok-NeedMore.is ∙ ap Ok c.in-Ok-NeedMore.field-0-is))

pub returns-in-Err : goal.returns-in-Err
unfolding cut_bytes
returns-in-Err c =
    let vint-at : c.read_vint.result ≡ read_vint (drop c.in-Complete.id_len c.args.input.now) =
    c.read_vint.ensures
    ∙ ap read_vint (rest_is c.in-Complete.id_len c.args.input.now) in
    let cut_of : (p : ℕ) → cut_bytes p c.args.input.now ≡ cut_size p (length c.args.input.now) c.in-Complete.id c.in-Complete.id_len c.read_vint.result = λ p. rw (sym c.read_tag_id.ensures ∙ c.in-Complete.is, ← vint-at) in
    c.cut_at-in-Err.ensures ∙ sym (cut_of _ ∙ rw c.in-Err.is)
