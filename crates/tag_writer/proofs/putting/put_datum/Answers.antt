-- `tag_writer::putting::put_datum`: the header and the payload. Assumes nothing.
use Prim.Native.Nat.{ℕ, ◌+◌}
use mathlib.Core.Path.{◌≡◌, refl, ap, ◌∙◌}
use mathlib.Core.List.{List}
use native.Mathlib.Omega.{arith}
use lib.ListN.{length, length-append}
use lib.Seq.{paste}
use Rattle.tag_writer.specs.Document.{payload, header_bytes}
use Rattle.tag_writer.specs.Items.{value_at}
use Rattle.tag_writer.proofs.HeaderPut.{two_puts}
use Rattle.tag_writer.proofs.putting.put_datum.Goals as goal

pub returns : goal.returns
returns c =
    let a = c.args in
    let P = payload (value_at a.values.now a.kind a.offset a.n) in
    let H = header_bytes a.id (length P) in
    let G = header_bytes a.id c.value_size.result in
    let h : G ≡ H = ap (λ (m : ℕ). header_bytes a.id m) c.value_size.ensures in
    let sum = length-append H P in
    let first = c.put_header-middle.ensures.1 ∙ ap (λ (b : List ℕ). paste a.out.now a.at b (length b)) h in
    let place : c.put_header-middle.result ≡ a.at + length H = c.put_header-middle.ensures.0 ∙ ap (λ (b : List ℕ). a.at + length b) h in
    let second = c.put_value.ensures.1 ∙ ap (λ (m : ℕ). paste c.put_header-middle.new.out m P (length P)) place in (
      omega (arith, c.put_value.ensures.0, place, sum),
      two_puts a.out.now c.put_header-middle.new.out c.put_value.new.out H P a.at (length H) (length P) refl refl (omega (arith, c.requires.1, sum)) first second,
    )
