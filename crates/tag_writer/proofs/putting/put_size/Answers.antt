-- `tag_writer::putting::put_size`: the first bytes of what `as_vint` writes. Assumes nothing.
use Prim.Native.Nat.{ℕ, ◌+◌}
use mathlib.Core.Path.{refl, ap, ◌∙◌}
use mathlib.Core.List.{List}
use native.Mathlib.Omega.{arith}
use lib.ListN.{take, drop}
use lib.Seq.{paste}
use Rattle.tools.specs.Vint.{vint_width}
use Rattle.tag_writer.proofs.HeaderPut.{size_short, size_is, size_never, size_first, size_room}
use Rattle.tag_writer.proofs.putting.put_size.Goals as goal

pub put_part-requires : goal.put_part-requires
put_part-requires c =
    let n = c.args.n in
    let w = size_is n _ _ _ c.requires.0 refl c.as_vint.ensures c.in-Ok.is in
    let l = size_room n _ _ _ c.requires.0 refl c.as_vint.ensures in
    (omega (arith, l, w, (size_short n).1), omega (arith, w, c.requires.1))

pub overflow_add-result : goal.overflow_add-result
overflow_add-result c =
    let w = size_is c.args.n _ _ _ c.requires.0 refl c.as_vint.ensures c.in-Ok.is in
    record { fits = omega (arith, w, c.requires.1) }

pub returns-in-Ok : goal.returns-in-Ok
returns-in-Ok c =
    let a = c.args in
    let w = size_is a.n _ _ _ c.requires.0 refl c.as_vint.ensures c.in-Ok.is in
    let first = size_first a.n _ _ _ c.requires.0 refl c.as_vint.ensures in (
      ap (λ (j : ℕ). a.at + j) w,
      c.put_part.ensures ∙ ap (λ (j : ℕ). paste a.out.now a.at (take j (drop 0 c.as_vint.new.out)) j) w
          ∙ ap (λ (l : List ℕ). paste a.out.now a.at l (vint_width a.n)) first,
    )

pub returns-in-Err : goal.returns-in-Err
returns-in-Err c =
    absurd (size_never c.args.n _ _ _ c.requires.0 refl c.as_vint.ensures c.in-Err.is)
