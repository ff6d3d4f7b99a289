-- A range of parts: how many of them are there, and which one stands at a place. Assumes nothing.
use Prim.Native.Nat.{ℕ, ◌+◌, ◌-◌, ◌/◌, ◌≤◌, ◌<◌, min}
use mathlib.Core.Path.{◌≡◌, ◌∙◌}
use mathlib.Core.List.{List}
use native.Mathlib.Omega.{arith}
use lib.ListN.{length, get_or, take, drop, length-take, length-drop}
use lib.Seq.{get_or-take, get_or-drop, take-take}
use Rattle.table.specs.Table.{parts_of, parts_in}
use Rattle.table.specs.declared.types.Path.{Path}
use Rattle.table.specs.declared.types.PathPart.{PathPart}
use Rattle.table.proofs.Words.{length-threes}

pub length-within : (ps : List PathPart) (p : Path) → length (parts_in ps p) ≡ min p.count (length ps - p.first)
length-within ps p = simp (length-take, length-drop)

pub length_path : (ws : List ℕ) (p : Path) → length (parts_in (parts_of ws) p) ≡ min p.count (length ws / 3 - p.first)
length_path ws p = simp (length-take, length-drop, length-threes)

pub within_at : (ps : List PathPart) (p : Path) (i : ℕ) (z : PathPart) → i < length (parts_in ps p)
    → get_or (parts_in ps p) i z ≡ get_or ps (p.first + i) z
within_at ps p i z h =
    let l : i < p.count = omega (arith, length-within ps p) in
    get_or-take p.count (drop p.first ps) i z l ∙ get_or-drop p.first ps i z

-- the first parts of a range are a range
pub within_front : (ps : List PathPart) (p : Path) (i : ℕ) → i ≤ length (parts_in ps p)
    → take i (parts_in ps p) ≡ parts_in ps (record { first = p.first; count = i })
within_front ps p i h = take-take i p.count (drop p.first ps) (omega (arith, length-within ps p))
