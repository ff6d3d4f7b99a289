-- Where an element goes, as the code tests it; and that an ID reads back. Assumes nothing.
use Prim.Native.Nat.{ℕ, ◌+◌, ◌≤◌, ◌<◌}
use mathlib.Core.Path.{◌≡◌, refl, sym, ap, ◌∙◌}
use mathlib.Core.Bool.{Bool, true, false, ◌&&◌}
use mathlib.Core.List.{List, [], ◌∷◌, map}
use native.Mathlib.Omega.{arith}
use lib.ListN.{length, get_or, take, drop, length-map, get_or-map}
use lib.Seq.{get_or-take, length-take-le}
use Rattle.table.specs.Table.{table_of, parts_of, parts_in, path_of, range_of, same_part, same_path}
use Rattle.table.specs.declared.types.Path.{Path}
use Rattle.table.specs.declared.types.PathPart.{PathPart}
use Rattle.table.specs.declared.types.PathPart.TheVariants.{Id, Global}
use Rattle.table.proofs.Entries.{path_of_lem}
use Rattle.table.proofs.Same.{same_lengths, same_fails, same_next, same_end}
use Rattle.tag_parse.specs.Header.{read_tag_id}
use Rattle.tag_writer.specs.Document.{id_width, id_bytes}
use Rattle.tag_writer.specs.Write.{is_this_id, reads_back, anywhere, goes_in}
use Rattle.tag_writer.proofs.WidthLaws.{id_length_lem}
use Rattle.std.specs.Prelude.{None}
use Rattle.tools.specs.declared.status.Status.{Status}

-- ---- a single Global without bounds

and-true : (a : Bool) → (a && true) ≡ a
and-true true = refl
and-true false = refl

pub not_one : (path : List PathPart) → (length path ≡ 1 → ⊥) → false ≡ anywhere path
unfolding anywhere
not_one path h = sym (same_lengths path (Global None None ∷ []) h)

pub one_part : (path : List PathPart) → length path ≡ 1 → same_part (get_or path 0 (Id 0)) (Global None None) ≡ anywhere path
unfolding anywhere same_path
one_part [] h = absurd (omega arith)
one_part (p ∷ []) h = sym (and-true (same_part p (Global None None)))
one_part (p ∷ q ∷ r) h = absurd (omega arith)

-- ---- these IDs

module _ (path : List PathPart) (ids : List ℕ) (depth : ℕ) (there : depth ≤ length ids) where
  abbrev stack : List PathPart
  stack = map Id (take depth ids)

  pub stack_length : length stack ≡ depth
  stack_length = length-map (take depth ids) Id ∙ length-take-le depth ids there

  pub stack_at : (i : ℕ) → i < depth → get_or stack i (Id 0) ≡ Id (get_or ids i 0)
  stack_at i h = get_or-map Id (take depth ids) i 0 ∙ ap Id (get_or-take depth ids i 0 h)

  pub other_count : (length path ≡ depth → ⊥) → false ≡ same_path path stack
  other_count h = sym (same_lengths path stack (λ e. h (e ∙ stack_length)))

  module _ (count : length path ≡ depth) (i : ℕ) (h : i < depth) where
    pub stack_fails : same_part (get_or path i (Id 0)) (Id (get_or ids i 0)) ≡ false → same_path (drop i path) (drop i stack) ≡ false
    stack_fails e = same_fails path stack (Id 0) i (omega arith) (omega (arith, stack_length)) (ap (same_part (get_or path i (Id 0))) (stack_at i h) ∙ e)

    pub stack_next : same_part (get_or path i (Id 0)) (Id (get_or ids i 0)) ≡ true → same_path (drop i path) (drop i stack) ≡ same_path (drop (i + 1) path) (drop (i + 1) stack)
    stack_next e = same_next path stack (Id 0) i (omega arith) (omega (arith, stack_length)) (ap (same_part (get_or path i (Id 0))) (stack_at i h) ∙ e)

  pub stack_end : (i : ℕ) → length path ≡ depth → depth ≤ i → same_path (drop i path) (drop i stack) ≡ true
  stack_end i c h = same_end path stack i (omega arith) (omega (arith, stack_length))

-- ---- either

module _ (es ps opened : List ℕ) (x : ℕ) (r : Path) (is : r ≡ range_of (table_of es ps) x) where
  path_is : parts_in (parts_of ps) r ≡ path_of (table_of es ps) x
  path_is = path_of_lem es ps x is

  pub goes_anywhere : anywhere (parts_in (parts_of ps) r) ≡ true → true ≡ goes_in (table_of es ps) opened x
  unfolding goes_in
  goes_anywhere e = let f : anywhere (path_of (table_of es ps) x) ≡ true = ap anywhere (sym path_is) ∙ e in rw f

  pub goes_there : (b : Bool) → anywhere (parts_in (parts_of ps) r) ≡ false → b ≡ same_path (parts_in (parts_of ps) r) (map Id opened) → b ≡ goes_in (table_of es ps) opened x
  unfolding goes_in
  goes_there b e g =
      let f : anywhere (path_of (table_of es ps) x) ≡ false = ap anywhere (sym path_is) ∙ e in
      rw f (g ∙ ap (λ (p : List PathPart). same_path p (map Id opened)) path_is)

-- ---- an ID

module _ (x w : ℕ) (o : List ℕ) (ew : w ≡ id_width x) (last : o ≡ id_bytes x) where
  pub reads_is : (r : Status (ℕ × ℕ)) → r ≡ read_tag_id o → is_this_id x w r ≡ reads_back x
  unfolding reads_back
  reads_is r e = let l : length (id_bytes x) ≡ w = id_length_lem x ∙ sym ew in rw (l, e, last)
