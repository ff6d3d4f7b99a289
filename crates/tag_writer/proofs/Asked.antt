-- What refusal 43 asks of an element, taken apart. Assumes nothing.
use Prim.Native.Nat.{ℕ, ◌≤◌}
use mathlib.Core.Path.{◌≡◌}
use mathlib.Core.Bool.{true}
use mathlib.Core.List.{List, [], ◌∷◌, ◌++◌}
use borrow.Author.Tests.{leb-true}
use lib.ListN.{length}
use Rattle.table.specs.Table.{Entry, data_type_of, is_master}
use Rattle.basics.proofs.Bools.{both}
use Rattle.tag_writer.specs.Document.{Value, Element, value, master, Run, then, payload, size_of_run}
use Rattle.tag_writer.specs.Write.{reads_back, goes_in, is_of_kind, good_element, good_run}

pub record AskedValue (t : List Entry) (opened : List ℕ) (x : ℕ) (v : Value) : Type 0 where
  pub back : reads_back x ≡ true
  pub goes : goes_in t opened x ≡ true
  pub kind : is_of_kind (data_type_of t x) v ≡ true
  pub size : length (payload v) ≤ 4_000_000_000

pub record AskedMaster (t : List Entry) (opened : List ℕ) (x : ℕ) (r : Run) : Type 0 where
  pub back : reads_back x ≡ true
  pub goes : goes_in t opened x ≡ true
  pub kind : is_master (data_type_of t x) ≡ true
  pub size : size_of_run r ≤ 4_000_000_000
  pub children : good_run t (opened ++ (x ∷ [])) r ≡ true

pub asked_value : (t : List Entry) (opened : List ℕ) (x : ℕ) (v : Value) → good_element t opened (value x v) ≡ true → AskedValue t opened x v
unfolding good_element
asked_value t opened x v g =
    let c = both _ _ g in
    let b = both _ _ c.left in
    let a = both _ _ b.left in
    record { back = a.left; goes = a.right; kind = b.right; size = leb-true _ _ c.right }

pub asked_master : (t : List Entry) (opened : List ℕ) (x : ℕ) (r : Run) → good_element t opened (master x r) ≡ true → AskedMaster t opened x r
unfolding good_element
asked_master t opened x r g =
    let d = both _ _ g in
    let c = both _ _ d.left in
    let b = both _ _ c.left in
    let a = both _ _ b.left in
    record { back = a.left; goes = a.right; kind = b.right; size = leb-true _ _ c.right; children = d.right }

pub asked_run : (t : List Entry) (opened : List ℕ) (e : Element) (r : Run) → good_run t opened (then e r) ≡ true → (good_element t opened e ≡ true) × (good_run t opened r ≡ true)
unfolding good_element
asked_run t opened e r g = let b = both _ _ g in (b.left, b.right)
