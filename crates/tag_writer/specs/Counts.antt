-- How many children the masters of a document have.
use Rattle.std.specs.Prelude.{ℕ, suc, List, [], ◌∷◌, ◌++◌}
use Rattle.tag_writer.specs.Document.{Element, value, master, Run, none, then}

-- how many elements stand in a run, one after the other: the number of a master's children, where they are these
unfoldable pub children_in : Run → ℕ
children_in none = 0
children_in (then e r) = suc (children_in r)

-- the number of children of each master in an element and in a run, in the order in which the masters end
unfoldable mutual
  pub element_counts : Element → List ℕ
  element_counts (value x v) = []
  element_counts (master x r) = run_counts r ++ (children_in r ∷ [])

  pub run_counts : Run → List ℕ
  run_counts none = []
  run_counts (then e r) = element_counts e ++ run_counts r
