-- How many masters stand directly in the roots of a document: of a night written as one root, its feeds.
use Rattle.std.specs.Prelude.{ℕ, suc, ◌+◌, Bool, false}
use Rattle.tag_writer.specs.Document.{Element, value, master, Run, none, then}
use Rattle.written.specs.Cut.{is_master_element}

-- whether a document begins with a master: the first item is a Start
abbrev pub begins_with_root : Run → Bool
begins_with_root none = false
begins_with_root (then e r) = is_master_element e

-- how many of the elements of a run are masters
unfoldable pub masters_in : Run → ℕ
masters_in none = 0
masters_in (then (value x v) r) = masters_in r
masters_in (then (master x children) r) = suc (masters_in r)

-- how many masters are children of an element
abbrev pub masters_in_element : Element → ℕ
masters_in_element (value x v) = 0
masters_in_element (master x children) = masters_in children

-- how many masters stand directly in the roots of a document
unfoldable pub masters_in_roots : Run → ℕ
masters_in_roots none = 0
masters_in_roots (then e r) = masters_in_element e + masters_in_roots r
