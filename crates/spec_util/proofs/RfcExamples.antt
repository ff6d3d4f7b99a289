-- Worked examples of RFC 8794 beside the port and the strict mode, a list and a theorem for who ends whom (section 6.2),
-- and for where an element belongs (section 11.1.6). Where the answers differ, the comment says why. Assumes nothing.
use Prim.Native.Nat.{ℕ}
use mathlib.Core.Path.{◌≡◌, refl}
use mathlib.Core.Bool.{Bool, true, false}
use mathlib.Core.List.{List, [], ◌∷◌, map}
use Rattle.table.specs.Table.{Entry, table_of, path_of}
use Rattle.table.specs.BenchTable.{bench_entries, bench_parts, bench}
use Rattle.table.specs.Check.{checked_number, check_table}
use Rattle.spec_util.specs.Ended.{is_ended_by, is_ended_strictly}
use Rattle.spec_util.specs.Walk.{validate_tag_path, shown_as}
use Rattle.spec_util.specs.Rfc8794.{path_names, read_one_way, is_ended_by_rfc}
use Rattle.spec_util.proofs.Computing.{walks_compute}
use Rattle.spec_util.proofs.Examples.{globals}

-- ---- who ends whom

-- what the check answers of a table, and whether an ID ends a master, by the port, strictly and by the RFC
abbrev pub Ending : Type 0
Ending = ℕ × Bool × Bool × Bool

abbrev pub ends : List ℕ → List ℕ → ℕ → ℕ → Ending
ends es ps master id =
    let t = table_of es ps in
    (checked_number (check_table es ps), is_ended_by t master id, is_ended_strictly t master id, is_ended_by_rfc t master id)

abbrev pub in_bench : ℕ → ℕ → Ending
in_bench master id = ends bench_entries bench_parts master id

abbrev pub endings : List (Ending × Ending)
endings =
    -- Feed, by its parent, by another Feed, and not by a child
    (in_bench 0xA1 0x4E01, (0, true, true, true))
    ∷ (in_bench 0xA1 0xA1, (0, true, true, true))
    ∷ (in_bench 0xA1 0xA2, (0, false, false, false))
    -- Session, by another Session, and not by a Feed
    ∷ (in_bench 0x4E01 0x4E01, (0, true, true, true))
    ∷ (in_bench 0x4E01 0xA1, (0, false, false, false))
    -- Void, a global element, ends neither
    ∷ (in_bench 0xA1 0xEC, (0, false, false, false))
    ∷ (in_bench 0x4E01 0xEC, (0, false, false, false))
    -- an ID that the table does not have ends no Feed, but as ported Session, a root: D10
    ∷ (in_bench 0xA1 0x81, (0, false, false, false))
    ∷ (in_bench 0x4E01 0x81, (0, true, false, false))
    -- Void, which is no Master and never open in a checked table, by Void: equal paths, but a global element
    ∷ (in_bench 0xEC 0xEC, (0, true, false, false))
    -- rule 33 broken: the Master 86 and 87 have one Global as path
    ∷ (ends (0x86 ∷ 0 ∷ 0 ∷ 1 ∷ 0x87 ∷ 4 ∷ 0 ∷ 1 ∷ []) (1 ∷ 0 ∷ 0 ∷ []) 0x86 0x87, (33, true, false, false))
    -- rule 34 broken: the Master 82 stands in 81, which the table does not have
    ∷ (ends (0x82 ∷ 0 ∷ 0 ∷ 1 ∷ []) (0 ∷ 0x81 ∷ 0 ∷ []) 0x82 0x81, (34, true, false, false))
    -- rule 35 broken: 83 stands in the root 82, and 84 in 82 in 81: one direct parent, two paths
    ∷ (ends (0x81 ∷ 0 ∷ 0 ∷ 0 ∷ 0x82 ∷ 0 ∷ 0 ∷ 0 ∷ 0x83 ∷ 0 ∷ 1 ∷ 1 ∷ 0x84 ∷ 4 ∷ 0 ∷ 2 ∷ []) (0 ∷ 0x81 ∷ 0 ∷ 0 ∷ 0x82 ∷ 0 ∷ []) 0x83 0x84, (35, false, false, true))
    -- rule 35 broken: 81 stands in itself, so 82 in 81 has an equal path and is its descendant
    ∷ (ends (0x81 ∷ 0 ∷ 0 ∷ 1 ∷ 0x82 ∷ 4 ∷ 0 ∷ 1 ∷ []) (0 ∷ 0x81 ∷ 0 ∷ []) 0x81 0x82, (35, true, true, false))
    ∷ []

-- each of them is as it says
pub all_endings : map (λ (c : Ending × Ending). c.0) endings ≡ map (λ (c : Ending × Ending). c.1) endings
unfolding walks_compute
all_endings = refl

-- ---- where an element belongs

-- whether an ID belongs in masters, all of known size, by the port, strictly and by the RFC; and whether the strict mode
-- is said to agree with the RFC
abbrev pub Place : Type 0
Place = Bool × Bool × Bool × Bool

abbrev pub belongs : List Entry → ℕ → List ℕ → Place
belongs t id masters =
    let known = map (λ (m : ℕ). shown_as m true) masters in
    let path = path_of t id in
    (validate_tag_path false t id known, validate_tag_path true t id known, path_names path masters, read_one_way path masters)

abbrev pub walks : List (Place × Place)
walks =
    -- Amount in Feed, in Session, at the root, and one too deep
    (belongs bench 0xA2 (0x4E01 ∷ 0xA1 ∷ []), (true, true, true, true))
    ∷ (belongs bench 0xA2 (0x4E01 ∷ []), (false, false, false, true))
    ∷ (belongs bench 0xA2 [], (false, false, false, true))
    ∷ (belongs bench 0xA2 (0x4E01 ∷ 0xA1 ∷ 0xA1 ∷ []), (false, false, false, true))
    -- Void anywhere
    ∷ (belongs bench 0xEC [], (true, true, true, true))
    ∷ (belongs bench 0xEC (0x4E01 ∷ 0xA1 ∷ []), (true, true, true, true))
    -- a Global at the end: at least 2, at most 1
    ∷ (belongs globals 0x84 (0x81 ∷ []), (false, false, false, true))
    ∷ (belongs globals 0x84 (0x81 ∷ 0x82 ∷ []), (true, true, true, true))
    ∷ (belongs globals 0x85 (0x81 ∷ []), (true, true, true, true))
    ∷ (belongs globals 0x85 (0x81 ∷ 0x82 ∷ []), (false, false, false, true))
    -- a Global before an ID: the port counts the ID that follows, the strict mode and the RFC do not
    ∷ (belongs globals 0x83 (0x82 ∷ []), (true, false, false, true))
    ∷ (belongs globals 0x83 (0x81 ∷ 0x82 ∷ []), (true, true, true, true))
    ∷ (belongs globals 0x83 (0x81 ∷ 0x81 ∷ 0x82 ∷ []), (false, true, true, true))
    ∷ (belongs globals 0x83 (0x81 ∷ 0x81 ∷ 0x81 ∷ 0x82 ∷ []), (false, false, false, true))
    -- both walks take the first 82 for the ID that follows, the RFC lets it be one of those in between
    ∷ (belongs globals 0x83 (0x82 ∷ 0x82 ∷ []), (false, false, true, false))
    ∷ (belongs globals 0x83 (0x81 ∷ 0x82 ∷ 0x82 ∷ []), (false, false, true, false))
    -- neither gets past two Globals side by side
    ∷ (belongs globals 0x86 [], (false, false, true, false))
    ∷ (belongs globals 0x86 (0x81 ∷ 0x82 ∷ []), (false, false, true, false))
    ∷ []

-- each of them is as it says
pub all_walks : map (λ (c : Place × Place). c.0) walks ≡ map (λ (c : Place × Place). c.1) walks
unfolding walks_compute
all_walks = refl
