-- `spec_util::walk::walk_part`: by the part at the marker. Assumes nothing.
use mathlib.Core.Path.{◌≡◌}
use mathlib.Core.List.{List}
use borrow.Author.Tests.{eq-eqb, ne_eqb, le-leb, lt-leb}
use Rattle.table.specs.Table.{parts_of, parts_in}
use Rattle.table.specs.declared.types.PathPart.{PathPart}
use Rattle.spec_util.specs.Walk.{walk_part, walk_at}
use Rattle.spec_util.specs.declared.types.Walk.{Walk}
use Rattle.spec_util.proofs.walk.walk_part.Goals as goal

pub returns-then-path_length-marker : goal.returns-then-path_length-marker
unfolding walk_part
returns-then-path_length-marker c = rw (← c.path_length.ensures, le-leb _ _ c.if-path_length-marker.true)

pub returns-in-Id : goal.returns-in-Id
unfolding walk_at walk_part
returns-in-Id c =
    let path : List PathPart = parts_in (parts_of c.args.parts.now) c.args.path in
    let walked : Walk = walk_part c.args.strict path c.args.master_id c.args.marker c.args.counter in
    let walked_at : PathPart → Walk = λ part. walk_at c.args.strict path part c.args.master_id c.args.marker c.args.counter in
    let by_part : walked ≡ walked_at c.path_part.result = rw (← c.path_length.ensures, lt-leb _ _ c.if-path_length-marker.false, ← c.path_part.ensures) in
    rw (by_part, c.in-Id.is, eq-eqb _ _ c.if-id-master_id.true)

pub returns-in-Id-2 : goal.returns-in-Id-2
unfolding walk_at walk_part
returns-in-Id-2 c =
    let path : List PathPart = parts_in (parts_of c.args.parts.now) c.args.path in
    let walked : Walk = walk_part c.args.strict path c.args.master_id c.args.marker c.args.counter in
    let walked_at : PathPart → Walk = λ part. walk_at c.args.strict path part c.args.master_id c.args.marker c.args.counter in
    let by_part : walked ≡ walked_at c.path_part.result = rw (← c.path_length.ensures, lt-leb _ _ c.if-path_length-marker.false, ← c.path_part.ensures) in
    rw (by_part, c.in-Id.is, ne_eqb _ _ c.if-id-master_id.false)

pub returns-in-Global : goal.returns-in-Global
unfolding walk_part
returns-in-Global c =
    let path : List PathPart = parts_in (parts_of c.args.parts.now) c.args.path in
    let walked : Walk = walk_part c.args.strict path c.args.master_id c.args.marker c.args.counter in
    let walked_at : PathPart → Walk = λ part. walk_at c.args.strict path part c.args.master_id c.args.marker c.args.counter in
    let by_part : walked ≡ walked_at c.path_part.result = rw (← c.path_length.ensures, lt-leb _ _ c.if-path_length-marker.false, ← c.path_part.ensures) in
    rw (by_part, c.in-Global.is) c.walk_global_in.ensures
