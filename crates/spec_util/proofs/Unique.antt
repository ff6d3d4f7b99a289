-- No second answer meets a contract, as the checker reads it: two answers that a public routine's contract allows for
-- the same arguments, each at an exit of its own, are equal; of left_open, whose contract is made of every list of
-- masters that the words show, there is such a list where its requires holds. Assumes nothing.
use contract.Lifetimes.{Lfts}
use borrow.Fn.Kinds.{Dens}
use Rattle.basics.specs.Unique.{OneAnswer, answer}
use Rattle.basics.proofs.Unique.{one_answer}
use Rattle.spec_util.specs.Walk.{masters_shown}
use Rattle.spec_util.proofs.Shown.{shows_those_read}
use Rattle.spec_util.proofs.types.open_tag.Kinds as open-tag-kinds
use Rattle.spec_util.proofs.types.open_tag.Reads as open-tag
use Rattle.spec_util.proofs.types.no_tag.Kinds as no-tag-kinds
use Rattle.spec_util.proofs.types.no_tag.Reads as no-tag
use Rattle.spec_util.proofs.ended.is_parent.Kinds as is-parent-kinds
use Rattle.spec_util.proofs.ended.is_parent.Reads as is-parent
use Rattle.spec_util.proofs.ended.is_sibling.Kinds as is-sibling-kinds
use Rattle.spec_util.proofs.ended.is_sibling.Reads as is-sibling
use Rattle.spec_util.proofs.ended.is_ended_by.Kinds as is-ended-by-kinds
use Rattle.spec_util.proofs.ended.is_ended_by.Reads as is-ended-by
use Rattle.spec_util.proofs.ended.is_ended_strictly.Kinds as is-ended-strictly-kinds
use Rattle.spec_util.proofs.ended.is_ended_strictly.Reads as is-ended-strictly
use Rattle.spec_util.proofs.ended.is_ended_in.Kinds as is-ended-in-kinds
use Rattle.spec_util.proofs.ended.is_ended_in.Reads as is-ended-in
use Rattle.spec_util.proofs.walk.unknown_and_ended.Kinds as unknown-and-ended-kinds
use Rattle.spec_util.proofs.walk.unknown_and_ended.Reads as unknown-and-ended
use Rattle.spec_util.proofs.walk.walk_master.Kinds as walk-master-kinds
use Rattle.spec_util.proofs.walk.walk_master.Reads as walk-master
use Rattle.spec_util.proofs.walk.walk_end.Kinds as walk-end-kinds
use Rattle.spec_util.proofs.walk.walk_end.Reads as walk_end
use Rattle.spec_util.proofs.walk.at_most_32.Kinds as at-most-32-kinds
use Rattle.spec_util.proofs.walk.at_most_32.Reads as at_most_32
use Rattle.spec_util.proofs.walk.least_of.Kinds as least-of-kinds
use Rattle.spec_util.proofs.walk.least_of.Reads as least_of_lem
use Rattle.spec_util.proofs.walk.walk_along.Kinds as walk-along-kinds
use Rattle.spec_util.proofs.walk.walk_along.Reads as walk-along
use Rattle.spec_util.proofs.place.left_open.Kinds as left-open-kinds
use Rattle.spec_util.proofs.place.left_open.Reads as left_open
use Rattle.spec_util.proofs.place.place_along.Kinds as place-along-kinds
use Rattle.spec_util.proofs.place.place_along.Reads as place-along
use Rattle.spec_util.proofs.place.validate_tag_path.Kinds as validate-tag-path-kinds
use Rattle.spec_util.proofs.place.validate_tag_path.Reads as validate-tag-path

pub open_tag_one : (κs : Lfts 0) (a : Dens κs open-tag-kinds.ps) → OneAnswer (open-tag.Post κs a) answer
open_tag_one κs a = one_answer (λ r e p. p)

pub no_tag_one : (κs : Lfts 0) (a : Dens κs no-tag-kinds.ps) → OneAnswer (no-tag.Post κs a) answer
no_tag_one κs a = one_answer (λ r e p. p)

pub is_parent_one : (κs : Lfts 2) (a : Dens κs is-parent-kinds.ps) → OneAnswer (is-parent.Post κs a) answer
is_parent_one κs a = one_answer (λ r e p. p)

pub is_sibling_one : (κs : Lfts 2) (a : Dens κs is-sibling-kinds.ps) → OneAnswer (is-sibling.Post κs a) answer
is_sibling_one κs a = one_answer (λ r e p. p)

pub is_ended_by_one : (κs : Lfts 2) (a : Dens κs is-ended-by-kinds.ps) → OneAnswer (is-ended-by.Post κs a) answer
is_ended_by_one κs a = one_answer (λ r e p. p)

pub is_ended_strictly_one : (κs : Lfts 2) (a : Dens κs is-ended-strictly-kinds.ps) → OneAnswer (is-ended-strictly.Post κs a) answer
is_ended_strictly_one κs a = one_answer (λ r e p. p)

pub is_ended_in_one : (κs : Lfts 2) (a : Dens κs is-ended-in-kinds.ps) → OneAnswer (is-ended-in.Post κs a) answer
is_ended_in_one κs a = one_answer (λ r e p. p)

pub unknown_and_ended_one : (κs : Lfts 2) (a : Dens κs unknown-and-ended-kinds.ps) → OneAnswer (unknown-and-ended.Post κs a) answer
unknown_and_ended_one κs a = one_answer (λ r e p. p)

pub walk_master_one : (κs : Lfts 2) (a : Dens κs walk-master-kinds.ps) → OneAnswer (walk-master.Post κs a) answer
walk_master_one κs a = one_answer (λ r e p. p)

pub walk_end_one : (κs : Lfts 1) (a : Dens κs walk-end-kinds.ps) → OneAnswer (walk_end.Post κs a) answer
walk_end_one κs a = one_answer (λ r e p. p)

pub at_most_32_one : (κs : Lfts 0) (a : Dens κs at-most-32-kinds.ps) → OneAnswer (at_most_32.Post κs a) answer
at_most_32_one κs a = one_answer (λ r e p. p)

pub least_of_one : (κs : Lfts 0) (a : Dens κs least-of-kinds.ps) → OneAnswer (least_of_lem.Post κs a) answer
least_of_one κs a = one_answer (λ r e p. p)

pub walk_along_one : (κs : Lfts 4) (a : Dens κs walk-along-kinds.ps) → OneAnswer (walk-along.Post κs a) answer
walk_along_one κs a = one_answer (λ r e p. p)

-- the words show masters: those that are read off them
pub left_open_one : (κs : Lfts 4) (a : Dens κs left-open-kinds.ps) → left_open.Pre κs a → OneAnswer (left_open.Post κs a) answer
left_open_one κs a h =
    let ids = a.1.1.1.1.0.now in
    let knowns = a.1.1.1.1.1.0.now in
    let count = a.1.1.1.1.1.1.0 in
    one_answer (λ r e p. p (masters_shown ids knowns count) (shows_those_read ids knowns count h.0 h.1))

pub place_along_one : (κs : Lfts 4) (a : Dens κs place-along-kinds.ps) → OneAnswer (place-along.Post κs a) answer
place_along_one κs a = one_answer (λ r e p. p)

pub validate_tag_path_one : (κs : Lfts 4) (a : Dens κs validate-tag-path-kinds.ps) → OneAnswer (validate-tag-path.Post κs a) answer
validate_tag_path_one κs a = one_answer (λ r e p. p)
