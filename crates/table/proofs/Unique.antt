-- No second answer meets a contract, as the checker reads it: two answers that a public routine's contract allows for
-- the same arguments, each at an exit of its own, are equal. Assumes nothing.
use contract.Lifetimes.{Lfts}
use borrow.Fn.Kinds.{Dens}
use Rattle.basics.specs.Unique.{OneAnswer, answer}
use Rattle.basics.proofs.Unique.{one_answer}
use Rattle.table.proofs.bench.entries.Kinds as entries-kinds
use Rattle.table.proofs.bench.entries.Reads as entries
use Rattle.table.proofs.bench.parts.Kinds as parts-kinds
use Rattle.table.proofs.bench.parts.Reads as parts
use Rattle.table.proofs.parts.part_at.Kinds as part-at-kinds
use Rattle.table.proofs.parts.part_at.Reads as part_at
use Rattle.table.proofs.parts.path_length.Kinds as path-length-kinds
use Rattle.table.proofs.parts.path_length.Reads as path-length
use Rattle.table.proofs.parts.path_part.Kinds as path-part-kinds
use Rattle.table.proofs.parts.path_part.Reads as path-part
use Rattle.table.proofs.parts.same_path.Kinds as same-path-kinds
use Rattle.table.proofs.parts.same_path.Reads as same_path_lem
use Rattle.table.proofs.lookup.look_up.Kinds as look-up-kinds
use Rattle.table.proofs.lookup.look_up.Reads as look_up
use Rattle.table.proofs.lookup.get_tag_data_type.Kinds as get-tag-data-type-kinds
use Rattle.table.proofs.lookup.get_tag_data_type.Reads as get-tag-data-type
use Rattle.table.proofs.lookup.get_path_by_id.Kinds as get-path-by-id-kinds
use Rattle.table.proofs.lookup.get_path_by_id.Reads as get-path-by-id
use Rattle.table.proofs.shape.good_shape.Kinds as good-shape-kinds
use Rattle.table.proofs.shape.good_shape.Reads as good_shape_lem
use Rattle.table.proofs.check.rule_number.Kinds as rule-number-kinds
use Rattle.table.proofs.check.rule_number.Reads as rule-number
use Rattle.table.proofs.check.checked_number.Kinds as checked-number-kinds
use Rattle.table.proofs.check.checked_number.Reads as checked-number
use Rattle.table.proofs.lookup.is_master.Kinds as is-master-kinds
use Rattle.table.proofs.lookup.is_typed.Kinds as is-typed-kinds
use Rattle.table.proofs.lookup.is_typed.Reads as is-typed
use Rattle.table.proofs.lookup.is_master.Reads as is_master_lem
use Rattle.table.proofs.check.only_ids.Kinds as only-ids-kinds
use Rattle.table.proofs.check.only_ids.Reads as only_ids_lem
use Rattle.table.proofs.check.check_table.Kinds as check-table-kinds
use Rattle.table.proofs.check.check_table.Reads as check-table

pub entries_one : (κs : Lfts 0) (a : Dens κs entries-kinds.ps) → OneAnswer (entries.Post κs a) answer
entries_one κs a = one_answer (λ r e p. p)

pub parts_one : (κs : Lfts 0) (a : Dens κs parts-kinds.ps) → OneAnswer (parts.Post κs a) answer
parts_one κs a = one_answer (λ r e p. p)

pub part_at_one : (κs : Lfts 1) (a : Dens κs part-at-kinds.ps) → OneAnswer (part_at.Post κs a) answer
part_at_one κs a = one_answer (λ r e p. p)

pub path_length_one : (κs : Lfts 1) (a : Dens κs path-length-kinds.ps) → OneAnswer (path-length.Post κs a) answer
path_length_one κs a = one_answer (λ r e p. p)

pub path_part_one : (κs : Lfts 1) (a : Dens κs path-part-kinds.ps) → OneAnswer (path-part.Post κs a) answer
path_part_one κs a = one_answer (λ r e p. p)

pub same_path_one : (κs : Lfts 1) (a : Dens κs same-path-kinds.ps) → OneAnswer (same_path_lem.Post κs a) answer
same_path_one κs a = one_answer (λ r e p. p)

pub look_up_one : (κs : Lfts 2) (a : Dens κs look-up-kinds.ps) → OneAnswer (look_up.Post κs a) answer
look_up_one κs a = one_answer (λ r e p. p)

pub get_tag_data_type_one : (κs : Lfts 2) (a : Dens κs get-tag-data-type-kinds.ps) → OneAnswer (get-tag-data-type.Post κs a) answer
get_tag_data_type_one κs a = one_answer (λ r e p. p)

pub get_path_by_id_one : (κs : Lfts 2) (a : Dens κs get-path-by-id-kinds.ps) → OneAnswer (get-path-by-id.Post κs a) answer
get_path_by_id_one κs a = one_answer (λ r e p. p)

pub good_shape_one : (κs : Lfts 2) (a : Dens κs good-shape-kinds.ps) → OneAnswer (good_shape_lem.Post κs a) answer
good_shape_one κs a = one_answer (λ r e p. p)

pub rule_number_one : (κs : Lfts 0) (a : Dens κs rule-number-kinds.ps) → OneAnswer (rule-number.Post κs a) answer
rule_number_one κs a = one_answer (λ r e p. p)

pub checked_number_one : (κs : Lfts 0) (a : Dens κs checked-number-kinds.ps) → OneAnswer (checked-number.Post κs a) answer
checked_number_one κs a = one_answer (λ r e p. p)

pub is_master_one : (κs : Lfts 0) (a : Dens κs is-master-kinds.ps) → OneAnswer (is_master_lem.Post κs a) answer
is_master_one κs a = one_answer (λ r e p. p)

pub is_typed_one : (κs : Lfts 0) (a : Dens κs is-typed-kinds.ps) → OneAnswer (is-typed.Post κs a) answer
is_typed_one κs a = one_answer (λ r e p. p)

pub only_ids_one : (κs : Lfts 1) (a : Dens κs only-ids-kinds.ps) → OneAnswer (only_ids_lem.Post κs a) answer
only_ids_one κs a = one_answer (λ r e p. p)

pub check_table_one : (κs : Lfts 2) (a : Dens κs check-table-kinds.ps) → OneAnswer (check-table.Post κs a) answer
check_table_one κs a = one_answer (λ r e p. p)
