-- No second answer meets a contract, as the checker reads it: two answers that a public routine's contract allows for
-- the same arguments, each at an exit of its own, are equal. Assumes nothing.
use borrow.Fn.Kinds.{Dens}
use contract.Lifetimes.{Lfts}
use Rattle.basics.specs.Unique.{OneAnswer, answer}
use Rattle.basics.proofs.Unique.{one_answer}
use Rattle.tag_parse.proofs.header.read_tag_id.Reads as read-tag-id
use Rattle.tag_parse.proofs.header.read_tag_id.Kinds as read-tag-id-kinds
use Rattle.tag_parse.proofs.header.read_header.Reads as read-header
use Rattle.tag_parse.proofs.header.read_header.Kinds as read-header-kinds
use Rattle.tag_parse.proofs.header.size_of.Reads as type_size
use Rattle.tag_parse.proofs.header.size_of.Kinds as size-of-kinds
use Rattle.tag_parse.proofs.payload.value_of.Reads as value_of_lem
use Rattle.tag_parse.proofs.payload.value_of.Kinds as value-of-kinds
use Rattle.tag_parse.proofs.payload.read_data_tag.Reads as read-data-tag
use Rattle.tag_parse.proofs.payload.read_data_tag.Kinds as read-data-tag-kinds
use Rattle.tag_parse.proofs.types.parse_number.Reads as parse-number
use Rattle.tag_parse.proofs.types.parse_number.Kinds as parse-number-kinds

pub read_tag_id_one : (κs : Lfts 1) (a : Dens κs read-tag-id-kinds.ps) → OneAnswer (read-tag-id.Post κs a) answer
read_tag_id_one κs a = one_answer (λ r e p. p)

pub read_header_one : (κs : Lfts 3) (a : Dens κs read-header-kinds.ps) → OneAnswer (read-header.Post κs a) answer
read_header_one κs a = one_answer (λ r e p. p)

pub value_of_one : (κs : Lfts 1) (a : Dens κs value-of-kinds.ps) → OneAnswer (value_of_lem.Post κs a) answer
value_of_one κs a = one_answer (λ r e p. p)

pub read_data_tag_one : (κs : Lfts 1) (a : Dens κs read-data-tag-kinds.ps) → OneAnswer (read-data-tag.Post κs a) answer
read_data_tag_one κs a = one_answer (λ r e p. p)

pub parse_number_one : (κs : Lfts 0) (a : Dens κs parse-number-kinds.ps) → OneAnswer (parse-number.Post κs a) answer
parse_number_one κs a = one_answer (λ r e p. p)

pub size_of_one : (κs : Lfts 0) (a : Dens κs size-of-kinds.ps) → OneAnswer (type_size.Post κs a) answer
size_of_one κs a = one_answer (λ r e p. p)
