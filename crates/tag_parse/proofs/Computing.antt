-- One name for what a worked example of an element computes with: a definition unfolds what its own line names, so
-- `unfolding elements_compute` opens all of it. Assumes nothing.
use Rattle.table.proofs.Computing.{table_computes}
use Rattle.tools.proofs.Computing.{numbers_compute}
use Rattle.utf8.proofs.Computing.{text_computes}
use Rattle.tag_parse.specs.Header.{read_tag_id, size_of, too_long, sized_by, sized, after_id, read_header}
use Rattle.tag_parse.specs.Payload.{value_of, read_data}

unfoldable pub elements_compute : Unit {0}
unfolding table_computes numbers_compute text_computes read_tag_id size_of too_long sized_by sized after_id read_header value_of read_data
elements_compute = tt
