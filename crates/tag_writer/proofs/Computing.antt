-- One name for what a worked example of the writer computes with: a definition unfolds what its own line names, so
-- `unfolding writer_computes` opens all of it. Assumes nothing.
use Rattle.tag_parse.proofs.Computing.{elements_compute}
use Rattle.tag_writer.specs.Document.{integer_bytes, payload, id_bytes, header_bytes, size_of_element, element_bytes}
use Rattle.tag_writer.specs.Items.{value_of, value_at, mark_of, marks_of, matched, levels, element_marks}
use Rattle.tag_writer.specs.Write.{reads_back, anywhere, goes_in, type_word, is_of_kind, good_element, write}

unfoldable pub writer_computes : Unit {0}
unfolding elements_compute integer_bytes payload id_bytes header_bytes size_of_element element_bytes value_of value_at mark_of marks_of matched levels element_marks reads_back anywhere goes_in type_word is_of_kind good_element write
writer_computes = tt
