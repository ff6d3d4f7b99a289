-- One name for what a worked example of a call computes with: a definition unfolds what its own line names, so
-- `unfolding rules_compute` opens all of it. Assumes nothing.
use Rattle.basics.proofs.Computing.{lists_compute}
use Rattle.spec_util.proofs.Computing.{walks_compute}
use Rattle.tag_parse.proofs.Computing.{elements_compute}
use Rattle.decoder_rules.specs.Record.{end_for, ends_from, with_settings, with_open, with_waiting, with_notes, settled_to, opened, closed_to, handed_out, with_one_more, counted_last, counted, size_grown, with_sizes_grown}
use Rattle.decoder_rules.specs.OneCall.{good_open, good_end, good_state, check10to12, check_record10to12, check13, is_full, close_or_fault, good_form, noted, step8, reaches, fits_inside, step9, valid_header, read_element, element_of, step11}
use Rattle.decoder_rules.specs.Deciding.{steps10_11, steps8_11, steps6_11, step5, steps4_11, steps2_11, decide}
use Rattle.decoder_rules.specs.Moving.{move, apply}
use Rattle.decoder_rules.specs.EndOfInput.{cut_bytes, is_cut, finish, close_all, end_of_input, decode_eof}
use Rattle.decoder_rules.specs.Recovery.{judged_at, header_at, place_at, end_of_search, ending, try_recover}
use Rattle.decoder_rules.specs.FirstPlace.{settle_at, settle_before, note_before, record_on, stands_at, first_place}
use Rattle.decoder_rules.specs.Run.{in_a_row}

unfoldable pub rules_compute : Unit {0}
unfolding lists_compute walks_compute elements_compute end_for ends_from with_settings with_open with_waiting with_notes settled_to opened closed_to handed_out with_one_more counted_last counted size_grown with_sizes_grown good_open good_end good_state check10to12 check_record10to12 check13 is_full close_or_fault good_form noted step8 reaches fits_inside step9 valid_header read_element element_of step11 steps10_11 steps8_11 steps6_11 step5 steps4_11 steps2_11 decide move apply cut_bytes is_cut finish close_all end_of_input decode_eof judged_at header_at place_at end_of_search ending try_recover settle_at settle_before note_before record_on stands_at first_place in_a_row
rules_compute = tt
