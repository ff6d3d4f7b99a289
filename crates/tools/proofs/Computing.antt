-- One name for what a worked example of numbers computes with: a definition unfolds what its own line names, so
-- `unfolding numbers_compute` opens all of it. Assumes nothing.
use lib.Count.{count_leading_zeros}
use lib.Ieee.{nan_bits, to_bits, of_bits}
use Rattle.tools.specs.Bytes.{be_from, be_bytes}
use Rattle.tools.specs.Vint.{read_vint, least_from, as_vint_with_length, is_vint}
use Rattle.tools.specs.ElementId.{is_id_of, is_element_id}
use Rattle.tools.specs.SignedVint.{taken_signed, as_signed_vint}
use Rattle.tools.specs.Twos.{signed_of}
use Rattle.tools.specs.Integer.{integer_of, arr_to_u64, arr_to_i64}
use Rattle.tools.specs.Float.{arr_to_f64, widened}

unfoldable pub numbers_compute : Unit {0}
unfolding count_leading_zeros nan_bits to_bits of_bits be_from be_bytes read_vint least_from as_vint_with_length is_vint is_id_of is_element_id taken_signed as_signed_vint signed_of integer_of arr_to_u64 arr_to_i64 arr_to_f64 widened
numbers_compute = tt
