-- What a call without a byte answers behind a whole document. Assumes nothing. (The law stands apart from those that cite
-- it, since a must-fail edit has it wrong.)
use Prim.Native.Nat.{ℕ, ◌^◌, ◌≤◌}
use mathlib.Core.Path.{◌≡◌, refl}
use mathlib.Core.Bool.{Bool, true}
use mathlib.Core.List.{List, []}
use native.Mathlib.Omega.{arith}
use Rattle.basics.specs.Lists.{every, first_index}
use Rattle.table.specs.Shape.{good_shape}
use Rattle.decoder_rules.specs.Deciding.{least_header}
use Rattle.decoder_rules.specs.Moving.{gives, move, decode}
use Rattle.decoder_rules.specs.declared.types.Answer.TheVariants as answer
use Rattle.decoder_rules.specs.declared.types.TagDecoder.{TagDecoder}
use Rattle.decoder_rules.proofs.Exits.{Admitted, no_byte}
use Rattle.tag_writer.proofs.Standing.{standing, All, first_passes, decode_plain}
use Rattle.std.specs.Prelude.{Ok}

module _ (es ps : List ℕ) (good : good_shape es ps ≡ true) (strict b : Bool) (n : ℕ) (near : n ≤ 2 ^ 62) where
  abbrev last : TagDecoder
  last = standing strict b n [] []

  first : Admitted es ps last []
  unfolding All every
  first = first_passes es ps good strict b n 0 [] [] [] tt refl (omega arith) (omega arith) (omega arith)

  -- no byte: need more
  pub needs_more_lem : decode es ps last [] ≡ gives (Ok (answer.NeedMore least_header)) 0 last
  unfolding move first_index
  needs_more_lem =
      decode_plain es ps last []
      (no_byte (record { reading = record { admitted = first; none_waiting = refl; unfinished = refl }; none_full = omega arith }) refl)
