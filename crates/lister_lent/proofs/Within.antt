-- No turn takes more bytes than it was lent: what is told of the calls by value. Assumes nothing.
use Prim.Native.Nat.{ℕ, ◌≤◌}
use mathlib.Core.Path.{◌≡◌, ap}
use mathlib.Core.List.{List}
use native.Mathlib.Omega.{arith}
use lib.ListN.{length}
use Rattle.tools.specs.Bytes.{Octets}
use Rattle.decoder_rules.specs.Moving.{decode}
use Rattle.decoder_rules.specs.EndOfInput.{decode_eof}
use Rattle.decoder_rules.specs.declared.types.TagDecoder.{TagDecoder}
use Rattle.tag_decoder.proofs.CallLaws.{decode_facts, eof_facts}
use Rattle.lister_lent.specs.Turn.{turn_of}
use Rattle.lister_lent.specs.declared.turn.Turned.{Turned}

abbrev taken : Turned → ℕ
taken r = r.reply.taken

module _ (es ps : List ℕ) (d : TagDecoder) (s : List ℕ) (byte : Octets s) {r : Turned} where
  pub turn_within : r ≡ turn_of (decode es ps d s) → taken r ≤ length s
  turn_within e = omega (arith, ap taken e, (decode_facts es ps d s byte).within)

  pub eof_within : r ≡ turn_of (decode_eof es ps d s) → taken r ≤ length s
  eof_within e = omega (arith, ap taken e, (eof_facts es ps d s byte).within)
