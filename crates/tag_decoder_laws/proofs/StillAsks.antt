-- A call of the decoder that asked for more, made again with fewer further bytes than it said are missing, asks for more
-- still, unless refusal 12 comes first: the position and all the bytes are at most 2^62. Assumes nothing. (It stands
-- apart from the law that it cites, which a must-fail edit has wrong.)
use Prim.Native.Nat.{ℕ, ◌+◌, ◌≤◌, ◌<◌}
use mathlib.Core.Path.{◌≡◌, ◌∙◌}
use mathlib.Core.Bool.{true}
use mathlib.Core.List.{List, ◌++◌}
use native.Mathlib.Omega.{arith}
use borrow.Author.Tests.{lt-ltb}
use lib.ListN.{length}
use Rattle.tools.specs.Bytes.{Octets}
use Rattle.decoder_rules.specs.Record.{farthest}
use Rattle.decoder_rules.specs.Moving.{needs_more, missing_in, decode}
use Rattle.decoder_rules.specs.declared.types.TagDecoder.{TagDecoder}
use Rattle.tag_decoder_laws.proofs.Missing.{answer_asks, answer_missing}

module _ (es ps : List ℕ) (d : TagDecoder) (s u : List ℕ) (byte : Octets (s ++ u)) (near : d.position + length (s ++ u) ≤ farthest) where
  -- with fewer further bytes than are missing it is need-more still
  pub fewer_still_asks : length u < missing_in (decode es ps d s).answer → needs_more (decode es ps (decode es ps d s).state (s ++ u)).answer ≡ true
  fewer_still_asks few =
      let left = answer_missing es ps d s u byte near in
      let some : 0 < missing_in (decode es ps (decode es ps d s).state (s ++ u)).answer = omega arith in
      answer_asks es ps (decode es ps d s).state (s ++ u) ∙ lt-ltb 0 _ some
