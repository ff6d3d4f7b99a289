-- Where `decode` answers at once, the end of input answers the same. Assumes nothing. (It stands apart from the laws that
-- it cites, which a must-fail edit has wrong.)
use Prim.Native.Nat.{ℕ}
use mathlib.Core.Path.{◌≡◌, refl, sym, ◌∙◌}
use mathlib.Core.Bool.{false, false≢true}
use mathlib.Core.List.{List}
use Rattle.decoder_rules.specs.EndOfInput.{decode_eof}
use Rattle.decoder_rules.specs.Moving.{needs_more, decode}
use Rattle.decoder_rules.specs.declared.types.Answer.{Answer}
use Rattle.decoder_rules.specs.declared.types.Answer.TheVariants as answer
use Rattle.decoder_rules.specs.declared.types.Decoded.{Decoded}
use Rattle.decoder_rules.specs.declared.types.TagDecoder.{TagDecoder}
use Rattle.decoder_rules.proofs.EndExits.{is_quiet, EofExit, as_decoded, at_end, eof_exits}
use Rattle.tag_decoder_laws.proofs.Finishing.{never_finished}
use Rattle.std.specs.Prelude.{Err, Ok, Result}
use Rattle.decoder_rules.specs.declared.types.Refusal.{Refusal}

-- an answer that does not ask for more, nor is Finished, is one after which the end of input is not looked at
is_loud : (a : Result Answer Refusal) → needs_more a ≡ false → (a ≡ Ok answer.Finished → ⊥) → is_quiet a ≡ false
is_loud (Ok (answer.Event e)) m f = refl
is_loud (Ok (answer.NeedMore missing)) m f = m
is_loud (Ok answer.Finished) m f = absurd (f refl)
is_loud (Err r) m f = refl

module _ (es ps : List ℕ) (d : TagDecoder) (s : List ℕ) where
  exit_as_decoded : {r : Decoded} → EofExit es ps d s r → is_quiet (decode es ps d s).answer ≡ false → r ≡ decode es ps d s
  exit_as_decoded (as_decoded q) k = refl
  exit_as_decoded (at_end q x) k = absurd (false≢true (sym k ∙ q))

  -- before it, where `decode` does not ask for more, the end of input answers as `decode` does
  pub eof_as_decoded : d.finished ≡ false → needs_more (decode es ps d s).answer ≡ false → decode_eof es ps d s ≡ decode es ps d s
  eof_as_decoded f m = exit_as_decoded (eof_exits es ps d s) (is_loud (decode es ps d s).answer m (never_finished es ps d s f))
