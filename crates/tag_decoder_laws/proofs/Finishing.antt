-- Before the end of input the decoder is not finished: no call before it answers Finished, and none marks the record
-- so. The end of input asks for no more. Assumes nothing.
use Prim.Native.Nat.{ℕ}
use mathlib.Core.Path.{◌≡◌, refl, sym, ap, ◌∙◌}
use mathlib.Core.Bool.{false, false≢true, true≢false}
use mathlib.Core.List.{List}
use Rattle.decoder_rules.specs.EndOfInput.{decode_eof}
use Rattle.decoder_rules.specs.Deciding.{decide}
use Rattle.decoder_rules.specs.Moving.{needs_more, apply, decode}
use Rattle.decoder_rules.specs.declared.types.Answer.{Answer}
use Rattle.decoder_rules.specs.declared.types.Answer.TheVariants as answer
use Rattle.decoder_rules.specs.declared.types.Decoded.{Decoded}
use Rattle.decoder_rules.specs.declared.types.TagDecoder.{TagDecoder}
use Rattle.decoder_rules.proofs.EndExits.{is_quiet, EofExit, as_decoded, at_end, eof_exits, end_keeps}
use Rattle.decoder_rules.proofs.Exits.{is_finish, exits, finish_exit}
use Rattle.decoder_rules.proofs.MoveLaws.{with_note, finished_by, decode_finished}
use Rattle.std.specs.Prelude.{Err, Ok, Result}
use Rattle.decoder_rules.specs.declared.types.Refusal.{Refusal}

-- an answer after which the end of input is not looked at does not ask for more
loud_asks_no_more : (a : Result Answer Refusal) → is_quiet a ≡ false → needs_more a ≡ false
loud_asks_no_more (Ok (answer.Event e)) q = refl
loud_asks_no_more (Ok (answer.NeedMore missing)) q = absurd (true≢false q)
loud_asks_no_more (Ok answer.Finished) q = refl
loud_asks_no_more (Err r) q = refl

module _ (es ps : List ℕ) (d : TagDecoder) (s : List ℕ) where
  -- a call before the end of input does not answer Finished
  pub never_finished : d.finished ≡ false → (decode es ps d s).answer ≡ Ok answer.Finished → ⊥
  unfolding apply
  never_finished f q =
      let a = ap is_finish (finished_by (with_note es ps d s) (decide es ps d s).action q) in
      false≢true (sym f ∙ (finish_exit es ps d s (exits es ps d s) a).1)

  -- no call marks the record finished, and none takes the mark away
  pub finished_kept : (decode es ps d s).state.finished ≡ d.finished
  finished_kept = decode_finished es ps d s

  -- ---- the end of input

  exit_asks_no_more : {r : Decoded} → EofExit es ps d s r → needs_more r.answer ≡ false
  exit_asks_no_more (as_decoded q) = loud_asks_no_more (decode es ps d s).answer q
  exit_asks_no_more (at_end q x) = (end_keeps x).no_more

  -- the end of input asks for no more
  pub eof_asks_no_more : needs_more (decode_eof es ps d s).answer ≡ false
  eof_asks_no_more = exit_asks_no_more (eof_exits es ps d s)
