-- A record that was cut cannot look whole: where a master of known size is open and not full, the end of input does not
-- finish, and with no byte left it answers an End that is due, or 23. Assumes nothing.
use Prim.Native.Nat.{ℕ}
use mathlib.Core.Path.{◌≡◌, refl, sym, ◌∙◌, subst}
use mathlib.Core.Bool.{Bool, true, false, true≢false, false≢true}
use mathlib.Core.List.{List, [], ◌∷◌}
use native.Mathlib.Omega.{arith}
use borrow.Author.Tests.{leb-true}
use Rattle.basics.specs.Lists.{every}
use Rattle.basics.proofs.Every.{every_member}
use Rattle.table.specs.Shape.{good_shape}
use Rattle.table.specs.Table.{Entry, table_of}
use Rattle.table.proofs.Passed.{passed_gives}
use Rattle.decoder_rules.specs.Record.{opens, with_notes}
use Rattle.decoder_rules.specs.OneCall.{step3}
use Rattle.decoder_rules.specs.Deciding.{decide}
use Rattle.decoder_rules.specs.Moving.{needs_more, move, apply, decode}
use Rattle.decoder_rules.specs.EndOfInput.{decode_eof}
use Rattle.decoder_rules.specs.declared.types.Action.{Action}
use Rattle.decoder_rules.specs.declared.types.Action.TheVariants as act
use Rattle.decoder_rules.specs.declared.types.Answer.{Answer}
use Rattle.decoder_rules.specs.declared.types.Answer.TheVariants as answer
use Rattle.decoder_rules.specs.declared.types.Decision.{Decision}
use Rattle.decoder_rules.specs.declared.types.Decoded.{Decoded}
use Rattle.decoder_rules.specs.declared.types.TagDecoder.{TagDecoder}
use Rattle.decoder_rules.proofs.GoodState.{GoodState}
use Rattle.decoder_rules.proofs.Exits as exit
use Rattle.decoder_rules.proofs.Exits.{all_masters, Closing, Exit, exits}
use Rattle.decoder_rules.proofs.EndExits as end
use Rattle.decoder_rules.proofs.EndExits.{EndExit, end_keeps, EofExit, is_quiet, eof_exits}
use Rattle.decoder_rules.proofs.MoveLaws.{with_note}
use Rattle.guarantees.specs.Calls.{Call, ending, record_after, history, Lent}
use Rattle.guarantees.specs.History.{Started, parents_left}
use Rattle.guarantees.specs.Promises.{Runs, Answers, open_at, position_at, NotFull, EndOr23}
use Rattle.guarantees.proofs.Ends.{ended_by}
use Rattle.guarantees.proofs.Decided.{no_fault, only_far}
use Rattle.guarantees.proofs.Tied.{all_ended, Tied}
use Rattle.guarantees.proofs.Steps.{with_note_tied, eof_called}
use Rattle.guarantees.proofs.AnyCalls.{good_shape_lem, tied_after}
use Rattle.guarantees.proofs.Guarantees.{finish_closes}
use Rattle.std.specs.Prelude.{Err, Ok, Option, Result, Some}
use Rattle.decoder_rules.specs.declared.types.DecodeError.{DecodeError}
use Rattle.decoder_rules.specs.declared.types.Refusal.{Refusal}

-- ---- what is not full has not ended

-- where one Start is not full, not all have ended
pub not_all_ended : {starts : List Started} {p : ℕ} → NotFull starts p → all_ended p starts ≡ true → ⊥
not_all_ended {starts} {p} n e =
    let g : ended_by p (Some n.end) ≡ true = subst (λ (g : Option ℕ). ended_by p g ≡ true) n.known (every_member (λ (m : Started). ended_by p m.end) e n.still_open) in
    omega (arith, leb-true n.end p g, n.beyond)

is_false : (b : Bool) → (b ≡ true → ⊥) → b ≡ false
is_false true h = absurd (h refl)
is_false false h = refl

-- where a master of known size is open and not full, then whatever bytes are left the end of input does not answer the
-- finish, and the record is not finished after it
pub cut_not_finished : (es ps : List ℕ) (cs : List Call) (s : List ℕ) → Runs es ps (ending s ∷ cs) → NotFull (open_at es ps cs) (position_at es ps cs)
    → (Answers es ps cs (ending s) (Ok answer.Finished) → ⊥) × ((record_after es ps (ending s ∷ cs)).finished ≡ false)
unfolding Lent record_after
cut_not_finished es ps cs s run n =
    let c = eof_called es ps (good_shape_lem es ps run.checked) (passed_gives es ps run.checked) (record_after es ps cs) s run.octets.0 _ _ _ (tied_after es ps run.checked cs run.octets.1) in
    (λ a. not_all_ended n (rw (finish_closes es ps cs (ending s) run a) (unfold every in refl)), is_false _ (λ f. not_all_ended n (c.closes_full f)))

-- ---- the end of input asks for no more bytes

not_quiet : (a : Result Answer Refusal) → is_quiet a ≡ false → needs_more a ≡ false
not_quiet (Ok (answer.Event e)) q = refl
not_quiet (Ok (answer.NeedMore missing)) q = absurd (true≢false q)
not_quiet (Ok answer.Finished) q = refl
not_quiet (Err r) q = refl

exit_no_more : {es ps : List ℕ} {d : TagDecoder} {s : List ℕ} {r : Decoded} → EofExit es ps d s r → needs_more r.answer ≡ false
exit_no_more {es} {ps} {d} {s} (end.as_decoded q) = not_quiet (decode es ps d s).answer q
exit_no_more (end.at_end q x) = (end_keeps x).no_more

-- of any record and any table: an event, the finish or a refusal
pub end_never_waits : (es ps : List ℕ) (d : TagDecoder) (s : List ℕ) → needs_more (decode_eof es ps d s).answer ≡ false
end_never_waits es ps d s = exit_no_more (eof_exits es ps d s)

-- ---- the end of input with no byte left

-- a decode call with no byte decides on an End, need more or the finish
abbrev is_end_or_none : Result Action DecodeError → Bool
is_end_or_none (Err e) = false
is_end_or_none (Ok (act.NeedMore missing)) = true
is_end_or_none (Ok act.Finish) = true
is_end_or_none (Ok act.HandOut) = true
is_end_or_none (Ok (act.Close k)) = true
is_end_or_none (Ok (act.Start x z len)) = false
is_end_or_none (Ok (act.Data x v n)) = false

-- so where it answers neither need more nor the finish it answers an End
only_end : (d : TagDecoder) (a : Result Action DecodeError) → is_end_or_none a ≡ true → is_quiet (move d a).answer ≡ false → EndOr23 (move d a).answer
unfolding move
only_end d (Err e) f q = absurd (false≢true f)
only_end d (Ok (act.NeedMore missing)) f q = absurd (true≢false q)
only_end d (Ok act.Finish) f q = absurd (true≢false q)
only_end d (Ok act.HandOut) f q = tt
only_end d (Ok (act.Close k)) f q = tt
only_end d (Ok (act.Start x z len)) f q = absurd (false≢true f)
only_end d (Ok (act.Data x v n)) f q = absurd (false≢true f)

module _ (es ps : List ℕ) (shape : good_shape es ps ≡ true) (d : TagDecoder) (good : GoodState d) (masters : all_masters (table_of es ps) (opens d) ≡ true) where
  closing_only : (k : ℕ) {a : Result Action DecodeError} → Closing (table_of es ps) d k a → is_end_or_none a ≡ true
  closing_only k (exit.closes e) = refl
  closing_only k (exit.no_master_lem e) = absurd (no_fault (table_of es ps) k (opens d) masters e)

  exit_only : {a : Decision} → Exit es ps d [] a → is_end_or_none a.action ≡ true
  exit_only (exit.refused_first x e) = absurd (omega (arith, (only_far es ps d 0 shape good e).beyond, good.place))
  exit_only (exit.after_finish e f l) = absurd (omega arith)
  exit_only (exit.hands_out ok w) = refl
  exit_only (exit.finished ok w f) = refl
  exit_only (exit.closes_full r l c) = closing_only (step3 d) c
  exit_only (exit.no_byte n y) = refl
  exit_only (exit.header_incomplete at e) = refl
  exit_only (exit.header_refused x at e) = absurd (omega (arith, at.some_byte))
  exit_only (exit.id_refused h at f) = absurd (omega (arith, at.at_bytes.some_byte))
  exit_only (exit.on_header h at f x) = absurd (omega (arith, at.at_bytes.some_byte))

-- where no event is left it answers 23 or an End, unless it finishes
ended_23 : {t : List Entry} {d : TagDecoder} {s : List ℕ} {r : Decoded} → all_masters t (opens d) ≡ true → EndExit t d s r → (r.state.finished ≡ true → ⊥) → EndOr23 r.answer
unfolding move with_notes
ended_23 m (end.bytes_left l) h = refl
ended_23 m (end.master_cut z l) h = refl
ended_23 m (end.no_master_lem n f) h = absurd (true≢false (sym m ∙ f))
ended_23 m (end.finishes n f z) h = absurd (h refl)
ended_23 m (end.closes_all n f l) h = tt

-- and with no byte left it answers an End, where one waits or is due, or 23
pub cut_is_told : (es ps : List ℕ) (cs : List Call) → Runs es ps (ending [] ∷ cs) → NotFull (open_at es ps cs) (position_at es ps cs)
    → EndOr23 (decode_eof es ps (record_after es ps cs) []).answer
unfolding Lent record_after
cut_is_told es ps cs run n = by (eof_exits es ps d []) (λ f. true≢false (sym f ∙ (cut_not_finished es ps cs [] run n).1))
  where
    d : TagDecoder
    d = record_after es ps cs

    shape : good_shape es ps ≡ true
    shape = good_shape_lem es ps run.checked

    k : Tied (table_of es ps) d (open_at es ps cs) (parents_left ps (table_of es ps) (history es ps cs)) (position_at es ps cs)
    k = tied_after es ps run.checked cs run.octets.1

    by : {r : Decoded} → EofExit es ps d [] r → (r.state.finished ≡ true → ⊥) → EndOr23 r.answer
    by (end.as_decoded q) h =
        unfold apply in only_end (with_note es ps d []) (decide es ps d []).action (exit_only es ps shape d k.linked.good k.linked.masters (exits es ps d [])) q
    by (end.at_end q x) h = ended_23 (with_note_tied es ps shape (passed_gives es ps run.checked) d [] run.octets.0 _ _ _ k).linked.masters x h
