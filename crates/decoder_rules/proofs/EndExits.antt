-- The view of the end of input: every way in which `end_of_input` answers, each with the facts that hold there, then
-- every way in which `decode_eof` does, and what holds of all of them. Assumes nothing.
use Prim.Native.Nat.{ℕ, ◌≤◌, ◌<◌}
use mathlib.Core.Path.{◌≡◌, refl, sym, ◌∙◌}
use mathlib.Core.Bool.{Bool, true, false}
use mathlib.Core.List.{List}
use native.Mathlib.Omega.{arith}
use borrow.Author.Tests.{ltb-true, ltb-false, eqb-true, eqb-false, lt-ltb, le-ltb, eq-eqb, ne_eqb}
use lib.Dec.{ltb, eqb}
use lib.ListN.{length, get_or}
use Rattle.table.specs.Table.{Entry, table_of}
use Rattle.spec_util.specs.Walk.{no_tag}
use Rattle.spec_util.specs.declared.types.OpenTag.{OpenTag}
use Rattle.decoder_rules.specs.Record.{opens, with_open, with_waiting, with_notes, closed_to}
use Rattle.basics.specs.Lists.{first_index}
use Rattle.decoder_rules.specs.EndOfInput.{is_cut, cut_master, cut_bytes, finish, close_all, cut_or, end_of_input, ended_or, decode_eof}
use Rattle.decoder_rules.specs.Moving.{gives, refuse, needs_more, decode, move}
use Rattle.decoder_rules.specs.declared.types.Action.TheVariants as act
use Rattle.decoder_rules.specs.declared.types.Answer.{Answer}
use Rattle.decoder_rules.specs.declared.types.Answer.TheVariants as answer
use Rattle.decoder_rules.specs.declared.types.Decoded.{Decoded}
use Rattle.decoder_rules.specs.declared.types.DecodeError.TheVariants as error
use Rattle.decoder_rules.specs.declared.types.TagDecoder.{TagDecoder}
use Rattle.basics.proofs.Bools.{pick, cond_yes, cond_no}
use Rattle.decoder_rules.proofs.Exits.{all_masters}
use Rattle.decoder_rules.proofs.MoveLaws.{with_note, decode_stays}
use Rattle.std.specs.Prelude.{Err, Ok, Result}
use Rattle.decoder_rules.specs.declared.types.Refusal.{Refusal}

-- how many masters stand below the outermost that the end cuts: all, where it cuts none
abbrev pub first_cut : TagDecoder → ℕ
first_cut d = first_index (is_cut d.position) (opens d)

-- the outermost master that the end cuts
abbrev pub cut_tag : TagDecoder → OpenTag
cut_tag d = get_or d.«open» (first_cut d) no_tag

-- the record as the end of input leaves it, before the masters close
abbrev pub ending : TagDecoder → TagDecoder
ending d = with_notes d d.position d.settled true

-- no byte is left and no master is cut
pub record NoneCut (d : TagDecoder) (s : List ℕ) : Type 0 where
  pub no_byte : length s ≡ 0
  pub none_cut : d.open_count ≤ first_cut d

-- every way in which the end of input answers, where no event is due before it
pub data EndExit (t : List Entry) (d : TagDecoder) (s : List ℕ) : Decoded → Type 0 where
  bytes_left : 0 < length s → EndExit t d s (refuse (error.UnexpectedEOF (cut_bytes d.position s)) d.position d)
  master_cut : length s ≡ 0 → first_cut d < d.open_count → EndExit t d s (refuse (error.UnexpectedEOF (cut_master (cut_tag d))) (cut_tag d).tag_start d)
  no_master_lem : NoneCut d s → all_masters t (opens d) ≡ false → EndExit t d s (refuse error.NotAMaster d.position d)
  finishes : NoneCut d s → all_masters t (opens d) ≡ true → d.open_count ≡ 0 → EndExit t d s (gives (Ok answer.Finished) 0 (ending d))
  closes_all : NoneCut d s → all_masters t (opens d) ≡ true → 0 < d.open_count → EndExit t d s (move (ending d) (Ok (act.Close 0)))

module _ (t : List Entry) (d : TagDecoder) (s : List ℕ) where
  abbrev Ends : Decoded → Type 0
  Ends r = EndExit t d s r

  finish_exits : NoneCut d s → all_masters t (opens d) ≡ true → Ends (finish d)
  unfolding finish
  finish_exits n m =
      pick Ends (eqb d.open_count 0) (gives (Ok answer.Finished) 0 (ending d)) (move (ending d) (Ok (act.Close 0))) (λ e. finishes n m (eqb-true _ _ e))
      (λ e. let some : 0 < d.open_count = omega (arith, eqb-false d.open_count 0 e) in closes_all n m some)

  close_exits : NoneCut d s → Ends (close_all t d)
  unfolding close_all
  close_exits n = pick Ends (all_masters t (opens d)) (finish d) (refuse error.NotAMaster d.position d) (λ e. finish_exits n e) (λ e. no_master_lem n e)

  -- the end of input answers in one of these ways
  pub end_exits : EndExit t d s (end_of_input t d s)
  unfolding end_of_input
  end_exits =
      pick Ends (ltb 0 (length s)) (refuse (error.UnexpectedEOF (cut_bytes d.position s)) d.position d) (cut_or t d (first_cut d))
      (λ e. bytes_left (ltb-true _ _ e))
      (λ e.
      let none : length s ≡ 0 = omega (arith, ltb-false 0 (length s) e) in
      pick Ends (ltb (first_cut d) d.open_count) (refuse (error.UnexpectedEOF (cut_master (cut_tag d))) (cut_tag d).tag_start d) (close_all t d)
      (λ f. master_cut none (ltb-true _ _ f))
      (λ f. close_exits (record { no_byte = none; none_cut = ltb-false _ _ f })))

  past_cuts : {r : Decoded} → NoneCut d s → r ≡ close_all t d → r ≡ end_of_input t d s
  unfolding end_of_input
  past_cuts n q =
      let none : length s ≤ 0 = omega (arith, n.no_byte) in
      q ∙ sym (cond_no _ _ _ (le-ltb _ _ none) ∙ cond_no _ _ _ (le-ltb _ _ n.none_cut))

  -- whoever has the facts of a case knows the answer
  pub end_answers : {r : Decoded} → EndExit t d s r → r ≡ end_of_input t d s
  unfolding end_of_input close_all finish
  end_answers (bytes_left l) = sym (cond_yes _ _ _ (lt-ltb _ _ l))
  end_answers (master_cut z l) =
      let none : length s ≤ 0 = omega arith in
      sym (cond_no _ _ _ (le-ltb _ _ none) ∙ cond_yes _ _ _ (lt-ltb _ _ l))
  end_answers (no_master_lem n m) = past_cuts n (sym (cond_no _ _ _ m))
  end_answers (finishes n m z) = past_cuts n (sym (cond_yes _ _ _ m ∙ cond_yes _ _ _ (eq-eqb _ _ z)))
  end_answers (closes_all n m l) =
      let some : d.open_count ≡ 0 → ⊥ = λ z. omega arith in
      past_cuts n (sym (cond_yes _ _ _ m ∙ cond_no _ _ _ (ne_eqb _ _ some)))

-- ---- what holds of all of them

-- what the end of input keeps, and that it takes nothing and asks for no more
pub record EndKeeps (d : TagDecoder) (r : Decoded) : Type 0 where
  pub none : r.taken ≡ 0
  pub position : r.state.position ≡ d.position
  pub settled : r.state.settled ≡ d.settled
  pub no_more : needs_more r.answer ≡ false

-- every exit does
pub end_keeps : {t : List Entry} {d : TagDecoder} {s : List ℕ} {r : Decoded} → EndExit t d s r → EndKeeps d r
unfolding move closed_to with_open with_waiting with_notes
end_keeps (bytes_left l) = record { none = refl; position = refl; settled = refl; no_more = refl }
end_keeps (master_cut z l) = record { none = refl; position = refl; settled = refl; no_more = refl }
end_keeps (no_master_lem n m) = record { none = refl; position = refl; settled = refl; no_more = refl }
end_keeps (finishes n m z) = record { none = refl; position = refl; settled = refl; no_more = refl }
end_keeps (closes_all n m l) = record { none = refl; position = refl; settled = refl; no_more = refl }

-- ---- the whole call

-- an answer after which the end of input is looked at: more is needed, or it is finished
abbrev pub is_quiet : Result Answer Refusal → Bool
is_quiet (Ok (answer.Event e)) = false
is_quiet (Ok (answer.NeedMore missing)) = true
is_quiet (Ok answer.Finished) = true
is_quiet (Err r) = false

-- every way in which `decode_eof` answers: as `decode` does, or as the end of input does on the record with the note
pub data EofExit (es ps : List ℕ) (d : TagDecoder) (s : List ℕ) : Decoded → Type 0 where
  as_decoded : is_quiet (decode es ps d s).answer ≡ false → EofExit es ps d s (decode es ps d s)
  at_end : {r : Decoded} → is_quiet (decode es ps d s).answer ≡ true → EndExit (table_of es ps) (with_note es ps d s) s r → EofExit es ps d s r

-- `decode_eof` answers in one of these ways
pub eof_exits : (es ps : List ℕ) (d : TagDecoder) (s : List ℕ) → EofExit es ps d s (decode_eof es ps d s)
unfolding decode_eof
eof_exits es ps d s = go (decode es ps d s).answer refl
  where
    go : (a : Result Answer Refusal) → (decode es ps d s).answer ≡ a → EofExit es ps d s (ended_or (table_of es ps) s (decode es ps d s) a)
    go (Ok (answer.Event e)) q = as_decoded (rw q)
    go (Ok (answer.NeedMore missing)) q = rw (decode_stays es ps d s (rw q)).same (at_end (rw q) (end_exits (table_of es ps) (with_note es ps d s) s))
    go (Ok answer.Finished) q = rw (decode_stays es ps d s (rw q)).same (at_end (rw q) (end_exits (table_of es ps) (with_note es ps d s) s))
    go (Err r) q = as_decoded (rw q)
