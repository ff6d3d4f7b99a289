-- What is proved of the calls by value holds of the calls on a lent record, in one step each: what is returned, and the
-- record that is left, are the parts of the answer by value. Assumes nothing.
use Prim.Native.Nat.{ℕ, ◌+◌, ◌≤◌}
use mathlib.Core.Path.{◌≡◌, sym, subst}
use mathlib.Core.List.{List}
use lib.ListN.{length}
use Rattle.tools.specs.Bytes.{Octets}
use Rattle.table.specs.Table.{table_of}
use Rattle.decoder_rules.specs.OneCall.{check_record10to12}
use Rattle.decoder_rules.specs.Moving.{decode}
use Rattle.decoder_rules.specs.EndOfInput.{decode_eof}
use Rattle.decoder_rules.specs.Recovery.{try_recover}
use Rattle.decoder_rules.specs.FirstPlace.{stands_at, first_place}
use Rattle.decoder_rules.specs.declared.types.Answer.TheVariants as answer
use Rattle.decoder_rules.specs.declared.types.Decoded.{Decoded}
use Rattle.decoder_rules.specs.declared.types.Event.TheVariants.{End}
use Rattle.decoder_rules.specs.declared.types.Refusal.{Refusal}
use Rattle.decoder_rules.specs.declared.types.TagDecoder.{TagDecoder}
use Rattle.tag_decoder.proofs.CallLaws as by_value
use Rattle.decoder_rules.specs.declared.types.WaitingEnd.{WaitingEnd}
use Rattle.decoder_rules.proofs.FirstPlace as first
use Rattle.decoder_rules.proofs.FirstPlace.{Tells, PassesOver}
use Rattle.decoder_rules.proofs.MoveLaws.{with_note}
use Rattle.tag_decoder.proofs.CallLaws.{CallFacts}
use Rattle.tag_decoder_lent.specs.Lent.{ReturnsAndLeaves, apart, recovery_apart}
use Rattle.tag_decoder_lent.specs.declared.types.Reply.{Reply}
use Rattle.tag_decoder_lent.specs.declared.types.RecoveryReply.{RecoveryReply}
use Rattle.std.specs.Prelude.{Err, Ok}

-- what holds of the two parts of an answer holds of what a call returns and leaves
pub carried : {A : Type 0} (P : A → TagDecoder → Type 0) {r : A} {e : TagDecoder} {p : A × TagDecoder} → ReturnsAndLeaves r e p → P p.0 p.1 → P r e
carried P {r} {e} {p} l h = subst (λ z. P r z) (sym l.left) (subst (λ a. P a p.1) (sym l.answer) h)

-- ---- one call, and the end of input

-- d is the record as it was lent, f the same with the settling note, n the number of bytes lent; r is returned and e is
-- left
pub record LentFacts (d f : TagDecoder) (n : ℕ) (r : Reply) (e : TagDecoder) : Type 0 where
  pub within : r.taken ≤ n
  pub moves : e.position ≡ d.position + r.taken
  pub refusal : {x : Refusal} → r.answer ≡ Err x → (r.taken ≡ 0) × (e ≡ f)
  pub end : {end : WaitingEnd} → r.answer ≡ Ok (answer.Event (End end)) → r.taken ≡ 0

told-lent : {d f : TagDecoder} {n : ℕ} {a : Decoded} {r : Reply} {e : TagDecoder} → CallFacts d f n a → ReturnsAndLeaves r e (apart a) → LentFacts d f n r e
told-lent {d} {f} {n} t l = carried (LentFacts d f n) l (record { within = t.within; moves = t.moves; refusal = t.refusal; end = t.end })

module _ (es ps : List ℕ) (d : TagDecoder) (s : List ℕ) (byte : Octets s) {r : Reply} {e : TagDecoder} where
  pub decode_facts : ReturnsAndLeaves r e (apart (decode es ps d s)) → LentFacts d (with_note es ps d s) (length s) r e
  decode_facts = told-lent (by_value.decode_facts es ps d s byte)

  pub eof_facts : ReturnsAndLeaves r e (apart (decode_eof es ps d s)) → LentFacts d (with_note es ps d s) (length s) r e
  eof_facts = told-lent (by_value.eof_facts es ps d s byte)

-- ---- one recovery

module _ (es ps : List ℕ) (d : TagDecoder) (s : List ℕ) {r : RecoveryReply} {e : TagDecoder} (l : ReturnsAndLeaves r e (recovery_apart (try_recover es ps d s))) where
  pub recovery_within : r.taken ≤ length s
  recovery_within = carried (λ r e. r.taken ≤ length s) l (by_value.recovery_moves es ps d s).within

  pub recovery_moves : e.position ≡ d.position + r.taken
  recovery_moves = carried (λ r e. e.position ≡ d.position + r.taken) l (by_value.recovery_moves es ps d s).moves

  -- it passes over the bytes taken, at most those lent
  pub recovery_passes_over : PassesOver (length s) r.answer r.taken
  recovery_passes_over = carried (λ r e. PassesOver (length s) r.answer r.taken) l (first.recovery_passes_over es ps d s)

  -- where it is not refused, they are the bytes before the first place where an incomplete or a valid header stands, and
  -- it finds a header exactly where a valid one stands there
  pub recovery_tells_first : check_record10to12 es ps d (length s) ≡ Ok tt → let i = first_place ps (table_of es ps) d s in
      Tells (stands_at ps (table_of es ps) d s i) i r.answer r.taken
  recovery_tells_first e =
      let i = first_place ps (table_of es ps) d s in
      carried (λ r e. Tells (stands_at ps (table_of es ps) d s i) i r.answer r.taken) l (first.recovery_tells_first es ps d s e)

  pub refused_recovery_changes_nothing : {x : Refusal} → r.answer ≡ Err x → (r.taken ≡ 0) × (e ≡ d)
  refused_recovery_changes_nothing {x} = carried (λ r e. r.answer ≡ Err x → (r.taken ≡ 0) × (e ≡ d)) l (by_value.refused_recovery_changes_nothing es ps d s)
