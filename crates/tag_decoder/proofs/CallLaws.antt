-- What a user of `decode` and of `decode_eof` is told: a refusal and an End take no byte, a refusal changes at most the
-- settling note, no more is taken than was lent, and the position moves by what was taken. A user of `try_recover` is
-- told the same, and that its refusal changes nothing at all. Assumes nothing.
use Prim.Native.Nat.{ℕ, ◌+◌, ◌≤◌}
use mathlib.Core.Path.{◌≡◌, refl, ap}
use mathlib.Core.List.{List}
use native.Mathlib.Omega.{arith}
use lib.ListN.{length}
use Rattle.basics.proofs.Bools.{absurd_eq}
use Rattle.tools.specs.Bytes.{Octets}
use Rattle.table.specs.Table.{Entry, table_of}
use Rattle.decoder_rules.specs.Record.{with_open, with_sizes_grown}
use Rattle.decoder_rules.specs.OneCall.{check_record10to12}
use Rattle.decoder_rules.specs.Deciding.{decide}
use Rattle.decoder_rules.specs.Moving.{move, apply, decode}
use Rattle.decoder_rules.specs.EndOfInput.{decode_eof}
use Rattle.decoder_rules.specs.Recovery.{end_of_search, ending_at, ending, search_or, try_recover}
use Rattle.decoder_rules.specs.declared.types.Action.{Action}
use Rattle.decoder_rules.specs.declared.types.Action.TheVariants as act
use Rattle.decoder_rules.specs.declared.types.Answer.TheVariants as answer
use Rattle.decoder_rules.specs.declared.types.Decoded.{Decoded}
use Rattle.decoder_rules.specs.declared.types.Event.TheVariants.{End}
use Rattle.decoder_rules.specs.declared.types.Place.{Place}
use Rattle.decoder_rules.specs.declared.types.Place.TheVariants.{Stop, Found, On}
use Rattle.decoder_rules.specs.declared.types.PlaceResult.{PlaceResult}
use Rattle.decoder_rules.specs.declared.types.Recovered.{Recovered}
use Rattle.decoder_rules.specs.declared.types.Refusal.{Refusal}
use Rattle.decoder_rules.specs.declared.types.TagDecoder.{TagDecoder}
use Rattle.decoder_rules.specs.declared.types.WaitingEnd.{WaitingEnd}
use Rattle.decoder_rules.proofs.GoodState.{passed12}
use Rattle.decoder_rules.proofs.MoveLaws.{is_no_event, with_note, noted-position, end_takes_none, decode_position, decode_stays}
use Rattle.decoder_rules.proofs.EndExits as at
use Rattle.decoder_rules.proofs.EndExits.{EndExit, end_keeps, EofExit, eof_exits}
use Rattle.decoder_move.specs.Applies.{ActionApplies}
use Rattle.decoder_move.proofs.DecisionApplies.{decide_applies}
use Rattle.tag_decoder.proofs.Recovering.{EndWell, end_well}
use Rattle.std.specs.Prelude.{Err, Ok, Result, ⊤}
use Rattle.decoder_rules.specs.declared.types.DecodeError.{DecodeError}

-- ---- one call

taken_within : (d : TagDecoder) (n : ℕ) (a : Result Action DecodeError) → ActionApplies d n a → (move d a).taken ≤ n
unfolding ActionApplies move
taken_within d n (Err e) f = omega arith
taken_within d n (Ok (act.NeedMore missing)) f = omega arith
taken_within d n (Ok act.Finish) f = omega arith
taken_within d n (Ok act.HandOut) f = omega arith
taken_within d n (Ok (act.Close k)) f = omega arith
taken_within d n (Ok (act.Start x z len)) f = f.1
taken_within d n (Ok (act.Data x v m)) f = f.0

module _ (es ps : List ℕ) (d : TagDecoder) (s : List ℕ) where
  -- no more is taken than was lent
  pub takes_within : Octets s → (decode es ps d s).taken ≤ length s
  unfolding apply
  takes_within byte = taken_within _ (length s) _ (decide_applies es ps d s byte).action

  -- the position moves by what was taken
  pub moves_on : (decode es ps d s).state.position ≡ d.position + (decode es ps d s).taken
  moves_on = decode_position es ps d s

  -- a refusal takes nothing and changes at most the settling note
  pub refusal_changes_nothing : {r : Refusal} → (decode es ps d s).answer ≡ Err r
      → ((decode es ps d s).taken ≡ 0) × ((decode es ps d s).state ≡ with_note es ps d s)
  refusal_changes_nothing q = let k = decode_stays es ps d s (ap is_no_event q) in (k.none, k.same)

  -- an End takes nothing
  pub end_takes_nothing : {end : WaitingEnd} → (decode es ps d s).answer ≡ Ok (answer.Event (End end)) → (decode es ps d s).taken ≡ 0
  unfolding apply
  end_takes_nothing q = end_takes_none (with_note es ps d s) (decide es ps d s).action q

-- ---- the end of input: the same of it

-- what the four laws say of an answer r where the call was lent n bytes and the record became e by its note
pub record CallFacts (d e : TagDecoder) (n : ℕ) (r : Decoded) : Type 0 where
  pub within : r.taken ≤ n
  pub moves : r.state.position ≡ d.position + r.taken
  pub refusal : {x : Refusal} → r.answer ≡ Err x → (r.taken ≡ 0) × (r.state ≡ e)
  pub end : {end : WaitingEnd} → r.answer ≡ Ok (answer.Event (End end)) → r.taken ≡ 0

-- a refusal of the end of input changes nothing
end_refusal : {t : List Entry} {d : TagDecoder} {s : List ℕ} {r : Decoded} → EndExit t d s r → {x : Refusal} → r.answer ≡ Err x → r.state ≡ d
unfolding move
end_refusal (at.bytes_left l) q = refl
end_refusal (at.master_cut n l) q = refl
end_refusal (at.no_master_lem n m) q = refl
end_refusal (at.finishes n m l) q = let z : ◌≡◌ {A = ℕ} 0 1 = cc in absurd_eq z
end_refusal (at.closes_all n m l) q = let z : ◌≡◌ {A = ℕ} 0 1 = cc in absurd_eq z

module _ (es ps : List ℕ) (d : TagDecoder) (s : List ℕ) (byte : Octets s) where
  -- they hold of `decode`
  pub decode_facts : CallFacts d (with_note es ps d s) (length s) (decode es ps d s)
  decode_facts =
      record {
        within = takes_within es ps d s byte;
        moves = moves_on es ps d s;
        refusal = λ q. refusal_changes_nothing es ps d s q;
        end = λ q. end_takes_nothing es ps d s q;
      }

  exit_facts : {r : Decoded} → EofExit es ps d s r → CallFacts d (with_note es ps d s) (length s) r
  exit_facts (at.as_decoded q) = decode_facts
  exit_facts (at.at_end q x) =
      let k = end_keeps x in
      record {
        within = omega (arith, k.none);
        moves = omega (arith, k.none, k.position, noted-position ps d (decide es ps d s).note);
        refusal = λ f. (k.none, end_refusal x f);
        end = λ f. k.none;
      }

  -- and of `decode_eof`
  pub eof_facts : CallFacts d (with_note es ps d s) (length s) (decode_eof es ps d s)
  eof_facts = exit_facts (eof_exits es ps d s)

-- ---- one recovery

-- no more is taken than the n bytes lent, and the position moves by what was taken
pub record Moved (d : TagDecoder) (n : ℕ) (r : Recovered) : Type 0 where
  pub within : r.taken ≤ n
  pub moves : r.state.position ≡ d.position + r.taken

ending_moved : (d : TagDecoder) (n : ℕ) (p : PlaceResult) → EndWell d n p → Moved d n (ending d.position p)
unfolding ending with_sizes_grown with_open
ending_moved d n p w = by p.place
  where
    by : (q : Place) → Moved d n (ending_at d.position q p.state)
    by Stop = record { within = omega (arith, w.within); moves = omega (arith, w.later) }
    by Found = record { within = omega (arith, w.within); moves = omega (arith, w.later) }
    by On = record { within = omega (arith, w.within); moves = omega (arith, w.later) }

ending_answers : (start : ℕ) (p : PlaceResult) {r : Refusal} {A : Type 0} → (ending start p).answer ≡ Err r → A
unfolding ending
ending_answers start p {r = r} {A = A} e = by p.place e
  where
    by : (q : Place) → (ending_at start q p.state).answer ≡ Err r → A
    by Stop f = let z : ◌≡◌ {A = ℕ} 0 1 = cc in absurd_eq z
    by Found f = let z : ◌≡◌ {A = ℕ} 0 1 = cc in absurd_eq z
    by On f = let z : ◌≡◌ {A = ℕ} 0 1 = cc in absurd_eq z

module _ (es ps : List ℕ) (d : TagDecoder) (s : List ℕ) where
  -- it holds of `try_recover`
  pub recovery_moves : Moved d (length s) (try_recover es ps d s)
  unfolding try_recover
  recovery_moves = go (check_record10to12 es ps d (length s)) refl
    where
      go : (c : Result ⊤ DecodeError) → check_record10to12 es ps d (length s) ≡ c → Moved d (length s) (search_or ps (table_of es ps) d s c)
      go (Ok _) e =
          let p = passed12 es ps d (length s) e in
          ending_moved d (length s) _ (end_well es ps p.shape d s p.good p.near)
      go (Err x) e = record { within = omega arith; moves = omega arith }

  -- and a refusal of it changes nothing at all
  pub refused_recovery_changes_nothing : {r : Refusal} → (try_recover es ps d s).answer ≡ Err r → ((try_recover es ps d s).taken ≡ 0) × ((try_recover es ps d s).state ≡ d)
  unfolding try_recover
  refused_recovery_changes_nothing {r = r} e = go (check_record10to12 es ps d (length s)) e
    where
      go : (c : Result ⊤ DecodeError) → (search_or ps (table_of es ps) d s c).answer ≡ Err r → ((search_or ps (table_of es ps) d s c).taken ≡ 0) × ((search_or ps (table_of es ps) d s c).state ≡ d)
      go (Ok _) f = ending_answers d.position (end_of_search ps (table_of es ps) d s) f
      go (Err x) f = (refl, refl)
