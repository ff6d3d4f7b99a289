-- What one of the calls in a row tells: it takes no more bytes than are left, the position moves by those, an answer that
-- is no event takes none, and after a Start there are at most 32 masters open. Assumes nothing.
use Prim.Native.Nat.{ℕ, ◌+◌, ◌-◌, ◌≤◌, min}
use mathlib.Core.Bool.{Bool, true, false}
use mathlib.Core.List.{List}
use mathlib.Core.Path.{◌≡◌, sym, ap, ◌∙◌, subst}
use native.Mathlib.Omega.{arith}
use lib.ListN.{length, get_or}
use Rattle.basics.proofs.Bools.{absurd_eq}
use Rattle.tools.specs.Bytes.{Octets}
use Rattle.table.specs.Table.{Entry}
use Rattle.spec_util.specs.Walk.{most_open, no_tag}
use Rattle.decoder_rules.specs.Record.{with_open, with_notes, opened, counted}
use Rattle.decoder_rules.specs.Deciding.{decide}
use Rattle.decoder_rules.specs.Moving.{move, apply, decode}
use Rattle.decoder_rules.specs.declared.types.Action.{Action}
use Rattle.decoder_rules.specs.declared.types.Action.TheVariants as act
use Rattle.decoder_rules.specs.declared.types.Answer.TheVariants as answer
use Rattle.decoder_rules.specs.declared.types.Decoded.{Decoded}
use Rattle.decoder_rules.specs.declared.types.Event.TheVariants as event
use Rattle.decoder_rules.specs.declared.types.TagDecoder.{TagDecoder}
use Rattle.decoder_rules.proofs.MoveLaws.{is_no_event, with_note, decode_stays}
use Rattle.decoder_rules.proofs.EndExits as at
use Rattle.decoder_rules.proofs.EndExits.{EndExit, EofExit, end_keeps, eof_exits}
use Rattle.decoder_move.specs.Applies.{ActionApplies}
use Rattle.decoder_move.proofs.DecisionApplies.{decide_applies, starts}
use Rattle.tag_decoder.proofs.CallLaws.{decode_facts, eof_facts}
use Rattle.many_events.specs.Events.{innermost}
use Rattle.many_events.specs.Many.{one_call}
use Rattle.std.specs.Prelude.{Err, Ok, Result}
use Rattle.decoder_rules.specs.declared.types.DecodeError.{DecodeError}

module _ (es ps : List ℕ) (d : TagDecoder) (s : List ℕ) where
  -- no more bytes are taken than are left
  pub call_within : (eof : Bool) → Octets s → (one_call eof es ps d s).taken ≤ length s
  call_within true byte = (eof_facts es ps d s byte).within
  call_within false byte = (decode_facts es ps d s byte).within

  -- the position moves by what was taken
  pub call_moves : (eof : Bool) → Octets s → (one_call eof es ps d s).state.position ≡ d.position + (one_call eof es ps d s).taken
  call_moves true byte = (eof_facts es ps d s byte).moves
  call_moves false byte = (decode_facts es ps d s byte).moves

  eof_takes_none : {r : Decoded} → EofExit es ps d s r → is_no_event r.answer ≡ true → r.taken ≡ 0
  eof_takes_none (at.as_decoded q) n = (decode_stays es ps d s n).none
  eof_takes_none (at.at_end q x) n = (end_keeps x).none

  -- an answer that is no event takes none
  pub call_takes_none : (eof : Bool) → is_no_event (one_call eof es ps d s).answer ≡ true → (one_call eof es ps d s).taken ≡ 0
  call_takes_none true n = eof_takes_none (eof_exits es ps d s) n
  call_takes_none false n = (decode_stays es ps d s n).none

-- ---- a Start

module _ {x o : ℕ} where
  -- it was moved to
  start_moved : (d : TagDecoder) (n : ℕ) (a : Result Action DecodeError) → ActionApplies d n a → (move d a).answer ≡ Ok (answer.Event (event.Start x o)) → (move d a).state.open_count ≤ most_open
  unfolding move opened counted with_open with_notes
  start_moved d n (Err e) f q = let z : ◌≡◌ {A = ℕ} 0 1 = cc in absurd_eq z
  start_moved d n (Ok (act.NeedMore missing)) f q = let z : ◌≡◌ {A = ℕ} 0 1 = cc in absurd_eq z
  start_moved d n (Ok act.Finish) f q = let z : ◌≡◌ {A = ℕ} 0 1 = cc in absurd_eq z
  start_moved d n (Ok act.HandOut) f q = let z : ◌≡◌ {A = ℕ} 0 1 = cc in absurd_eq z
  start_moved d n (Ok (act.Close k)) f q = let z : ◌≡◌ {A = ℕ} 0 1 = cc in absurd_eq z
  start_moved d n (Ok (act.Start y size len)) f q = omega (arith, starts d n y size len f)
  start_moved d n (Ok (act.Data y v m)) f q = let z : ◌≡◌ {A = ℕ} 0 1 = cc in absurd_eq z

  -- the end of input answers none
  end_starts_none : {t : List Entry} {d : TagDecoder} {s : List ℕ} {r : Decoded} {A : Type 0} → EndExit t d s r → r.answer ≡ Ok (answer.Event (event.Start x o)) → A
  unfolding move
  end_starts_none (at.bytes_left l) q = let z : ◌≡◌ {A = ℕ} 0 1 = cc in absurd_eq z
  end_starts_none (at.master_cut z l) q = let z : ◌≡◌ {A = ℕ} 0 1 = cc in absurd_eq z
  end_starts_none (at.no_master_lem n m) q = let z : ◌≡◌ {A = ℕ} 0 1 = cc in absurd_eq z
  end_starts_none (at.finishes n m l) q = let z : ◌≡◌ {A = ℕ} 0 1 = cc in absurd_eq z
  end_starts_none (at.closes_all n m l) q = let z : ◌≡◌ {A = ℕ} 0 1 = cc in absurd_eq z

  module _ (es ps : List ℕ) (d : TagDecoder) (s : List ℕ) (byte : Octets s) where
    decode_room : (decode es ps d s).answer ≡ Ok (answer.Event (event.Start x o)) → (decode es ps d s).state.open_count ≤ most_open
    unfolding apply
    decode_room q = start_moved (with_note es ps d s) (length s) (decide es ps d s).action (decide_applies es ps d s byte).action q

    eof_room : {r : Decoded} → EofExit es ps d s r → r.answer ≡ Ok (answer.Event (event.Start x o)) → r.state.open_count ≤ most_open
    eof_room (at.as_decoded n) q = decode_room q
    eof_room (at.at_end n e) q = end_starts_none e q

    -- after it there are at most 32 masters open
    start_room : (eof : Bool) → (one_call eof es ps d s).answer ≡ Ok (answer.Event (event.Start x o)) → (one_call eof es ps d s).state.open_count ≤ most_open
    start_room true q = eof_room (eof_exits es ps d s) q
    start_room false q = decode_room q

    -- so the top one of the 32 places is the innermost master's
    pub start_innermost : (eof : Bool) (r : Decoded) → r ≡ one_call eof es ps d s → r.answer ≡ Ok (answer.Event (event.Start x o))
        → (top : ℕ) → top ≡ min (r.state.open_count - 1) (most_open - 1) → get_or r.state.«open» top no_tag ≡ innermost r.state
    start_innermost eof r is q top e =
        let few : r.state.open_count ≤ most_open = subst (λ (a : Decoded). a.state.open_count ≤ most_open) (sym is) (start_room eof (sym (ap (λ (a : Decoded). a.answer) is) ∙ q)) in
        let same : top ≡ r.state.open_count - 1 = omega arith in
        ap (λ (i : ℕ). get_or r.state.«open» i no_tag) same
