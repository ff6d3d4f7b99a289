-- A record read in order: what a call takes and lends, and that all of the record has been taken when the finish is
-- answered. Assumes nothing.
use Prim.Native.Nat.{ℕ, ◌+◌, ◌≤◌, ◌<◌}
use mathlib.Core.Path.{◌≡◌, refl, sym, ap, ◌∙◌, subst}
use mathlib.Core.Bool.{Bool, true, false, true≢false, false≢true}
use mathlib.Core.List.{List, [], ◌∷◌, ◌++◌, append-nil}
use native.Mathlib.Decide.{dec_le}
use native.Mathlib.Omega.{arith}
use lib.ListN.{length, drop, length-append, length-drop}
use Rattle.basics.proofs.Bools.{absurd_eq}
use Rattle.tools.specs.Bytes.{Octets}
use Rattle.table.specs.Table.{Entry}
use Rattle.decoder_rules.specs.Record.{with_settings}
use Rattle.decoder_rules.specs.Settings.{limited_to}
use Rattle.decoder_rules.specs.Moving.{decode}
use Rattle.decoder_rules.specs.Deciding.{decide}
use Rattle.decoder_rules.specs.EndOfInput.{decode_eof}
use Rattle.decoder_rules.specs.declared.types.Answer.{Answer}
use Rattle.decoder_rules.specs.declared.types.Answer.TheVariants as answer
use Rattle.decoder_rules.specs.declared.types.Decoded.{Decoded}
use Rattle.decoder_rules.specs.declared.types.Event.TheVariants as event
use Rattle.decoder_rules.specs.declared.types.TagDecoder.{TagDecoder}
use Rattle.decoder_rules.proofs.MoveLaws.{is_no_event, noted_finished, decode_finished, decode_stays}
use Rattle.decoder_rules.proofs.EndExits as end
use Rattle.decoder_rules.proofs.EndExits.{EndExit, EofExit, end_keeps, eof_exits}
use Rattle.tag_decoder.proofs.CallLaws.{end_takes_nothing, decode_facts, eof_facts, recovery_moves}
use Rattle.guarantees.specs.Calls.{Call, decoding, ending, recovering, allow, strictly, limit, lent, Response, answered, response_to, next, record_after, history, Lent}
use Rattle.guarantees.specs.History.{taken_in, position, is_no_recovery, never_recovered}
use Rattle.guarantees.specs.Promises.{Runs, last_response, Answers, position_at}
use Rattle.guarantees.specs.CutRecords.{LendsNext, InOrder}
use Rattle.guarantees.proofs.AnyCalls.{QuietResponse, promised_after}
use Rattle.std.specs.Prelude.{Err, None, Ok, Option, Result, Some}
use Rattle.decoder_rules.specs.declared.types.Refusal.{Refusal}

-- ---- what a call takes

-- an answer that carries an element, a Start or a Data
abbrev pub is_element : Result Answer Refusal → Bool
is_element (Ok (answer.Event (event.Start x o))) = true
is_element (Ok (answer.Event (event.End end))) = false
is_element (Ok (answer.Event (event.Data x o v))) = true
is_element (Ok (answer.NeedMore missing)) = false
is_element (Ok answer.Finished) = false
is_element (Err r) = false

module _ (es ps : List ℕ) (d : TagDecoder) where
  decode_takes : (s : List ℕ) → is_element (decode es ps d s).answer ≡ false → (decode es ps d s).taken ≡ 0
  decode_takes s = go (decode es ps d s).answer refl
    where
      go : (a : Result Answer Refusal) → (decode es ps d s).answer ≡ a → is_element a ≡ false → (decode es ps d s).taken ≡ 0
      go (Ok (answer.Event (event.Start x o))) q e = absurd (true≢false e)
      go (Ok (answer.Event (event.End end))) q e = end_takes_nothing es ps d s q
      go (Ok (answer.Event (event.Data x o v))) q e = absurd (true≢false e)
      go (Ok (answer.NeedMore missing)) q e = (decode_stays es ps d s (ap is_no_event q)).none
      go (Ok answer.Finished) q e = (decode_stays es ps d s (ap is_no_event q)).none
      go (Err r) q e = (decode_stays es ps d s (ap is_no_event q)).none

  eof_takes : (s : List ℕ) {r : Decoded} → EofExit es ps d s r → is_element r.answer ≡ false → r.taken ≡ 0
  eof_takes s (end.as_decoded q) e = decode_takes s e
  eof_takes s (end.at_end q x) e = (end_keeps x).none

  -- only an element takes bytes
  pub takes_none : (c : Call) (a : Result Answer Refusal) (n : ℕ) → response_to es ps d c ≡ answered a n → is_element a ≡ false → n ≡ 0
  takes_none (decoding s) a n q e =
      let i : (decode es ps d s).answer ≡ a = cc in
      let j : (decode es ps d s).taken ≡ n = cc in
      sym j ∙ decode_takes s (ap is_element i ∙ e)
  takes_none (ending s) a n q e =
      let i : (decode_eof es ps d s).answer ≡ a = cc in
      let j : (decode_eof es ps d s).taken ≡ n = cc in
      sym j ∙ eof_takes s (eof_exits es ps d s) (ap is_element i ∙ e)
  takes_none (recovering s) a n q e = let z : ◌≡◌ {A = ℕ} 0 1 = cc in absurd_eq z
  takes_none (allow ids hierarchy oversized) a n q e = let z : ◌≡◌ {A = ℕ} 0 1 = cc in absurd_eq z
  takes_none (strictly b) a n q e = let z : ◌≡◌ {A = ℕ} 0 1 = cc in absurd_eq z
  takes_none (limit m) a n q e = let z : ◌≡◌ {A = ℕ} 0 1 = cc in absurd_eq z

  -- and no more than were lent
  takes_lent : (c : Call) → Octets (lent c) → taken_in (response_to es ps d c) ≤ length (lent c)
  takes_lent (decoding s) byte = (decode_facts es ps d s byte).within
  takes_lent (ending s) byte = (eof_facts es ps d s byte).within
  takes_lent (recovering s) byte = (recovery_moves es ps d s).within
  takes_lent (allow ids hierarchy oversized) byte = omega arith
  takes_lent (strictly b) byte = omega arith
  takes_lent (limit m) byte = omega arith

-- ---- what a call lends

-- the front of what is unread
pub lends_front : (s : List ℕ) (p : ℕ) (c : Call) → LendsNext s p c → (rest : List ℕ) × (lent c ++ rest ≡ drop p s)
lends_front s p (decoding b) l = l
lends_front s p (ending b) l = ([], append-nil b ∙ l)
lends_front s p (recovering b) l = absurd l
lends_front s p (allow ids hierarchy oversized) l = (drop p s, refl)
lends_front s p (strictly b) l = (drop p s, refl)
lends_front s p (limit n) l = (drop p s, refl)

-- by no recovery
pub lends_no_recovery : (s : List ℕ) (p : ℕ) (c : Call) → LendsNext s p c → is_no_recovery c ≡ true
lends_no_recovery s p (decoding b) l = refl
lends_no_recovery s p (ending b) l = refl
lends_no_recovery s p (recovering b) l = absurd l
lends_no_recovery s p (allow ids hierarchy oversized) l = refl
lends_no_recovery s p (strictly b) l = refl
lends_no_recovery s p (limit n) l = refl

-- a record read in order is read with no recovery
pub in_order_no_recovery : (es ps s : List ℕ) (cs : List Call) → InOrder es ps s cs → never_recovered cs ≡ true
unfolding InOrder never_recovered
in_order_no_recovery es ps s [] i = refl
in_order_no_recovery es ps s (c ∷ cs) i = rw (lends_no_recovery s (position_at es ps cs) c i.0) (in_order_no_recovery es ps s cs i.1)

-- so the position stays within the record
pub within : (es ps s : List ℕ) (cs : List Call) (c : Call) → Octets (lent c) → LendsNext s (position_at es ps cs) c → position_at es ps cs ≤ length s
    → position_at es ps cs + taken_in (last_response es ps cs c) ≤ length s
within es ps s cs c byte l h =
    let f = lends_front s (position_at es ps cs) c l in
    omega (arith, takes_lent es ps (record_after es ps cs) c byte, ap length f.1, length-append (lent c) f.0, length-drop (position_at es ps cs) s)

-- ---- the end of input finishes only where no byte is left

end_keeps_finished : {t : List Entry} {d : TagDecoder} {b : List ℕ} {r : Decoded} → 0 < length b → EndExit t d b r → r.state.finished ≡ d.finished
end_keeps_finished h (end.bytes_left l) = refl
end_keeps_finished h (end.master_cut z l) = refl
end_keeps_finished h (end.no_master_lem n m) = refl
end_keeps_finished h (end.finishes n m z) = absurd (omega (arith, h, n.no_byte))
end_keeps_finished h (end.closes_all n m l) = absurd (omega (arith, h, n.no_byte))

-- so with a byte left it finishes nothing
pub eof_keeps_finished : (es ps : List ℕ) (d : TagDecoder) (b : List ℕ) → 0 < length b → {r : Decoded} → EofExit es ps d b r → r.state.finished ≡ d.finished
eof_keeps_finished es ps d b h (end.as_decoded q) = decode_finished es ps d b
eof_keeps_finished es ps d b h (end.at_end q x) = end_keeps_finished h x ∙ noted_finished ps d (decide es ps d b).note

-- nor does a setting of the greatest size
pub limit_keeps_finished : (d : TagDecoder) (n : Option ℕ) → (limited_to d n).finished ≡ d.finished
unfolding with_settings
limit_keeps_finished d None = refl
limit_keeps_finished d (Some n) = refl

-- ---- all of it is taken

module _ (es ps s : List ℕ) where
  -- the position is within the record, and at its end once the end of input has come
  record ReadTo (cs : List Call) : Type 0 where
    inside : position_at es ps cs ≤ length s
    done : (record_after es ps cs).finished ≡ true → position_at es ps cs ≡ length s

  -- where nothing is unread the position stays
  stays_done : (cs : List Call) (c : Call) → Octets (lent c) → LendsNext s (position_at es ps cs) c → position_at es ps cs ≡ length s
      → position_at es ps cs + taken_in (last_response es ps cs c) ≡ length s
  stays_done cs c byte l e =
      let f = lends_front s (position_at es ps cs) c l in
      omega (arith, e, takes_lent es ps (record_after es ps cs) c byte, ap length f.1, length-append (lent c) f.0, length-drop (position_at es ps cs) s)

  -- the position is at the end where the call c finishes
  at_done : (cs : List Call) (c : Call) → LendsNext s (position_at es ps cs) c → ReadTo cs → (next es ps (record_after es ps cs) c).finished ≡ true → position_at es ps cs ≡ length s
  unfolding with_settings
  at_done cs (decoding b) l k e = k.done (sym (decode_finished es ps (record_after es ps cs) b) ∙ e)
  at_done cs (ending b) l k e = go (dec_le (length b) 0)
    where
      go : Dec (length b ≤ 0) → position_at es ps cs ≡ length s
      go (yes h) = omega (arith, h, ap length l, length-drop (position_at es ps cs) s, k.inside)
      go (no h) = k.done (sym (eof_keeps_finished es ps (record_after es ps cs) b (omega arith) (eof_exits es ps (record_after es ps cs) b)) ∙ e)
  at_done cs (recovering b) l k e = absurd l
  at_done cs (allow ids hierarchy oversized) l k e = k.done e
  at_done cs (strictly b) l k e = k.done e
  at_done cs (limit n) l k e = k.done (sym (limit_keeps_finished (record_after es ps cs) n) ∙ e)

  read_to : (cs : List Call) → Lent cs → InOrder es ps s cs → ReadTo cs
  unfolding InOrder Lent record_after history position
  read_to [] l i = record { inside = omega arith; done = λ e. absurd (false≢true e) }
  read_to (c ∷ cs) l i =
      let k = read_to cs l.1 i.1 in
      record { inside = within es ps s cs c l.0 i.0 k.inside; done = λ e. stays_done cs c l.0 i.0 (at_done cs c i.0 k e) }

  -- when the finish is answered, all of the record has been taken
  pub finish_reads_all : (cs : List Call) (c : Call) → Runs es ps (c ∷ cs) → InOrder es ps s (c ∷ cs) → Answers es ps cs c (Ok answer.Finished) → position_at es ps cs ≡ length s
  unfolding InOrder Lent record_after
  finish_reads_all cs c run i a =
      let q = subst (λ (x : Response). QuietResponse x (next es ps (record_after es ps cs) c)) a.1 (promised_after es ps cs c run).quiet in
      at_done cs c i.0 (read_to cs run.octets.1 i.1) q.2
