-- The verdict on an input that is all in memory, with any table: the answers to it end before their bound does
-- (`no_answer_cut`), so it is none that says that they have not ended or that an element is larger than a buffer
-- (`verdict_ends`); with a table that passes its check it is WHOLE just where the night is whole and is one record
-- (`memory_whole`, `whole_in_memory`). Assumes nothing.
use Prim.Native.Nat.{ℕ, zero, suc, ◌+◌, ◌-◌, ◌*◌, ◌≤◌, ◌<◌}
use mathlib.Core.Path.{◌≡◌, refl, sym, ap, subst, ◌∙◌}
use mathlib.Core.Bool.{Bool, true, false, cond, false≢true}
use mathlib.Core.List.{List, ◌∷◌}
use native.Mathlib.Omega.{arith}
use native.Mathlib.Nat.{not-suc-le-zero}
use lib.Dec.{eqb}
use lib.ListN.{length, take, drop, length-drop}
use lib.Seq.{take_all, drop-drop}
use Rattle.tools.specs.Bytes.{Octets}
use Rattle.table.specs.Check.{check_table}
use Rattle.tag_parse.proofs.Cases.{octets_drop}
use Rattle.decoder_rules.specs.Record.{with_settings}
use Rattle.decoder_rules.specs.Moving.{needs_more}
use Rattle.decoder_rules.specs.EndOfInput.{decode_eof}
use Rattle.decoder_rules.specs.declared.types.Answer.{Answer}
use Rattle.decoder_rules.specs.declared.types.Answer.TheVariants as answer
use Rattle.decoder_rules.specs.declared.types.Decoded.{Decoded}
use Rattle.decoder_rules.specs.declared.types.TagDecoder.{TagDecoder}
use Rattle.tag_decoder.proofs.CallLaws.{eof_facts}
use Rattle.tag_decoder_laws.proofs.Finishing.{eof_asks_no_more}
use Rattle.tag_decoder_laws.proofs.Nearer.{weight, eof_event_nearer}
use Rattle.event_list.specs.Reading.{begun}
use Rattle.event_list.specs.Whole.{Answered, answered_by}
use Rattle.whole.specs.Checking.{at_start, seen_after, finished_as, if_front, verdict_at, verdict_after, verdict_of}
use Rattle.whole.specs.Night.{is_event, read_from, answers_to, IsOneWhole}
use Rattle.whole.specs.declared.types.Seen.{Seen}
use Rattle.whole.specs.declared.types.Verdict.{Verdict}
use Rattle.whole.specs.declared.types.Verdict.TheVariants as verdict
use Rattle.whole.proofs.Readings.{read_on, read_last}
use Rattle.whole.proofs.Verdicts.{most, says_whole, ShowsWhole, refused_says, verdict_shows, alone_not_whole}
use Rattle.whole.proofs.WholeNights.{shown_one, one_shown, by_shown}
use Rattle.std.specs.Prelude.{Err, Ok, Result}
use Rattle.decoder_rules.specs.declared.types.Refusal.{Refusal}

-- ---- the answers end before their bound

-- how far the end is, with s still to come
abbrev pub ahead : TagDecoder → List ℕ → ℕ
ahead d s = 256 * length s + weight d

-- after an event it is nearer
pub event_ahead : (es ps : List ℕ) (d : TagDecoder) (s : List ℕ) → Octets s → is_event (decode_eof es ps d s).answer ≡ true
    → ahead (decode_eof es ps d s).state (drop (decode_eof es ps d s).taken s) < ahead d s
event_ahead es ps d s byte = by (decode_eof es ps d s).answer refl
  where
    r : Decoded
    r = decode_eof es ps d s

    by : (a : Result Answer Refusal) → r.answer ≡ a → is_event a ≡ true → ahead r.state (drop r.taken s) < ahead d s
    by (Ok (answer.Event e)) q i = omega (arith, eof_event_nearer es ps d s byte q, length-drop r.taken s)
    by (Ok (answer.NeedMore missing)) q i = absurd (false≢true i)
    by (Ok answer.Finished) q i = absurd (false≢true i)
    by (Err x) q i = absurd (false≢true i)

-- so every bound that is larger gives the same answers
pub same_answers : (es ps : List ℕ) (n m : ℕ) (d : TagDecoder) (s : List ℕ) → Octets s → ahead d s < n → ahead d s < m → read_from es ps n d s ≡ read_from es ps m d s
same_answers es ps zero m d s byte k l = absurd (not-suc-le-zero k)
same_answers es ps (suc n) zero d s byte k l = absurd (not-suc-le-zero l)
same_answers es ps (suc n) (suc m) d s byte k l =
    by (is_event (decode_eof es ps d s).answer) refl
    (λ near far. same_answers es ps n m (decode_eof es ps d s).state (drop (decode_eof es ps d s).taken s) (octets_drop (decode_eof es ps d s).taken s byte) near far)
  where
    r : Decoded
    r = decode_eof es ps d s

    left : ℕ
    left = ahead r.state (drop r.taken s)

    by : (b : Bool) → is_event r.answer ≡ b → (left < n → left < m → read_from es ps n r.state (drop r.taken s) ≡ read_from es ps m r.state (drop r.taken s))
        → read_from es ps (suc n) d s ≡ read_from es ps (suc m) d s
    by true e more =
        let near = event_ahead es ps d s byte e in
        read_on es ps n d s e ∙ ap (λ (l : List Answered). answered_by r ∷ l) (more (omega (arith, near)) (omega (arith, near))) ∙ sym (read_on es ps m d s e)
    by false e more = read_last es ps n d s e ∙ sym (read_last es ps m d s e)

-- the answers to an input are all of them: with any larger bound they are the same
pub no_answer_cut : (strict : Bool) (es ps s : List ℕ) (n : ℕ) → Octets s → 256 * length s + 129 ≤ n → answers_to strict es ps s ≡ read_from es ps n (begun strict) s
unfolding with_settings
no_answer_cut strict es ps s n byte k = same_answers es ps (256 * length s + 129) n (begun strict) s byte (omega arith) (omega arith)

-- ---- the verdict, an answer at a time

-- all the answers to s
abbrev pub all_from : List ℕ → List ℕ → TagDecoder → List ℕ → List Answered
all_from es ps d s = read_from es ps (suc (ahead d s)) d s

-- from a fresh decoder they are the answers to the input
pub from_fresh : (strict : Bool) (es ps s : List ℕ) → all_from es ps (begun strict) s ≡ answers_to strict es ps s
unfolding with_settings
from_fresh strict es ps s = ap (λ (n : ℕ). read_from es ps n (begun strict) s) (omega arith)

module _ (es ps : List ℕ) (d : TagDecoder) (s : List ℕ) where
  abbrev R : Decoded
  R = decode_eof es ps d s

  abbrev rest : List ℕ
  rest = drop R.taken s

  -- after an event come all the answers to what is left
  all_on : Octets s → is_event R.answer ≡ true → all_from es ps d s ≡ answered_by R ∷ all_from es ps R.state rest
  all_on byte e =
      read_on es ps (ahead d s) d s e
      ∙ ap (λ (l : List Answered). answered_by R ∷ l) (same_answers es ps (ahead d s) (suc (ahead R.state rest)) R.state rest (octets_drop R.taken s byte) (event_ahead es ps d s byte e) (omega arith))

  -- and the verdict is that on what is left, with the event kept
  pub verdict_on : (c : Seen) → Octets s → is_event R.answer ≡ true → verdict_after c (all_from es ps d s) ≡ verdict_after (seen_after c R.answer R.state) (all_from es ps R.state rest)
  unfolding verdict_after read_from
  verdict_on c byte e = ap (verdict_after c) (all_on byte e)

  -- any other answer is the last
  pub verdict_last : (c : Seen) → is_event R.answer ≡ false → verdict_after c (all_from es ps d s) ≡ verdict_at c R.answer R.state
  unfolding verdict_after
  verdict_last c e = ap (verdict_after c) (read_last es ps (ahead d s) d s e)

-- a turn of the loop of `verdict_on`: the call on the bytes of s from the place at on, whose result is r
module _ (es ps : List ℕ) (d : TagDecoder) (s : List ℕ) (at : ℕ) (c : Seen) {r : Decoded} (within : at ≤ length s) (is : r ≡ decode_eof es ps d (take (length s - at) (drop at s))) where
  on_rest : r ≡ decode_eof es ps d (drop at s)
  on_rest = is ∙ ap (decode_eof es ps d) (take_all (length s - at) (drop at s) (omega (arith, length-drop at s)))

  -- where it is the last
  pub turn_last : is_event r.answer ≡ false → verdict_at c r.answer r.state ≡ verdict_after c (all_from es ps d (drop at s))
  turn_last e =
      subst (λ (x : Decoded). is_event x.answer ≡ false → verdict_at c x.answer x.state ≡ verdict_after c (all_from es ps d (drop at s))) (sym on_rest)
      (λ q. sym (verdict_last es ps d (drop at s) c q)) e

-- what holds where it is an event
pub record TurnOn (es ps : List ℕ) (d : TagDecoder) (s : List ℕ) (at : ℕ) (c : Seen) (r : Decoded) : Type 0 where
  pub within : at + r.taken ≤ length s
  pub nearer : ahead r.state (drop (at + r.taken) s) < ahead d (drop at s)
  pub same : verdict_after (seen_after c r.answer r.state) (all_from es ps r.state (drop (at + r.taken) s)) ≡ verdict_after c (all_from es ps d (drop at s))

pub turn_on : (es ps : List ℕ) (d : TagDecoder) (s : List ℕ) (at : ℕ) (c : Seen) {r : Decoded} → at ≤ length s → r ≡ decode_eof es ps d (take (length s - at) (drop at s)) → Octets s
    → is_event r.answer ≡ true → TurnOn es ps d s at c r
turn_on es ps d s at c {r} within is byte e =
    subst (λ (x : Decoded). is_event x.answer ≡ true → TurnOn es ps d s at c x) (sym (on_rest es ps d s at c within is)) on e
  where
    x : Decoded
    x = decode_eof es ps d (drop at s)

    there : Octets (drop at s)
    there = octets_drop at s byte

    next : drop x.taken (drop at s) ≡ drop (at + x.taken) s
    next = drop-drop x.taken at s

    on : is_event x.answer ≡ true → TurnOn es ps d s at c x
    on q =
        record {
          within = omega (arith, (eof_facts es ps d (drop at s) there).within, length-drop at s);
          nearer = subst (λ (y : List ℕ). ahead x.state y < ahead d (drop at s)) next (event_ahead es ps d (drop at s) there q);
          same =
              ap (λ (y : List ℕ). verdict_after (seen_after c x.answer x.state) (all_from es ps x.state y)) (sym next)
              ∙ sym (verdict_on es ps d (drop at s) c there q);
        }

-- ---- no verdict is that the input has not ended, or that an element is larger than a buffer

-- whether a verdict is neither of the two
abbrev pub is_final : Verdict → Bool
is_final (verdict.Whole n m) = true
is_final verdict.Empty = true
is_final verdict.FrontMissing = true
is_final (verdict.Refused n p) = true
is_final (verdict.TooLarge p) = false
is_final (verdict.Cut p r m) = true
is_final (verdict.CannotTell x p) = true
is_final (verdict.More k n m) = true
is_final verdict.NotEnded = false

front_final : (c : Seen) (v : Verdict) → is_final v ≡ true → is_final (if_front c v) ≡ true
front_final c v e = by c.front
  where
    by : (b : Bool) → is_final (cond b v verdict.FrontMissing) ≡ true
    by true = e
    by false = refl

finish_final : (c : Seen) (p : ℕ) → is_final (finished_as c p) ≡ true
finish_final c p = by c.sized (eqb c.records 1)
  where
    by : (s o : Bool) → is_final (cond s (cond o (verdict.Whole c.feeds p) (verdict.More c.records c.feeds p)) (verdict.CannotTell c.id c.start)) ≡ true
    by true true = refl
    by true false = refl
    by false o = refl

-- at the last answer
last_final : (c : Seen) (a : Result Answer Refusal) (d : TagDecoder) → is_event a ≡ false → needs_more a ≡ false → is_final (verdict_at c a d) ≡ true
last_final c (Ok (answer.Event e)) d i q = absurd (false≢true (sym i))
last_final c (Ok (answer.NeedMore missing)) d i q = absurd (false≢true (sym q))
last_final c (Ok answer.Finished) d i q = by c.begun
  where
    by : (b : Bool) → is_final (cond b (if_front c (finished_as c d.position)) verdict.Empty) ≡ true
    by true = front_final c _ (finish_final c d.position)
    by false = refl
last_final c (Err r) d i q = front_final c _ (refused_says is_final (λ n p. refl) (λ p x m. refl) r.error r.place d)

-- of all of them, with a bound
all_final : (es ps : List ℕ) (n : ℕ) (c : Seen) (d : TagDecoder) (s : List ℕ) → Octets s → ahead d s < n → is_final (verdict_after c (all_from es ps d s)) ≡ true
all_final es ps zero c d s byte k = absurd (not-suc-le-zero k)
all_final es ps (suc n) c d s byte k =
    by (is_event (decode_eof es ps d s).answer) refl
    (λ near. all_final es ps n (seen_after c (decode_eof es ps d s).answer (decode_eof es ps d s).state) (decode_eof es ps d s).state (drop (decode_eof es ps d s).taken s) (octets_drop (decode_eof es ps d s).taken s byte) near)
  where
    r : Decoded
    r = decode_eof es ps d s

    by : (b : Bool) → is_event r.answer ≡ b
        → (ahead r.state (drop r.taken s) < n → is_final (verdict_after (seen_after c r.answer r.state) (all_from es ps r.state (drop r.taken s))) ≡ true)
        → is_final (verdict_after c (all_from es ps d s)) ≡ true
    by true e more = ap is_final (verdict_on es ps d s c byte e) ∙ more (omega (arith, event_ahead es ps d s byte e))
    by false e more = ap is_final (verdict_last es ps d s c e) ∙ last_final c r.answer r.state e (eof_asks_no_more es ps d s)

module _ (strict : Bool) (es ps s : List ℕ) (byte : Octets s) where
  -- the verdict that `verdict_on` answers
  abbrev pub verdict_there : Verdict
  verdict_there = verdict_of (answers_to strict es ps s)

  -- every verdict is neither of them
  pub verdict_ends : is_final verdict_there ≡ true
  verdict_ends = ap (λ (l : List Answered). is_final (verdict_of l)) (sym (from_fresh strict es ps s)) ∙ all_final es ps (suc (ahead (begun strict) s)) at_start (begun strict) s byte (omega arith)

  -- ---- WHOLE

  -- what the answers show where the verdict is WHOLE
  whole_shown : (n m : ℕ) → verdict_there ≡ verdict.Whole n m → ShowsWhole (answers_to strict es ps s) n m
  whole_shown n m = subst (λ (l : List Answered). verdict_of l ≡ verdict.Whole n m → ShowsWhole l n m) (from_fresh strict es ps s) (by (is_event r.answer) refl)
    where
      d : TagDecoder
      d = begun strict

      r : Decoded
      r = decode_eof es ps d s

      event_first : is_event r.answer ≡ true → verdict_of (answered_by r ∷ all_from es ps r.state (drop r.taken s)) ≡ verdict.Whole n m → ShowsWhole (answered_by r ∷ all_from es ps r.state (drop r.taken s)) n m
      event_first e v = unfold read_from in verdict_shows (answered_by r) _ _ e n m v

      by : (b : Bool) → is_event r.answer ≡ b → verdict_of (all_from es ps d s) ≡ verdict.Whole n m → ShowsWhole (all_from es ps d s) n m
      by true e v = subst (λ (l : List Answered). verdict_of l ≡ verdict.Whole n m → ShowsWhole l n m) (sym (all_on es ps d s byte e)) (event_first e) v
      by false e v =
          let last = read_last es ps (ahead d s) d s e in
          absurd (false≢true (sym (alone_not_whole (answered_by r)) ∙ ap (λ (l : List Answered). says_whole (verdict_of l)) (sym last) ∙ ap says_whole v))

  module _ (few : length s ≤ most) where
    -- with a table that passes its check, what is called WHOLE is whole
    pub memory_whole : check_table es ps ≡ Ok tt → (n m : ℕ) → verdict_there ≡ verdict.Whole n m → IsOneWhole strict es ps s n m
    memory_whole checked n m v = shown_one strict es ps s byte few checked n m (whole_shown n m v)

    -- and with any table what is whole is called so
    pub whole_in_memory : (n m : ℕ) → IsOneWhole strict es ps s n m → verdict_there ≡ verdict.Whole n m
    whole_in_memory n m w = by_shown (answers_to strict es ps s) n m (one_shown strict es ps s byte few n m w)
