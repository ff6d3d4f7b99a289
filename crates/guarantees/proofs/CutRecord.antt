-- A record that was cut does not look whole, however often the end of input is asked for. The outermost Start of known
-- size that is open has its End only where it is full, so that one which is not full stays open, and after the Ends
-- that are due comes 23. Assumes nothing.
use Prim.Native.Nat.{ℕ, zero, suc, ◌+◌, ◌≤◌, ◌<◌}
use mathlib.Core.Path.{◌≡◌, refl, ap, ◌∙◌, subst}
use mathlib.Core.Bool.{Bool, true, false, ◌&&◌, false≢true}
use mathlib.Core.List.Memᴰ
use mathlib.Core.List.{List, [], ◌∷◌, map}
use native.Mathlib.Numerals.{add-one}
use native.Mathlib.Omega.{arith}
use borrow.Author.Tests.{leb-true}
use lib.ListN.{length, take, drop}
use Rattle.tools.specs.Bytes.{Octets}
use Rattle.basics.specs.Lists.{every}
use Rattle.table.specs.Table.{table_of}
use Rattle.decoder_rules.specs.Numbers.{answer_refusal}
use Rattle.decoder_rules.specs.EndOfInput.{decode_eof}
use Rattle.decoder_rules.specs.declared.types.Answer.{Answer}
use Rattle.decoder_rules.specs.declared.types.Answer.TheVariants as answer
use Rattle.decoder_rules.specs.declared.types.Event.TheVariants as event
use Rattle.decoder_rules.specs.declared.types.TagDecoder.{TagDecoder}
use Rattle.decoder_rules.specs.declared.types.WaitingEnd.{WaitingEnd}
use Rattle.basics.proofs.Bools.{both, and_both}
use Rattle.basics.proofs.Every.{every_append, every_take}
use Rattle.tag_decoder.proofs.CallLaws.{eof_facts}
use Rattle.guarantees.specs.Calls.{Call, ending, Response, answered, next, record_after, history, Lent}
use Rattle.guarantees.specs.History.{Started, after_answer, first_end, outermost_end, starts_open, position, child_test_never_off}
use Rattle.guarantees.specs.Promises.{Runs, last_response, Answers, open_at, left_at, position_at, NotFull, EndOr23, ending_again, at_the_end}
use Rattle.guarantees.proofs.Ends.{ended_by}
use Rattle.guarantees.proofs.Tied.{parent_of, stack}
use Rattle.guarantees.proofs.AnyCalls.{BatchResponse, promised_after}
use Rattle.guarantees.proofs.Guarantees.{at_most_32}
use Rattle.guarantees.proofs.Cut.{cut_is_told}
use Rattle.guarantees.proofs.Nested.{nested_after, outermost_not_full}
use Rattle.std.specs.Prelude.{Err, None, Ok, Option, Result, Some}
use Rattle.decoder_rules.specs.declared.types.Refusal.{Refusal}

-- ---- the outermost of a list

abbrev unknown_end : Option ℕ → Bool
unknown_end None = true
unknown_end (Some e) = false

abbrev all_unknown : List Started → Bool
all_unknown l = every (λ m. unknown_end m.end) l

none_known : (l : List Started) → outermost_end l ≡ None → all_unknown l ≡ true
unfolding outermost_end every
none_known [] e = refl
none_known (m ∷ l) e = go (outermost_end l) refl m.end refl e (λ f. none_known l f)
  where
    go : (g : Option ℕ) → outermost_end l ≡ g → (h : Option ℕ) → m.end ≡ h → first_end g h ≡ None → (outermost_end l ≡ None → all_unknown l ≡ true) → (unknown_end m.end && all_unknown l) ≡ true
    go None p None q r rest = and_both (ap unknown_end q) (rest p)
    go None p (Some e) q r rest = let z : ◌≡◌ {A = ℕ} 0 1 = cc in absurd (omega arith)
    go (Some f) p h q r rest = let z : ◌≡◌ {A = ℕ} 0 1 = cc in absurd (omega arith)

all_unknown_lem : (l : List Started) → all_unknown l ≡ true → outermost_end l ≡ None
unfolding outermost_end every
all_unknown_lem [] e = refl
all_unknown_lem (m ∷ l) e = let b = both (unknown_end m.end) (all_unknown l) e in rw (all_unknown_lem l b.right) (go m.end b.left)
  where
    go : (g : Option ℕ) → unknown_end g ≡ true → g ≡ None
    go None h = refl
    go (Some f) h = absurd (false≢true h)

parents_unknown : (left : List ℕ) → all_unknown (map parent_of left) ≡ true
unfolding every
parents_unknown [] = refl
parents_unknown (x ∷ left) = parents_unknown left

-- one whose end is beyond p is one of the list that is not full
pub outermost_member : (l : List Started) (f p : ℕ) → outermost_end l ≡ Some f → p < f → NotFull l p
unfolding outermost_end
outermost_member [] f p e h = let z : ◌≡◌ {A = ℕ} 0 1 = cc in absurd (omega arith)
outermost_member (m ∷ l) f p e h = go (outermost_end l) refl e (λ q. outermost_member l f p q h)
  where
    go : (g : Option ℕ) → outermost_end l ≡ g → first_end g m.end ≡ Some f → (outermost_end l ≡ Some f → NotFull l p) → NotFull (m ∷ l) p
    go None q r rest = record { master = m; still_open = Memᴰ.head refl; end = f; known = r; beyond = h }
    go (Some n) q r rest = let k = rest (q ∙ r) in record { master = k.master; still_open = Memᴰ.tail k.still_open; end = k.end; known = k.known; beyond = k.beyond }

-- an End whose batch is full does not take the outermost Start of known size, where that is not full
stays : (starts : List Started) (left : List ℕ) (w p f : ℕ) → ended_by p (outermost_end (take (w + 1) (stack starts left))) ≡ true → outermost_end starts ≡ Some f → p < f
    → outermost_end (drop 1 starts) ≡ Some f
unfolding outermost_end
stays [] left w p f b e h = let z : ◌≡◌ {A = ℕ} 0 1 = cc in absurd (omega arith)
stays (m ∷ l) left w p f b e h = go (outermost_end l) refl e
  where
    go : (g : Option ℕ) → outermost_end l ≡ g → first_end g m.end ≡ Some f → outermost_end l ≡ Some f
    go (Some n) q r = q ∙ r
    go None q r =
        let rest : outermost_end (take w (stack l left)) ≡ None =
        all_unknown_lem (take w (stack l left)) (every_take (λ o. unknown_end o.end) w (stack l left) (every_append (λ o. unknown_end o.end) l (map parent_of left) (none_known l q) (parents_unknown left))) in
        let b' : ended_by p (first_end (outermost_end (take w (stack l left))) m.end) ≡ true = rw add-one at b in
        let c : ended_by p (Some f) ≡ true = subst (λ (x : Option ℕ). ended_by p x ≡ true) (ap (λ (x : Option ℕ). first_end x m.end) rest ∙ r) b' in
        absurd (omega (arith, leb-true f p c))

-- the outermost Start of known size that is open has its End only where it is full: at any call that answers an End
pub outermost_stays : (es ps : List ℕ) (cs : List Call) (c : Call) → Runs es ps (c ∷ cs) → (end : WaitingEnd) (f : ℕ) → Answers es ps cs c (Ok (answer.Event (event.End end)))
    → outermost_end (open_at es ps cs) ≡ Some f → position_at es ps cs < f → outermost_end (open_at es ps (c ∷ cs)) ≡ Some f
unfolding history starts_open
outermost_stays es ps cs c run end f a e h =
    let d = next es ps (record_after es ps cs) c in
    let b = subst (λ (z : Response). BatchResponse (stack (open_at es ps cs) (left_at es ps cs c)) (position_at es ps cs) z d) a.1 (promised_after es ps cs c run).batch in
    rw a.1 (stays (open_at es ps cs) (left_at es ps cs c) d.waiting_count (position_at es ps cs) f b e h)

-- ---- the end of input with no byte, once

-- no bytes are octets
pub no_octets : Octets []
no_octets i = omega arith

-- it takes nothing
eof_takes : (es ps : List ℕ) (d : TagDecoder) → (decode_eof es ps d []).taken ≡ 0
eof_takes es ps d = omega (arith, (eof_facts es ps d [] no_octets).within)

-- after these calls the outermost Start of known size that is open ends at f, and the position is p
pub record CutAt (es ps : List ℕ) (cs : List Call) (f p : ℕ) : Type 0 where
  pub outermost : outermost_end (open_at es ps cs) ≡ Some f
  pub place : position_at es ps cs ≡ p
  pub beyond : p < f

told_cut : (es ps : List ℕ) (cs : List Call) (f p : ℕ) → Runs es ps (ending [] ∷ cs) → CutAt es ps cs f p → EndOr23 (at_the_end es ps cs)
told_cut es ps cs f p run k = cut_is_told es ps cs run (outermost_member (open_at es ps cs) f (position_at es ps cs) k.outermost (omega (arith, k.place, k.beyond)))

-- the Starts that are open after it
open_after : (es ps : List ℕ) (cs : List Call) (a : Result Answer Refusal) → at_the_end es ps cs ≡ a → open_at es ps (ending [] ∷ cs) ≡ after_answer (table_of es ps) [] a (open_at es ps cs)
unfolding history starts_open
open_after es ps cs a e = ap (λ (x : Result Answer Refusal). after_answer (table_of es ps) [] x (open_at es ps cs)) e

still_cut : (es ps : List ℕ) (cs : List Call) (f p : ℕ) → Runs es ps (ending [] ∷ cs) → CutAt es ps cs f p → CutAt es ps (ending [] ∷ cs) f p
unfolding history position
still_cut es ps cs f p run k = record {
  outermost = go (at_the_end es ps cs) refl (told_cut es ps cs f p run k);
  place = omega (arith, k.place, eof_takes es ps (record_after es ps cs));
  beyond = k.beyond;
}
  where
    near : position_at es ps cs < f
    near = omega (arith, k.place, k.beyond)

    same : (a : Result Answer Refusal) → at_the_end es ps cs ≡ a → last_response es ps cs (ending []) ≡ answered a (decode_eof es ps (record_after es ps cs) []).taken
    same a e = ap (λ (x : Result Answer Refusal). answered x (decode_eof es ps (record_after es ps cs) []).taken) e

    go : (a : Result Answer Refusal) → at_the_end es ps cs ≡ a → EndOr23 a → outermost_end (open_at es ps (ending [] ∷ cs)) ≡ Some f
    go (Ok (answer.Event (event.Start x o))) e h = absurd h
    go (Ok (answer.Event (event.End end))) e h = outermost_stays es ps cs (ending []) run end f (_, same _ e) k.outermost near
    go (Ok (answer.Event (event.Data x o v))) e h = absurd h
    go (Ok (answer.NeedMore missing)) e h = absurd h
    go (Ok answer.Finished) e h = absurd h
    go (Err r) e h = ap outermost_end (open_after es ps cs (Err r) e) ∙ k.outermost

-- ---- the end of input with no byte, again and again

ends_runs : (es ps : List ℕ) (cs : List Call) → Runs es ps cs → (n : ℕ) → Runs es ps (ending_again n cs)
unfolding ending_again Lent
ends_runs es ps cs run zero = run
ends_runs es ps cs run (suc n) = let r = ends_runs es ps cs run n in record { checked = r.checked; octets = (no_octets, r.octets) }

-- calls that run, with an end of input on no byte after them, run
pub one_more : (es ps : List ℕ) (cs : List Call) → Runs es ps cs → Runs es ps (ending [] ∷ cs)
unfolding Lent
one_more es ps cs run = record { checked = run.checked; octets = (no_octets, run.octets) }

again_cut : (es ps : List ℕ) (cs : List Call) (f p : ℕ) → Runs es ps cs → CutAt es ps cs f p → (n : ℕ) → CutAt es ps (ending_again n cs) f p
unfolding ending_again
again_cut es ps cs f p run k zero = k
again_cut es ps cs f p run k (suc n) = still_cut es ps (ending_again n cs) f p (one_more es ps (ending_again n cs) (ends_runs es ps cs run n)) (again_cut es ps cs f p run k n)

-- each answers an End or 23, and none the finish
again_told : (es ps : List ℕ) (cs : List Call) (f p : ℕ) → Runs es ps cs → CutAt es ps cs f p → (n : ℕ) → EndOr23 (at_the_end es ps (ending_again n cs))
again_told es ps cs f p run k n = told_cut es ps (ending_again n cs) f p (one_more es ps (ending_again n cs) (ends_runs es ps cs run n)) (again_cut es ps cs f p run k n)

again_later : (n : ℕ) (cs : List Call) → ending_again n (ending [] ∷ cs) ≡ ending_again (suc n) cs
unfolding ending_again
again_later zero cs = refl
again_later (suc n) cs = ap (λ (l : List Call). ending [] ∷ l) (again_later n cs)

-- 23 comes after at most as many Ends as Starts are open
comes_23 : (es ps : List ℕ) (b : ℕ) (cs : List Call) (f p : ℕ) → Runs es ps cs → CutAt es ps cs f p → length (open_at es ps cs) ≤ b
    → (n : ℕ) × (n ≤ b) × (answer_refusal (at_the_end es ps (ending_again n cs)) ≡ 23)
unfolding outermost_end ending_again
comes_23 es ps zero cs f p run k h = absurd (none (open_at es ps cs) h k.outermost)
  where
    none : (l : List Started) → length l ≤ 0 → outermost_end l ≡ Some f → ⊥
    none [] h e = let z : ◌≡◌ {A = ℕ} 0 1 = cc in omega arith
    none (m ∷ l) h e = omega arith
comes_23 es ps (suc b) cs f p run k h =
    go (at_the_end es ps cs) refl (told_cut es ps cs f p (one_more es ps cs run) k)
    (λ e. comes_23 es ps b (ending [] ∷ cs) f p (one_more es ps cs run) (still_cut es ps cs f p (one_more es ps cs run) k) e)
  where
    Comes : ℕ → List Call → Type 0
    Comes b cs = (n : ℕ) × (n ≤ b) × (answer_refusal (at_the_end es ps (ending_again n cs)) ≡ 23)

    less : (l m : List Started) → m ≡ drop 1 l → length l ≤ suc b → length m ≤ b
    less [] m e h = rw e (omega arith)
    less (x ∷ l) m e h = rw e (omega arith)

    go : (a : Result Answer Refusal) → at_the_end es ps cs ≡ a → EndOr23 a → (length (open_at es ps (ending [] ∷ cs)) ≤ b → Comes b (ending [] ∷ cs)) → Comes (suc b) cs
    go (Ok (answer.Event (event.Start x o))) e h' rest = absurd h'
    go (Ok (answer.Event (event.End end))) e h' rest =
        let r = rest (less (open_at es ps cs) (open_at es ps (ending [] ∷ cs)) (open_after es ps cs _ e) h) in
        (suc r.0, omega (arith, r.1), subst (λ (l : List Call). answer_refusal (at_the_end es ps l) ≡ 23) (again_later r.0 cs) r.2)
    go (Ok (answer.Event (event.Data x o v))) e h' rest = absurd h'
    go (Ok (answer.NeedMore missing)) e h' rest = absurd h'
    go (Ok answer.Finished) e h' rest = absurd h'
    go (Err r) e h' rest = (0, omega arith, ap answer_refusal e ∙ h')

-- ==== a record cut inside a master of known size does not look whole

-- where the outermost Start of known size that is open is not full, then however often the end of input is called with
-- no byte, each call answers an End or 23, so none the finish; and 23 comes within 32 Ends. The child-size test may
-- have been off
pub cut_outermost : (es ps : List ℕ) (cs : List Call) (f p : ℕ) → Runs es ps cs → CutAt es ps cs f p
    → ((n : ℕ) → EndOr23 (at_the_end es ps (ending_again n cs))) × ((n : ℕ) × (n ≤ 32) × (answer_refusal (at_the_end es ps (ending_again n cs)) ≡ 23))
cut_outermost es ps cs f p run k =
    let few = at_most_32 es ps cs run in
    (again_told es ps cs f p run k, comes_23 es ps 32 cs f p run k (omega arith))

-- and where the child-size test was never off, this holds of any Start of known size that is open and not full
pub cut_always_told : (es ps : List ℕ) (cs : List Call) → Runs es ps cs → child_test_never_off cs ≡ true → NotFull (open_at es ps cs) (position_at es ps cs)
    → ((n : ℕ) → EndOr23 (at_the_end es ps (ending_again n cs))) × ((n : ℕ) × (n ≤ 32) × (answer_refusal (at_the_end es ps (ending_again n cs)) ≡ 23))
cut_always_told es ps cs run on n =
    let o = outermost_not_full (open_at es ps cs) (position_at es ps cs) (nested_after es ps cs run on) n in
    cut_outermost es ps cs o.0 (position_at es ps cs) run (record { outermost = o.1; place = refl; beyond = o.2 })
