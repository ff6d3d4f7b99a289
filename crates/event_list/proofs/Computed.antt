-- The list that is computed is the list of the input. Assumes nothing.
use Prim.Native.Nat.{ℕ, zero, suc}
use mathlib.Core.Path.{◌≡◌, refl, sym, ap}
use mathlib.Core.Bool.{Bool, true, false≢true}
use mathlib.Core.List.{List, [], ◌∷◌, ◌++◌, append-nil}
use lib.ListN.{drop}
use Rattle.decoder_rules.specs.declared.types.Answer.{Answer}
use Rattle.decoder_rules.specs.declared.types.Answer.TheVariants as answer
use Rattle.decoder_rules.specs.declared.types.Decoded.{Decoded}
use Rattle.decoder_rules.specs.declared.types.Event.{Event}
use Rattle.decoder_rules.proofs.MoveLaws.{is_no_event}
use Rattle.event_list.specs.Line.{line}
use Rattle.event_list.specs.Reading.{begun}
use Rattle.event_list.specs.Whole.{next_answer, Answered, answered_by, Answers, goes_on, ends, lines_of, ListOf}
use Rattle.event_list.specs.Computed.{with_others, listed_from, listed}
use Rattle.std.specs.Prelude.{Err, Ok, Result}
use Rattle.decoder_rules.specs.declared.types.Refusal.{Refusal}

no_event : (a : Result Answer Refusal) → is_no_event a ≡ true → (e : Event) → a ≡ Ok (answer.Event e) → ⊥
no_event a n e q = absurd (false≢true (rw q at n))

-- what follows an answer
abbrev following : ℕ → ℕ → Decoded → List ℕ → Unit {0} → Bool × List ℕ
following size n r s u = listed_from size n (next_answer size r.state (drop r.taken s)) (drop r.taken s)

abbrev line_of : Decoded → List ℕ
line_of r = line r.answer r.state.position

-- the answers that a text has the lines of, from the answer r on
pub record Read (size : ℕ) (r : Decoded) (s text : List ℕ) : Type 0 where
  pub all : List Answered
  pub to : Answers size r s all
  pub lines : text ≡ lines_of all

-- one last answer
alone : (size : ℕ) (r : Decoded) (s : List ℕ) → is_no_event r.answer ≡ true → Read size r s (line_of r)
unfolding lines_of
alone size r s n = record { all = answered_by r ∷ []; to = ends r s (no_event r.answer n); lines = sym (append-nil (line_of r)) }

-- from an answer on
reads : (size n : ℕ) (r : Decoded) (s : List ℕ) → (listed_from size n r s).0 ≡ true → Read size r s (listed_from size n r s).1
unfolding listed_from lines_of
reads size zero r s h = absurd (false≢true h)
reads size (suc n) r s h = go r.answer refl h (reads size n (next_answer size r.state (drop r.taken s)) (drop r.taken s))
  where
    go : (a : Result Answer Refusal) → r.answer ≡ a → (with_others a (line_of r) (following size n r s)).0 ≡ true
        → ((following size n r s tt).0 ≡ true → Read size (next_answer size r.state (drop r.taken s)) (drop r.taken s) (following size n r s tt).1)
        → Read size r s (with_others a (line_of r) (following size n r s)).1
    go (Ok (answer.Event e)) q k others =
        let o = others k in
        record { all = answered_by r ∷ o.all; to = goes_on r s q o.to; lines = ap (λ (t : List ℕ). line_of r ++ t) o.lines }
    go (Ok (answer.NeedMore missing)) q k others = alone size r s (rw q)
    go (Ok answer.Finished) q k others = alone size r s (rw q)
    go (Err x) q k others = alone size r s (rw q)

-- of a whole input: where n lines are all of it, they are its list
pub listed_is_the_list : (strict : Bool) (size n : ℕ) (s : List ℕ) → (listed strict size n s).0 ≡ true → ListOf strict size s (listed strict size n s).1
listed_is_the_list strict size n s h = let o = reads size n (next_answer size (begun strict) s) s h in record { answers = o.all; to = o.to; lines = o.lines }
