-- The list of a whole input, computed; and lines of text, so that a list can be written down as it is printed.
use Rattle.std.specs.Prelude.{ℕ, zero, suc, Bool, true, false, List, [], ◌∷◌, ◌++◌, drop, Err, Ok, Result}
use Prim.Native.String.{String}
use Rattle.decoder_rules.specs.declared.types.Answer.{Answer}
use Rattle.decoder_rules.specs.declared.types.Answer.TheVariants as answer
use Rattle.decoder_rules.specs.declared.types.Decoded.{Decoded}
use Rattle.texts.specs.Ascii.{ascii}
use Rattle.event_list.specs.Line.{line}
use Rattle.event_list.specs.Reading.{begun}
use Rattle.event_list.specs.Whole.{next_answer}
use Rattle.decoder_rules.specs.declared.types.Refusal.{Refusal}

-- lines of text, a newline after each
unfoldable pub text_lines : List String → List ℕ
text_lines [] = []
text_lines (s ∷ l) = ascii s ++ (10 ∷ text_lines l)

-- a line, and behind an event's the list of what follows it: whether it comes to an end, and its text
abbrev pub with_others : Result Answer Refusal → List ℕ → (Unit {0} → Bool × List ℕ) → Bool × List ℕ
with_others (Ok (answer.Event e)) text others = ((others tt).0, text ++ (others tt).1)
with_others (Ok (answer.NeedMore missing)) text others = (true, text)
with_others (Ok answer.Finished) text others = (true, text)
with_others (Err r) text others = (true, text)

-- at most n lines, from the next answer r on, with s still to come
unfoldable pub listed_from : ℕ → ℕ → Decoded → List ℕ → Bool × List ℕ
listed_from size zero r s = (false, [])
listed_from size (suc n) r s =
    with_others r.answer (line r.answer r.state.position)
    (λ u. listed_from size n (next_answer size r.state (drop r.taken s)) (drop r.taken s))

-- at most n lines of the list of the input s, read strictly or as ported, with a buffer of so many bytes: whether that
-- is all of it, and its text
abbrev pub listed : Bool → ℕ → ℕ → List ℕ → Bool × List ℕ
listed strict size n s = listed_from size n (next_answer size (begun strict) s) s
