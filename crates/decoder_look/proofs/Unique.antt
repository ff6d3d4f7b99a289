-- No second answer meets a contract of this crate, as the checker reads it: of two results, and two exits, that a
-- contract allows for the same arguments, the answers are equal, and so are the lent words, to the last of them.
-- Assumes nothing.
use Prim.Native.Nat.{ℕ}
use mathlib.Core.Path.{ap₂}
use mathlib.Core.Bool.{Bool}
use mathlib.Core.List.{List}
use borrow.Fn.Kinds.{Dens}
use contract.Lifetimes.{Lfts}
use Rattle.basics.specs.Unique.{OneAnswer, answer}
use Rattle.basics.proofs.Unique.{one_answer}
use Rattle.decoder_look.specs.declared.summary.Summary.{Summary}
use Rattle.decoder_look.proofs.places.is_full.Reads as is-full
use Rattle.decoder_look.proofs.places.is_full.Kinds as is-full-kinds
use Rattle.decoder_look.proofs.places.first_cut.Reads as first-cut
use Rattle.decoder_look.proofs.places.first_cut.Kinds as first-cut-kinds
use Rattle.decoder_look.proofs.summary.summarize.Reads as summarize
use Rattle.decoder_look.proofs.summary.summarize.Kinds as summarize-kinds

pub is_full_one : (κs : Lfts 0) (a : Dens κs is-full-kinds.ps) → OneAnswer (is-full.Post κs a) answer
is_full_one κs a = one_answer (λ r e p. p)

pub first_cut_one : (κs : Lfts 0) (a : Dens κs first-cut-kinds.ps) → OneAnswer (first-cut.Post κs a) answer
first_cut_one κs a = one_answer (λ r e p. p)

-- the answer and both kinds of words
pub summarize_one : (κs : Lfts 2) (a : Dens κs summarize-kinds.ps) → OneAnswer {A = Summary × List ℕ × List Bool} (summarize.Post κs a) (λ r e. (r, e.1.1.0.now, e.1.1.1.0.now))
summarize_one κs a =
    one_answer
    (λ r e p. ap₂ (λ (k : Summary) (w : List ℕ × List Bool). (k, w.0, w.1)) p.0 (ap₂ (λ (i : List ℕ) (k : List Bool). (i, k)) p.1.ids_left p.1.knowns_left))
