-- No second answer meets the contract of `is_utf8`, and the one that does is yes exactly of a text. Assumes nothing.
use mathlib.Core.Path.{◌≡◌, sym, ◌∙◌}
use mathlib.Core.Bool.{Bool, true}
use mathlib.Core.Logic.{◌↔◌}
use contract.Lifetimes.{Lfts}
use borrow.Fn.Kinds.{Dens}
use Rattle.basics.specs.Unique.{OneAnswer, answer}
use Rattle.basics.proofs.Unique.{one_answer}
use Rattle.utf8.specs.Rfc3629.{IsText}
use Rattle.utf8.proofs.Rfc3629.{sound, complete}
use Rattle.utf8.proofs.is_utf8.Kinds.{ps}
use Rattle.utf8.proofs.is_utf8.Reads.{Post}

pub is_utf8_one : (κs : Lfts 1) (a : Dens κs ps) → OneAnswer (Post κs a) answer
is_utf8_one κs a = one_answer (λ r e p. p)

pub is_utf8_text : (κs : Lfts 1) (a : Dens κs ps) (r : Bool) → ((e : _) → Post κs a r e → (r ≡ true) ↔ IsText a.0.now)
is_utf8_text κs a r e p = (λ y. sound a.0.now (sym p ∙ y), λ i. p ∙ complete a.0.now i)
