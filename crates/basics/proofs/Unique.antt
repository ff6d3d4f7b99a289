-- No second answer meets a contract: the law that each crate's Unique.antt has an instance of for each of its public
-- functions. Assumes nothing.
use mathlib.Core.Path.{◌≡◌, sym, ◌∙◌}
use Rattle.basics.specs.Unique.{OneAnswer}

-- two that are both the third are the same
pub same : {A : Type 0} {a x y : A} → x ≡ a → y ≡ a → x ≡ y
same p q = p ∙ sym q

-- a contract that fixes what is seen at exit, whatever the exit, has one answer
pub one_answer : {R E A : Type 0} {post : R → E → Type 0} {seen : R → E → A} {a : A} → ((r : R) (e : E) → post r e → seen r e ≡ a) → OneAnswer post seen
one_answer fixed r r' e e' p q = same (fixed r e p) (fixed r' e' q)
