-- What it means that no second answer meets a contract. At given arguments, `post r e` says that a contract allows the
-- result r with what is lent being e at exit, and `seen r e` is what the caller then has.
use Rattle.std.specs.Prelude.{◌≡◌}

-- of any two exits that the contract allows, the same is seen
abbrev pub OneAnswer : {R E A : Type 0} → (R → E → Type 0) → (R → E → A) → Type 0
OneAnswer {R} {E} post seen = (r r' : R) (e e' : E) → post r e → post r' e' → seen r e ≡ seen r' e'

-- the result is seen
abbrev pub answer : {R E : Type 0} → R → E → R
answer r e = r

-- the result is seen, and the lent bytes as they are at exit
abbrev pub answer_and : {R E B : Type 0} → (E → B) → R → E → R × B
answer_and bytes r e = (r, bytes e)
