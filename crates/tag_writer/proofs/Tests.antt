-- What `&&` answers, by the first of the two. Assumes nothing.
use mathlib.Core.Path.{◌≡◌, sym, ap, ◌∙◌}
use mathlib.Core.Bool.{Bool, true, false, ◌&&◌}

pub and_then : {a b : Bool} → a ≡ true → b ≡ (a && b)
and_then {a} {b} e = ap (λ (x : Bool). x && b) (sym e)

pub and_else : {a : Bool} (b : Bool) → a ≡ false → a ≡ (a && b)
and_else {a} b e = e ∙ ap (λ (x : Bool). x && b) (sym e)
