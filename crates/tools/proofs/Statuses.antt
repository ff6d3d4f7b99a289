-- A status that holds a pair: equal ones hold equal parts. Assumes nothing.
use mathlib.Core.Path.{◌≡◌, ap}
use Rattle.std.specs.Prelude.{Result, Ok}
use Rattle.tools.specs.declared.status.Status.{Status}
use Rattle.tools.specs.declared.status.Status.TheVariants.{Complete}

pub complete_parts : {A B : Type 0} (a c : A) (b d : B) → ◌≡◌ {A = Status (A × B)} (Complete (a, b)) (Complete (c, d)) → (a ≡ c) × (b ≡ d)
complete_parts {A} {B} a c b d e =
    let p : ◌≡◌ {A = A × B} (a, b) (c, d) = cc in
    (ap (λ (q : A × B). q.0) p, ap (λ (q : A × B). q.1) p)

pub ok_complete_parts : {A B E : Type 0} (a c : A) (b d : B) → ◌≡◌ {A = Result (Status (A × B)) E} (Ok (Complete (a, b))) (Ok (Complete (c, d))) → (a ≡ c) × (b ≡ d)
ok_complete_parts {A} {B} a c b d e =
    let p : ◌≡◌ {A = Status (A × B)} (Complete (a, b)) (Complete (c, d)) = cc in
    complete_parts a c b d p
