-- Where the child-size test was never off, the known ends of the Starts that are open are nested, so that where one of
-- them is not full the outermost is not full. Assumes nothing.
use Prim.Native.Nat.{ℕ, ◌+◌, ◌<◌}
use mathlib.Core.Path.{◌≡◌, refl, sym, ap, ◌∙◌, subst}
use mathlib.Core.Bool.{Bool, true, false}
use mathlib.Core.List.Memᴰ
use mathlib.Core.List.{List, [], ◌∷◌, map}
use mathlib.Core.Logic.{⊎_elim}
use native.Mathlib.Omega.{arith}
use borrow.Author.Tests.{leb-true, le-leb}
use lib.ListN.{drop}
use Rattle.basics.specs.Lists.{every}
use Rattle.table.specs.Table.{Entry, table_of}
use Rattle.decoder_rules.specs.declared.types.Answer.TheVariants as answer
use Rattle.decoder_rules.specs.declared.types.Event.TheVariants as event
use Rattle.decoder_rules.specs.declared.types.Search.TheVariants as search
use Rattle.basics.proofs.Bools.{both, not-false}
use Rattle.basics.proofs.Every.{every_map}
use Rattle.guarantees.specs.Calls.{Call, lent, Response, answered, searched, silent, response_to, record_after, history, Lent}
use Rattle.guarantees.specs.History.{Started, later_end, later, declared_end, after_response, first_end, outermost_end, starts_open, test_after, child_test_never_off}
use Rattle.guarantees.specs.Promises.{Runs, open_at, left_at, position_at, NotFull}
use Rattle.guarantees.proofs.Steps.{reaches_to, all_reach, Ends}
use Rattle.guarantees.proofs.AnyCalls.{ResponseFacts, promised_after, test_after_lem}
use Rattle.guarantees.proofs.Guarantees.{never_off_on}
use Rattle.std.specs.Prelude.{Err, None, Ok, Option, Some}

-- a master of this end ends inside all of these
abbrev InsideAll : Option ℕ → List Started → Type 0
InsideAll None l = Unit {0}
InsideAll (Some e) l = all_reach e l ≡ true

-- each ends inside all that were open before it
unfoldable pub Nested : List Started → Type 0
Nested [] = Unit {0}
Nested (m ∷ l) = InsideAll m.end l × Nested l

-- ---- kept by what a call tells

inside_all : (g : Option ℕ) (l : List Started) → Ends false g l → InsideAll g l
inside_all None l e = tt
inside_all (Some e) l f = f refl

reaches-later : (n e : ℕ) (g : Option ℕ) → reaches_to e g ≡ true → reaches_to (e + n) (later_end n g) ≡ true
reaches-later n e None h = refl
reaches-later n e (Some f) h = le-leb (e + n) (f + n) (omega (arith, leb-true e f h))

inside_later : (n : ℕ) (g : Option ℕ) (l : List Started) → InsideAll g l → InsideAll (later_end n g) (map (later n) l)
unfolding later
inside_later n None l h = tt
inside_later n (Some e) l h = every_map (λ (m : Started). reaches_to e m.end) (later n) (λ (m : Started). reaches_to (e + n) m.end) (λ m f. reaches-later n e m.end f) l h

nested_later : (n : ℕ) (l : List Started) → Nested l → Nested (map (later n) l)
unfolding Nested later
nested_later n [] h = tt
nested_later n (m ∷ l) h = (inside_later n m.end l h.0, nested_later n l h.1)

nested_drop : (l : List Started) → Nested l → Nested (drop 1 l)
unfolding Nested
nested_drop [] h = tt
nested_drop (m ∷ l) h = h.1

nested_told : (t : List Entry) (s : List ℕ) (starts : List Started) (left : List ℕ) (p : ℕ) (x : Response) → ResponseFacts t false s starts left p x → Nested starts → Nested (after_response t s x starts)
unfolding Nested
nested_told t s starts left p (answered (Ok (answer.Event (event.Start y o))) n) f h =
    (inside_all (declared_end t o s) starts (subst (λ (q : ℕ). Ends false (declared_end t q s) starts) (sym f.1.offset) f.1.inside), h)
nested_told t s starts left p (answered (Ok (answer.Event (event.End end))) n) f h = nested_drop starts h
nested_told t s starts left p (answered (Ok (answer.Event (event.Data y o v))) n) f h = h
nested_told t s starts left p (answered (Ok (answer.NeedMore missing)) n) f h = h
nested_told t s starts left p (answered (Ok answer.Finished) n) f h = h
nested_told t s starts left p (answered (Err r) n) f h = h
nested_told t s starts left p (searched (Ok (search.Found passed)) n) f h = nested_later passed starts h
nested_told t s starts left p (searched (Ok (search.NotFound passed)) n) f h = h
nested_told t s starts left p (searched (Err r) n) f h = h
nested_told t s starts left p silent f h = h

-- after any calls they are nested, where the child-size test was never off
pub nested_after : (es ps : List ℕ) (cs : List Call) → Runs es ps cs → child_test_never_off cs ≡ true → Nested (open_at es ps cs)
unfolding Nested history starts_open child_test_never_off Lent
nested_after es ps [] run on = tt
nested_after es ps (c ∷ cs) run on =
    let b = both (test_after c true) (child_test_never_off cs) on in
    let before : Runs es ps cs = record { checked = run.checked; octets = run.octets.1 } in
    let off : (record_after es ps cs).settings.allow_oversized ≡ false = not-false _ (test_after_lem es ps run.checked cs run.octets.1 ∙ never_off_on cs b.right) in
    let f = subst (λ (x : Bool). ResponseFacts (table_of es ps) x (lent c) (open_at es ps cs) (left_at es ps cs c) (position_at es ps cs) (response_to es ps (record_after es ps cs) c)) off (promised_after es ps cs c run).promised in
    nested_told (table_of es ps) (lent c) (open_at es ps cs) (left_at es ps cs c) (position_at es ps cs) (response_to es ps (record_after es ps cs) c) f (nested_after es ps cs before b.right)

-- ---- so the outermost ends last

-- what ends inside all of these ends inside the outermost of known size
pub reaches_outermost : (e : ℕ) (l : List Started) → all_reach e l ≡ true → reaches_to e (outermost_end l) ≡ true
unfolding every outermost_end
reaches_outermost e [] h = refl
reaches_outermost e (m ∷ l) h =
    let b = both (reaches_to e m.end) (all_reach e l) h in
    go (outermost_end l) b.left (reaches_outermost e l b.right)
  where
    go : (g : Option ℕ) → reaches_to e m.end ≡ true → reaches_to e g ≡ true → reaches_to e (first_end g m.end) ≡ true
    go None p q = p
    go (Some f) p q = q

-- where one of nested Starts is not full, the outermost of known size is not full
pub outermost_not_full : (l : List Started) (p : ℕ) → Nested l → NotFull l p → (f : ℕ) × (outermost_end l ≡ Some f) × (p < f)
unfolding Nested outermost_end
outermost_not_full [] p h n = absurd (Memᴰ.not-nil n.still_open)
outermost_not_full (m ∷ l) p h n = ⊎_elim here (λ i. there (outermost_not_full l p h.1 (record { master = n.master; still_open = i; end = n.end; known = n.known; beyond = n.beyond }))) (Memᴰ.cases_cons n.still_open)
  where
    Found : Type 0
    Found = (f : ℕ) × (first_end (outermost_end l) m.end ≡ Some f) × (p < f)

    here : n.master ≡ m → Found
    here e = go (outermost_end l) (reach (ap (λ (o : Started). o.end) (sym e) ∙ n.known))
      where
        reach : m.end ≡ Some n.end → (m.end ≡ Some n.end) × (reaches_to n.end (outermost_end l) ≡ true)
        reach q = (q, reaches_outermost n.end l (subst (λ (g : Option ℕ). InsideAll g l) q h.0))

        go : (g : Option ℕ) → (m.end ≡ Some n.end) × (reaches_to n.end g ≡ true) → (f : ℕ) × (first_end g m.end ≡ Some f) × (p < f)
        go None q = (n.end, q.0, n.beyond)
        go (Some f) q = (f, refl, omega (arith, leb-true n.end f q.1, n.beyond))

    there : (f : ℕ) × (outermost_end l ≡ Some f) × (p < f) → Found
    there r = (r.0, ap (λ (g : Option ℕ). first_end g m.end) r.1, r.2)
