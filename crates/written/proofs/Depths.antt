-- How many elements of a document pass a test of their depth and of their kind, counted from its events and counted
-- from its elements. Assumes nothing.
use Prim.Native.Nat.{ℕ, zero, suc, ◌+◌, ◌*◌, ◌≤◌}
use mathlib.Core.Path.{◌≡◌, refl, sym, ap, ◌∙◌}
use mathlib.Core.Bool.{Bool, true, false, cond}
use mathlib.Core.List.{List, [], ◌∷◌, ◌++◌, append_assoc, append-nil}
use native.Mathlib.Omega.{arith}
use borrow.Author.Tests.{ne_eqb}
use lib.Dec.{eqb}
use lib.ListN.{length, length-append}
use Rattle.decoder_rules.specs.declared.types.Event.{Event}
use Rattle.decoder_rules.specs.declared.types.Event.TheVariants as event
use Rattle.tag_writer.specs.Counts.{children_in}
use Rattle.tag_writer.specs.Document.{Element, value, master, Run, none, then, payload, header_bytes, size_of_element, size_of_run}
use Rattle.tag_writer.proofs.Lengths.{header_some}
use Rattle.tag_writer.proofs.Reading.{element_events, run_events}
use Rattle.written.specs.Whole.{masters_in, masters_in_roots}

-- a test of an element: in how many masters it is, and whether it is one
abbrev pub Test : Type 0
Test = ℕ → Bool → Bool

-- a root: a master is alone open after its Start, and no master is open after a value
abbrev pub is_root : Test
is_root k true = eqb (suc k) 1
is_root k false = eqb k 0

-- a master directly in a root: the two are open after its Start
abbrev pub is_in_root : Test
is_in_root k true = eqb (suc k) 2
is_in_root k false = false

-- one, where a test is passed
abbrev pub one : Bool → ℕ
one passed = cond passed 1 0

-- ---- by the events

-- how many elements begin with one of these events and pass the test, with k masters open before them
unfoldable pub count_in : Test → ℕ → List Event → ℕ
count_in test k [] = 0
count_in test k (event.Start x o ∷ l) = one (test k true) + count_in test (suc k) l
count_in test zero (event.End e ∷ l) = count_in test zero l
count_in test (suc k) (event.End e ∷ l) = count_in test k l
count_in test k (event.Data x o v ∷ l) = one (test k false) + count_in test k l

-- ---- by the elements

-- how many of an element and those in it pass the test, in k masters, and of a run
unfoldable mutual
  count_element : Test → ℕ → Element → ℕ
  count_element test k (value x v) = one (test k false)
  count_element test k (master x r) = one (test k true) + count_run test (suc k) r

  count_run : Test → ℕ → Run → ℕ
  count_run test k none = 0
  count_run test k (then e r) = count_element test k e + count_run test k r

-- the two are the same
module _ (test : Test) where
  mutual
    unfolding element_events count_in count_element

    count_element_lem : (k p : ℕ) (e : Element) (more : List Event) → count_in test k (element_events p e ++ more) ≡ count_element test k e + count_in test k more
    count_element_lem k p (value x v) more = refl
    count_element_lem k p (master x r) more =
        let q = p + length (header_bytes x (size_of_run r)) in
        let last = event.End (record { id = x; offset = p; count = children_in r }) in
        let inner = ap (count_in test (suc k)) (append_assoc (run_events q r) (last ∷ []) more) ∙ count_run_lem (suc k) q r (last ∷ more) in
        omega (arith, inner)

    count_run_lem : (k p : ℕ) (r : Run) (more : List Event) → count_in test k (run_events p r ++ more) ≡ count_run test k r + count_in test k more
    count_run_lem k p none more = omega arith
    count_run_lem k p (then e r) more =
        let later = run_events (p + size_of_element e) r in
        let first = ap (count_in test k) (append_assoc (element_events p e) later more) ∙ count_element_lem k p e (later ++ more) in
        omega (arith, first, count_run_lem k (p + size_of_element e) r more)

  count_all : (k p : ℕ) (r : Run) → count_in test k (run_events p r) ≡ count_run test k r
  unfolding count_in
  count_all k p r = ap (count_in test k) (sym (append-nil (run_events p r))) ∙ count_run_lem k p r [] ∙ omega arith

-- ---- the two tests

-- where no element so deep passes a test, none of a run does
module _ (test : Test) where
  mutual
    unfolding count_element

    none_element : (k : ℕ) → ((j : ℕ) (b : Bool) → k ≤ j → test j b ≡ false) → (e : Element) → count_element test k e ≡ 0
    none_element k deep (value x v) = rw (deep k false (omega arith))
    none_element k deep (master x r) = rw (deep k true (omega arith), none_run (suc k) (λ j b h. deep j b (omega arith)) r)

    none_run : (k : ℕ) → ((j : ℕ) (b : Bool) → k ≤ j → test j b ≡ false) → (r : Run) → count_run test k r ≡ 0
    none_run k deep none = refl
    none_run k deep (then e r) = rw (none_element k deep e, none_run k deep r)

below_root : (r : Run) → count_run is_root 1 r ≡ 0
below_root r = none_run is_root 1 deeper r
  where
    deeper : (j : ℕ) (b : Bool) → 1 ≤ j → is_root j b ≡ false
    deeper j true h = ne_eqb (suc j) 1 (λ e. omega arith)
    deeper j false h = ne_eqb j 0 (λ e. omega arith)

below_masters : (r : Run) → count_run is_in_root 2 r ≡ 0
below_masters r = none_run is_in_root 2 deeper r
  where
    deeper : (j : ℕ) (b : Bool) → 2 ≤ j → is_in_root j b ≡ false
    deeper j true h = ne_eqb (suc j) 2 (λ e. omega arith)
    deeper j false h = refl

roots_counted : (r : Run) → count_run is_root 0 r ≡ children_in r
unfolding count_element children_in
roots_counted none = refl
roots_counted (then (value x v) r) = omega (arith, roots_counted r)
roots_counted (then (master x c) r) = omega (arith, below_root c, roots_counted r)

masters_counted : (r : Run) → count_run is_in_root 1 r ≡ masters_in r
unfolding count_element masters_in
masters_counted none = refl
masters_counted (then (value x v) r) = omega (arith, masters_counted r)
masters_counted (then (master x c) r) = omega (arith, below_masters c, masters_counted r)

in_roots_counted : (r : Run) → count_run is_in_root 0 r ≡ masters_in_roots r
unfolding count_element masters_in_roots
in_roots_counted none = refl
in_roots_counted (then (value x v) r) = omega (arith, in_roots_counted r)
in_roots_counted (then (master x c) r) = omega (arith, masters_counted c, in_roots_counted r)

-- the events of a document show its roots
pub roots_shown : (p : ℕ) (doc : Run) → count_in is_root 0 (run_events p doc) ≡ children_in doc
roots_shown p doc = count_all is_root 0 p doc ∙ roots_counted doc

-- and the masters directly in them
pub masters_shown_lem : (p : ℕ) (doc : Run) → count_in is_in_root 0 (run_events p doc) ≡ masters_in_roots doc
masters_shown_lem p doc = count_all is_in_root 0 p doc ∙ in_roots_counted doc

-- ---- how many events there are

mutual
  unfolding element_events size_of_element

  events_of_element : (p : ℕ) (e : Element) → length (element_events p e) ≤ 2 * size_of_element e
  events_of_element p (value x v) = omega (arith, header_some x (length (payload v)))
  events_of_element p (master x r) =
      let q = p + length (header_bytes x (size_of_run r)) in
      omega (arith, header_some x (size_of_run r), events_few q r, length-append (run_events q r) (event.End (record { id = x; offset = p; count = children_in r }) ∷ []))

  -- a document has at most two for each byte
  pub events_few : (p : ℕ) (r : Run) → length (run_events p r) ≤ 2 * size_of_run r
  events_few p none = omega arith
  events_few p (then e r) =
      let later = run_events (p + size_of_element e) r in
      omega (arith, events_of_element p e, events_few (p + size_of_element e) r, length-append (element_events p e) later)
