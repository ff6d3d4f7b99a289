-- Refusal 11's test, both ways: what it gives where it is passed, of each element that it tests, of an open master and
-- of the record, and what makes it pass. Assumes nothing.
use Prim.Native.Nat.{ℕ, ◌+◌, ◌≤◌}
use mathlib.Core.Path.{◌≡◌, refl}
use mathlib.Core.Bool.{Bool, true, false, cond, not, ◌&&◌, ◌||◌, false≢true}
use mathlib.Core.List.{List}
use borrow.Author.Tests.{leb-true, le-leb}
use lib.Dec.{leb}
use Rattle.basics.specs.Lists.{every}
use Rattle.table.specs.Shape.{good_shape}
use Rattle.basics.proofs.Bools.{both, and_both, absurd_eq}
use Rattle.spec_util.specs.Walk.{most_open}
use Rattle.spec_util.specs.declared.types.OpenTag.{OpenTag}
use Rattle.decoder_rules.specs.Record.{farthest, size_limit, opens, waits}
use Rattle.decoder_rules.specs.OneCall.{good_open, good_end, good_state, check10to12, check_record10to12, and_then}
use Rattle.decoder_rules.specs.declared.types.DecodeError.TheVariants.{TableShape, BadState, TooFar}
use Rattle.decoder_rules.specs.declared.types.TagDecoder.{TagDecoder}
use Rattle.std.specs.Prelude.{Err, Ok, Result, ⊤}
use Rattle.decoder_rules.specs.declared.types.DecodeError.{DecodeError}

-- ---- an open master at position p

-- what the test of an open master gives
pub record GoodOpen (p : ℕ) (m : OpenTag) : Type 0 where
  pub start : m.data_start ≤ p
  pub size : m.known ≡ true → m.size ≤ size_limit + p
  pub count : m.count ≤ p

size_known : (known : Bool) (size p : ℕ) → (not known || leb size (size_limit + p)) ≡ true → known ≡ true → size ≤ size_limit + p
size_known true size p h k = leb-true size (size_limit + p) h
size_known false size p h k = absurd (false≢true k)

size_good : (known : Bool) (size p : ℕ) → (known ≡ true → size ≤ size_limit + p) → (not known || leb size (size_limit + p)) ≡ true
size_good true size p h = le-leb size (size_limit + p) (h refl)
size_good false size p h = refl

-- where it is passed
pub good_open_lem : (p : ℕ) (m : OpenTag) → good_open p m ≡ true → GoodOpen p m
unfolding good_open
good_open_lem p m h =
    let a = both (leb m.data_start p && leb m.count p) (not m.known || leb m.size (size_limit + p)) h in
    let b = both (leb m.data_start p) (leb m.count p) a.left in
    record { start = leb-true _ _ b.left; size = size_known m.known m.size p a.right; count = leb-true _ _ b.right }

-- and what makes it pass
pub is_good_open : (p : ℕ) (m : OpenTag) → GoodOpen p m → good_open p m ≡ true
unfolding good_open
is_good_open p m g = and_both (and_both (le-leb _ _ g.start) (le-leb _ _ g.count)) (size_good m.known m.size p g.size)

-- ---- the record

-- what the test of the record gives
pub record GoodState (d : TagDecoder) : Type 0 where
  pub open_count : d.open_count ≤ most_open
  pub waiting_count : d.waiting_count ≤ most_open
  pub place : d.position ≤ farthest
  pub masters : every (good_open d.position) (opens d) ≡ true
  pub ends : every (good_end d.position) (waits d) ≡ true

-- where it is passed
pub good_state_lem : (d : TagDecoder) → good_state d ≡ true → GoodState d
unfolding good_state
good_state_lem d h =
    let a = both _ _ h in
    let b = both _ _ a.left in
    let e = both _ _ b.left in
    let l = both _ _ a.right in
    record { open_count = leb-true _ _ e.left; waiting_count = leb-true _ _ e.right; place = leb-true _ _ b.right; masters = l.left; ends = l.right }

-- and what makes it pass
pub is_good_state : (d : TagDecoder) → GoodState d → good_state d ≡ true
unfolding good_state
is_good_state d g = and_both (and_both (and_both (le-leb _ _ g.open_count) (le-leb _ _ g.waiting_count)) (le-leb _ _ g.place)) (and_both g.masters g.ends)

-- ---- 10, 11 and 12

-- the second of two tests is made only where the first is passed
pub first_passed : (a b : Result ⊤ DecodeError) → and_then a b ≡ Ok tt → a ≡ Ok tt
first_passed (Ok _) b e = refl
first_passed (Err x) b e = e

-- what the first three refusals leave of what was asked of the record
pub record PassedFor (es ps : List ℕ) (good : Bool) (position n : ℕ) : Type 0 where
  pub shape : good_shape es ps ≡ true
  pub found : good ≡ true
  pub near : position + n ≤ farthest

-- where they are passed
pub passed_for : (es ps : List ℕ) (good : Bool) (position n : ℕ) → check10to12 es ps good position n ≡ Ok tt → PassedFor es ps good position n
unfolding check10to12
passed_for es ps good position n e = go (good_shape es ps) refl good refl (leb (position + n) farthest) refl e
  where
    go : (a : Bool) → good_shape es ps ≡ a → (b : Bool) → good ≡ b → (c : Bool) → leb (position + n) farthest ≡ c
        → ◌≡◌ {A = Result ⊤ DecodeError} (cond a (cond b (cond c (Ok tt) (Err TooFar)) (Err BadState)) (Err TableShape)) (Ok tt) → PassedFor es ps good position n
    go true p true q true r e = record { shape = p; found = q; near = leb-true _ _ r }
    go true p true q false r e = let z : ◌≡◌ {A = ℕ} 0 1 = cc in absurd_eq z
    go true p false q c r e = let z : ◌≡◌ {A = ℕ} 0 1 = cc in absurd_eq z
    go false p b q c r e = let z : ◌≡◌ {A = ℕ} 0 1 = cc in absurd_eq z

-- what they leave of the record
pub record Passed1 (es ps : List ℕ) (d : TagDecoder) (n : ℕ) : Type 0 where
  pub shape : good_shape es ps ≡ true
  pub good : GoodState d
  pub near : d.position + n ≤ farthest

-- where they are passed
pub passed12 : (es ps : List ℕ) (d : TagDecoder) (n : ℕ) → check_record10to12 es ps d n ≡ Ok tt → Passed1 es ps d n
unfolding check_record10to12 check10to12
passed12 es ps d n e =
    let p = passed_for es ps (good_state d) d.position n e in
    record { shape = p.shape; good = good_state_lem d p.found; near = p.near }
