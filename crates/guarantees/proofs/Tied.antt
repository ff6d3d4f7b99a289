-- The invariant that ties the decoder's record to what a caller can tell: the waiting Ends and then the open masters,
-- from the top down, are exactly the Starts that are open and then the implied parents that are left. Each move of the
-- record keeps it. Assumes nothing.
use Prim.Native.Nat.{ℕ, ◌≤◌}
use mathlib.Core.Path.{◌≡◌, refl, ap, ◌∙◌}
use mathlib.Core.Bool.{Bool, true, false, false≢true}
use mathlib.Core.List.{List, [], ◌∷◌, ◌++◌, map, reverse}
use native.Mathlib.Omega.{arith}
use lib.ListN.{length, take, drop}
use Rattle.spec_util.specs.Walk.{most_open}
use Rattle.basics.specs.Lists.{every}
use Rattle.table.specs.Table.{Entry, data_type_of, is_master}
use Rattle.spec_util.specs.declared.types.OpenTag.{OpenTag}
use Rattle.decoder_rules.specs.Record.{opens, end_of, fresh, waits}
use Rattle.decoder_rules.specs.declared.types.WaitingEnd.{WaitingEnd}
use Rattle.decoder_rules.specs.declared.types.TagDecoder.{TagDecoder}
use Rattle.decoder_rules.proofs.GoodState.{GoodState}
use Rattle.decoder_rules.proofs.MoveEffects.{Arrays, fresh_arrays}
use Rattle.decoder_rules.proofs.MovesKeepGoodState.{fresh_good}
use Rattle.guarantees.specs.History.{Started, outermost_end, left_by_end}
use Rattle.guarantees.specs.Promises.{EndMatches}
use Rattle.guarantees.proofs.Ends.{known_end, ended_by}
use Rattle.decoder_rules.proofs.Exits.{all_masters}
use Rattle.std.specs.Prelude.{None}

-- ---- an open master as a caller saw it start

-- an open master as its Start
abbrev pub as_started : OpenTag → Started
as_started m = record { id = m.id; offset = m.tag_start; end = known_end m.known (end_of m) }

-- an implied parent: offset 0, size unknown
abbrev pub parent_of : ℕ → Started
parent_of x = record { id = x; offset = 0; end = None }

-- what its End names: its ID and where it started
abbrev pub as_end : Started → ℕ × ℕ
as_end m = (m.id, m.offset)

-- what an End names
abbrev pub named : WaitingEnd → ℕ × ℕ
named end = (end.id, end.offset)

-- the Starts that are open and then the implied parents, from the innermost on
abbrev pub stack : List Started → List ℕ → List Started
stack starts left = starts ++ map parent_of left

-- every one of these that is of known size has ended at p
abbrev pub all_ended : ℕ → List Started → Bool
all_ended p l = every (λ m. ended_by p m.end) l

-- every one of these is a Master of the table
abbrev pub all_started : List Entry → List Started → Bool
all_started t l = every (λ m. is_master (data_type_of t m.id)) l

-- ---- the invariant

-- starts: the Starts that are open; left: the implied parents that are left; p: the position
pub record Linked (t : List Entry) (d : TagDecoder) (starts : List Started) (left : List ℕ) (p : ℕ) : Type 0 where
  pub arrays : Arrays d
  pub good : GoodState d
  pub masters : all_masters t (opens d) ≡ true
  -- those whose End waits
  pub ended : List Started
  pub waiting : map as_end ended ≡ map named (waits d)
  pub parts : stack starts left ≡ ended ++ map as_started (reverse (opens d))
  pub kinds : all_started t (stack starts left) ≡ true
  pub few : length (stack starts left) ≤ most_open
  pub place : d.position ≡ p
  pub unsettled : d.settled ≡ false → stack starts left ≡ []

-- the record is tied to what a caller can tell
pub record Tied (t : List Entry) (d : TagDecoder) (starts : List Started) (left : List ℕ) (p : ℕ) : Type 0 where
  pub linked : Linked t d starts left p
  -- after the end of input only Starts whose End waits are open, and they are full
  pub finished : d.finished ≡ true → length starts ≤ d.waiting_count
  pub full : d.finished ≡ true → all_ended p starts ≡ true
  -- of those whose End waits the outermost of known size is full
  pub batch : ended_by p (outermost_end (take d.waiting_count (stack starts left))) ≡ true

-- a fresh record is
pub fresh_tied : (t : List Entry) → Tied t fresh [] [] 0
unfolding every outermost_end
fresh_tied t = record {
  linked = record {
    arrays = fresh_arrays;
    good = fresh_good;
    masters = refl;
    ended = [];
    waiting = refl;
    parts = refl;
    kinds = refl;
    few = omega arith;
    place = refl;
    unsettled = λ _. refl;
  };
  finished = λ e. absurd (false≢true e);
  full = λ e. absurd (false≢true e);
  batch = refl;
}

-- ---- lists

-- two functions that agree make the same list
pub map_same : {A B : Type 0} (f g : A → B) → ((a : A) → f a ≡ g a) → (l : List A) → map f l ≡ map g l
map_same f g h [] = refl
map_same f g h (a ∷ l) = rw (h a) (ap (λ (k : List _). g a ∷ k) (map_same f g h l))

-- the first of the stack gone
pub popped : (starts : List Started) (left : List ℕ) (m : Started) (rest : List Started) (end : WaitingEnd) → stack starts left ≡ m ∷ rest → named end ≡ as_end m
    → EndMatches starts left end × (stack (drop 1 starts) (left_by_end starts left) ≡ rest)
popped [] [] m rest end e f = let z : ◌≡◌ {A = ℕ} 0 1 = cc in absurd (omega arith)
popped [] (x ∷ left) m rest end e f =
    let q : m ≡ parent_of x = cc in
    let r : map parent_of left ≡ rest = cc in
    let n = f ∙ ap as_end q in
    ((ap (λ (p : ℕ × ℕ). p.0) n, ap (λ (p : ℕ × ℕ). p.1) n), r)
popped (s ∷ starts) left m rest end e f =
    let q : m ≡ s = cc in
    let r : stack starts left ≡ rest = cc in
    let n = f ∙ ap as_end q in
    ((ap (λ (p : ℕ × ℕ). p.0) n, ap (λ (p : ℕ × ℕ). p.1) n), r)

-- where the stack is empty, no Start is open and no parent is left
pub none_open : (starts : List Started) (left : List ℕ) → stack starts left ≡ [] → (starts ≡ []) × (left ≡ [])
none_open [] [] e = (refl, refl)
none_open [] (x ∷ left) e = let z : ◌≡◌ {A = ℕ} 0 1 = cc in absurd (omega arith)
none_open (s ∷ starts) left e = let z : ◌≡◌ {A = ℕ} 0 1 = cc in absurd (omega arith)

-- two lists that are empty together
pub both_empty : {A : Type 0} (l m : List A) → l ++ m ≡ [] → (l ≡ []) × (m ≡ [])
both_empty [] m e = (refl, e)
both_empty (a ∷ l) m e = let z : ◌≡◌ {A = ℕ} 0 1 = cc in absurd (omega arith)
