-- Back from an event to the Start of a master: what is looked up there is what was counted on the way, of lists of
-- counts. Assumes nothing.
use Prim.Native.Nat.{ℕ, zero, suc, ◌+◌, ◌<◌}
use mathlib.Core.Path.{◌≡◌, refl, ap, ◌∙◌}
use mathlib.Core.List.{List, [], ◌∷◌, ◌++◌, map}
use native.Mathlib.Omega.{arith}
use lib.ListN.{length, get_or, drop}
use Rattle.tag_parse.specs.declared.types.TagValue.TheVariants.{UnsignedInt}
use Rattle.decoder_rules.specs.declared.types.Answer.TheVariants as answer
use Rattle.decoder_rules.specs.declared.types.Event.{Event}
use Rattle.decoder_rules.specs.declared.types.Event.TheVariants as event
use Rattle.guarantees.specs.Calls.{Response, answered, searched, silent}
use Rattle.guarantees.specs.Counts.{child_of_first, counts_by_event, counts_by, with_implied, back_from, back_from_told, since_implied}
use Rattle.std.specs.Prelude.{Err, Ok}

zeros_at : (l : List ℕ) (n : ℕ) → ◌≡◌ {A = ℕ} (get_or (map (λ x. 0) l ++ []) n 0) 0
zeros_at [] n = refl
zeros_at (x ∷ l) zero = refl
zeros_at (x ∷ l) (suc n) = zeros_at l n

-- each of these counts is what is looked up
abbrev pub LookedUp : List ℕ → (ℕ → ℕ) → Type 0
LookedUp l look = (n : ℕ) → n < length l → get_or l n 0 ≡ look n

module _ (l : List ℕ) (look : ℕ → ℕ) (same : LookedUp l look) where
  child_looked : (n : ℕ) → n < length (child_of_first l) → get_or (child_of_first l) n 0 ≡ back_from (event.Data 0 0 (UnsignedInt 0)) look n
  child_looked n h = go l same n h
    where
      go : (k : List ℕ) → LookedUp k look → (n : ℕ) → n < length (child_of_first k) → get_or (child_of_first k) n 0 ≡ back_from (event.Data 0 0 (UnsignedInt 0)) look n
      go [] f n h = absurd (omega arith)
      go (a ∷ k) f zero h = ap (λ (j : ℕ). j + 1) (f 0 (omega arith))
      go (a ∷ k) f (suc n) h = f (suc n) (omega arith)

  event_looked : (e : Event) → LookedUp (counts_by_event e l) (back_from e look)
  event_looked (event.Start x o) zero h = refl
  event_looked (event.Start x o) (suc zero) h = child_looked 0 (omega arith)
  event_looked (event.Start x o) (suc (suc n)) h = child_looked (suc n) (omega arith)
  event_looked (event.End end) n h = go l same n h
    where
      go : (k : List ℕ) → LookedUp k look → (n : ℕ) → n < length (drop 1 k) → get_or (drop 1 k) n 0 ≡ look (suc n)
      go [] f n h = absurd (omega arith)
      go (a ∷ k) f n h = f (suc n) (omega arith)
  event_looked (event.Data x o v) zero h = child_looked 0 h
  event_looked (event.Data x o v) (suc n) h = child_looked (suc n) h

  pub told_looked : (x : Response) → LookedUp (counts_by x l) (back_from_told x look)
  told_looked (answered (Ok (answer.Event e)) n) = event_looked e
  told_looked (answered (Ok (answer.NeedMore missing)) n) = same
  told_looked (answered (Ok answer.Finished) n) = same
  told_looked (answered (Err r) n) = same
  told_looked (searched a n) = same
  told_looked silent = same

-- parents are implied where there is no count yet
pub implied_looked : (parents l : List ℕ) (look : ℕ → ℕ) → ((parents ≡ [] → ⊥) → l ≡ []) → LookedUp l look → LookedUp (with_implied parents l) (since_implied parents look)
implied_looked [] l look none same n h = same n h
implied_looked (x ∷ parents) l look none same n h =
    let e : l ≡ [] = none (λ q. let z : ◌≡◌ {A = ℕ} 0 1 = cc in omega arith) in
    ap (λ (k : List ℕ). get_or (map (λ x. 0) (x ∷ parents) ++ k) n 0) e ∙ zeros_at (x ∷ parents) n
