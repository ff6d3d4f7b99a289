-- Each move keeps what refusal 11 asks of a record, so no call refuses with it what a call gave. Assumes nothing.
use Prim.Native.Nat.{ℕ, ◌+◌, ◌≤◌, ◌<◌}
use mathlib.Core.Path.{◌≡◌, refl}
use mathlib.Core.Bool.{Bool, true, false, cond, false≢true}
use mathlib.Core.List.{List, [], ◌∷◌, map, reverse}
use native.Mathlib.Omega.{arith}
use borrow.Author.Tests.{leb-true, le-leb}
use Rattle.spec_util.specs.Walk.{most_open}
use Rattle.basics.specs.Lists.{every}
use Rattle.table.specs.declared.types.PathPart.{PathPart}
use Rattle.table.specs.declared.types.PathPart.TheVariants.{Id, Global}
use Rattle.spec_util.specs.declared.types.OpenTag.{OpenTag}
use lib.ListN.{length, drop}
use Rattle.decoder_rules.specs.Record.{farthest, opens, waits, end_for, larger, fresh, with_open, with_waiting, with_notes, implied, settled_to, opened, closed_to, handed_out, size_grown, with_sizes_grown}
use Rattle.decoder_rules.specs.OneCall.{good_open, good_end}
use Rattle.decoder_rules.specs.declared.types.TagDecoder.{TagDecoder}
use Rattle.decoder_rules.specs.declared.types.WaitingEnd.{WaitingEnd}
use Rattle.basics.proofs.Every.{every_append, every_take, every_drop, every_map, every_other, every_reversed}
use Rattle.basics.proofs.Bools.{and_both}
use Rattle.decoder_rules.proofs.GoodState.{good_open_lem, is_good_open, GoodState}
use Rattle.decoder_rules.proofs.MoveEffects.{Arrays, settled_opens, opened-opens, closed_opens, closed_waits, handed_waits, grown_opens}

-- a fresh record is good
pub fresh_good : GoodState fresh
unfolding every
fresh_good = record { open_count = omega arith; waiting_count = omega arith; place = omega arith; masters = refl; ends = refl }

-- ---- the position moves on

-- an open master stays good at a later position
pub good_later : (p q : ℕ) → p ≤ q → (m : OpenTag) → good_open p m ≡ true → good_open q m ≡ true
good_later p q h m e =
    let g = good_open_lem p m e in
    is_good_open q m (record { start = omega (arith, g.start); size = λ k. omega (arith, g.size k); count = omega (arith, g.count) })

-- so does an End that waits
end_later : (p q : ℕ) → p ≤ q → (e : WaitingEnd) → good_end p e ≡ true → good_end q e ≡ true
unfolding good_end
end_later p q h e g = le-leb e.count q (omega (arith, leb-true e.count p g))

-- and every one of these
pub ends_later : (p q : ℕ) → p ≤ q → (l : List WaitingEnd) → every (good_end p) l ≡ true → every (good_end q) l ≡ true
ends_later p q h l g = every_other (good_end p) (good_end q) (end_later p q h) l g

-- so the record stays good there
pub with_notes_good : (d : TagDecoder) → GoodState d → (p : ℕ) (s f : Bool) → d.position ≤ p → p ≤ farthest → GoodState (with_notes d p s f)
unfolding with_notes
with_notes_good d g p s f h k =
    record {
      open_count = g.open_count;
      waiting_count = g.waiting_count;
      place = k;
      masters = every_other (good_open d.position) (good_open p) (good_later d.position p h) (opens d) g.masters;
      ends = ends_later d.position p h (waits d) g.ends;
    }

-- ---- the other moves

-- a master that a path implies is good
pub implied_good : (p : ℕ) (part : PathPart) → good_open p (implied part) ≡ true
implied_good p (Id x) = is_good_open p (implied (Id x)) (record { start = omega arith; size = λ k. absurd (false≢true k); count = omega arith })
implied_good p (Global least most) = is_good_open p (implied (Global least most)) (record { start = omega arith; size = λ k. absurd (false≢true k); count = omega arith })

pub implied_all : (p : ℕ) (path : List PathPart) → every (good_open p) (map implied path) ≡ true
unfolding every
implied_all p [] = refl
implied_all p (part ∷ path) = and_both (implied_good p part) (implied_all p path)

-- the End of a good master is good
end_good : (p : ℕ) (m : OpenTag) → good_open p m ≡ true → good_end p (end_for m) ≡ true
unfolding end_for good_end
end_good p m e = le-leb m.count p (good_open_lem p m e).count

module _ (d : TagDecoder) (g : GoodState d) where
  -- the record stays good settled to a path that fits it
  pub settled_good : (path : List PathPart) → length path ≤ most_open → GoodState (settled_to d path)
  unfolding settled_to with_open with_notes
  settled_good path h =
      record {
        open_count = h;
        waiting_count = g.waiting_count;
        place = g.place;
        masters = rw (settled_opens d path) (implied_all d.position path);
        ends = g.ends;
      }

  module _ (a : Arrays d) where
    -- with an End handed out
    pub handed_good : GoodState (handed_out d)
    unfolding handed_out with_waiting
    handed_good =
        record {
          open_count = g.open_count;
          waiting_count = omega (arith, g.waiting_count);
          place = g.place;
          masters = g.masters;
          ends = rw (handed_waits d (omega (arith, a.ends, g.waiting_count))) (every_drop (good_end d.position) 1 (waits d) g.ends);
        }

    -- with a good master more, where there is room
    pub opened_good : (m : OpenTag) → d.open_count < most_open → good_open d.position m ≡ true → GoodState (opened d m)
    unfolding opened with_open every
    opened_good m h e =
        record {
          open_count = omega arith;
          waiting_count = g.waiting_count;
          place = g.place;
          masters = rw (opened-opens d m (omega (arith, a.masters))) (every_append (good_open d.position) (opens d) (m ∷ []) g.masters (and_both e refl));
          ends = g.ends;
        }

    -- with the masters above the first k closed
    pub closed_good : (k : ℕ) → k ≤ d.open_count → GoodState (closed_to d k)
    unfolding closed_to with_open with_waiting
    closed_good k h =
        record {
          open_count = omega (arith, g.open_count);
          waiting_count = omega (arith, g.open_count);
          place = g.place;
          masters = rw (closed_opens d k h (omega (arith, a.masters, g.open_count))) (every_take (good_open d.position) k (opens d) g.masters);
          ends =
              rw (closed_waits d k (omega (arith, a.masters, g.open_count)))
              (every_drop (good_end d.position) 1 _
              (every_map (good_open d.position) end_for (good_end d.position) (end_good d.position) (reverse (drop k (opens d)))
              (every_reversed (good_open d.position) (drop k (opens d)) (every_drop (good_open d.position) k (opens d) g.masters))));
        }

-- ---- the sizes grow with the position

-- an open master whose size grows by n is good n bytes further on
pub grown_open : (p n : ℕ) (m : OpenTag) → good_open p m ≡ true → good_open (p + n) (size_grown n m) ≡ true
unfolding size_grown
grown_open p n m e = go m.known refl
  where
    go : (known : Bool) → m.known ≡ known → good_open (p + n) (cond known (larger n m) m) ≡ true
    go true k =
        let g = good_open_lem p m e in
        is_good_open (p + n) (larger n m) (record { start = omega (arith, g.start); size = λ _. omega (arith, g.size k); count = omega (arith, g.count) })
    go false k = good_later p (p + n) (omega arith) m e

-- the masters were good at position p, and n bytes were passed over since
pub grown_good : (d : TagDecoder) → GoodState d → Arrays d → (p n : ℕ) → every (good_open p) (opens d) ≡ true → p + n ≤ d.position → GoodState (with_sizes_grown d n)
unfolding with_sizes_grown with_open
grown_good d g a p n e h =
    record {
      open_count = g.open_count;
      waiting_count = g.waiting_count;
      place = g.place;
      masters =
          rw (grown_opens d n (omega (arith, a.masters, g.open_count)))
          (every_map (good_open p) (size_grown n) (good_open d.position) (λ m k. good_later (p + n) d.position h (size_grown n m) (grown_open p n m k)) (opens d) e);
      ends = g.ends;
    }
