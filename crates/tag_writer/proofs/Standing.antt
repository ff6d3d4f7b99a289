-- The decoder's record as the reading of a written document finds it: settings as at first but for the mode, not
-- finished, and its arrays the two lists with empty places after them. What a call answers on it while Ends are due.
-- Assumes nothing.
use Prim.Native.Nat.{ℕ, zero, suc, ◌+◌, ◌-◌, ◌^◌, ◌≤◌, ◌<◌}
use mathlib.Core.Path.{◌≡◌, refl, sym, ap, ◌∙◌}
use mathlib.Core.Bool.{Bool, true, false, cond, not, false≢true}
use mathlib.Core.List.{List, [], ◌∷◌, ◌++◌, map, reverse, reverse-append}
use native.Mathlib.Omega.{arith}
use native.Mathlib.Numerals.{add-one}
use borrow.Author.Tests.{le-leb}
use lib.ListN.{length, get_or, take, drop, length-append, length-map, length-drop, length-reverse}
use lib.Seq.{take-append-le, drop-append-le, length-take-le}
use Rattle.basics.specs.Lists.{every, first_index, filled}
use Rattle.basics.proofs.ArrayOf32.{filled_front, filled_shift}
use Rattle.basics.proofs.Bools.{both, and_both}
use Rattle.basics.proofs.Every.{every_drop}
use Rattle.table.specs.Shape.{good_shape}
use Rattle.table.specs.Table.{Entry, table_of, data_type_of, is_master}
use Rattle.spec_util.specs.Walk.{no_tag}
use Rattle.spec_util.specs.declared.types.OpenTag.{OpenTag}
use Rattle.decoder_rules.specs.Deciding.{plain}
use Rattle.decoder_rules.specs.Moving.{gives, move, apply, decode}
use Rattle.decoder_rules.specs.OneCall.{good_open, good_end, check10to12, check_record10to12, check13, is_full, step3, noted}
use Rattle.decoder_rules.specs.Record.{opens, end_of, end_for, ends_from, no_end, first_settings, fresh, with_settings, with_open, with_waiting, closed_to, handed_out}
use Rattle.decoder_rules.specs.Settings.{with_strict, reading}
use Rattle.decoder_rules.specs.declared.types.Action.{Action}
use Rattle.decoder_rules.specs.declared.types.Action.TheVariants as act
use Rattle.decoder_rules.specs.declared.types.Answer.TheVariants as answer
use Rattle.decoder_rules.specs.declared.types.Event.TheVariants as event
use Rattle.decoder_rules.specs.declared.types.TagDecoder.{TagDecoder}
use Rattle.decoder_rules.specs.declared.types.WaitingEnd.{WaitingEnd}
use Rattle.decoder_rules.proofs.Exits.{all_masters, closes as all-close, Admitted, Exit, hands_out as hands-out-exit, closes_full, exit_decides}
use Rattle.decoder_rules.proofs.GoodState.{is_good_open, GoodState, is_good_state}
use Rattle.std.specs.Prelude.{Ok, Result}
use Rattle.decoder_rules.specs.declared.types.DecodeError.{DecodeError}

-- ---- the record

-- a record with the first settings but for the mode, which is not finished
abbrev pub made : Bool → Bool → ℕ → List OpenTag → ℕ → List WaitingEnd → ℕ → TagDecoder
made strict b p o n w k = record {
  settings = with_strict first_settings strict;
  position = p;
  settled = b;
  finished = false;
  «open» = o;
  open_count = n;
  waiting = w;
  waiting_count = k;
}

-- two such records are one where their lists are
pub made_same : (strict b : Bool) (p : ℕ) {o o' : List OpenTag} {n n' : ℕ} {w w' : List WaitingEnd} {k k' : ℕ} → o ≡ o' → n ≡ n' → w ≡ w' → k ≡ k'
    → made strict b p o n w k ≡ made strict b p o' n' w' k'
made_same strict b p e f g h = rw (e, f, g, h)

-- settled or not, at place p, with these open masters, outermost first, and these waiting Ends
abbrev pub standing : Bool → Bool → ℕ → List OpenTag → List WaitingEnd → TagDecoder
standing strict b p st ws = made strict b p (filled no_tag st) (length st) (filled no_end ws) (length ws)

-- a fresh decoder, in either mode
pub fresh_stands : (strict : Bool) → reading fresh strict ≡ standing strict false 0 [] []
unfolding with_settings
fresh_stands strict = refl

-- its open masters
pub stands_opens : (strict b : Bool) (p : ℕ) (st : List OpenTag) (ws : List WaitingEnd) → opens (standing strict b p st ws) ≡ st
stands_opens strict b p st ws = filled_front no_tag st (length st) refl

-- ---- what is known of every open master

-- what holds of each of these masters
unfoldable pub All : (OpenTag → Type 0) → List OpenTag → Type 0
All P [] = Unit {0}
All P (m ∷ l) = P m × All P l

-- a test that each of them passes
pub all_every : {P : OpenTag → Type 0} (test : OpenTag → Bool) → ((m : OpenTag) → P m → test m ≡ true) → (l : List OpenTag) → All P l → every test l ≡ true
unfolding All every
all_every test h [] a = refl
all_every test h (m ∷ l) a = and_both (h m a.0) (all_every test h l a.1)

-- what follows of each
pub all_other : {P Q : OpenTag → Type 0} → ((m : OpenTag) → P m → Q m) → (l : List OpenTag) → All P l → All Q l
unfolding All
all_other h [] a = tt
all_other h (m ∷ l) a = (h m a.0, all_other h l a.1)

-- one more at the end
pub all_more : (P : OpenTag → Type 0) (l : List OpenTag) (m : OpenTag) → All P l → P m → All P (l ++ (m ∷ []))
unfolding All
all_more P [] m a p = (p, tt)
all_more P (x ∷ l) m a p = (a.0, all_more P l m a.1 p)

-- the first n
pub all_take : (P : OpenTag → Type 0) (n : ℕ) (l : List OpenTag) → All P l → All P (take n l)
unfolding All
all_take P zero l a = tt
all_take P (suc n) [] a = tt
all_take P (suc n) (m ∷ l) a = (a.0, all_take P n l a.1)

-- the front
pub all_front : (P : OpenTag → Type 0) (l k : List OpenTag) → All P (l ++ k) → All P l
unfolding All
all_front P [] k a = tt
all_front P (m ∷ l) k a = (a.0, all_front P l k a.1)

-- and the last
pub all_last : (P : OpenTag → Type 0) (l : List OpenTag) (m : OpenTag) → All P (l ++ (m ∷ [])) → P m
unfolding All
all_last P [] m a = a.0
all_last P (x ∷ l) m a = all_last P l m a.1

-- an open master at place p that ends at lim or later
pub record Reaching (t : List Entry) (p lim : ℕ) (m : OpenTag) : Type 0 where
  pub known : m.known ≡ true
  pub start : m.data_start ≤ p
  pub count : m.count ≤ p
  pub size : m.size ≤ 4_000_000_000
  pub reach : lim ≤ end_of m
  pub master : is_master (data_type_of t m.id) ≡ true

-- it reaches less far from a later place
pub reaching_less : {t : List Entry} {p q lim l : ℕ} → p ≤ q → l ≤ lim → (m : OpenTag) → Reaching t p lim m → Reaching t q l m
reaching_less h k m r = record {
  known = r.known;
  start = omega (arith, r.start);
  count = omega (arith, r.count);
  size = r.size;
  reach = omega (arith, r.reach);
  master = r.master;
}

good_open_of : (t : List Entry) (p lim : ℕ) (m : OpenTag) → Reaching t p lim m → good_open p m ≡ true
good_open_of t p lim m r = is_good_open p m (record { start = r.start; size = λ k. omega (arith, r.size); count = r.count })

-- ---- step 1

module _ (es ps : List ℕ) (shape : good_shape es ps ≡ true) (strict : Bool) where
  -- it is passed
  pub first_passes : (b : Bool) (p lim : ℕ) (s : List ℕ) (st : List OpenTag) (ws : List WaitingEnd) → All (Reaching (table_of es ps) p lim) st
      → every (good_end p) ws ≡ true → length st ≤ 32 → length ws ≤ 32 → p + length s ≤ 2 ^ 62 → Admitted es ps (standing strict b p st ws) s
  unfolding check_record10to12 check10to12 check13
  first_passes b p lim s st ws a ends few waiting near =
      let d = standing strict b p st ws in
      let good : GoodState d = record {
        open_count = few;
        waiting_count = waiting;
        place = omega arith;
        masters = rw (stands_opens strict b p st ws) (all_every (good_open p) (good_open_of (table_of es ps) p lim) st a);
        ends = rw (filled_front no_end ws (length ws) refl) ends;
      } in
      record { first = rw (shape, is_good_state d good, le-leb _ _ near); second = refl }

-- ---- the first master that is full

module _ (test : OpenTag → Bool) where
  -- where the last passes a test, the first that passes is not beyond it
  pub first_bound : (st : List OpenTag) (x : OpenTag) → test x ≡ true → first_index test (st ++ (x ∷ [])) ≤ length st
  unfolding first_index
  first_bound [] x e = rw e (omega arith)
  first_bound (m ∷ st) x e = by (test m) (first_bound st x e)
    where
      by : (c : Bool) → first_index test (st ++ (x ∷ [])) ≤ length st → cond c 0 (first_index test (st ++ (x ∷ [])) + 1) ≤ suc (length st)
      by true h = omega arith
      by false h = omega arith

  -- what is first does pass
  pub first_test : (l : List OpenTag) (z : OpenTag) → first_index test l < length l → test (get_or l (first_index test l) z) ≡ true
  unfolding first_index
  first_test [] z h = absurd (omega arith)
  first_test (m ∷ l) z h = by (test m) refl h (first_test l z)
    where
      by : (c : Bool) → test m ≡ c → cond c 0 (first_index test l + 1) < suc (length l) → (first_index test l < length l → test (get_or l (first_index test l) z) ≡ true)
          → test (get_or (m ∷ l) (cond c 0 (first_index test l + 1)) z) ≡ true
      by true e h below = e
      by false e h below = rw (add-one (first_index test l)) (below (omega arith))

  -- where none passes there is no first
  pub first_none : (l : List OpenTag) → every (λ (m : OpenTag). not (test m)) l ≡ true → first_index test l ≡ length l
  unfolding first_index every
  first_none [] e = refl
  first_none (m ∷ l) e =
      let b = both (not (test m)) (every (λ (m : OpenTag). not (test m)) l) e in
      by (test m) b.left (first_none l b.right)
    where
      by : (c : Bool) → not c ≡ true → first_index test l ≡ length l → cond c 0 (first_index test l + 1) ≡ suc (length l)
      by true e h = absurd (false≢true e)
      by false e h = omega arith

-- ---- a call

-- a call whose decision has no note
pub decode_plain : (es ps : List ℕ) (d : TagDecoder) (s : List ℕ) {a : Result Action DecodeError} → Exit es ps d s (plain a) → decode es ps d s ≡ move d a
unfolding apply noted
decode_plain es ps d s x = ap (apply ps d) (sym (exit_decides es ps d s x))

-- an End that waits is handed out
module _ (es ps : List ℕ) (strict b : Bool) (p : ℕ) (st : List OpenTag) (w : WaitingEnd) (ws : List WaitingEnd) (s : List ℕ)
    (first : Admitted es ps (standing strict b p st (w ∷ ws)) s) (few : length ws < 32) where
  -- and the others go on waiting
  pub hands_out : decode es ps (standing strict b p st (w ∷ ws)) s ≡ gives (Ok (answer.Event (event.End w))) 0 (standing strict b p st ws)
  unfolding move handed_out with_waiting
  hands_out =
      let m : suc (length ws) - 1 ≡ length ws = omega arith in
      decode_plain es ps (standing strict b p st (w ∷ ws)) s (hands-out-exit first (omega arith))
      ∙ ap (gives (Ok (answer.Event (event.End w))) 0) (made_same strict b p refl refl (filled_shift no_end (w ∷ ws) (omega arith)) m)

-- the outermost master that is full closes, and all above it; x is the innermost
module _ (es ps : List ℕ) (strict b : Bool) (p : ℕ) (st : List OpenTag) (x : OpenTag) (s : List ℕ)
    (first : Admitted es ps (standing strict b p (st ++ (x ∷ [])) []) s) (full : is_full p x ≡ true)
    (masters : all_masters (table_of es ps) (st ++ (x ∷ [])) ≡ true) where
  abbrev all : List OpenTag
  all = st ++ (x ∷ [])

  abbrev before_close : TagDecoder
  before_close = standing strict b p all []

  -- how many stay open
  abbrev closes_at : ℕ
  closes_at = first_index (is_full p) all

  is_step3 : step3 before_close ≡ closes_at
  is_step3 = ap (first_index (is_full p)) (stands_opens strict b p all [])

  fewer : closes_at ≤ length st
  fewer = first_bound (is_full p) st x full

  all_length : length all ≡ length st + 1
  all_length = length-append st (x ∷ [])

  close_exit : Exit es ps before_close s (plain (Ok (act.Close (step3 before_close))))
  close_exit =
      let good : all_masters (table_of es ps) (drop (step3 before_close) (opens before_close)) ≡ true =
      rw (stands_opens strict b p all []) (every_drop (λ (m : OpenTag). is_master (data_type_of (table_of es ps) m.id)) (first_index (is_full p) all) all masters) in
      closes_full (record { admitted = first; none_waiting = refl; unfinished = refl }) (omega (arith, is_step3, fewer, all_length)) (all-close good)

  ends_are : ends_from before_close closes_at ≡ end_for x ∷ map end_for (reverse (drop closes_at st))
  unfolding ends_from
  ends_are =
      ap (λ (l : List OpenTag). map end_for (reverse (drop closes_at l))) (stands_opens strict b p all [])
      ∙ ap (λ (l : List OpenTag). map end_for (reverse l)) (drop-append-le closes_at st (x ∷ []) fewer)
      ∙ ap (map end_for) (reverse-append (drop closes_at st) (x ∷ []))

  closed_is : closed_to before_close closes_at ≡ standing strict b p (take closes_at st) (map end_for (reverse (drop closes_at st)))
  unfolding closed_to with_open with_waiting
  closed_is =
      let j = closes_at in
      let o : take j (opens before_close) ≡ take j st = rw (stands_opens strict b p all []) (take-append-le j st (x ∷ []) fewer) in
      let n : j ≡ length (take j st) = sym (length-take-le j st fewer) in
      let k : length all - j - 1 ≡ length (map end_for (reverse (drop j st))) = simp (length-map, length-reverse, length-drop) (omega (arith, all_length)) in
      made_same strict b p (ap (filled no_tag) o) n (ap (λ (l : List WaitingEnd). filled no_end (drop 1 l)) ends_are) k

  -- its End is the answer, and the Ends of the others that close wait
  pub closes : decode es ps before_close s
      ≡ gives (Ok (answer.Event (event.End (end_for x)))) 0 (standing strict b p (take closes_at st) (map end_for (reverse (drop closes_at st))))
  unfolding move
  closes = decode_plain es ps before_close s close_exit ∙ rw (is_step3, ends_are, closed_is)
