-- How bytes are put; and the turns of the loop that writes: the output is the document as far as it is put, and what
-- was there before after it. Assumes nothing.
use Prim.Native.Nat.{ℕ, ◌+◌, ◌*◌, ◌/◌, ◌≤◌, ◌<◌}
use mathlib.Core.Path.{◌≡◌, refl, sym, ap, subst, ◌∙◌}
use mathlib.Core.Bool.{true, false≢true}
use mathlib.Core.List.{List, [], ◌∷◌, ◌++◌, append_assoc, append-nil}
use native.Mathlib.Omega.{arith}
use lib.Dec.{eqb}
use lib.ListN.{length, get_or, take, drop, length-append, length-drop, drop_of_length-le}
use lib.Seq.{paste, paste-zero, take_at, drop_at, drop-append-add, take-add, drop-drop, take_all, length-take-le, take-paste, drop-paste}
use Rattle.basics.proofs.Bools.{both}
use Rattle.tag_writer.specs.Document.{Run, payload, header_bytes, size_of_run}
use Rattle.tag_writer.specs.Flat.{marks_bytes, datum_bytes}
use Rattle.tag_writer.specs.Items.{Mark, start, end, datum, value_at, mark_of, marks_of, matched, levels, innermost, Levels, outermost, inside, run_of, run_marks}
use Rattle.tag_writer.specs.Sizing.{stops, Sizable, RunAt, SizesIn}
use Rattle.tag_writer.proofs.Marks.{Says, says}
use Rattle.tag_writer.proofs.MatchLaws.{mark_is, start_here, end_here, value_here}
use Rattle.tag_writer.proofs.Shapes.{marks_count, run_bound}

-- ---- two puts one after the other

pub paste_both : (d a b : List ℕ) (at : ℕ) → at + (length a + length b) ≤ length d
    → paste (paste d at a (length a)) (at + length a) b (length b) ≡ paste d at (a ++ b) (length (a ++ b))
paste_both d a b at h =
    let ha : at ≤ length d = omega arith in
    let hs : length a ≤ length a = omega arith in
    let one : take (at + length a) (paste d at a (length a)) ≡ take at d ++ a = take-paste d at a (length a) ha hs ∙ ap (λ (l : List ℕ). take at d ++ l) (take_all (length a) a hs) in
    let two : drop (at + length a + length b) (paste d at a (length a)) ≡ drop (at + length a + length b) d =
    sym (drop-drop (length b) (at + length a) (paste d at a (length a))) ∙ ap (drop (length b)) (drop-paste d at a (length a) ha hs) ∙ drop-drop (length b) (at + length a) d in
    let n : length (a ++ b) ≡ length a + length b = length-append a b in
    let whole : take (length (a ++ b)) (a ++ b) ≡ a ++ b = take_all (length (a ++ b)) (a ++ b) (omega arith) in
    let place : at + length (a ++ b) ≡ at + length a + length b = omega arith in
    let tb : take (length b) b ≡ b = take_all (length b) b (omega arith) in
    rw (one, two, tb, whole, place, append_assoc (take at d) a b)

-- ---- one put

-- what a put of bytes makes of the place and of the output
pub record IsPut (P out : List ℕ) (at r : ℕ) (o : List ℕ) : Type 0 where
  pub place : r ≡ at + length P
  pub bytes : o ≡ paste out at P (length P)

pub put_is : {P out bs o : List ℕ} {at w : ℕ} → P ≡ bs → w ≡ length P → o ≡ paste out at bs w → IsPut P out at (at + w) o
put_is {P} {out} {bs} {o} {at} {w} e m p =
    record { place = ap (λ (k : ℕ). at + k) m; bytes = p ∙ ap (λ (b : List ℕ). paste out at b w) (sym e) ∙ ap (paste out at P) m }

nothing_in : (P : List ℕ) → 0 ≡ length P → P ≡ []
nothing_in [] e = refl
nothing_in (x ∷ P) e = absurd (omega arith)

pub put_nothing : (P out : List ℕ) (at : ℕ) → 0 ≡ length P → IsPut P out at at out
put_nothing P out at e = record { place = omega arith; bytes = rw (nothing_in P e) (paste-zero out at []) }

-- ---- as far as it is put

pub record PutSo (B out₀ rest : List ℕ) (at : ℕ) (o : List ℕ) : Type 0 where
  pub left : drop at B ≡ rest
  pub fit : at ≤ length B
  pub is : o ≡ take at B ++ drop at out₀

pub put_none : (B out₀ : List ℕ) → PutSo B out₀ B 0 out₀
put_none B out₀ = record { left = refl; fit = omega arith; is = refl }

-- the output is as long as it was
pub put_length : (B out₀ rest : List ℕ) (at : ℕ) (o : List ℕ) → length B ≤ length out₀ → PutSo B out₀ rest at o → length o ≡ length out₀
put_length B out₀ rest at o room p =
    omega (arith, ap length p.is, length-append (take at B) (drop at out₀), length-take-le at B p.fit, length-drop at out₀, p.fit)

-- all is put
pub put_all : (B out₀ : List ℕ) {rest : List ℕ} {at : ℕ} {o : List ℕ} → PutSo B out₀ rest at o → rest ≡ [] → o ≡ B ++ drop (length B) out₀
put_all B out₀ {rest} {at} p e =
    let n : length B ≤ at = omega (arith, ap length (p.left ∙ e), length-drop at B) in
    let m : at ≡ length B = omega (arith, p.fit) in
    p.is ∙ rw (take_all at B n, m)

-- the bytes that come next have room, and are put
module _ (B out₀ bs rest : List ℕ) (at : ℕ) (o : List ℕ) (room : length B ≤ length out₀) (p : PutSo B out₀ (bs ++ rest) at o) where
  put_fit : at + length bs ≤ length B
  put_fit = omega (arith, sym (length-append bs rest) ∙ ap length (sym p.left) ∙ length-drop at B, p.fit)

  pub put_room : at + length bs ≤ length o
  put_room = omega (arith, put_fit, put_length B out₀ (bs ++ rest) at o room p)

  head_length : length (take at B) ≡ at
  head_length = length-take-le at B p.fit

  pasted : PutSo B out₀ rest (at + length bs) (paste o at bs (length bs))
  pasted =
      let first : take at o ≡ take at B = ap (take at) p.is ∙ take_at (take at B) (drop at out₀) at head_length in
      let after : drop (at + length bs) o ≡ drop (at + length bs) out₀ =
      ap (drop (at + length bs)) p.is ∙ ap (λ (n : ℕ). drop (n + length bs) (take at B ++ drop at out₀)) (sym head_length)
      ∙ drop-append-add (take at B) (drop at out₀) (length bs) ∙ drop-drop (length bs) at out₀ in
      let all : take (length bs) bs ≡ bs = take_all (length bs) bs (omega arith) in
      let whole : take (at + length bs) B ≡ take at B ++ bs = take-add at (length bs) B ∙ ap (λ (l : List ℕ). take at B ++ l) (ap (take (length bs)) p.left ∙ take_at bs rest (length bs) refl) in
      record {
        left = sym (drop-drop (length bs) at B) ∙ ap (drop (length bs)) p.left ∙ drop_at bs rest (length bs) refl;
        fit = put_fit;
        is = rw (first, after, all, whole);
      }

  pub put_more : {at' : ℕ} {o' : List ℕ} → at' ≡ at + length bs → o' ≡ paste o at bs (length bs) → PutSo B out₀ rest at' o'
  put_more e f = rw (e, f) pasted

-- ---- the list from an item on

-- it is matched in some open Starts
pub record Closes (ms : List Mark) (i : ℕ) : Type 0 where
  pub in_ids : List ℕ
  pub match : matched in_ids (drop i ms) ≡ true

pub closes_run : (ms : List Mark) (i : ℕ) → Closes ms i → RunAt ms i
closes_run ms i c = by c.in_ids (levels (drop i ms)) (says c.in_ids (drop i ms) c.match)
  where
    by : (ys : List ℕ) (ls : Levels) → Says ys ls (drop i ms) → RunAt ms i
    by [] (outermost r) s = record { run = r; tail = []; stop = refl; is = s ∙ sym (append-nil (run_marks r)) }
    by [] (inside r ls) s = absurd s
    by (y ∷ ys) (outermost r) s = absurd s
    by (y ∷ ys) (inside r ls) s = record { run = r; tail = end y ∷ s.0; stop = refl; is = s.1 }

-- the run there is the one that the list says
pub closes_is : (ms : List Mark) (i : ℕ) → Closes ms i → (P : Run → Type 0) → ((run : Run) (tail : List Mark) → stops tail ≡ true → drop i ms ≡ run_marks run ++ tail → P run) → P (run_of (drop i ms))
closes_is ms i c P all = by c.in_ids (levels (drop i ms)) (says c.in_ids (drop i ms) c.match)
  where
    by : (ys : List ℕ) (ls : Levels) → Says ys ls (drop i ms) → P (innermost ls)
    by [] (outermost r) s = all r [] refl (s ∙ sym (append-nil (run_marks r)))
    by [] (inside r ls) s = absurd s
    by (y ∷ ys) (outermost r) s = absurd s
    by (y ∷ ys) (inside r ls) s = all r (end y ∷ s.0) refl s.1

module _ (vals items : List ℕ) (i : ℕ) where
  abbrev ms : List Mark
  ms = marks_of vals items

  abbrev word : ℕ → ℕ
  word k = get_or items (4 * i + k) 0

  pub past_bytes : length items / 4 ≤ i → marks_bytes (drop i ms) ≡ []
  unfolding marks_bytes
  past_bytes h = let n : length ms ≤ i = omega (arith, marks_count vals items) in ap marks_bytes (drop_of_length-le ms n)

  module _ (there : i < length items / 4) where
    pub end_bytes : word 0 ≡ 6 → marks_bytes (drop i ms) ≡ marks_bytes (drop (i + 1) ms)
    unfolding marks_bytes
    end_bytes e = ap marks_bytes (end_here vals items i there e)

    -- a value with its header, of its words as they are read
    pub value_bytes : {k x o n : ℕ} → k ≡ word 0 → x ≡ word 1 → o ≡ word 2 → n ≡ word 3 → (k ≡ 0 → ⊥) → (k ≡ 6 → ⊥)
        → marks_bytes (drop i ms) ≡ datum_bytes vals k x o n ++ marks_bytes (drop (i + 1) ms)
    unfolding marks_bytes
    value_bytes {k} {x} {o} {n} ek ex eo en a b =
        let v = value_at vals (word 0) (word 2) (word 3) in
        ap marks_bytes (value_here vals items i there (λ z. a (ek ∙ z)) (λ z. b (ek ∙ z)))
        ∙ sym (append_assoc (header_bytes (word 1) (length (payload v))) (payload v) (marks_bytes (drop (i + 1) ms))) ∙ rw (ek, ex, eo, en)

    next_of : (ys : List ℕ) (m : Mark) → matched ys (m ∷ drop (i + 1) ms) ≡ true → Closes ms (i + 1)
    unfolding matched
    next_of ys (start x) e = record { in_ids = x ∷ ys; match = e }
    next_of [] (end x) e = absurd (false≢true e)
    next_of (y ∷ ys) (end x) e = record { in_ids = ys; match = (both (eqb x y) (matched ys (drop (i + 1) ms)) e).right }
    next_of ys (datum x v) e = record { in_ids = ys; match = e }

    pub closes_next : Closes ms i → Closes ms (i + 1)
    closes_next c = next_of c.in_ids (mark_of vals (word 0) (word 1) (word 2) (word 3)) (subst (λ (l : List Mark). matched c.in_ids l ≡ true) (mark_is vals items i there) c.match)

    -- a Start's header, with the size that is kept of it
    module _ (closes : Closes ms i) (kind : word 0 ≡ 0) (sizes : List ℕ) (kept : SizesIn ms 0 (length items / 4) sizes) where
      kept_size : (run : Run) (tail : List Mark) → stops tail ≡ true → drop (i + 1) ms ≡ run_marks run ++ tail → get_or sizes i 0 ≡ size_of_run run
      kept_size run tail st q = kept.at_start i (word 1) run tail (omega arith) there st (start_here vals items i there kind ∙ ap (λ (l : List Mark). start (word 1) ∷ l) q)

      pub start_bytes : {x : ℕ} → x ≡ word 1 → marks_bytes (drop i ms) ≡ header_bytes x (get_or sizes i 0) ++ marks_bytes (drop (i + 1) ms)
      unfolding marks_bytes
      start_bytes {x} ex =
          let size = closes_is ms (i + 1) (closes_next closes) (λ (r : Run). get_or sizes i 0 ≡ size_of_run r) kept_size in
          ap marks_bytes (start_here vals items i there kind) ∙ rw (ex, size)

      pub start_small : Sizable ms → get_or sizes i 0 ≤ 2_050_000_000_000
      start_small able =
          let a = closes_run ms (i + 1) (closes_next closes) in
          omega (arith, kept_size a.run a.tail a.stop a.is, (run_bound ms able (i + 1) a.run a.tail a.is).0)
