-- What is unread after a call and after a read, as lists. Assumes nothing.
use Prim.Native.Nat.{ℕ, zero, suc, ◌+◌, ◌-◌, ◌≤◌, ◌<◌, min}
use mathlib.Core.Path.{◌≡◌, refl, sym, ap, ◌∙◌}
use mathlib.Core.Bool.{Bool, true, false, cond, false≢true}
use mathlib.Core.List.{List, [], ◌∷◌, ◌++◌, append-nil, append_assoc}
use native.Mathlib.Omega.{arith}
use native.Mathlib.Nat.{min-le_right}
use native.Mathlib.Decide.{dec_le}
use borrow.Author.Tests.{eq-eqb, ne_eqb}
use lib.ListN.{length, take, drop, length-append, length-take, length-drop, take-append-drop}
use lib.Seq.{take-nil, take_at, drop-append-add, drop-drop, length-take-le}
use Rattle.decoder_rules.specs.declared.types.TagDecoder.{TagDecoder}
use Rattle.event_list.specs.Reading.{listing, up_to, begins, unread_count, unread, after_read}
use Rattle.event_list.specs.Run.{given, unless_empty, left, joined, NoneEmpty, Stage, refilled}
use Rattle.event_list.specs.declared.types.Listing.{Listing}

drop-take : (t n : ℕ) (l : List ℕ) → drop t (take n l) ≡ take (n - t) (drop t l)
drop-take zero n l = let e : n - 0 ≡ n = omega arith in rw e
drop-take (suc t) zero l = let e : 0 - suc t ≡ 0 = omega arith in rw e
drop-take (suc t) (suc n) [] = sym (take-nil (suc n - suc t))
drop-take (suc t) (suc n) (x ∷ l) = let e : suc n - suc t ≡ n - t = omega arith in rw e (drop-take t n l)

pub length-unread : (l : Listing) (b : List ℕ) → length (unread l b) ≡ unread_count l b
unfolding unread
length-unread l b = length-take-le (unread_count l b) (drop (begins l b) b) (rw length-drop (omega arith))

pub unread_fits : (l : Listing) (b : List ℕ) → unread_count l b ≤ length b
unread_fits l b = omega arith

-- after a call that took t bytes

clip_end : (u n : ℕ) → u ≤ n → min u n ≡ u
clip_end u n h = omega arith

later : (u f t : ℕ) → u - (f + t) ≡ u - f - t
later u f t = omega arith

pub unread_after : (l : Listing) (b : List ℕ) (d : TagDecoder) (t : ℕ) (e : Bool) → t ≤ unread_count l b
    → unread (listing d (begins l b + t) (up_to l b) e) b ≡ drop t (unread l b)
unfolding unread
unread_after l b d t e h = go (up_to l b) (begins l b) (min-le_right l.upto (length b)) (min-le_right l.from (up_to l b)) h
  where
    go : (u f : ℕ) → u ≤ length b → f ≤ u → t ≤ u - f
        → take (min u (length b) - min (f + t) (min u (length b))) (drop (min (f + t) (min u (length b))) b) ≡ drop t (take (u - f) (drop f b))
    go u f hu hf ht =
        let in_reach : f + t ≤ u = omega arith in
        rw (clip_end u (length b) hu, clip_end (f + t) u in_reach, later u f t, drop-take t (u - f) (drop f b), drop-drop t f b)

-- what stands from the front on
pub unread_front : (d : TagDecoder) (u w : List ℕ) (n : ℕ) (e : Bool) → length u ≡ n → unread (listing d 0 n e) (u ++ w) ≡ u
unfolding unread
unread_front d u w n e q =
    let k = length-append u w in
    let a : min n (length (u ++ w)) ≡ n = omega arith in
    let z : min 0 n ≡ 0 = omega arith in
    let m : n - 0 ≡ n = omega arith in
    rw (a, z, m) (take_at u w n q)

-- ---- after a read

given_fits : (n : ℕ) (ps : List (List ℕ)) → length (given n ps) ≤ n
given_fits n [] = omega arith
given_fits n (p ∷ ps) = omega (arith, length-take n p)

unless-joined : (q : List ℕ) (ps : List (List ℕ)) → joined (unless_empty q ps) ≡ q ++ joined ps
unfolding joined
unless-joined [] ps = refl
unless-joined (x ∷ q) ps = refl

given_joined : (n : ℕ) (ps : List (List ℕ)) → given n ps ++ joined (left n ps) ≡ joined ps
unfolding joined
given_joined n [] = refl
given_joined n (p ∷ ps) =
    rw (unless-joined (drop n p) ps) (sym (append_assoc (take n p) (drop n p) (joined ps)) ∙ ap (λ (x : List ℕ). x ++ joined ps) (take-append-drop n p))

left_some : (n : ℕ) (ps : List (List ℕ)) → NoneEmpty ps → NoneEmpty (left n ps)
unfolding NoneEmpty
left_some n [] h = tt
left_some n (p ∷ ps) h = go (drop n p)
  where
    go : (q : List ℕ) → NoneEmpty (unless_empty q ps)
    go [] = h.1
    go (x ∷ q) = (omega arith, h.1)

-- a read into room gives nothing only at the end
none_left : (n : ℕ) (ps : List (List ℕ)) → 0 < n → NoneEmpty ps → length (given n ps) ≡ 0 → joined ps ≡ []
unfolding NoneEmpty joined
none_left n [] wide some z = refl
none_left n (p ∷ ps) wide some z = let h = some.0 in absurd (no_bytes (omega (arith, length-take n p)))
  where
    no_bytes : ◌≡◌ {A = ℕ} 0 1 → ⊥
    no_bytes e = omega arith

no_elements : (v : List ℕ) → length v ≡ 0 → v ≡ []
no_elements [] e = refl
no_elements (x ∷ v) e = absurd (few (length v) e)
  where
    few : (n : ℕ) → suc n ≡ 0 → ⊥
    few n q = omega arith

module _ (d : TagDecoder) (u w : List ℕ) (e : Bool) (ps : List (List ℕ)) (space : 0 < length w) (some : NoneEmpty ps) where
  abbrev stage : Stage
  stage = refilled (listing d 0 (length u) e, u ++ w) ps

  room : length (u ++ w) - length u ≡ length w
  room = omega (arith, length-append u w)

  abbrev v : List ℕ
  v = given (length (u ++ w) - length u) ps

  fits : length v ≤ length w
  fits = let h = given_fits (length (u ++ w) - length u) ps in omega (arith, room)

  buffer_is : stage.buffer ≡ u ++ v ++ drop (length v) w
  unfolding refilled
  buffer_is = rw (take_at u w (length u) refl, drop-append-add u w (length v))

  pub size_is : length stage.buffer ≡ length (u ++ w)
  size_is =
      let f = fits in
      rw buffer_is (omega (arith, length-append (u ++ v) (drop (length v) w), length-append u v, length-append u w, length-drop (length v) w))

  pub rest_is : u ++ v ++ joined stage.pieces ≡ u ++ joined ps
  unfolding refilled
  rest_is = append_assoc u v (joined (left (length (u ++ w) - length u) ps)) ∙ ap (λ (x : List ℕ). u ++ x) (given_joined (length (u ++ w) - length u) ps)

  pub pieces_some : NoneEmpty stage.pieces
  unfolding refilled
  pieces_some = left_some (length (u ++ w) - length u) ps some

  at_some : (length v ≡ 0 → ⊥) → stage.at ≡ listing d 0 (length u + length v) e
  unfolding refilled after_read
  at_some f =
      let h = fits in
      let c : min (length u + length v) (length (u ++ w)) ≡ length u + length v = clip_end _ _ (omega (arith, length-append u w)) in
      rw (ne_eqb (length v) 0 f, c)

  at_none : length v ≡ 0 → stage.at ≡ listing d 0 (length u) true
  unfolding refilled after_read
  at_none z = rw (eq-eqb (length v) 0 z)

  -- the unread bytes are those before, and what was read
  pub unread_is : unread stage.at stage.buffer ≡ u ++ v
  unread_is = go (dec_le 1 (length v))
    where
      go : Dec (1 ≤ length v) → unread stage.at stage.buffer ≡ u ++ v
      go (yes h) =
          rw (at_some (λ z. omega arith), buffer_is) (unread_front d (u ++ v) (drop (length v) w) (length u + length v) e (length-append u v))
      go (no f) =
          let z : length v ≡ 0 = omega arith in
          let n = no_elements v z in
          rw (at_none z, buffer_is, append_assoc u v (drop (length v) w)) (unread_front d u (v ++ drop (length v) w) (length u) true refl ∙ sym (append-nil u) ∙ ap (λ (x : List ℕ). u ++ x) (sym n))

  -- the decoder is as it was, and the input has ended where nothing is left of it
  pub decoder_is : stage.at.decoder ≡ d
  decoder_is = go (dec_le 1 (length v))
    where
      go : Dec (1 ≤ length v) → stage.at.decoder ≡ d
      go (yes h) = ap (λ (x : Listing). x.decoder) (at_some (λ z. omega arith))
      go (no f) = ap (λ (x : Listing). x.decoder) (at_none (omega arith))

  pub ended_only : e ≡ false → stage.at.ended ≡ true → (joined ps ≡ []) × (joined stage.pieces ≡ [])
  unfolding refilled
  ended_only still q = go (dec_le 1 (length v))
    where
      n : ℕ
      n = length (u ++ w) - length u

      go : Dec (1 ≤ length v) → (joined ps ≡ []) × (joined (left n ps) ≡ [])
      go (yes h) = absurd (false≢true (sym still ∙ sym (ap (λ (x : Listing). x.ended) (at_some (λ z. omega arith))) ∙ q))
      go (no f) =
          let z : length v ≡ 0 = omega arith in
          let none = none_left n ps (omega (arith, room)) some z in
          (none, (rw (no_elements v z) at (given_joined n ps)) ∙ none)

  -- a read leaves less to read, or marks the end
  pub read_nearer : e ≡ false → length (joined stage.pieces) + cond stage.at.ended 0 1 < length (joined ps) + 1
  unfolding refilled
  read_nearer still = go (dec_le 1 (length v))
    where
      n : ℕ
      n = length (u ++ w) - length u

      sum : length v + length (joined (left n ps)) ≡ length (joined ps)
      sum = sym (length-append v (joined (left n ps))) ∙ ap length (given_joined n ps)

      go : Dec (1 ≤ length v) → length (joined (left n ps)) + cond stage.at.ended 0 1 < length (joined ps) + 1
      go (yes h) = rw (ap (λ (x : Listing). x.ended) (at_some (λ z. omega arith)), still) (omega (arith, sum))
      go (no f) = rw (ap (λ (x : Listing). x.ended) (at_none (omega arith))) (omega (arith, sum))
