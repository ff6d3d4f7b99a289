-- A record's words written group by group, and the words of layout 1 as layout 2: each group behind the one before it.
-- Assumes nothing.
use Prim.Native.Nat.{ℕ, ◌+◌, ◌*◌, ◌≤◌}
use mathlib.Core.Path.{◌≡◌, refl, ap, ◌∙◌}
use mathlib.Core.List.{List, [], ◌∷◌, ◌++◌, flat_map, append_assoc}
use native.Mathlib.Omega.{arith}
use lib.ListN.{length, get_or, set, take, drop, replicate, length-append, length-take, length-drop, length-replicate}
use Rattle.basics.specs.Lists.{array_places, filled}
use Rattle.spec_util.specs.Walk.{no_tag}
use Rattle.decoder_rules.specs.Record.{opens, waits, no_end}
use Rattle.decoder_rules.specs.declared.types.TagDecoder.{TagDecoder}
use Rattle.decoder_rules.proofs.MoveEffects.{Arrays}
use Rattle.stored_decoder.specs.Words.{word_count, rest_count, master_words, end_words, front_words, decoder_words, places}
use Rattle.stored_decoder.specs.Block.{with_counts, from_layout1}
use Rattle.stored_decoder.specs.Writing.{over}
use Rattle.stored_decoder.proofs.Overwriting.{over-set, over_join, over_more, over_whole, flat_length}
use Rattle.stored_decoder.proofs.InPlaces.{places-length, place_size}
use Rattle.stored_decoder.proofs.UsedPlaces.{used_length}
use Rattle.stored_decoder.specs.Places.{six, three}

-- ---- the groups of a record's words

module _ (d : TagDecoder) where
  abbrev pub front_of : List ℕ
  front_of = front_words d.settings d.position d.settled d.finished d.open_count

  abbrev pub masters_of : List ℕ
  masters_of = flat_map master_words (filled no_tag (opens d))

  abbrev pub ends_of : List ℕ
  ends_of = flat_map end_words (filled no_end (waits d))

module _ (d : TagDecoder) (a : Arrays d) where
  pub front_length : length (front_of d) ≡ 11
  unfolding front_words
  front_length = refl

  pub masters_length : length (masters_of d) ≡ 192
  masters_length =
      let l = filled no_tag (opens d) in
      flat_length master_words 6 l no_tag (λ j h. six (get_or l j no_tag)) ∙ ap (λ (n : ℕ). 6 * n) (used_length no_tag d.«open» a.masters d.open_count)

  pub ends_length : length (ends_of d) ≡ 96
  ends_length =
      let l = filled no_end (waits d) in
      flat_length end_words 3 l no_end (λ j h. three (get_or l j no_end)) ∙ ap (λ (n : ℕ). 3 * n) (used_length no_end d.waiting a.ends d.waiting_count)

  -- together they are 320 words
  pub words_length : length (decoder_words d) ≡ word_count
  unfolding decoder_words
  words_length =
      let x = front_length in
      let y = masters_length in
      let z = ends_length in
      simp (length-append, length-replicate) (omega arith)

  -- and written in turn, over any words, they are the words of the record
  pub written : (w v : List ℕ) → length w ≡ word_count
      → v ≡ over 300 (replicate rest_count 0) (over 204 (ends_of d) (set (over 11 (masters_of d) (over 0 (front_of d) w)) 203 d.waiting_count))
      → v ≡ decoder_words d
  unfolding decoder_words
  written w v h e =
      let x = front_length in
      let y = masters_length in
      let z = ends_length in
      let n = d.waiting_count in
      let two = front_of d ++ masters_of d in
      let m : length two ≡ 203 = length-append (front_of d) (masters_of d) ∙ omega arith in
      let three = two ++ (n ∷ []) in
      let p : length three ≡ 204 = length-append two (n ∷ []) ∙ omega arith in
      let four = three ++ ends_of d in
      let q : length four ≡ 300 = length-append three (ends_of d) ∙ omega arith in
      let all = four ++ replicate rest_count 0 in
      let r : length all ≡ 320 = length-append four (replicate rest_count 0) ∙ omega arith in
      e
      ∙ ap (λ (l : List ℕ). over 300 (replicate rest_count 0) (over 204 (ends_of d) (set l 203 n))) (over_join 0 11 (front_of d) (masters_of d) w (omega arith) (omega arith))
      ∙ ap (λ (l : List ℕ). over 300 (replicate rest_count 0) (over 204 (ends_of d) l)) (over_more 0 203 two n w (omega arith) (omega arith))
      ∙ ap (over 300 (replicate rest_count 0)) (over_join 0 204 three (ends_of d) w (omega arith) (omega arith))
      ∙ over_join 0 300 four (replicate rest_count 0) w (omega arith) (omega arith)
      ∙ over_whole all w (omega arith)
      ∙ simp append_assoc

-- ---- layout 1

module _ (w : List ℕ) (h : length w ≡ word_count) where
  -- 32 places of layout 1 with a word more each
  counts-length : (o n : ℕ) → o + n * array_places ≤ length w → length (with_counts n (drop o w)) ≡ (n + 1) * array_places
  unfolding with_counts
  counts-length o n k =
      let ps = places n array_places (drop o w) in
      let m : length ps ≡ array_places = places-length n array_places (drop o w) in
      flat_length (λ v. v ++ (0 ∷ [])) (n + 1) ps []
      (λ j f. length-append (get_or ps j []) (0 ∷ []) ∙ ap (λ (x : ℕ). x + 1) (place_size o n array_places w j (omega arith) k))
      ∙ ap (λ (j : ℕ). (n + 1) * j) m

  -- its words in use written in turn, over any words, are layout 2's
  pub widened : (out v : List ℕ) → length out ≡ word_count
      → v ≡ over 300 (replicate rest_count 0) (over 204 (with_counts 2 (drop 171 w)) (over 203 (take 1 (drop 170 w)) (over 11 (with_counts 5 (drop 10 w))
      (over 5 (take 6 (drop 4 w)) (set (over 1 (take 3 (drop 1 w)) (set out 0 2)) 4 0)))))
      → v ≡ from_layout1 w
  unfolding from_layout1
  widened out v k e =
      let a = take 3 (drop 1 w) in
      let la : length a ≡ 3 = simp (length-take, length-drop) (omega arith) in
      let b = take 6 (drop 4 w) in
      let lb : length b ≡ 6 = simp (length-take, length-drop) (omega arith) in
      let m = with_counts 5 (drop 10 w) in
      let lm : length m ≡ 192 = counts-length 10 5 (omega arith) in
      let c = take 1 (drop 170 w) in
      let lc : length c ≡ 1 = simp (length-take, length-drop) (omega arith) in
      let n = with_counts 2 (drop 171 w) in
      let ln : length n ≡ 96 = counts-length 171 2 (omega arith) in
      let z : List ℕ = replicate rest_count 0 in
      let s₁ = (2 ∷ []) ++ a in
      let l₁ : length s₁ ≡ 4 = length-append (2 ∷ []) a ∙ omega arith in
      let s₂ = s₁ ++ (0 ∷ []) in
      let l₂ : length s₂ ≡ 5 = length-append s₁ (0 ∷ []) ∙ omega arith in
      let s₃ = s₂ ++ b in
      let l₃ : length s₃ ≡ 11 = length-append s₂ b ∙ omega arith in
      let s₄ = s₃ ++ m in
      let l₄ : length s₄ ≡ 203 = length-append s₃ m ∙ omega arith in
      let s₅ = s₄ ++ c in
      let l₅ : length s₅ ≡ 204 = length-append s₄ c ∙ omega arith in
      let s₆ = s₅ ++ n in
      let l₆ : length s₆ ≡ 300 = length-append s₅ n ∙ omega arith in
      let s₇ = s₆ ++ z in
      let l₇ : length s₇ ≡ 320 = length-append s₆ z ∙ omega arith in
      e
      ∙ ap (λ (l : List ℕ). over 300 z (over 204 n (over 203 c (over 11 m (over 5 b (set (over 1 a l) 4 0)))))) (over-set 0 2 out (omega arith))
      ∙ ap (λ (l : List ℕ). over 300 z (over 204 n (over 203 c (over 11 m (over 5 b (set l 4 0)))))) (over_join 0 1 (2 ∷ []) a out refl (omega arith))
      ∙ ap (λ (l : List ℕ). over 300 z (over 204 n (over 203 c (over 11 m (over 5 b l))))) (over_more 0 4 s₁ 0 out (omega arith) (omega arith))
      ∙ ap (λ (l : List ℕ). over 300 z (over 204 n (over 203 c (over 11 m l)))) (over_join 0 5 s₂ b out (omega arith) (omega arith))
      ∙ ap (λ (l : List ℕ). over 300 z (over 204 n (over 203 c l))) (over_join 0 11 s₃ m out (omega arith) (omega arith))
      ∙ ap (λ (l : List ℕ). over 300 z (over 204 n l)) (over_join 0 203 s₄ c out (omega arith) (omega arith))
      ∙ ap (over 300 z) (over_join 0 204 s₅ n out (omega arith) (omega arith))
      ∙ over_join 0 300 s₆ z out (omega arith) (omega arith)
      ∙ over_whole s₇ out (omega arith)
      ∙ simp append_assoc

  pub layout1_length : length (from_layout1 w) ≡ word_count
  unfolding from_layout1
  layout1_length =
      let lm = counts-length 10 5 (omega arith) in
      let ln = counts-length 171 2 (omega arith) in
      simp (length-append, length-take, length-drop, length-replicate) (omega arith)
