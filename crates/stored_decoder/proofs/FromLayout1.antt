-- Document 02, CR 14: a record stored in layout 1 "is read as ported, counts 0". Assumes nothing.
use Prim.Native.Nat.{ℕ, zero, suc, ◌-◌}
use mathlib.Core.Path.{◌≡◌, refl, sym, ap, ap₂, ◌∙◌}
use mathlib.Core.Bool.{true}
use mathlib.Core.List.{List, [], ◌∷◌, ◌++◌, map, flat_map, map-append}
use native.Mathlib.Omega.{arith}
use borrow.Author.Tests.{eq-eqb, le-leb}
use lib.Dec.{eqb}
use lib.ListN.{length, get_or, take, drop, replicate, length-append, length-replicate, length-map}
use lib.Seq.{drop_at, drop-drop}
use Rattle.basics.specs.Lists.{array_places, filled}
use Rattle.basics.proofs.Bools.{cond_yes}
use Rattle.basics.proofs.Every.{every_map}
use Rattle.basics.proofs.Maps.{take-map}
use Rattle.spec_util.specs.Walk.{no_tag}
use Rattle.spec_util.specs.declared.types.OpenTag.{OpenTag}
use Rattle.decoder_rules.specs.Record.{opens, waits, no_end}
use Rattle.decoder_rules.specs.OneCall.{good_open, good_end, good_state}
use Rattle.decoder_rules.specs.declared.types.TagDecoder.{TagDecoder}
use Rattle.decoder_rules.specs.declared.types.WaitingEnd.{WaitingEnd}
use Rattle.decoder_rules.proofs.GoodState.{good_open_lem, is_good_open, good_state_lem, is_good_state}
use Rattle.decoder_rules.proofs.MoveEffects.{Arrays}
use Rattle.stored_decoder.specs.Words.{word_count, master_words, end_words, front_words, decoder_words, places, cleaned}
use Rattle.stored_decoder.specs.Check.{all_zero}
use Rattle.stored_decoder.specs.Block.{Words64, block_length, bytes_of, with_counts, from_layout1, restore_words, restore_layout1, restore_either, restore_from}
use Rattle.stored_decoder.specs.Layout1.{master_words1, end_words1, layout1_words, uncounted, uncounted_end, as_ported}
use Rattle.stored_decoder.proofs.Overwriting.{flat_length}
use Rattle.stored_decoder.proofs.InPlaces.{places_of, zeros_zero}
use Rattle.stored_decoder.proofs.UsedPlaces.{used_length}
use Rattle.stored_decoder.proofs.Restoring.{words_of_bytes, bytes-length, restore_words_stored}
use Rattle.std.specs.Prelude.{Ok}

-- ---- a place

master_size : (m : OpenTag) → length (master_words1 m) ≡ 5
unfolding master_words1
master_size m = refl

end_size : (e : WaitingEnd) → length (end_words1 e) ≡ 2
unfolding end_words1
end_size e = refl

master_wider : (m : OpenTag) → master_words1 m ++ (0 ∷ []) ≡ master_words (uncounted m)
unfolding master_words1 master_words uncounted
master_wider m = refl

end_wider : (e : WaitingEnd) → end_words1 e ++ (0 ∷ []) ≡ end_words (uncounted_end e)
unfolding end_words1 end_words uncounted_end
end_wider e = refl

-- ---- places of layout 1 with a word more each

module _ {A : Type 0} (narrow wide : A → List ℕ) (bare : A → A) (none : A) (size : ℕ)
    (fits : (a : A) → length (narrow a) ≡ size) (wider : (a : A) → narrow a ++ (0 ∷ []) ≡ wide (bare a)) (empty : bare none ≡ none) where
  all_wider : (l : List A) → flat_map (λ v. v ++ (0 ∷ [])) (map narrow l) ≡ flat_map wide (map bare l)
  unfolding flat_map
  all_wider [] = refl
  all_wider (a ∷ l) = ap₂ (λ (x y : List ℕ). x ++ y) (wider a) (all_wider l)

  bare_empty : (n : ℕ) → map bare (replicate n none) ≡ replicate n none
  bare_empty zero = refl
  bare_empty (suc n) = ap₂ (λ (x : A) (y : List A). x ∷ y) empty (bare_empty n)

  bare_filled : (l : List A) → map bare (filled none l) ≡ filled none (map bare l)
  bare_filled l =
      map-append bare l (replicate (array_places - length l) none)
      ∙ ap (λ (x : List A). map bare l ++ x) (bare_empty (array_places - length l) ∙ ap (λ (n : ℕ). replicate (array_places - n) none) (sym (length-map l bare)))

  widened-places : (l : List A) (n : ℕ) (r : List ℕ) → length l ≡ array_places
      → with_counts size (flat_map narrow (filled none (take n l)) ++ r) ≡ flat_map wide (filled none (take n (map bare l)))
  unfolding with_counts
  widened-places l n r h =
      let p = filled none (take n l) in
      ap (λ (k : ℕ). flat_map (λ v. v ++ (0 ∷ [])) (places size k (flat_map narrow p ++ r))) (sym (used_length none l h n))
      ∙ ap (flat_map (λ v. v ++ (0 ∷ []))) (places_of narrow size fits p r)
      ∙ all_wider p
      ∙ ap (flat_map wide) (bare_filled (take n l) ∙ ap (filled none) (sym (take-map bare n l)))

no_tag_bare : uncounted no_tag ≡ no_tag
unfolding uncounted
no_tag_bare = refl

no_end_bare : uncounted_end no_end ≡ no_end
unfolding uncounted_end
no_end_bare = refl

-- ---- a count of 0 is good

uncounted_good : (p : ℕ) (m : OpenTag) → good_open p m ≡ true → good_open p (uncounted m) ≡ true
unfolding uncounted
uncounted_good p m h =
    let g = good_open_lem p m h in
    is_good_open p (uncounted m) (record { start = g.start; size = g.size; count = omega arith })

uncounted_end_good : (p : ℕ) (e : WaitingEnd) → good_end p e ≡ true → good_end p (uncounted_end e) ≡ true
unfolding uncounted_end good_end
uncounted_end_good p e h = le-leb 0 p (omega arith)

-- ---- the words

module _ (d : TagDecoder) (a : Arrays d) where
  abbrev narrow_ends : List ℕ
  narrow_ends = flat_map end_words1 (filled no_end (waits d)) ++ replicate 85 0

  after_front : drop 10 (layout1_words d) ≡ flat_map master_words1 (filled no_tag (opens d)) ++ (d.waiting_count ∷ narrow_ends)
  unfolding layout1_words
  after_front = refl

  masters_160 : length (flat_map master_words1 (filled no_tag (opens d))) ≡ 160
  masters_160 =
      let l = filled no_tag (opens d) in
      flat_length master_words1 5 l no_tag (λ j h. master_size (get_or l j no_tag)) ∙ rw (used_length no_tag d.«open» a.masters d.open_count)

  ends_64 : length (flat_map end_words1 (filled no_end (waits d))) ≡ 64
  ends_64 =
      let l = filled no_end (waits d) in
      flat_length end_words1 2 l no_end (λ j h. end_size (get_or l j no_end)) ∙ rw (used_length no_end d.waiting a.ends d.waiting_count)

  after_masters : drop 170 (layout1_words d) ≡ d.waiting_count ∷ narrow_ends
  after_masters = sym (drop-drop 160 10 (layout1_words d)) ∙ ap (drop 160) after_front ∙ drop_at (flat_map master_words1 (filled no_tag (opens d))) _ 160 masters_160

  before_ends : drop 171 (layout1_words d) ≡ narrow_ends
  before_ends = sym (drop-drop 1 170 (layout1_words d)) ∙ ap (drop 1) after_masters

  before_rest : drop 235 (layout1_words d) ≡ replicate 85 0
  before_rest = sym (drop-drop 64 171 (layout1_words d)) ∙ ap (drop 64) before_ends ∙ drop_at (flat_map end_words1 (filled no_end (waits d))) (replicate 85 0) 64 ends_64

  -- the words of layout 1 as layout 2 are those of the record read as ported, counts 0
  pub layout1_words_lem : from_layout1 (layout1_words d) ≡ decoder_words (as_ported d)
  unfolding from_layout1 decoder_words front_words as_ported layout1_words
  layout1_words_lem =
      let m : with_counts 5 (drop 10 (layout1_words d)) ≡ flat_map master_words (filled no_tag (take d.open_count (map uncounted d.«open»))) =
      ap (with_counts 5) after_front ∙ widened-places master_words1 master_words uncounted no_tag 5 master_size master_wider no_tag_bare d.«open» d.open_count (d.waiting_count ∷ narrow_ends) a.masters in
      let n : take 1 (drop 170 (layout1_words d)) ≡ d.waiting_count ∷ [] = ap (take 1) after_masters in
      let e : with_counts 2 (drop 171 (layout1_words d)) ≡ flat_map end_words (filled no_end (take d.waiting_count (map uncounted_end d.waiting))) =
      ap (with_counts 2) before_ends ∙ widened-places end_words1 end_words uncounted_end no_end 2 end_size end_wider no_end_bare d.waiting d.waiting_count (replicate 85 0) a.ends in
      rw (m, n, e)

  layout1_length : length (layout1_words d) ≡ word_count
  unfolding layout1_words
  layout1_length =
      let m = masters_160 in
      let n = ends_64 in
      simp (length-append, length-replicate) (omega arith)

  one_first : get_or (layout1_words d) 0 0 ≡ 1
  unfolding layout1_words
  one_first = refl

  ported_arrays : Arrays (as_ported d)
  unfolding as_ported
  ported_arrays = record { masters = length-map d.«open» uncounted ∙ a.masters; ends = length-map d.waiting uncounted_end ∙ a.ends }

  -- 11 asks less of it
  ported_good : good_state d ≡ true → good_state (as_ported d) ≡ true
  unfolding as_ported
  ported_good h =
      let g = good_state_lem d h in
      let p = d.position in
      is_good_state (as_ported d) (record {
        open_count = g.open_count;
        waiting_count = g.waiting_count;
        place = g.place;
        masters = rw (take-map uncounted d.open_count d.«open») (every_map (good_open p) uncounted (good_open p) (uncounted_good p) (opens d) g.masters);
        ends = rw (take-map uncounted_end d.waiting_count d.waiting) (every_map (good_end p) uncounted_end (good_end p) (uncounted_end_good p) (waits d) g.ends);
      })

  -- a record stored in layout 1 is restored as ported, counts 0, whatever the record was before
  pub restore_layout1_lem : Words64 (layout1_words d) → good_state d ≡ true
      → (e : TagDecoder) → restore_from e (bytes_of (layout1_words d)) ≡ record { answer = Ok tt; state = cleaned (as_ported d) }
  unfolding restore_from restore_either restore_layout1
  restore_layout1_lem f h e =
      let w = layout1_words d in
      cond_yes _ _ _ (eq-eqb (length (bytes_of w)) block_length (bytes-length w layout1_length))
      ∙ ap (restore_either e) (words_of_bytes w layout1_length f)
      ∙ cond_yes _ _ _ (ap (λ (x : ℕ). eqb x 1) one_first)
      ∙ cond_yes _ _ _ (ap all_zero before_rest ∙ zeros_zero 85)
      ∙ ap (restore_words e) layout1_words_lem
      ∙ restore_words_stored (as_ported d) ported_arrays e (ported_good h)
