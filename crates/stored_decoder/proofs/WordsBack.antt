-- A record's words hold the record, cleaned, and are taken. Assumes nothing.
use Prim.Native.Nat.{ℕ, ◌-◌, ◌≤◌}
use mathlib.Core.Path.{◌≡◌, refl, sym, ap, ◌∙◌}
use mathlib.Core.Bool.{Bool, true}
use mathlib.Core.List.{List, [], ◌∷◌, ◌++◌, map}
use native.Mathlib.Omega.{arith}
use lib.ListN.{length, get_or, take, drop, replicate, length-take}
use lib.Seq.{drop_at, drop-drop, get_or-drop}
use Rattle.basics.specs.Lists.{array_places, filled, every}
use Rattle.basics.proofs.Bools.{and_both}
use Rattle.spec_util.specs.Walk.{no_tag}
use Rattle.decoder_rules.specs.Record.{opens, waits, no_end}
use Rattle.decoder_rules.specs.declared.types.TagDecoder.{TagDecoder}
use Rattle.decoder_rules.proofs.MoveEffects.{Arrays}
use Rattle.stored_decoder.specs.Words.{rest_count, master_words, end_words, front_words, decoder_words, places, masters_in, ends_in, is_yes, master_of, end_of, settings_of, record_of, clean_tag, clean_settings, cleaned}
use Rattle.stored_decoder.specs.Check.{all_zero, good_front, good_master, good_end, good_places, good_words}
use Rattle.stored_decoder.proofs.InPlaces.{places_of, zeros_zero}
use Rattle.stored_decoder.proofs.UsedPlaces.{used_length}
use Rattle.stored_decoder.specs.Places.{six, three}
use Rattle.stored_decoder.proofs.Written.{masters_of, ends_of, masters_length, ends_length}
use Rattle.stored_decoder.proofs.OwnWords.{yes_of_no, yes_no_good, value_good, master_good, master_of_lem, end_of_lem, masters_empty, ends_empty, places_good, is_good_words}

maps_back : {A B C : Type 0} (f : A → B) (g : B → C) (h : A → C) → ((a : A) → g (f a) ≡ h a) → (l : List A) → map g (map f l) ≡ map h l
maps_back f g h e [] = refl
maps_back f g h e (a ∷ l) = rw (e a, maps_back f g h e l)

maps_same : {A : Type 0} (l : List A) → map (λ a. a) l ≡ l
maps_same [] = refl
maps_same {A} (a ∷ l) = ap (λ (k : List A). a ∷ k) (maps_same l)

end_good : (v : List ℕ) → good_end v ≡ true
unfolding good_end
end_good v = refl

module _ (d : TagDecoder) (a : Arrays d) where
  -- ---- where each group stands

  after_front : drop 11 (decoder_words d) ≡ masters_of d ++ (d.waiting_count ∷ (ends_of d ++ replicate rest_count 0))
  unfolding decoder_words front_words
  after_front = refl

  after_masters : drop 203 (decoder_words d) ≡ d.waiting_count ∷ (ends_of d ++ replicate rest_count 0)
  after_masters = sym (drop-drop 192 11 (decoder_words d)) ∙ ap (drop 192) after_front ∙ drop_at (masters_of d) _ 192 (masters_length d a)

  waiting_word : get_or (decoder_words d) 203 0 ≡ d.waiting_count
  waiting_word = sym (get_or-drop 203 (decoder_words d) 0 0) ∙ ap (λ (l : List ℕ). get_or l 0 0) after_masters

  before_ends : drop 204 (decoder_words d) ≡ ends_of d ++ replicate rest_count 0
  before_ends = sym (drop-drop 1 203 (decoder_words d)) ∙ ap (drop 1) after_masters

  before_rest : drop 300 (decoder_words d) ≡ replicate rest_count 0
  before_rest = sym (drop-drop 96 204 (decoder_words d)) ∙ ap (drop 96) before_ends ∙ drop_at (ends_of d) (replicate rest_count 0) 96 (ends_length d a)

  masters_in_lem : masters_in (decoder_words d) ≡ map master_words (filled no_tag (opens d))
  masters_in_lem =
      let l = filled no_tag (opens d) in
      ap (places 6 array_places) after_front
      ∙ ap (λ (n : ℕ). places 6 n (masters_of d ++ (d.waiting_count ∷ (ends_of d ++ replicate rest_count 0)))) (sym (used_length no_tag d.«open» a.masters d.open_count))
      ∙ places_of master_words 6 six l (d.waiting_count ∷ (ends_of d ++ replicate rest_count 0))

  ends_in_lem : ends_in (decoder_words d) ≡ map end_words (filled no_end (waits d))
  ends_in_lem =
      let l = filled no_end (waits d) in
      ap (places 3 array_places) before_ends
      ∙ ap (λ (n : ℕ). places 3 n (ends_of d ++ replicate rest_count 0)) (sym (used_length no_end d.waiting a.ends d.waiting_count))
      ∙ places_of end_words 3 three l (replicate rest_count 0)

  -- ---- the words of a record are taken

  front_good : good_front (decoder_words d) ≡ true
  unfolding good_front decoder_words front_words every
  front_good =
      let s = d.settings in
      and_both
      (and_both
      (and_both (yes_no_good s.allow_ids) (and_both (yes_no_good s.allow_hierarchy) (and_both (yes_no_good s.allow_oversized) (and_both (yes_no_good s.strict) (and_both (yes_no_good s.max_given) refl)))))
      (and_both (yes_no_good d.settled) (and_both (yes_no_good d.finished) refl)))
      (value_good s.max_given s.max_size)

  open_word : get_or (decoder_words d) 10 0 ≡ d.open_count
  unfolding decoder_words front_words
  open_word = refl

  masters_good : good_places good_master (get_or (decoder_words d) 10 0) (masters_in (decoder_words d)) ≡ true
  masters_good =
      let n = d.open_count in
      let m = a.masters in
      let k : length (take n d.«open») ≤ array_places = simp length-take (omega arith) in
      ap (good_places good_master (get_or (decoder_words d) 10 0)) masters_in_lem
      ∙ ap (λ (j : ℕ). good_places good_master j (map master_words (filled no_tag (opens d)))) open_word
      ∙ places_good master_words master_of no_tag good_master 6 masters_empty master_good n d.«open» (array_places - length (take n d.«open»)) (omega arith)

  ends_good : good_places good_end (get_or (decoder_words d) 203 0) (ends_in (decoder_words d)) ≡ true
  ends_good =
      let n = d.waiting_count in
      let m = a.ends in
      let k : length (take n d.waiting) ≤ array_places = simp length-take (omega arith) in
      ap (good_places good_end (get_or (decoder_words d) 203 0)) ends_in_lem
      ∙ ap (λ (j : ℕ). good_places good_end j (map end_words (filled no_end (waits d)))) waiting_word
      ∙ places_good end_words end_of no_end good_end 3 ends_empty (λ e. end_good (end_words e)) n d.waiting (array_places - length (take n d.waiting)) (omega arith)

  pub words_good : good_words (decoder_words d) ≡ true
  words_good = is_good_words (decoder_words d) (record { front = front_good; masters = masters_good; ends = ends_good; rest = ap all_zero before_rest ∙ zeros_zero rest_count })

  -- ---- and hold it, cleaned

  settings_back : settings_of (decoder_words d) ≡ clean_settings d.settings
  unfolding settings_of decoder_words front_words clean_settings
  settings_back =
      let s = d.settings in
      rw (yes_of_no s.allow_ids, yes_of_no s.allow_hierarchy, yes_of_no s.allow_oversized, yes_of_no s.strict, yes_of_no s.max_given)

  -- position, settled, finished
  notes_back : ◌≡◌ {A = ℕ × Bool × Bool} (get_or (decoder_words d) 7 0, is_yes (get_or (decoder_words d) 8 0), is_yes (get_or (decoder_words d) 9 0)) (d.position, d.settled, d.finished)
  unfolding decoder_words front_words
  notes_back = rw (yes_of_no d.settled, yes_of_no d.finished)

  pub record-back : record_of (decoder_words d) ≡ cleaned d
  unfolding record_of cleaned
  record-back =
      let s = settings_back in
      let o : map master_of (masters_in (decoder_words d)) ≡ map clean_tag (filled no_tag (opens d)) = ap (map master_of) masters_in_lem ∙ maps_back master_words master_of clean_tag master_of_lem (filled no_tag (opens d)) in
      let e : map end_of (ends_in (decoder_words d)) ≡ filled no_end (waits d) = ap (map end_of) ends_in_lem ∙ maps_back end_words end_of (λ x. x) end_of_lem (filled no_end (waits d)) ∙ maps_same (filled no_end (waits d)) in
      let n = waiting_word in
      let p = ap (λ (x : ℕ × Bool × Bool). x.0) notes_back in
      let q = ap (λ (x : ℕ × Bool × Bool). x.1) notes_back in
      let r = ap (λ (x : ℕ × Bool × Bool). x.2) notes_back in
      let c = open_word in
      cc
