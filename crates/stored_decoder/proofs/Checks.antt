-- What the checks answer, by the test that decides it. Assumes nothing.
use Prim.Native.Nat.{ℕ}
use mathlib.Core.Path.{◌≡◌, refl, sym, ap, ◌∙◌}
use mathlib.Core.Bool.{Bool, true, false, cond, not}
use mathlib.Core.List.{List}
use borrow.Author.Tests.{eq-eqb, ne_eqb, eqb-true}
use lib.Dec.{eqb}
use native.Mathlib.Omega.{arith}
use lib.ListN.{length, get_or, take, drop, length-map, length-drop}
use lib.Seq.{take_all}
use Rattle.basics.specs.Lists.{array_places}
use Rattle.basics.proofs.Bools.{cond_yes, cond_no, same_truth, absurd_eq}
use Rattle.tools.specs.Answers.{Gives}
use Rattle.tools.specs.Bytes.{be_number}
use Rattle.decoder_rules.specs.OneCall.{good_state}
use Rattle.decoder_rules.specs.declared.types.TagDecoder.{TagDecoder}
use Rattle.decoder_rules.proofs.MoveEffects.{Arrays}
use Rattle.stored_decoder.specs.Words.{word_count, places, decoder_words, masters_in, ends_in, master_of, end_of, record_of}
use Rattle.stored_decoder.specs.Check.{all_zero, good_words, check_words}
use Rattle.stored_decoder.specs.Block.{block_length, words_of, store_as, from_layout1, stays, record_if_taken, restore_words, restore_layout1, restore_either, restore_from}
use Rattle.stored_decoder.specs.Writing.{may_store}
use Rattle.stored_decoder.specs.declared.types.Restored.{Restored}
use Rattle.stored_decoder.specs.declared.types.StoreError.{StoreError}
use Rattle.stored_decoder.specs.declared.types.StoreError.TheVariants.{BlockLength, UnknownLayout, UnusedSet, BadState}
use Rattle.stored_decoder.proofs.InPlaces.{places-length}
use Rattle.stored_decoder.proofs.OwnWords.{good_words_lem, words_own}
use Rattle.stored_decoder.proofs.WordsBack.{words_good}
use Rattle.std.specs.Str.{bytes_eq}
use Rattle.std.proofs.lemmas.Slice.Eq.{bytes_eq-Decides}
use Rattle.std.specs.Prelude.{Err, Ok, Result, ⊤}

-- the record of words has its 32 places
pub record-arrays : (w : List ℕ) → Arrays (record_of w)
unfolding record_of
record-arrays w = record {
  masters = length-map (masters_in w) master_of ∙ places-length 6 array_places _;
  ends = length-map (ends_in w) end_of ∙ places-length 3 array_places _;
}

-- words in layout 2 pass refusal 92's test where they are the words of the record that they hold
pub same_good : (w : List ℕ) → length w ≡ word_count → get_or w 0 0 ≡ 2 → bytes_eq w (decoder_words (record_of w)) ≡ good_words w
same_good w n l =
    let d = bytes_eq-Decides w (decoder_words (record_of w)) in
    same_truth (bytes_eq w (decoder_words (record_of w))) (good_words w)
    (λ e. ap good_words (d.0 e) ∙ words_good (record_of w) (record-arrays w))
    (λ e. d.1 (sym (words_own w n (good_words_lem w e) l)))

not_true : (b : Bool) → not b ≡ true → b ≡ false
not_true true e = sym e
not_true false e = refl

not_false : (b : Bool) → not b ≡ false → b ≡ true
not_false true e = refl
not_false false e = sym e

-- ---- the answers of the check

module _ (w : List ℕ) where
  pub checked_length : (length w ≡ word_count → ⊥) → Err BlockLength ≡ check_words w
  unfolding check_words
  checked_length f = sym (cond_no _ _ _ (ne_eqb (length w) word_count f))

  pub checked_layout : length w ≡ word_count → (get_or w 0 0 ≡ 2 → ⊥) → Err UnknownLayout ≡ check_words w
  unfolding check_words
  checked_layout n f = sym (cond_yes _ _ _ (eq-eqb (length w) word_count n) ∙ cond_no _ _ _ (ne_eqb (get_or w 0 0) 2 f))

  -- past the layout
  pub checked_tests : length w ≡ word_count → get_or w 0 0 ≡ 2
      → cond (good_words w) (cond (good_state (record_of w)) (Ok tt) (Err BadState)) (Err UnusedSet) ≡ check_words w
  unfolding check_words
  checked_tests n l = sym (cond_yes _ _ _ (eq-eqb (length w) word_count n) ∙ cond_yes _ _ _ (eq-eqb (get_or w 0 0) 2 l))

  -- words that are not those of the record that they hold; d is that record, own its words
  pub checked_unused : length w ≡ word_count → get_or w 0 0 ≡ 2 → {d : TagDecoder} → d ≡ record_of w → {own : List ℕ} → own ≡ decoder_words d
      → {r : Bool} → r ≡ not (bytes_eq w own) → r ≡ true → Err UnusedSet ≡ check_words w
  checked_unused n l p {own} q s f =
      let o = q ∙ ap decoder_words p in
      sym (cond_no _ _ _ (sym (ap (bytes_eq w) o ∙ same_good w n l) ∙ not_true (bytes_eq w own) (sym s ∙ f))) ∙ checked_tests n l

  -- words that are: refusal 11's test decides
  pub checked_state : length w ≡ word_count → get_or w 0 0 ≡ 2 → {d : TagDecoder} → d ≡ record_of w → {own : List ℕ} → own ≡ decoder_words d
      → {r : Bool} → r ≡ not (bytes_eq w own) → r ≡ false → {g : Bool} → g ≡ good_state d → cond g (Ok tt) (Err BadState) ≡ check_words w
  checked_state n l p {own} q s f e =
      let o = q ∙ ap decoder_words p in
      ap (λ (b : Bool). cond b (Ok tt) (Err BadState)) (e ∙ ap good_state p) ∙ sym (cond_yes _ _ _ (sym (ap (bytes_eq w) o ∙ same_good w n l) ∙ not_false (bytes_eq w own) (sym s ∙ f))) ∙ checked_tests n l

  -- it refuses them
  pub checked_bad : length w ≡ word_count → get_or w 0 0 ≡ 2 → {d : TagDecoder} → d ≡ record_of w → {own : List ℕ} → own ≡ decoder_words d
      → {r : Bool} → r ≡ not (bytes_eq w own) → r ≡ false → {g : Bool} → g ≡ good_state d → g ≡ false → Err BadState ≡ check_words w
  checked_bad n l p q s f e h = ap (λ (b : Bool). cond b (Ok tt) (Err BadState)) (sym h) ∙ checked_state n l p q s f e

  -- or takes them
  pub checked_good : length w ≡ word_count → get_or w 0 0 ≡ 2 → {d : TagDecoder} → d ≡ record_of w → {own : List ℕ} → own ≡ decoder_words d
      → {r : Bool} → r ≡ not (bytes_eq w own) → r ≡ false → {g : Bool} → g ≡ good_state d → g ≡ true → Ok tt ≡ check_words w
  checked_good n l p q s f e h = ap (λ (b : Bool). cond b (Ok tt) (Err BadState)) (sym h) ∙ checked_state n l p q s f e

  -- words that are taken are 320
  pub accepted_length : check_words w ≡ Ok tt → length w ≡ word_count
  unfolding check_words
  accepted_length e = go (eqb (length w) word_count) refl e
    where
      go : (b : Bool) → eqb (length w) word_count ≡ b
          → ◌≡◌ {A = Result ⊤ StoreError} (cond b (cond (eqb (get_or w 0 0) 2) (cond (good_words w) (cond (good_state (record_of w)) (Ok tt) (Err BadState)) (Err UnusedSet)) (Err UnknownLayout)) (Err BlockLength)) (Ok tt)
          → length w ≡ word_count
      go true q e = eqb-true (length w) word_count q
      go false q e = let z : ◌≡◌ {A = ℕ} 0 1 = cc in absurd_eq z

-- ---- of storing

-- an answer and what is lent, as a pair, are what is given
pub gives : {A : Type 0} {r : A} {o : List ℕ} {p : A × List ℕ} → ◌≡◌ {A = A × List ℕ} (r, o) p → Gives r o p
gives {A} e = record { answer = ap (λ (x : A × List ℕ). x.0) e; bytes = ap (λ (x : A × List ℕ). x.1) e }

module _ (n : ℕ) (stored : List ℕ) (d : TagDecoder) (lent : List ℕ) where
  -- by the test that decides
  decided : (l g : Bool) (P : Result ⊤ StoreError × List ℕ → Result ⊤ StoreError → Type 0)
      → P (Err BlockLength, lent) (Err BlockLength) → P (Err BadState, lent) (Err BadState) → P (Ok tt, stored) (Ok tt)
      → P (cond l (cond g (Ok tt, stored) (Err BadState, lent)) (Err BlockLength, lent)) (cond l (cond g (Ok tt) (Err BadState)) (Err BlockLength))
  decided false g P x y z = x
  decided true false P x y z = y
  decided true true P x y z = z

  pub stores_refused : {e : StoreError} → may_store n (length lent) d ≡ Err e → Gives (Err e) lent (store_as n stored d lent)
  unfolding store_as
  stores_refused {e} p = decided (eqb (length lent) n) (good_state d) (λ q m. m ≡ Err e → Gives (Err e) lent q) (λ r. gives (ap (λ m. (m, lent)) (sym r))) (λ r. gives (ap (λ m. (m, lent)) (sym r))) (λ r. absurd_eq cc) p

  pub stores_all : may_store n (length lent) d ≡ Ok tt → {o : List ℕ} → o ≡ stored → Gives (Ok tt) o (store_as n stored d lent)
  unfolding store_as
  stores_all p {o} q = decided (eqb (length lent) n) (good_state d) (λ r m. ◌≡◌ {A = Result ⊤ StoreError} m (Ok tt) → Gives (Ok tt) o r) (λ r. absurd_eq cc) (λ r. absurd_eq cc) (λ r. gives (ap (λ (x : List ℕ). (Ok tt, x)) q)) p

-- ---- of restoring

module _ (d : TagDecoder) (w : List ℕ) where
  pub restores_accepted : check_words w ≡ Ok tt → ◌≡◌ {A = Restored} (record { answer = Ok tt; state = record_of w }) (restore_words d w)
  restores_accepted p = ap (record_if_taken d w) (sym p)

  pub restores_refused : {x : StoreError} → check_words w ≡ Err x → stays d (Err x) ≡ restore_words d w
  restores_refused p = ap (record_if_taken d w) (sym p)

module _ (d : TagDecoder) (b : List ℕ) where
  pub restores_length : (length b ≡ block_length → ⊥) → stays d (Err BlockLength) ≡ restore_from d b
  unfolding restore_from
  restores_length f = sym (cond_no _ _ _ (ne_eqb (length b) block_length f))

  module _ (n : length b ≡ block_length) {w : List ℕ} (e : w ≡ words_of b) where
    restores : restore_either d w ≡ restore_from d b
    unfolding restore_from
    restores = ap (restore_either d) e ∙ sym (cond_yes _ _ _ (eq-eqb (length b) block_length n))

    pub restores_layout2 : (get_or w 0 0 ≡ 1 → ⊥) → restore_words d w ≡ restore_from d b
    unfolding restore_either
    restores_layout2 f = sym (cond_no _ _ _ (ne_eqb (get_or w 0 0) 1 f)) ∙ restores

    -- the words that layout 1 does not use, as the code takes them
    rest : take 85 (drop 235 w) ≡ drop 235 w
    unfolding words_of
    rest =
        let long : length w ≡ word_count = ap length e ∙ length-map (places 8 word_count b) be_number ∙ places-length 8 word_count b in
        take_all 85 (drop 235 w) (omega (arith, length-drop 235 w))

    module _ (one : get_or w 0 0 ≡ 1) {z : Bool} (q : z ≡ all_zero (take 85 (drop 235 w))) where
      pub restores_unused : z ≡ false → stays d (Err UnusedSet) ≡ restore_from d b
      unfolding restore_either restore_layout1
      restores_unused f = sym (cond_yes _ _ _ (eq-eqb (get_or w 0 0) 1 one) ∙ cond_no _ _ _ (ap all_zero (sym rest) ∙ sym q ∙ f)) ∙ restores

      pub restores_layout1 : z ≡ true → {v : List ℕ} → v ≡ from_layout1 w → restore_words d v ≡ restore_from d b
      unfolding restore_either restore_layout1
      restores_layout1 f p = ap (restore_words d) p ∙ sym (cond_yes _ _ _ (eq-eqb (get_or w 0 0) 1 one) ∙ cond_yes _ _ _ (ap all_zero (sym rest) ∙ sym q ∙ f)) ∙ restores
