-- What a call on words answers, by what the check of the words answers. Assumes nothing.
use Prim.Native.Nat.{ℕ}
use mathlib.Core.Path.{◌≡◌, refl, sym, ap, ap₂, subst, ◌∙◌}
use mathlib.Core.Bool.{Bool}
use mathlib.Core.List.{List}
use borrow.Author.Tests.{eq-eqb, ne_eqb}
use lib.ListN.{length}
use Rattle.basics.proofs.Bools.{cond_yes, cond_no}
use Rattle.tools.specs.Answers.{Gives}
use Rattle.decoder_rules.specs.Record.{fresh}
use Rattle.decoder_rules.specs.Recovery.{try_recover}
use Rattle.decoder_rules.specs.declared.types.Recovered.{Recovered}
use Rattle.decoder_rules.specs.declared.types.TagDecoder.{TagDecoder}
use Rattle.many_events.specs.Many.{many_events}
use Rattle.many_events.specs.declared.types.Ran.{Ran}
use Rattle.stored_decoder.specs.Words.{word_count, decoder_words, record_of}
use Rattle.stored_decoder.specs.Check.{check_words}
use Rattle.stored_decoder.specs.Block.{store_out, restore_from}
use Rattle.stored_decoder.specs.declared.types.Restored.{Restored}
use Rattle.stored_decoder.specs.declared.types.StoreError.{StoreError}
use Rattle.stored_decoder.specs.declared.types.StoreError.TheVariants.{BlockLength}
use Rattle.stored_decoder.proofs.Checks.{accepted_length, gives}
use Rattle.decoder_words.specs.Replies.{done, plain, ran_reply, search_reply, words_refused, acceptance_code, told, untold}
use Rattle.decoder_words.specs.Calls.{of_record, on_words, new_words, set_words, number_words, ran_words, decode_words, GivesThree, searched_words, recover_words, store_from_words, words_if_taken, restored_words, restore_to_words}
use Rattle.decoder_words.specs.declared.types.Number.{Number}
use Rattle.decoder_words.specs.declared.types.Reply.{Reply}
use Rattle.std.specs.Prelude.{Err, Ok, Result, ⊤}

-- ---- words that are checked: a is what the check answered

-- of words that are a decoder's, d is the record
module _ (w : List ℕ) {a : Result ⊤ StoreError} (c : a ≡ check_words w) (yes : a ≡ (Ok tt)) where
  -- they are 320
  pub taken_length : length w ≡ word_count
  taken_length = accepted_length w (sym c ∙ yes)

  module _ {d : TagDecoder} (own : d ≡ record_of w) where
    -- what is said of the record is said of them
    pub on_accepted : {A : Type 0} (say : TagDecoder → A) (refused : StoreError → A) → say d ≡ on_words say refused w
    on_accepted say refused = ap say own ∙ ap (of_record say refused w) (sym yes ∙ c)

    -- a setting leaves the words of the record with it
    pub sets : (set : TagDecoder → TagDecoder) {e : TagDecoder} {o : List ℕ} → e ≡ set d → o ≡ decoder_words e → Gives done o (set_words set w)
    unfolding set_words
    sets set s p = gives (ap (λ (l : List ℕ). (done, l)) (p ∙ ap decoder_words s) ∙ on_accepted (λ d. (done, decoder_words (set d))) (λ e. (words_refused e, w)))

    -- a number of the record is told
    pub tells : (number : TagDecoder → ℕ) {n : ℕ} {r : Number} → n ≡ number d → r ≡ told n → r ≡ number_words number w
    unfolding number_words
    tells number p q = q ∙ ap told p ∙ on_accepted (λ d. told (number d)) untold

    -- calls in a row leave the words of the record after them
    pub decodes : (eof : Bool) (es ps s l : List ℕ) {x : Ran} {o v : List ℕ} {r : Reply} → Gives x v (many_events eof es ps d s l) → o ≡ decoder_words x.state → r ≡ ran_reply x
        → GivesThree r o v (decode_words eof es ps w s l)
    unfolding decode_words
    decodes eof es ps s l {x} {o} {v} {r} g p q =
        subst (GivesThree r o v) (on_accepted (λ d. ran_words (many_events eof es ps d s l)) (λ e. (plain (words_refused e) 0 0 0 0, w, l)))
        (record { answer = q ∙ ap ran_reply g.answer; words = p ∙ ap (λ (y : Ran). decoder_words y.state) g.answer; events = g.bytes })

    -- a recovery leaves the words of the record after it
    pub recovers : (es ps s : List ℕ) {x : Recovered} {o : List ℕ} {r : Reply} → x ≡ try_recover es ps d s → o ≡ decoder_words x.state → r ≡ search_reply x.answer x.taken
        → Gives r o (recover_words es ps w s)
    unfolding recover_words
    recovers es ps s e p q =
        gives
        (ap₂ (λ (r : Reply) (l : List ℕ). (r, l)) q p
        ∙ ap searched_words e
        ∙ on_accepted (λ d. searched_words (try_recover es ps d s)) (λ e. (plain (words_refused e) 0 0 0 0, w)))

    -- storing answers for the record
    pub stores : (b : List ℕ) {x : Result ⊤ StoreError} {o : List ℕ} {r : ℕ} → Gives x o (store_out d b) → r ≡ acceptance_code x → Gives r o (store_from_words w b)
    unfolding store_from_words
    stores b g q =
        gives
        (ap₂ (λ (r : ℕ) (l : List ℕ). (r, l)) (q ∙ ap acceptance_code g.answer) g.bytes
        ∙ on_accepted (λ d. (acceptance_code (store_out d b).0, (store_out d b).1)) (λ e. (words_refused e, b)))

-- of words that are not, why
module _ (w : List ℕ) {a : Result ⊤ StoreError} (c : a ≡ check_words w) {e : StoreError} (not : a ≡ Err e) where
  -- that is what is said
  pub on_refused : {A : Type 0} (say : TagDecoder → A) (refused : StoreError → A) → refused e ≡ on_words say refused w
  on_refused say refused = ap (of_record say refused w) (sym not ∙ c)

  pub set_refused : (set : TagDecoder → TagDecoder) {r : ℕ} → r ≡ words_refused e → Gives r w (set_words set w)
  unfolding set_words
  set_refused set q = gives (ap (λ (n : ℕ). (n, w)) q ∙ on_refused (λ d. (done, decoder_words (set d))) (λ e. (words_refused e, w)))

  pub tell_refused : (number : TagDecoder → ℕ) {r : Number} → r ≡ untold e → r ≡ number_words number w
  unfolding number_words
  tell_refused number q = q ∙ on_refused (λ d. told (number d)) untold

  pub decode_refused : (eof : Bool) (es ps s l : List ℕ) {n : ℕ} {r : Reply} → n ≡ words_refused e → r ≡ plain n 0 0 0 0 → GivesThree r w l (decode_words eof es ps w s l)
  unfolding decode_words
  decode_refused eof es ps s l {n} {r} p q =
      subst (GivesThree r w l) (on_refused (λ d. ran_words (many_events eof es ps d s l)) (λ e. (plain (words_refused e) 0 0 0 0, w, l)))
      (record { answer = q ∙ ap (λ (k : ℕ). plain k 0 0 0 0) p; words = refl; events = refl })

  pub recover_refused : (es ps s : List ℕ) {n : ℕ} {r : Reply} → n ≡ words_refused e → r ≡ plain n 0 0 0 0 → Gives r w (recover_words es ps w s)
  unfolding recover_words
  recover_refused es ps s p q =
      gives
      (ap (λ (r : Reply). (r, w)) (q ∙ ap (λ (n : ℕ). plain n 0 0 0 0) p)
      ∙ on_refused (λ d. searched_words (try_recover es ps d s)) (λ e. (plain (words_refused e) 0 0 0 0, w)))

  pub store_refused : (b : List ℕ) {r : ℕ} → r ≡ words_refused e → Gives r b (store_from_words w b)
  unfolding store_from_words
  store_refused b q =
      gives
      (ap (λ (n : ℕ). (n, b)) q
      ∙ on_refused (λ d. (acceptance_code (store_out d b).0, (store_out d b).1)) (λ e. (words_refused e, b)))

-- ---- words that are written over, whatever they hold

module _ (w : List ℕ) where
  pub new_length : (length w ≡ word_count → ⊥) → {r : ℕ} → r ≡ words_refused BlockLength → Gives r w (new_words w)
  unfolding new_words
  new_length f q = gives (ap (λ (n : ℕ). (n, w)) q ∙ sym (cond_no _ _ _ (ne_eqb (length w) word_count f)))

  pub new_written : length w ≡ word_count → {d : TagDecoder} {o : List ℕ} → d ≡ fresh → o ≡ decoder_words d → Gives done o (new_words w)
  unfolding new_words
  new_written h e p = gives (ap (λ (l : List ℕ). (done, l)) (p ∙ ap decoder_words e) ∙ sym (cond_yes _ _ _ (eq-eqb (length w) word_count h)))

  pub restore_length : (b : List ℕ) → (length w ≡ word_count → ⊥) → {r : ℕ} → r ≡ words_refused BlockLength → Gives r w (restore_to_words w b)
  unfolding restore_to_words
  restore_length b f q = gives (ap (λ (n : ℕ). (n, w)) q ∙ sym (cond_no _ _ _ (ne_eqb (length w) word_count f)))

  -- x is what the block holds
  module _ (b : List ℕ) (h : length w ≡ word_count) {d : TagDecoder} (e : d ≡ fresh) {x : Restored} (p : x ≡ restore_from d b) where
    restored : restored_words x w ≡ restore_to_words w b
    unfolding restore_to_words
    restored =
        ap (λ (y : Restored). restored_words y w) (p ∙ ap (λ (c : TagDecoder). restore_from c b) e)
        ∙ sym (cond_yes _ _ _ (eq-eqb (length w) word_count h))

    answering : {a : Result ⊤ StoreError} → x.answer ≡ a → ◌≡◌ {A = ℕ × List ℕ} (acceptance_code a, words_if_taken a x.state w) (restore_to_words w b)
    answering q = ap (λ (y : Result ⊤ StoreError). (acceptance_code y, words_if_taken y x.state w)) (sym q) ∙ restored

    -- where it is taken, its words are written
    pub restore_taken : x.answer ≡ Ok tt → {o : List ℕ} → o ≡ decoder_words x.state → Gives done o (restore_to_words w b)
    restore_taken q z = gives (ap (λ (l : List ℕ). (done, l)) z ∙ answering q)

    pub restore_refused : {y : StoreError} → x.answer ≡ Err y → {r : ℕ} → r ≡ words_refused y → Gives r w (restore_to_words w b)
    restore_refused q z = gives (ap (λ (n : ℕ). (n, w)) z ∙ answering q)

-- what `GivesThree` fixes: the reply, and the two lists that are lent as a pair
pub given_three : {r : Reply} {w l : List ℕ} {p : Reply × List ℕ × List ℕ} → GivesThree r w l p → ◌≡◌ {A = Reply × (List ℕ × List ℕ)} (r, (w, l)) (p.0, (p.1, p.2))
given_three {r} {w} {l} {p} g =
    let q : ◌≡◌ {A = List ℕ × List ℕ} (w, l) (p.1, p.2) = ap₂ (λ w l. (w, l)) g.words g.events in
    ap₂ (λ r q. (r, q)) g.answer q
