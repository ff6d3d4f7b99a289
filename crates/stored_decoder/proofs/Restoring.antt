-- Document 02, CR 14: a record that is stored is restored, cleaned, and a block of layout 2 that is restored is the one
-- that its record is stored as. Assumes nothing.
use Prim.Native.Nat.{ℕ, zero, suc, ◌+◌, ◌*◌, ◌-◌, ◌≤◌}
use mathlib.Core.Path.{◌≡◌, refl, sym, ap, ap₂, ◌∙◌}
use mathlib.Core.Bool.{Bool, true, false, cond}
use mathlib.Core.List.{List, [], ◌∷◌, ◌++◌, map, flat_map, append-nil}
use native.Mathlib.Omega.{arith}
use borrow.Author.Tests.{eq-eqb, eqb-true, le-leb}
use lib.Dec.{eqb}
use lib.ListN.{length, get_or, take, drop, replicate, length-drop, take-append-drop}
use lib.Seq.{length-take-le, get_or-drop}
use Rattle.basics.specs.Lists.{array_places, every, filled}
use Rattle.basics.proofs.Bools.{cond_yes, cond_no, absurd_eq}
use Rattle.basics.proofs.Every.{every_append, every_map, every_take}
use Rattle.tools.specs.Bytes.{Octets, be_number, be_bytes}
use Rattle.tools.proofs.BigEndian.{length-be_bytes, be_bytes_lem, bytes_be, octets_take}
use Rattle.spec_util.specs.Walk.{no_tag}
use Rattle.spec_util.specs.declared.types.OpenTag.{OpenTag}
use Rattle.decoder_rules.specs.Record.{opens, waits, no_end, size_limit}
use Rattle.decoder_rules.specs.OneCall.{good_open, good_end, good_state}
use Rattle.decoder_rules.specs.declared.types.TagDecoder.{TagDecoder}
use Rattle.decoder_rules.proofs.GoodState.{good_open_lem, is_good_open, good_state_lem, is_good_state}
use Rattle.decoder_rules.proofs.MoveEffects.{Arrays}
use Rattle.stored_decoder.specs.Words.{word_count, decoder_words, front_words, places, record_of, present, clean_tag, cleaned}
use Rattle.stored_decoder.specs.Check.{good_words, check_words}
use Rattle.stored_decoder.specs.Block.{block_length, Words64, bytes_of, words_of, block, store_out, store_as, stays, record_if_taken, restore_words, restore_either, restore_from}
use Rattle.stored_decoder.specs.declared.types.Restored.{Restored}
use Rattle.stored_decoder.specs.declared.types.StoreError.TheVariants.{BlockLength, UnknownLayout, UnusedSet, BadState}
use Rattle.stored_decoder.proofs.Overwriting.{flat_length}
use Rattle.stored_decoder.proofs.InPlaces.{places_of}
use Rattle.stored_decoder.proofs.Written.{words_length}
use Rattle.stored_decoder.proofs.OwnWords.{GoodWords, good_words_lem, words_own}
use Rattle.stored_decoder.proofs.WordsBack.{words_good, record-back}
use Rattle.stored_decoder.proofs.Checks.{checked_tests}
use Rattle.std.specs.Prelude.{Err, Ok, Result, ⊤}
use Rattle.stored_decoder.specs.declared.types.StoreError.{StoreError}

-- ---- a cleaned record is as good as the record

-- a size that is not known is not looked at
clean_good : (p : ℕ) (m : OpenTag) → good_open p m ≡ true → good_open p (clean_tag m) ≡ true
unfolding clean_tag
clean_good p m h =
    let g = good_open_lem p m h in
    is_good_open p (clean_tag m) (record { start = g.start; size = λ k. sized k (g.size k); count = g.count })
  where
    sized : m.known ≡ true → m.size ≤ size_limit + p → present m.known m.size ≤ size_limit + p
    sized k s = rw k s

-- an empty place is good
empty_open : (p : ℕ) (n : ℕ) → every (good_open p) (replicate n no_tag) ≡ true
unfolding every
empty_open p zero = refl
empty_open p (suc n) = rw (is_good_open p no_tag (record { start = omega arith; size = λ k. omega arith; count = omega arith })) (empty_open p n)

empty_end : (p : ℕ) (n : ℕ) → every (good_end p) (replicate n no_end) ≡ true
unfolding every good_end
empty_end p zero = refl
empty_end p (suc n) = rw (le-leb 0 p (omega arith)) (empty_end p n)

-- so 11 refuses neither or both
pub cleaned_good : (d : TagDecoder) → good_state d ≡ true → good_state (cleaned d) ≡ true
unfolding cleaned
cleaned_good d h =
    let g = good_state_lem d h in
    let p = d.position in
    is_good_state (cleaned d) (record {
      open_count = g.open_count;
      waiting_count = g.waiting_count;
      place = g.place;
      masters =
          every_take (good_open p) d.open_count (map clean_tag (filled no_tag (opens d)))
          (every_map (good_open p) clean_tag (good_open p) (clean_good p) (filled no_tag (opens d)) (every_append (good_open p) (opens d) (replicate (array_places - length (opens d)) no_tag) g.masters (empty_open p (array_places - length (opens d)))));
      ends = every_take (good_end p) d.waiting_count (filled no_end (waits d)) (every_append (good_end p) (waits d) (replicate (array_places - length (waits d)) no_end) g.ends (empty_end p (array_places - length (waits d))));
    })

-- ---- words

module _ (d : TagDecoder) (a : Arrays d) where
  two_first : get_or (decoder_words d) 0 0 ≡ 2
  unfolding decoder_words front_words
  two_first = refl

  -- the words of a record that 11 does not refuse are accepted
  pub words_accepted : good_state d ≡ true → check_words (decoder_words d) ≡ Ok tt
  words_accepted h =
      sym (checked_tests (decoder_words d) (words_length d a) two_first)
      ∙ cond_yes _ _ _ (words_good d a)
      ∙ cond_yes _ _ _ (ap good_state (record-back d a) ∙ cleaned_good d h)

  -- and hold it, cleaned, whatever the record was before
  pub restore_words_stored : (e : TagDecoder) → good_state d ≡ true → restore_words e (decoder_words d) ≡ record { answer = Ok tt; state = cleaned d }
  restore_words_stored e h = ap (record_if_taken e (decoder_words d)) (words_accepted h) ∙ rw (record-back d a)

-- what an accepted list of words is
pub record Accepts (w : List ℕ) : Type 0 where
  pub long : length w ≡ word_count
  pub layout : get_or w 0 0 ≡ 2
  pub good : GoodWords w
  pub state : good_state (record_of w) ≡ true

pub accepts : (w : List ℕ) → check_words w ≡ Ok tt → Accepts w
unfolding check_words
accepts w e = go (eqb (length w) word_count) refl (eqb (get_or w 0 0) 2) refl (good_words w) refl (good_state (record_of w)) refl e
  where
    go : (b : Bool) → eqb (length w) word_count ≡ b → (l : Bool) → eqb (get_or w 0 0) 2 ≡ l → (g : Bool) → good_words w ≡ g → (s : Bool) → good_state (record_of w) ≡ s
        → ◌≡◌ {A = Result ⊤ StoreError} (cond b (cond l (cond g (cond s (Ok tt) (Err BadState)) (Err UnusedSet)) (Err UnknownLayout)) (Err BlockLength)) (Ok tt) → Accepts w
    go true p true q true r true t e = record { long = eqb-true _ _ p; layout = eqb-true _ _ q; good = good_words_lem w r; state = t }
    go true p true q true r false t e = let z : ◌≡◌ {A = ℕ} 0 1 = cc in absurd_eq z
    go true p true q false r s t e = let z : ◌≡◌ {A = ℕ} 0 1 = cc in absurd_eq z
    go true p false q g r s t e = let z : ◌≡◌ {A = ℕ} 0 1 = cc in absurd_eq z
    go false p l q g r s t e = let z : ◌≡◌ {A = ℕ} 0 1 = cc in absurd_eq z

-- words that are accepted are the words of their record
pub accepted_own : (w : List ℕ) → check_words w ≡ Ok tt → decoder_words (record_of w) ≡ w
accepted_own w e = let a = accepts w e in words_own w a.long a.good a.layout

-- ---- bytes

-- the words of a block of words
maps_words : (w : List ℕ) → Words64 w → map be_number (map (be_bytes 8) w) ≡ w
maps_words [] h = refl
maps_words (x ∷ w) h = rw (be_bytes_lem 8 x (h 0)) (ap (λ (l : List ℕ). x ∷ l) (maps_words w (λ i. h (suc i))))

pub words_of_bytes : (w : List ℕ) → length w ≡ word_count → Words64 w → words_of (bytes_of w) ≡ w
unfolding words_of bytes_of
words_of_bytes w n h =
    ap (map be_number)
    (ap (λ (k : ℕ). places 8 k (flat_map (be_bytes 8) w)) (sym n) ∙ ap (places 8 (length w)) (sym (append-nil (flat_map (be_bytes 8) w))) ∙ places_of (be_bytes 8) 8 (length-be_bytes 8) w [])
    ∙ maps_words w h

pub bytes-length : (w : List ℕ) → length w ≡ word_count → length (bytes_of w) ≡ block_length
unfolding bytes_of
bytes-length w n = flat_length (be_bytes 8) 8 w 0 (λ j k. length-be_bytes 8 (get_or w j 0)) ∙ omega arith

-- the bytes of the words of bytes
bytes_back : (n : ℕ) (b : List ℕ) → Octets b → length b ≡ 8 * n → flat_map (be_bytes 8) (map be_number (places 8 n b)) ≡ b
unfolding flat_map places
bytes_back zero [] o h = refl
bytes_back zero (x ∷ b) o h = absurd (omega arith)
bytes_back (suc n) b o h =
    let k : length (take 8 b) ≡ 8 = length-take-le 8 b (omega arith) in
    let e : be_bytes 8 (be_number (take 8 b)) ≡ take 8 b = ap (λ (j : ℕ). be_bytes j (be_number (take 8 b))) (sym k) ∙ bytes_be (take 8 b) (octets_take 8 b o) in
    let d : Octets (drop 8 b) = λ i. rw (get_or-drop 8 b i 0) (o (8 + i)) in
    let r : flat_map (be_bytes 8) (map be_number (places 8 n (drop 8 b))) ≡ drop 8 b = bytes_back n (drop 8 b) d (simp length-drop (omega arith)) in
    ap₂ (λ (x y : List ℕ). x ++ y) e r ∙ take-append-drop 8 b

pub bytes_of_words : (b : List ℕ) → Octets b → length b ≡ block_length → bytes_of (words_of b) ≡ b
unfolding words_of bytes_of
bytes_of_words b o h = bytes_back word_count b o h

-- ---- the laws

-- restoring what was stored gives the record, cleaned, whatever the record was before
pub restore_store : (d : TagDecoder) → Arrays d → Words64 (decoder_words d) → good_state d ≡ true
    → (e : TagDecoder) → restore_from e (block d) ≡ record { answer = Ok tt; state = cleaned d }
unfolding restore_from restore_either
restore_store d a f h e =
    let w = decoder_words d in
    let n = words_length d a in
    cond_yes _ _ _ (eq-eqb (length (block d)) block_length (bytes-length w n))
    ∙ ap (restore_either e) (words_of_bytes w n f)
    ∙ cond_no _ _ _ (ap (λ (x : ℕ). eqb x 1) (two_first d a))
    ∙ restore_words_stored d a e h

-- a block of layout 2 that is restored is the block of its record, which 11 does not refuse
taken_own : (d : TagDecoder) (b : List ℕ) → Octets b → get_or (words_of b) 0 0 ≡ 2 → (restore_from d b).answer ≡ Ok tt
    → (block (restore_from d b).state ≡ b) × (good_state (restore_from d b).state ≡ true)
unfolding restore_from restore_either
taken_own d b o two e = go (eqb (length b) block_length) refl e
  where
    w : List ℕ
    w = words_of b

    Own : Restored → Type 0
    Own r = (block r.state ≡ b) × (good_state r.state ≡ true)

    layout2 : restore_either d w ≡ restore_words d w
    layout2 = cond_no _ _ _ (ap (λ (x : ℕ). eqb x 1) two)

    taken : length b ≡ block_length → (a : Result ⊤ StoreError) → check_words w ≡ a → (record_if_taken d w a).answer ≡ Ok tt → Own (record_if_taken d w a)
    taken n (Ok _) c q = (ap bytes_of (accepted_own w c) ∙ bytes_of_words b o n, (accepts w c).state)
    taken n (Err x) c q = let z : ◌≡◌ {A = ℕ} 0 1 = cc in absurd_eq z

    go : (t : Bool) → eqb (length b) block_length ≡ t → (cond t (restore_either d w) (stays d (Err BlockLength))).answer ≡ Ok tt → Own (cond t (restore_either d w) (stays d (Err BlockLength)))
    go true p q = rw layout2 (taken (eqb-true _ _ p) (check_words w) refl (rw layout2 at q))
    go false p q = let z : ◌≡◌ {A = ℕ} 0 1 = cc in absurd_eq z

pub store_restore : (d : TagDecoder) (b : List ℕ) → Octets b → get_or (words_of b) 0 0 ≡ 2 → (restore_from d b).answer ≡ Ok tt → block (restore_from d b).state ≡ b
store_restore d b o two e = (taken_own d b o two e).0

-- so storing it again, into any block of that length, writes that block
pub stored_again : (d : TagDecoder) (b lent : List ℕ) → Octets b → get_or (words_of b) 0 0 ≡ 2 → (restore_from d b).answer ≡ Ok tt → length lent ≡ block_length
    → store_out (restore_from d b).state lent ≡ (Ok tt, b)
unfolding store_as
stored_again d b lent o two e n =
    let k = taken_own d b o two e in
    cond_yes _ _ _ (eq-eqb (length lent) block_length n) ∙ cond_yes _ _ _ k.1 ∙ ap (λ (x : List ℕ). (Ok tt, x)) k.0
