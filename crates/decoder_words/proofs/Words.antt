-- What holds of a decoder's words over the calls, for those who keep them. Assumes nothing.
use Prim.Native.Nat.{ℕ, zero, suc, ◌/◌, ◌≤◌, ◌<◌}
use mathlib.Core.Path.{◌≡◌, refl, sym, ap, ap₂, ◌∙◌}
use mathlib.Core.Bool.{Bool, true, false, cond}
use mathlib.Core.List.{List, flat_map}
use native.Mathlib.Omega.{arith}
use borrow.Author.Tests.{eq-eqb}
use lib.Dec.{eqb}
use lib.ListN.{length, get_or, drop}
use Rattle.basics.proofs.Bools.{cond_yes, absurd_eq}
use Rattle.tools.specs.Bytes.{Octets}
use Rattle.decoder_rules.specs.OneCall.{good_state}
use Rattle.decoder_rules.specs.Record.{fresh, with_settings}
use Rattle.decoder_rules.specs.Recovery.{try_recover}
use Rattle.decoder_rules.specs.Settings.{limited_to}
use Rattle.decoder_rules.specs.declared.types.Answer.{Answer}
use Rattle.decoder_rules.specs.declared.types.Refusal.{Refusal}
use Rattle.decoder_rules.specs.declared.types.Search.{Search}
use Rattle.decoder_rules.specs.declared.types.Settings.{Settings}
use Rattle.decoder_rules.specs.declared.types.TagDecoder.{TagDecoder}
use Rattle.decoder_rules.proofs.GoodState.{is_good_state}
use Rattle.decoder_rules.proofs.MoveEffects.{fresh_arrays}
use Rattle.decoder_rules.proofs.MoveLaws.{with_note}
use Rattle.decoder_rules.proofs.MovesKeepGoodState.{fresh_good}
use Rattle.tag_decoder.proofs.CallLaws.{decode_facts, eof_facts, refused_recovery_changes_nothing}
use Rattle.many_events.specs.Events.{event_size}
use Rattle.many_events.specs.Many.{InARow, stopped, on_from, many_calls, one_call, ran_of, listed, many_events}
use Rattle.many_events.specs.declared.types.Stop.{Stop}
use Rattle.many_events.specs.declared.types.Stop.TheVariants as stop
use Rattle.stored_decoder.specs.Words.{word_count, decoder_words, record_of}
use Rattle.stored_decoder.specs.Check.{all_zero, check_words}
use Rattle.stored_decoder.specs.Block.{block_length, Words64, bytes_of, words_of, store_as, store_out, from_layout1, stays, record_if_taken, restore_words, restore_layout1, restore_either, restore_from}
use Rattle.stored_decoder.specs.declared.types.Restored.{Restored}
use Rattle.stored_decoder.specs.declared.types.StoreError.{StoreError}
use Rattle.stored_decoder.specs.declared.types.StoreError.TheVariants.{BlockLength, UnusedSet}
use Rattle.stored_decoder.proofs.Checks.{record-arrays, restores_layout2}
use Rattle.stored_decoder.proofs.Restoring.{accepts, accepted_own, words_accepted, words_of_bytes, bytes-length}
use Rattle.decoder_words.specs.Replies.{done, plain, refusal_reply, search_reply, words_refused, acceptance_code}
use Rattle.decoder_words.specs.Calls.{new_words, set_words, allow_words, strict_words, limit_words, ran_words, decode_words, searched_words, recover_words, store_from_words, words_if_taken, restored_words, restore_to_words}
use Rattle.decoder_words.proofs.Answered.{on_accepted, on_refused}
use Rattle.std.specs.Prelude.{Err, None, Ok, Option, Result, Some, ⊤}

-- ---- calls in a row that stop before an event

module _ (eof : Bool) (es ps : List ℕ) (d : TagDecoder) (s l : List ℕ) where
  -- n is how many events there is room for; nothing is written
  many_stopped : (n : ℕ) → length l / event_size ≡ n → {why : Result Stop Refusal} {e : TagDecoder} → many_calls (one_call eof es ps) n d s ≡ stopped why e
      → many_events eof es ps d s l ≡ (ran_of (stopped why e), l)
  unfolding many_events flat_map
  many_stopped n h q =
      ap (λ (k : ℕ). (ran_of (many_calls (one_call eof es ps) k d s), listed (many_calls (one_call eof es ps) k d s).events l)) h
      ∙ ap (λ (r : InARow). (ran_of r, listed r.events l)) q

  many_none : length l < event_size → many_events eof es ps d s l ≡ (ran_of (stopped (Ok stop.Full) d), l)
  unfolding many_calls
  many_none h = many_stopped 0 (omega arith) refl

  many_refused : event_size ≤ length l → {r : Refusal} → (one_call eof es ps d s).answer ≡ Err r
      → many_events eof es ps d s l ≡ (ran_of (stopped (Err r) (one_call eof es ps d s).state), l)
  unfolding many_calls
  many_refused h {r} q = go (length l / event_size) refl
    where
      go : (n : ℕ) → length l / event_size ≡ n → many_events eof es ps d s l ≡ (ran_of (stopped (Err r) (one_call eof es ps d s).state), l)
      go zero e = absurd (omega arith)
      go (suc n) e = let x = one_call eof es ps d s in many_stopped (suc n) e (ap (λ (a : Result Answer Refusal). on_from a x.taken x.state (many_calls (one_call eof es ps) n x.state (drop x.taken s))) q)

  -- a refusal leaves the record with the note of its call
  refusal_left : Octets s → {r : Refusal} → (one_call eof es ps d s).answer ≡ Err r → (one_call eof es ps d s).state ≡ with_note es ps d s
  refusal_left byte {r} = go eof
    where
      go : (b : Bool) → (one_call b es ps d s).answer ≡ Err r → (one_call b es ps d s).state ≡ with_note es ps d s
      go true f = ((eof_facts es ps d s byte).refusal f).1
      go false f = ((decode_facts es ps d s byte).refusal f).1

-- ---- words that are no decoder's: each call tells why, and writes nothing

module _ (w : List ℕ) {e : StoreError} (c : check_words w ≡ Err e) where
  pub refused_setting : (set : TagDecoder → TagDecoder) → set_words set w ≡ (words_refused e, w)
  unfolding set_words
  refused_setting set = sym (on_refused w refl c (λ x. (done, decoder_words (set x))) (λ x. (words_refused x, w)))

  pub refused_decoding : (eof : Bool) (es ps s l : List ℕ) → decode_words eof es ps w s l ≡ (plain (words_refused e) 0 0 0 0, w, l)
  unfolding decode_words
  refused_decoding eof es ps s l = sym (on_refused w refl c (λ x. ran_words (many_events eof es ps x s l)) (λ x. (plain (words_refused x) 0 0 0 0, w, l)))

  pub refused_recovery : (es ps s : List ℕ) → recover_words es ps w s ≡ (plain (words_refused e) 0 0 0 0, w)
  unfolding recover_words
  refused_recovery es ps s = sym (on_refused w refl c (λ x. searched_words (try_recover es ps x s)) (λ x. (plain (words_refused x) 0 0 0 0, w)))

  pub refused_storing : (b : List ℕ) → store_from_words w b ≡ (words_refused e, b)
  unfolding store_from_words
  refused_storing b = sym (on_refused w refl c (λ x. (acceptance_code (store_out x b).0, (store_out x b).1)) (λ x. (words_refused x, b)))

-- ---- a decoder's words: a call is made on the record that they are

module _ (w : List ℕ) (c : check_words w ≡ (Ok tt)) where
  pub decoding_made : (eof : Bool) (es ps s l : List ℕ) → decode_words eof es ps w s l ≡ ran_words (many_events eof es ps (record_of w) s l)
  unfolding decode_words
  decoding_made eof es ps s l = sym (on_accepted w refl c refl (λ x. ran_words (many_events eof es ps x s l)) (λ x. (plain (words_refused x) 0 0 0 0, w, l)))

  pub recovery_made : (es ps s : List ℕ) → recover_words es ps w s ≡ searched_words (try_recover es ps (record_of w) s)
  unfolding recover_words
  recovery_made es ps s = sym (on_accepted w refl c refl (λ x. searched_words (try_recover es ps x s)) (λ x. (plain (words_refused x) 0 0 0 0, w)))

  pub setting_made : (set : TagDecoder → TagDecoder) → set_words set w ≡ (done, decoder_words (set (record_of w)))
  unfolding set_words
  setting_made set = sym (on_accepted w refl c refl (λ x. (done, decoder_words (set x))) (λ x. (words_refused x, w)))

  -- a list without room for an event: nothing is done
  pub no_room : (eof : Bool) (es ps s l : List ℕ) → length l < event_size → decode_words eof es ps w s l ≡ (plain done 0 0 0 0, w, l)
  no_room eof es ps s l h =
      decoding_made eof es ps s l
      ∙ ap ran_words (many_none eof es ps (record_of w) s l h)
      ∙ ap (λ (o : List ℕ). (plain done 0 0 0 0, o, l)) (accepted_own w c)

  -- the decoder refuses before any event: no byte is taken, no event written, and the words are those of the record
  -- with the note of this call alone
  pub refused_at_once : (eof : Bool) (es ps s l : List ℕ) → Octets s → event_size ≤ length l → {r : Refusal} → (one_call eof es ps (record_of w) s).answer ≡ Err r
      → decode_words eof es ps w s l ≡ (refusal_reply r 0 0, decoder_words (with_note es ps (record_of w) s), l)
  refused_at_once eof es ps s l byte h {r} q =
      decoding_made eof es ps s l
      ∙ ap ran_words (many_refused eof es ps (record_of w) s l h q)
      ∙ ap (λ (e : TagDecoder). (refusal_reply r 0 0, decoder_words e, l)) (refusal_left eof es ps (record_of w) s l byte q)

  -- a refused recovery leaves the words as they were
  pub refused_search : (es ps s : List ℕ) {r : Refusal} → (try_recover es ps (record_of w) s).answer ≡ Err r → recover_words es ps w s ≡ (refusal_reply r 0 0, w)
  refused_search es ps s {r} q =
      let k = refused_recovery_changes_nothing es ps (record_of w) s q in
      recovery_made es ps s
      ∙ ap₂ (λ (a : Result Search Refusal) (n : ℕ). (search_reply a n, decoder_words (try_recover es ps (record_of w) s).state)) q k.0
      ∙ ap (λ (o : TagDecoder). (refusal_reply r 0 0, decoder_words o)) k.1
      ∙ ap (λ (o : List ℕ). (refusal_reply r 0 0, o)) (accepted_own w c)

  -- what is stored are the words, big-endian
  pub stored_words : (b : List ℕ) → length b ≡ block_length → store_from_words w b ≡ (done, bytes_of w)
  unfolding store_from_words store_as
  stored_words b h =
      let d = record_of w in
      let k : store_out d b ≡ (Ok tt, bytes_of w) = cond_yes _ _ _ (eq-eqb (length b) block_length h) ∙ cond_yes _ _ _ (accepts w c).state ∙ ap (λ (o : List ℕ). (Ok tt, bytes_of o)) (accepted_own w c) in
      sym (on_accepted w refl c refl (λ x. (acceptance_code (store_out x b).0, (store_out x b).1)) (λ x. (words_refused x, b))) ∙ ap (λ (x : Result ⊤ StoreError × List ℕ). (acceptance_code x.0, x.1)) k

  -- and they are what is restored from that, in whatever words are lent
  pub restored_words_lem : Words64 w → (v : List ℕ) → length v ≡ word_count → restore_to_words v (bytes_of w) ≡ (done, w)
  unfolding restore_to_words
  restored_words_lem f v h =
      let a = accepts w c in
      let two : get_or w 0 0 ≡ 1 → ⊥ = λ q. omega (arith, a.layout) in
      cond_yes _ _ _ (eq-eqb (length v) word_count h)
      ∙ ap (λ (x : Restored). restored_words x v) (sym (restores_layout2 fresh (bytes_of w) (bytes-length w a.long) (sym (words_of_bytes w a.long f)) two) ∙ ap (record_if_taken fresh w) c)
      ∙ ap (λ (o : List ℕ). (done, o)) (accepted_own w c)

-- ---- the words after a call are a decoder's

pub new_accepted : (w : List ℕ) → length w ≡ word_count → check_words (new_words w).1 ≡ Ok tt
unfolding new_words
new_accepted w h =
    ap (λ (x : ℕ × List ℕ). check_words x.1) (cond_yes _ _ _ (eq-eqb (length w) word_count h))
    ∙ words_accepted fresh fresh_arrays (is_good_state fresh fresh_good)

module _ (w : List ℕ) (c : check_words w ≡ (Ok tt)) where
  -- 11 and 92 do not look at what the settings are
  settings_accepted : (s : Settings) → check_words (decoder_words (with_settings (record_of w) s)) ≡ Ok tt
  unfolding with_settings good_state
  settings_accepted s =
      let d = record_of w in
      let a = record-arrays w in
      words_accepted (with_settings d s) (record { masters = a.masters; ends = a.ends }) (accepts w c).state

  pub allow_accepted : (ids hierarchy oversized : Bool) → check_words (allow_words w ids hierarchy oversized).1 ≡ Ok tt
  allow_accepted ids hierarchy oversized = ap (λ (x : ℕ × List ℕ). check_words x.1) (setting_made w c _) ∙ settings_accepted _

  pub strict_accepted : (strict : Bool) → check_words (strict_words w strict).1 ≡ Ok tt
  strict_accepted strict = ap (λ (x : ℕ × List ℕ). check_words x.1) (setting_made w c _) ∙ settings_accepted _

  pub limit_accepted : (n : Option ℕ) → check_words (limit_words w n).1 ≡ Ok tt
  limit_accepted n = ap (λ (x : ℕ × List ℕ). check_words x.1) (setting_made w c _) ∙ go n
    where
      go : (n : Option ℕ) → check_words (decoder_words (limited_to (record_of w) n)) ≡ Ok tt
      go None = settings_accepted _
      go (Some m) = settings_accepted _

-- a block that is taken, of either layout, holds a decoder
restored_accepted : (d : TagDecoder) (b : List ℕ) → (restore_from d b).answer ≡ Ok tt → check_words (decoder_words (restore_from d b).state) ≡ Ok tt
unfolding restore_from restore_either restore_layout1
restored_accepted d b = go (eqb (length b) block_length) (eqb (get_or w 0 0) 1) (all_zero _)
  where
    w : List ℕ
    w = words_of b

    Kept : Restored → Type 0
    Kept r = r.answer ≡ Ok tt → check_words (decoder_words r.state) ≡ Ok tt

    no : (e : StoreError) → Kept (stays d (Err e))
    no e q = let z : ◌≡◌ {A = ℕ} 0 1 = cc in absurd_eq z

    taken : (v : List ℕ) (a : Result ⊤ StoreError) → check_words v ≡ a → Kept (record_if_taken d v a)
    taken v (Ok _) e q = ap check_words (accepted_own v e) ∙ e
    taken v (Err x) e q = no x q

    go : (t one z : Bool) → Kept (cond t (cond one (cond z (restore_words d (from_layout1 w)) (stays d (Err UnusedSet))) (restore_words d w)) (stays d (Err BlockLength)))
    go true true true = taken (from_layout1 w) _ refl
    go true true false = no UnusedSet
    go true false z = taken w _ refl
    go false one z = no BlockLength

pub restore_accepted : (w b : List ℕ) → (restore_to_words w b).0 ≡ done → check_words (restore_to_words w b).1 ≡ Ok tt
unfolding restore_to_words
restore_accepted w b = go (eqb (length w) word_count)
  where
    Kept : ℕ × List ℕ → Type 0
    Kept p = p.0 ≡ done → check_words p.1 ≡ Ok tt

    by : (a : Result ⊤ StoreError) → (restore_from fresh b).answer ≡ a → Kept (acceptance_code a, words_if_taken a (restore_from fresh b).state w)
    by (Ok _) e q = restored_accepted fresh b e
    by (Err x) e q = absurd (omega arith)

    go : (t : Bool) → Kept (cond t (restored_words (restore_from fresh b) w) (words_refused BlockLength, w))
    go true = by (restore_from fresh b).answer refl
    go false = λ q. absurd (omega arith)
