-- A call for C with a list of room for many events is so many calls with room for one, one after another: the same
-- reply, the same words, the same events. Assumes nothing.
use Prim.Native.Nat.{ℕ, zero, suc, ◌+◌, ◌*◌, ◌/◌}
use mathlib.Core.Bool.{Bool, true, false}
use mathlib.Core.List.{List, ◌∷◌, ◌++◌, flat_map}
use mathlib.Core.Path.{◌≡◌, refl, sym, ap, ◌∙◌}
use lib.ListN.{length, drop}
use Rattle.tools.specs.Bytes.{Octets}
use Rattle.tag_parse.proofs.Cases.{octets_drop}
use Rattle.decoder_rules.specs.Run.{Named, nothing, cut, named_by}
use Rattle.decoder_rules.specs.declared.types.Answer.{Answer}
use Rattle.decoder_rules.specs.declared.types.Answer.TheVariants as answer
use Rattle.decoder_rules.specs.declared.types.TagDecoder.{TagDecoder}
use Rattle.many_events.specs.Events.{event_size, event_words}
use Rattle.many_events.specs.Many.{InARow, on_from, many_calls, one_call, ran_of, many_events}
use Rattle.many_events.specs.declared.types.Stop.{Stop}
use Rattle.many_events.specs.declared.types.Stop.TheVariants as stop
use Rattle.stored_decoder.specs.Check.{check_words}
use Rattle.stored_decoder.specs.Words.{word_count, decoder_words, record_of}
use Rattle.stored_decoder.proofs.Restoring.{accepted_own}
use Rattle.guarantees.specs.Calls.{Call, decoding, ending, Lent}
use Rattle.decoder_words.specs.Calls.{decode_words}
use Rattle.decoder_words.specs.Replies.{naming, stop_reply, ran_reply}
use Rattle.decoder_words.specs.declared.types.Reply.{Reply}
use Rattle.decoder_words.proofs.Words.{decoding_made}
use Rattle.decoder_words_laws.specs.WordCalls.{room_for_one, call_on, words_after, answer_reply, answer_list, with_one_more, followed, one_by_one, in_front_of, call_with, last_or, calls_made, ManyByValue}
use Rattle.decoder_words_laws.proofs.AsByValue.{Kept, accepted_kept, next_kept, one_made, as_by_value}
use Rattle.std.specs.Prelude.{Err, Ok, Result}
use Rattle.decoder_rules.specs.declared.types.Refusal.{Refusal}

-- ---- replies

-- an event before the others is counted with them
one_more : (n events taken : ℕ) (why : Result Stop Refusal) → with_one_more n (stop_reply events taken why) ≡ stop_reply (suc events) (n + taken) why
one_more n events taken (Ok stop.Full) = refl
one_more n events taken (Ok (stop.NeedMore missing)) = refl
one_more n events taken (Ok stop.Finished) = refl
one_more n events taken (Err r) = go _ (named_by r.error)
  where
    go : (code : ℕ) (x : Named) → with_one_more n (naming code events taken r.place x) ≡ naming code (suc events) (n + taken) r.place x
    go code nothing = refl
    go code (cut c) = refl

-- a reply tells how many events there are
reply_events : (events taken : ℕ) (why : Result Stop Refusal) → (stop_reply events taken why).events ≡ events
reply_events events taken (Ok stop.Full) = refl
reply_events events taken (Ok (stop.NeedMore missing)) = refl
reply_events events taken (Ok stop.Finished) = refl
reply_events events taken (Err r) = go _ (named_by r.error)
  where
    go : (code : ℕ) (x : Named) → (naming code events taken r.place x).events ≡ events
    go code nothing = refl
    go code (cut c) = refl

-- ---- calls in a row, on words

-- what calls in a row hand out: the reply, the words, and the events one behind the other
abbrev handed_out : InARow → Reply × List ℕ × List ℕ
handed_out r = (ran_reply (ran_of r), decoder_words r.state, flat_map (λ words. words) r.events)

module _ (eof : Bool) (es ps : List ℕ) where
  -- a call that decodes leaves a record that words hold as it is
  one_kept : (d : TagDecoder) → Kept d → (s : List ℕ) → Octets s → Kept (one_call eof es ps d s).state
  one_kept d k s byte = go eof
    where
      go : (b : Bool) → Kept (one_call b es ps d s).state
      go true = next_kept es ps d k (ending s) byte
      go false = next_kept es ps d k (decoding s) byte

  -- by the answer of the first call: n is how many may follow it
  first_then : (n : ℕ) (s : List ℕ) (a : Result Answer Refusal) (taken : ℕ) (d : TagDecoder)
      → one_by_one eof es ps n (decoder_words d) (drop taken s) ≡ handed_out (many_calls (one_call eof es ps) n d (drop taken s))
      → followed (answer_reply a taken).events (answer_reply a taken, decoder_words d, answer_list d a room_for_one) (one_by_one eof es ps n (decoder_words d) (drop (answer_reply a taken).taken s))
      ≡ handed_out (on_from a taken d (many_calls (one_call eof es ps) n d (drop taken s)))
  unfolding flat_map
  first_then n s (Ok (answer.Event e)) taken d others =
      let m = many_calls (one_call eof es ps) n d (drop taken s) in
      ap (λ (x : Reply × List ℕ × List ℕ). (with_one_more taken x.0, x.1, event_words d e ++ x.2)) others
      ∙ ap (λ (x : Reply). (x, decoder_words m.state, event_words d e ++ flat_map (λ words. words) m.events)) (one_more taken (length m.events) m.taken m.stop)
  first_then n s (Ok (answer.NeedMore missing)) taken d others = refl
  first_then n s (Ok answer.Finished) taken d others = refl
  first_then n s (Err r) taken d others =
      let x = stop_reply 0 0 (Err r) in
      ap (λ (k : ℕ). followed k (x, decoder_words d, room_for_one) (one_by_one eof es ps n (decoder_words d) (drop x.taken s))) (reply_events 0 0 (Err r))

  -- the calls with room for one hand out what the calls in a row do
  one_by_one_lem : (n : ℕ) (d : TagDecoder) → Kept d → (s : List ℕ) → Octets s → one_by_one eof es ps n (decoder_words d) s ≡ handed_out (many_calls (one_call eof es ps) n d s)
  unfolding one_by_one many_calls flat_map
  one_by_one_lem zero d k s byte = refl
  one_by_one_lem (suc n) d k s byte =
      let r = one_call eof es ps d s in
      ap (λ (x : Reply × List ℕ × List ℕ). followed x.0.events x (one_by_one eof es ps n x.1 (drop x.0.taken s))) (one_made d k eof es ps s room_for_one refl)
      ∙ first_then n s r.answer r.taken r.state (one_by_one_lem n r.state (one_kept d k s byte) (drop r.taken s) (octets_drop r.taken s byte))

  -- so a call with room for many is so many calls with room for one
  pub many_as_one_by_one : (w : List ℕ) → check_words w ≡ Ok tt → (s l : List ℕ) → Octets s
      → decode_words eof es ps w s l ≡ in_front_of l (one_by_one eof es ps (length l / event_size) w s)
  unfolding many_events
  many_as_one_by_one w c s l byte =
      let n = length l / event_size in
      let m = many_calls (one_call eof es ps) n (record_of w) s in
      decoding_made w c eof es ps s l
      ∙ ap (λ (i : ℕ). (ran_reply (ran_of m), decoder_words m.state, flat_map (λ (x : List ℕ). x) m.events ++ drop (event_size * i) l)) (sym (reply_events (length m.events) m.taken m.stop))
      ∙ ap (in_front_of l) (sym (one_by_one_lem n (record_of w) (accepted_kept w c) s byte))
      ∙ ap (λ (x : List ℕ). in_front_of l (one_by_one eof es ps n x s)) (accepted_own w c)

-- ---- after any calls

module _ (eof : Bool) (es ps : List ℕ) where
  -- a call with room for one leaves the words after one call more
  one_after : (v : List ℕ) (cs : List Call) (s : List ℕ) → (decode_words eof es ps (words_after es ps v cs) s room_for_one).1 ≡ words_after es ps v (call_with eof s ∷ cs)
  unfolding words_after call_on
  one_after v cs s = go eof
    where
      go : (b : Bool) → (decode_words b es ps (words_after es ps v cs) s room_for_one).1 ≡ words_after es ps v (call_with b s ∷ cs)
      go true = refl
      go false = refl

  -- the words of the last call, or those of the others
  words_of : (v : List ℕ) (k : ℕ) (x others : Reply × List ℕ × List ℕ) (made all : List Call) → x.1 ≡ words_after es ps v made → others.1 ≡ words_after es ps v all
      → (followed k x others).1 ≡ words_after es ps v (last_or k made all)
  words_of v zero x others made all p q = p
  words_of v (suc k) x others made all p q = q

  -- so the calls one by one leave the words after those calls: w are the words before them
  words_made : (n : ℕ) (v : List ℕ) (cs : List Call) (w s : List ℕ) → w ≡ words_after es ps v cs → (one_by_one eof es ps n w s).1 ≡ words_after es ps v (calls_made eof es ps n w s cs)
  unfolding one_by_one calls_made
  words_made zero v cs w s q = q
  words_made (suc n) v cs w s q =
      let x = decode_words eof es ps w s room_for_one in
      let first = ap (λ (y : List ℕ). (decode_words eof es ps y s room_for_one).1) q ∙ one_after v cs s in
      words_of v x.0.events x _ _ _ first (words_made n v (call_with eof s ∷ cs) x.1 (drop x.0.taken s) first)

  -- one call more, lent octets
  lent_more : (cs : List Call) → Lent cs → (s : List ℕ) → Octets s → Lent (call_with eof s ∷ cs)
  unfolding Lent
  lent_more cs l s byte = go eof
    where
      go : (b : Bool) → Lent (call_with b s ∷ cs)
      go true = (byte, l)
      go false = (byte, l)

  -- of the last call, or of the others
  lent_either : (k : ℕ) (made all : List Call) → Lent made → Lent all → Lent (last_or k made all)
  lent_either zero made all p q = p
  lent_either (suc k) made all p q = q

  -- and each of them is lent octets
  made_lent : (n : ℕ) (cs : List Call) → Lent cs → (w s : List ℕ) → Octets s → Lent (calls_made eof es ps n w s cs)
  unfolding calls_made
  made_lent zero cs l w s byte = l
  made_lent (suc n) cs l w s byte =
      let x = decode_words eof es ps w s room_for_one in
      let m = lent_more cs l s byte in
      lent_either x.0.events _ _ m (made_lent n (call_with eof s ∷ cs) m x.1 (drop x.0.taken s) (octets_drop x.0.taken s byte))

  -- a call of any room, after any calls
  pub many_by_value : (v : List ℕ) → length v ≡ word_count → (cs : List Call) → Lent cs → (s l : List ℕ) → Octets s → ManyByValue eof es ps v cs s l
  many_by_value v long cs k s l byte =
      let w = words_after es ps v cs in
      let n = length l / event_size in
      let g = many_as_one_by_one eof es ps w (as_by_value es ps v long cs k).accepted s l byte in
      record {
        gives = g;
        words = ap (λ (x : Reply × List ℕ × List ℕ). x.1) g ∙ words_made n v cs w s refl;
        lent = made_lent n cs k w s byte;
      }
