-- The calls for C with lists of any room hand out the run of the decoder that their words hold: so joining is
-- composition of them too. Assumes nothing.
use Prim.Native.Nat.{ℕ, zero, suc, ◌+◌, ◌/◌, ◌≤◌}
use mathlib.Core.Path.{◌≡◌, refl, sym, ap, ap₂, ◌∙◌, subst}
use mathlib.Core.Bool.{true, false, true≢false}
use mathlib.Core.List.{List, [], ◌∷◌, ◌++◌, map, map-append, flatten}
use lib.ListN.{length, drop}
use lib.Seq.{drop-drop}
use Rattle.tools.specs.Bytes.{Octets}
use Rattle.tools.proofs.BigEndian.{octets_append}
use Rattle.tag_parse.proofs.Cases.{octets_drop}
use Rattle.decoder_rules.specs.Moving.{decode}
use Rattle.decoder_rules.specs.Record.{farthest}
use Rattle.decoder_rules.specs.declared.types.Answer.{Answer}
use Rattle.decoder_rules.specs.declared.types.Answer.TheVariants as answer
use Rattle.decoder_rules.specs.declared.types.TagDecoder.{TagDecoder}
use Rattle.decoder_rules.proofs.MoveLaws.{is_no_event, decode_stays}
use Rattle.many_events.specs.Events.{event_size, event_words}
use Rattle.many_events.specs.Many.{InARow, stopped, on_from, many_calls, one_call, many_events, stop_of}
use Rattle.many_events.specs.declared.types.Stop.{Stop}
use Rattle.stored_decoder.specs.Check.{check_words}
use Rattle.stored_decoder.specs.Words.{decoder_words, record_of}
use Rattle.tag_decoder_laws.proofs.AppendedBytes.{octets_front}
use Rattle.guarantees.specs.Calls.{decoding}
use Rattle.decoder_words.specs.Calls.{decode_words}
use Rattle.decoder_words.proofs.Words.{decoding_made}
use Rattle.decoder_words_laws.proofs.AsByValue.{Kept, accepted_kept, next_kept, own, checked}
use Rattle.joining.specs.Joining.{Handed, Outcome, after, run, onward, joined, in_pieces}
use Rattle.joining.specs.Words.{InWords, handed_words, in_words, before, ended, still_to_come, calls_in, HandsOutRun, WordsRun, full, no_more, with_unread, WordsJoin, WordsPieces, none_left, next_piece, WordsTransfer, WordsSameHoweverCut}
use Rattle.joining.proofs.Joining.{joins, any_pieces}
use Rattle.joining.proofs.Runs.{Kind, is_event_lem, is_last, kind, ends_run, octets_back, state_after, rest_after, of_any_run, run_stops, run_event, rest_octets}
use Rattle.std.specs.Prelude.{Err, Ok, Result}
use Rattle.decoder_rules.specs.declared.types.Refusal.{Refusal}

-- ---- calls in a row

-- an answer that is no event is the last
last_made : (a : Result Answer Refusal) (n : ℕ) (d : TagDecoder) (others : InARow) → is_no_event a ≡ true → on_from a n d others ≡ stopped (stop_of a) d
unfolding stop_of
last_made (Ok (answer.Event e)) n d others q = absurd (true≢false (sym q))
last_made (Ok (answer.NeedMore missing)) n d others q = refl
last_made (Ok answer.Finished) n d others q = refl
last_made (Err x) n d others q = refl

-- and then nothing is to come
none_to_come : (es ps : List ℕ) (a : Result Answer Refusal) (d : TagDecoder) (s : List ℕ) → is_no_event a ≡ true → still_to_come es ps (stop_of a) d s ≡ ended a d s
unfolding stop_of
none_to_come es ps (Ok (answer.Event e)) d s q = absurd (true≢false (sym q))
none_to_come es ps (Ok (answer.NeedMore missing)) d s q = refl
none_to_come es ps (Ok answer.Finished) d s q = refl
none_to_come es ps (Err x) d s q = refl

-- what was handed out before a run, in words
handed_after : (l : List Handed) (o : Outcome) → in_words (after l o) ≡ before (map handed_words l) (in_words o)
handed_after l o = ap (λ (events : List (List ℕ)). record { events = events; last = o.last; state = o.state; rest = o.rest }) (map-append handed_words l o.handed)

module _ (es ps : List ℕ) where
  abbrev calls : ℕ → TagDecoder → List ℕ → InARow
  calls n d s = many_calls (one_call false es ps) n d s

  -- what calls hand out of the bytes s, and then what is still to come
  abbrev in_full : InARow → List ℕ → InWords
  in_full m s = before m.events (in_words (still_to_come es ps m.stop m.state (drop m.taken s)))

  -- by the first answer
  first_call : (n : ℕ) (d : TagDecoder) (s : List ℕ) → Octets s → Kind (decode es ps d s).answer
      → in_words (run es ps (state_after es ps d s) (rest_after es ps d s)) ≡ in_full (calls n (state_after es ps d s) (rest_after es ps d s)) (rest_after es ps d s)
      → in_words (run es ps d s) ≡ in_full (calls (suc n) d s) s
  unfolding many_calls
  first_call n d s byte (is_event_lem e q) on =
      let r = decode es ps d s in
      let m = calls n r.state (drop r.taken s) in
      ap in_words (run_event es ps d s byte q)
      ∙ ap (before (event_words r.state e ∷ [])) on
      ∙ ap (λ (rest : List ℕ). before (event_words r.state e ∷ m.events) (in_words (still_to_come es ps m.stop m.state rest))) (drop-drop m.taken r.taken s)
      ∙ sym (ap (λ (a : Result Answer Refusal). in_full (on_from a r.taken r.state m) s) q)
  first_call n d s byte (is_last q) on =
      let r = decode es ps d s in
      let m = calls n r.state (drop r.taken s) in
      ap in_words (run_stops es ps d s q)
      ∙ ap (λ (k : ℕ). in_words (ended r.answer r.state (drop k s))) (decode_stays es ps d s q).none
      ∙ sym (ap in_words (none_to_come es ps r.answer r.state s q))
      ∙ sym (ap (λ (x : InARow). in_full x s) (last_made r.answer r.taken r.state m q))

  -- any calls in a row hand out the run
  pub calls_hand_out : (n : ℕ) (d : TagDecoder) (s : List ℕ) → Octets s → in_words (run es ps d s) ≡ in_full (calls n d s) s
  unfolding many_calls
  calls_hand_out zero d s byte = refl
  calls_hand_out (suc n) d s byte =
      first_call n d s byte (kind (decode es ps d s).answer) (calls_hand_out n (state_after es ps d s) (rest_after es ps d s) (octets_drop (decode es ps d s).taken s byte))

  -- the record after a call, or after the others
  either : (P : TagDecoder → Type 0) (a : Result Answer Refusal) (n : ℕ) (d : TagDecoder) (others : InARow) → P d → P others.state → P (on_from a n d others).state
  either P (Ok (answer.Event e)) n d others p q = q
  either P (Ok (answer.NeedMore missing)) n d others p q = p
  either P (Ok answer.Finished) n d others p q = p
  either P (Err x) n d others p q = p

  -- words hold the record after any of them
  calls_kept : (n : ℕ) (d : TagDecoder) (s : List ℕ) → Octets s → Kept d → Kept (calls n d s).state
  unfolding many_calls
  calls_kept zero d s byte k = k
  calls_kept (suc n) d s byte k =
      let r = decode es ps d s in
      let after_one = next_kept es ps d k (decoding s) byte in
      either Kept r.answer r.taken r.state (calls n r.state (drop r.taken s)) after_one (calls_kept n r.state (drop r.taken s) (octets_drop r.taken s byte) after_one)

  -- ---- a call on a decoder's words

  -- it hands out the run of the decoder
  pub hands_out_run : (w s l : List ℕ) → check_words w ≡ Ok tt → Octets s → HandsOutRun es ps w s l
  unfolding many_events
  hands_out_run w s l c byte =
      let m = calls_in es ps w s l in
      let gives = decoding_made w c false es ps s l in
      let kept : Kept m.state = calls_kept (length l / event_size) (record_of w) s byte (accepted_kept w c) in
      record {
        gives = gives;
        accepted = rw gives (checked m.state kept);
        holds = rw gives (own m.state kept);
        hands_out = calls_hand_out (length l / event_size) (record_of w) s byte;
      }

  -- so a run of such calls is the run of the decoder
  words_run_is : (w s : List ℕ) (o : InWords) → check_words w ≡ Ok tt → Octets s → WordsRun es ps w s o → o ≡ in_words (run es ps (record_of w) s)
  words_run_is _ _ _ c byte (full w s l o f others) =
      let m = calls_in es ps w s l in
      let h = hands_out_run w s l c byte in
      let rest = drop m.taken s in
      ap (before m.events) (words_run_is (decode_words false es ps w s l).1 rest o h.accepted (octets_drop m.taken s byte) others
      ∙ ap (λ (d : TagDecoder). in_words (run es ps d rest)) h.holds
      ∙ sym (ap (λ (x : Result Stop Refusal). in_words (still_to_come es ps x m.state rest)) f))
      ∙ sym h.hands_out
  words_run_is _ _ _ c byte (no_more w s l a none f) =
      let m = calls_in es ps w s l in
      let rest = drop m.taken s in
      ap (λ (x : Outcome). before m.events (in_words x))
      (sym (none_to_come es ps a m.state rest (ends_run a none)) ∙ sym (ap (λ (x : Result Stop Refusal). still_to_come es ps x m.state rest) f))
      ∙ sym (hands_out_run w s l c byte).hands_out

  -- ---- joined

  -- words hold the record after a run
  run_kept : (d : TagDecoder) (s : List ℕ) → Octets s → Kept d → Kept (run es ps d s).state
  run_kept =
      of_any_run es ps (λ d s. Kept d → Kept (run es ps d s).state)
      (λ d s byte q k. subst (λ (o : Outcome). Kept o.state) (sym (run_stops es ps d s q)) (next_kept es ps d k (decoding s) byte))
      (λ d s e byte q on k. subst (λ (o : Outcome). Kept o.state) (sym (run_event es ps d s byte q)) (on (next_kept es ps d k (decoding s) byte)))

  -- calls on the words and the rest that a run left, followed by b, are the run onward
  onward_is : (r : Outcome) (o p : InWords) (b : List ℕ) → o ≡ in_words r → Kept r.state → Octets (r.rest ++ b) → WordsRun es ps (decoder_words o.state) (o.rest ++ b) p
      → before o.events p ≡ in_words (onward es ps r b)
  onward_is r o p b is kept both x =
      let s = r.rest ++ b in
      let then : WordsRun es ps (decoder_words r.state) s p = subst (λ (i : InWords). WordsRun es ps (decoder_words i.state) (i.rest ++ b) p) is x in
      let second : p ≡ in_words (run es ps r.state s) =
      words_run_is (decoder_words r.state) s p (checked r.state kept) both then ∙ ap (λ (d : TagDecoder). in_words (run es ps d s)) (own r.state kept) in
      ap₂ (λ (i j : InWords). before i.events j) is second ∙ sym (handed_after r.handed (run es ps r.state s))

  -- calls on pieces are the runs on pieces
  pieces_are : (o q : InWords) (later : List (List ℕ)) (r : Outcome) → o ≡ in_words r → Kept r.state → Octets r.rest → Octets (joined later) → WordsPieces es ps o later q
      → q ≡ in_words (in_pieces es ps r later)
  unfolding in_pieces flatten
  pieces_are _ _ _ r is kept rest bytes (none_left o) = is
  pieces_are _ _ _ r is kept rest bytes (next_piece o p q b later here others) =
      let both : Octets (r.rest ++ b) = octets_append r.rest b rest (octets_front b (joined later) bytes) in
      pieces_are (before o.events p) q later (onward es ps r b) (onward_is r o p b is kept both here) (run_kept r.state (r.rest ++ b) both kept)
      (rest_octets es ps r.state (r.rest ++ b) both) (octets_back b (joined later) bytes) others

  -- joining is composition of the calls for C
  pub words_join : (w a b : List ℕ) → check_words w ≡ Ok tt → Octets (a ++ b) → (record_of w).finished ≡ false → (record_of w).position + length (a ++ b) ≤ farthest → WordsJoin es ps w a b
  words_join w a b c byte open_still near =
      let r = run es ps (record_of w) a in
      let front : Octets a = octets_front a b byte in
      let j = joins es ps (record_of w) a b byte open_still near in
      record {
        composed = λ o p q x y z.
            let kept : Kept r.state = run_kept (record_of w) a front (accepted_kept w c) in
            let both : Octets (r.rest ++ b) = octets_append r.rest b (rest_octets es ps (record_of w) a front) (octets_back a b byte) in
            words_run_is w (a ++ b) q c byte z ∙ ap in_words j.composed ∙ sym (onward_is r o p b (words_run_is w a o c front x) kept both y);
        same_refusal = λ o q x y f z.
            let first : o ≡ in_words r = words_run_is w a o c front y in
            words_run_is w (a ++ b) q c byte z
            ∙ ap in_words (j.same_refusal x (ap (λ (i : InWords). i.last) (sym first) ∙ f))
            ∙ ap (λ (i : InWords). with_unread i b) (sym first);
      }

  module _ (w s : List ℕ) (c : check_words w ≡ (Ok tt)) (byte : Octets s) (open_still : (record_of w).finished ≡ false) (near : (record_of w).position + length s ≤ farthest) where
    -- what a caller in C has is one run on all
    words_transfer_is : (a : List ℕ) (later : List (List ℕ)) (o : InWords) → a ++ joined later ≡ s → WordsTransfer es ps w a later o → o ≡ in_words (run es ps (record_of w) s)
    words_transfer_is a later o is t =
        let r = run es ps (record_of w) a in
        let all : Octets (a ++ joined later) = subst Octets (sym is) byte in
        let front : Octets a = octets_front a (joined later) all in
        pieces_are t.first o later r (words_run_is w a t.first c front t.on_first) (run_kept (record_of w) a front (accepted_kept w c)) (rest_octets es ps (record_of w) a front)
        (octets_back a (joined later) all) t.on_later
        ∙ ap in_words (any_pieces es ps (record_of w) a later all open_still (rw is near) ∙ ap (run es ps (record_of w)) is)

    -- so it does not matter how it was cut
    pub words_same_however_cut : WordsSameHoweverCut es ps w s
    words_same_however_cut = record { same = λ a c earlier later f g o p t u. words_transfer_is a earlier o f t ∙ sym (words_transfer_is c later p g u) }
