-- Joining is composition: where a transfer is cut does not matter. A run on a and then on the unread rest followed by b
-- is one run on a followed by b, of any table, any record that is not finished and any settings, strict or not
-- (`joins`); so of any number of pieces (`any_pieces`). Assumes nothing.
use Prim.Native.Nat.{ℕ, ◌+◌, ◌≤◌}
use mathlib.Core.Path.{◌≡◌, refl, sym, ap, ◌∙◌, subst}
use mathlib.Core.Bool.{true, false}
use mathlib.Core.List.{List, [], ◌∷◌, ◌++◌, append-nil, append_assoc, flatten}
use native.Mathlib.Omega.{arith}
use lib.ListN.{length, drop, length-append, length-drop}
use lib.Seq.{drop-append-le}
use Rattle.basics.proofs.Bools.{absurd_eq}
use Rattle.tools.specs.Bytes.{Octets}
use Rattle.tag_parse.proofs.Cases.{octets_drop}
use Rattle.decoder_rules.specs.Deciding.{decide}
use Rattle.decoder_rules.specs.Moving.{needs_more, decode}
use Rattle.decoder_rules.specs.Record.{farthest}
use Rattle.decoder_rules.specs.declared.types.Answer.{Answer}
use Rattle.decoder_rules.specs.declared.types.Answer.TheVariants as answer
use Rattle.decoder_rules.specs.declared.types.Decoded.{Decoded}
use Rattle.decoder_rules.specs.declared.types.Event.{Event}
use Rattle.decoder_rules.specs.declared.types.Refusal.{Refusal}
use Rattle.decoder_rules.specs.declared.types.TagDecoder.{TagDecoder}
use Rattle.decoder_rules.proofs.MoveLaws.{is_no_event, with_note, decode_finished, decode_position, decode_stays}
use Rattle.tag_decoder.proofs.CallLaws.{takes_within}
use Rattle.tag_decoder_laws.proofs.AppendedBytes.{decode_local, octets_front, again}
use Rattle.tag_decoder_laws.proofs.Finishing.{never_finished}
use Rattle.joining.specs.Joining.{Outcome, ended_by, after, with, run, onward, unread_behind, joined, in_pieces, MoreOrRefused, Joins}
use Rattle.joining.proofs.Runs.{of_any_run, state_after, rest_after, run_stops, run_event, run_same}
use Rattle.std.specs.Prelude.{Err, Ok, Result}

-- ---- one call on a, and on both

-- what is asked of the record d where a comes and then b
record Lends (d : TagDecoder) (a b : List ℕ) : Type 0 where
  byte : Octets (a ++ b)
  open_still : d.finished ≡ false
  near : d.position + length (a ++ b) ≤ farthest

-- what is said of them, but for how the run on a ends
record Joined (es ps b : List ℕ) (d : TagDecoder) (a : List ℕ) : Type 0 where
  composed : run es ps d (a ++ b) ≡ onward es ps (run es ps d a) b
  same_refusal : (x : Refusal) → (run es ps d a).last ≡ Err x → run es ps d (a ++ b) ≡ unread_behind (run es ps d a) b

module _ (es ps b : List ℕ) (d : TagDecoder) (a : List ℕ) (l : Lends d a b) where
  front : Octets a
  front = octets_front a b l.byte

  -- what is left of both is what is left of a, followed by b
  left_of_both : drop (decode es ps d a).taken (a ++ b) ≡ rest_after es ps d a ++ b
  left_of_both = drop-append-le (decode es ps d a).taken a b (takes_within es ps d a front)

  -- an answer that does not need more is the answer to both
  same_call : needs_more (decode es ps d a).answer ≡ false → decode es ps d (a ++ b) ≡ decode es ps d a
  same_call q = decode_local es ps d a b (front 0) l.open_still l.near q

  -- what was asked is true of what the call left
  lends_left : Lends (state_after es ps d a) (rest_after es ps d a) b
  lends_left =
      let n = (decode es ps d a).taken in
      record {
        byte = subst Octets left_of_both (octets_drop n (a ++ b) l.byte);
        open_still = decode_finished es ps d a ∙ l.open_still;
        near = omega (arith, l.near, takes_within es ps d a front, decode_position es ps d a, length-append (drop n a) b, length-drop n a, length-append a b);
      }

  -- a call without an event takes nothing and leaves the record but for the note, and with the note the next call, on
  -- both, answers what it would have answered without it
  last_composed : is_no_event (decode es ps d a).answer ≡ true → run es ps d (a ++ b) ≡ onward es ps (run es ps d a) b
  last_composed q =
      let stays = decode_stays es ps d a q in
      sym (ap (λ (r : Outcome). onward es ps r b) (run_stops es ps d a q)
      ∙ ap (λ (n : ℕ). run es ps (state_after es ps d a) (drop n a ++ b)) stays.none
      ∙ ap (λ (e : TagDecoder). run es ps e (a ++ b)) stays.same
      ∙ run_same es ps (with_note es ps d a) d (a ++ b) (again es ps d a b l.byte l.open_still l.near (decide es ps d a).note refl))

  last_refused : is_no_event (decode es ps d a).answer ≡ true → (x : Refusal) → (run es ps d a).last ≡ Err x → run es ps d (a ++ b) ≡ unread_behind (run es ps d a) b
  last_refused q x f =
      let r = decode es ps d a in
      let ended = run_stops es ps d a q in
      let refused : r.answer ≡ Err x = ap (λ (o : Outcome). o.last) (sym ended) ∙ f in
      let same = same_call (ap needs_more refused) in
      run_stops es ps d (a ++ b) (ap (λ (y : Decoded). is_no_event y.answer) same ∙ q)
      ∙ ap (λ (y : Decoded). ended_by y (a ++ b)) same
      ∙ ap (λ (rest : List ℕ). record { handed = []; last = r.answer; state = r.state; rest = rest }) left_of_both
      ∙ sym (ap (λ (o : Outcome). unread_behind o b) ended)

  event_joined : (e : Event) → (decode es ps d a).answer ≡ Ok (answer.Event e) → Joined es ps b (state_after es ps d a) (rest_after es ps d a) → Joined es ps b d a
  event_joined e q on =
      let r = decode es ps d a in
      let first = run_event es ps d a front q in
      let same = same_call (ap needs_more q) in
      let both : run es ps d (a ++ b) ≡ after (with e r ∷ []) (run es ps r.state (rest_after es ps d a ++ b)) =
      run_event es ps d (a ++ b) l.byte (ap (λ (y : Decoded). y.answer) same ∙ q)
      ∙ ap (λ (y : Decoded). after (with e y ∷ []) (run es ps y.state (drop y.taken (a ++ b)))) same
      ∙ ap (λ (rest : List ℕ). after (with e r ∷ []) (run es ps r.state rest)) left_of_both in
      record {
        composed = both ∙ ap (after (with e r ∷ [])) on.composed ∙ sym (ap (λ (o : Outcome). onward es ps o b) first);
        same_refusal = λ x f.
            both ∙ ap (after (with e r ∷ [])) (on.same_refusal x (ap (λ (o : Outcome). o.last) (sym first) ∙ f)) ∙ sym (ap (λ (o : Outcome). unread_behind o b) first);
      }

-- ---- any run

module _ (es ps : List ℕ) where
  joined_run : (b : List ℕ) (d : TagDecoder) (a : List ℕ) → Lends d a b → Joined es ps b d a
  joined_run b d a l =
      of_any_run es ps (λ d a. Lends d a b → Joined es ps b d a)
      (λ d a byte q l. record { composed = last_composed es ps b d a l q; same_refusal = last_refused es ps b d a l q })
      (λ d a e byte q on l. event_joined es ps b d a l e q (on (lends_left es ps b d a l)))
      d a (octets_front a b l.byte) l

  last_ends : (a : Result Answer Refusal) → is_no_event a ≡ true → (a ≡ Ok answer.Finished → ⊥) → MoreOrRefused a
  last_ends (Ok (answer.Event e)) q none = let z : ◌≡◌ {A = ℕ} 0 1 = cc in absurd_eq z
  last_ends (Ok (answer.NeedMore missing)) q none = tt
  last_ends (Ok answer.Finished) q none = absurd (none refl)
  last_ends (Err x) q none = tt

  -- a run of a decoder that is not finished ends where it needs more, or with a refusal
  pub run_asks : (d : TagDecoder) (s : List ℕ) → Octets s → d.finished ≡ false → MoreOrRefused (run es ps d s).last
  run_asks =
      of_any_run es ps (λ d s. d.finished ≡ false → MoreOrRefused (run es ps d s).last)
      (λ d s byte q f. subst (λ (o : Outcome). MoreOrRefused o.last) (sym (run_stops es ps d s q)) (last_ends (decode es ps d s).answer q (never_finished es ps d s f)))
      (λ d s e byte q on f. subst (λ (o : Outcome). MoreOrRefused o.last) (sym (run_event es ps d s byte q)) (on (decode_finished es ps d s ∙ f)))

  -- joining is composition
  pub joins : (d : TagDecoder) (a b : List ℕ) → Octets (a ++ b) → d.finished ≡ false → d.position + length (a ++ b) ≤ farthest → Joins es ps d a b
  joins d a b byte open_still near =
      let j = joined_run b d a (record { byte = byte; open_still = open_still; near = near }) in
      record { ended = run_asks d a (octets_front a b byte) open_still; composed = j.composed; same_refusal = j.same_refusal }

  -- cut as it may be, a transfer gives the events, the answer, the record and the unread rest of one run on all of it
  pub any_pieces : (d : TagDecoder) (a : List ℕ) (later : List (List ℕ)) → Octets (a ++ joined later) → d.finished ≡ false → d.position + length (a ++ joined later) ≤ farthest
      → in_pieces es ps (run es ps d a) later ≡ run es ps d (a ++ joined later)
  unfolding flatten in_pieces
  any_pieces d a [] byte open_still near = ap (run es ps d) (sym (append-nil a))
  any_pieces d a (b ∷ later) byte open_still near =
      let all : (a ++ b) ++ joined later ≡ a ++ (b ++ joined later) = append_assoc a b (joined later) in
      let bytes : Octets ((a ++ b) ++ joined later) = subst Octets (sym all) byte in
      let near-all : d.position + length ((a ++ b) ++ joined later) ≤ farthest = omega (arith, near, ap length all) in
      let near-both : d.position + length (a ++ b) ≤ farthest = omega (arith, near-all, length-append (a ++ b) (joined later)) in
      ap (λ (o : Outcome). in_pieces es ps o later) (sym (joins d a b (octets_front (a ++ b) (joined later) bytes) open_still near-both).composed)
      ∙ any_pieces d (a ++ b) later bytes open_still near-all
      ∙ ap (run es ps d) all
