-- A written document is read back in any pieces: where it is lent at once the calls answer as it says, so a run on it
-- does, and a run on any pieces of it is that run (joining's `any_pieces`). Assumes nothing.
use Prim.Native.Nat.{ℕ, suc, ◌+◌, ◌≤◌}
use mathlib.Core.Path.{◌≡◌, refl, sym, ap, ap₂, subst, ◌∙◌}
use mathlib.Core.Bool.{Bool, true, false}
use mathlib.Core.List.{List, [], ◌∷◌, ◌++◌, map}
use native.Mathlib.Omega.{arith}
use lib.ListN.{length, drop}
use Rattle.basics.specs.Lists.{every}
use Rattle.basics.proofs.Bools.{absurd_eq}
use Rattle.tools.specs.Bytes.{Octets}
use Rattle.table.specs.Table.{table_of}
use Rattle.tag_parse.proofs.Cases.{octets_drop}
use Rattle.decoder_rules.specs.Deciding.{least_header}
use Rattle.decoder_rules.specs.EndOfInput.{decode_eof}
use Rattle.decoder_rules.specs.Moving.{decode}
use Rattle.decoder_rules.specs.Record.{farthest, fresh, with_settings}
use Rattle.decoder_rules.specs.Run.{Told, event, need_more, Call, Calls, told_by, goes_on_with, in_a_row, decode_calls}
use Rattle.decoder_rules.specs.Settings.{reading}
use Rattle.decoder_rules.specs.declared.types.Answer.{Answer}
use Rattle.decoder_rules.specs.declared.types.Answer.TheVariants as answer
use Rattle.decoder_rules.specs.declared.types.Event.{Event}
use Rattle.decoder_rules.specs.declared.types.TagDecoder.{TagDecoder}
use Rattle.decoder_rules.proofs.MoveLaws.{is_no_event}
use Rattle.joining.specs.Joining.{Outcome, events_of, run, joined}
use Rattle.joining.proofs.Joining.{any_pieces}
use Rattle.joining.proofs.Runs.{run_stops, run_event}
use Rattle.tag_writer.specs.Document.{Run}
use Rattle.tag_writer.specs.Items.{marks_of, run_of}
use Rattle.tag_writer.specs.ReadBack.{said, said_counts, is_taken}
use Rattle.tag_writer.specs.Write.{write}
use Rattle.tag_writer.proofs.InRange.{all_taken}
use Rattle.tag_writer.proofs.Lengths.{run_length}
use Rattle.tag_writer.proofs.Marks.{matched_marks, size_run}
use Rattle.tag_writer.proofs.RoundTrip.{is_written, read_back_in}
use Rattle.written.specs.Cut.{written}
use Rattle.written.specs.Pieces.{lent_in_pieces, IsReadInPieces}
use Rattle.written.proofs.Cut.{written_bytes}
use Rattle.written.proofs.Octets.{written_octets}
use Rattle.std.specs.Prelude.{Err, Ok, Result}
use Rattle.decoder_rules.specs.declared.types.Refusal.{Refusal}

-- ---- calls that tell events and then need more are a run

-- what calls tell, one after another
abbrev tells : Calls → List Told
tells c = map (λ (x : Call). x.told) c.calls

-- a run gives these events, then needs m more, and leaves what the calls leave
record Gives (events : List Event) (m : ℕ) (c : Calls) (o : Outcome) : Type 0 where
  handed : events_of o ≡ events
  asks : o.last ≡ Ok (answer.NeedMore m)
  left : o.state ≡ c.left
  rest : o.rest ≡ c.rest

module _ (es ps : List ℕ) (m : ℕ) where
  -- where calls tell these events and then need m more, a run gives them
  abbrev Alike : List Event → TagDecoder → List ℕ → Type 0
  Alike events d s = tells (decode_calls (suc (length events)) es ps d s) ≡ map event events ++ (need_more m ∷ []) → Gives events m (decode_calls (suc (length events)) es ps d s) (run es ps d s)

  module _ (d : TagDecoder) (s : List ℕ) where
    -- n calls after the first, by its answer
    abbrev from_first : ℕ → Result Answer Refusal → Calls
    from_first n a = goes_on_with (in_a_row (decode es ps) n) a (record { told = told_by a; taken = (decode es ps d s).taken }) (decode es ps d s).state (drop (decode es ps d s).taken s)

    -- the call that needs more is all of the run
    asks_alike : Alike [] d s
    unfolding in_a_row
    asks_alike = go (decode es ps d s).answer refl
      where
        go : (a : Result Answer Refusal) → (decode es ps d s).answer ≡ a → tells (from_first 0 a) ≡ need_more m ∷ [] → Gives [] m (from_first 0 a) (run es ps d s)
        go (Ok (answer.Event e)) q t = let z : ◌≡◌ {A = ℕ} 0 1 = cc in absurd_eq z
        go (Ok (answer.NeedMore missing)) q t =
            let stops = run_stops es ps d s (ap is_no_event q) in
            let so-many : missing ≡ m = cc in
            record {
              handed = ap (λ (o : Outcome). events_of o) stops;
              asks = ap (λ (o : Outcome). o.last) stops ∙ q ∙ ap (λ m. Ok (answer.NeedMore m)) so-many;
              left = ap (λ (o : Outcome). o.state) stops;
              rest = ap (λ (o : Outcome). o.rest) stops;
            }
        go (Ok answer.Finished) q t = let z : ◌≡◌ {A = ℕ} 0 1 = cc in absurd_eq z
        go (Err x) q t = let z : ◌≡◌ {A = ℕ} 0 1 = cc in absurd_eq z

    -- an event comes first, where it is so of what its call leaves
    event_alike : (x : Event) (events : List Event) → Octets s → Alike events (decode es ps d s).state (drop (decode es ps d s).taken s) → Alike (x ∷ events) d s
    unfolding in_a_row
    event_alike x events byte on = go (decode es ps d s).answer refl
      where
        go : (a : Result Answer Refusal) → (decode es ps d s).answer ≡ a → tells (from_first (suc (length events)) a) ≡ event x ∷ (map event events ++ (need_more m ∷ []))
            → Gives (x ∷ events) m (from_first (suc (length events)) a) (run es ps d s)
        go (Ok (answer.Event e)) q t =
            let goes = run_event es ps d s byte q in
            let same : e ≡ x = cc in
            let later = on (cc) in
            record {
              handed = ap (λ (o : Outcome). events_of o) goes ∙ ap₂ (λ (y : Event) (l : List Event). y ∷ l) same later.handed;
              asks = ap (λ (o : Outcome). o.last) goes ∙ later.asks;
              left = ap (λ (o : Outcome). o.state) goes ∙ later.left;
              rest = ap (λ (o : Outcome). o.rest) goes ∙ later.rest;
            }
        go (Ok (answer.NeedMore missing)) q t = let z : ◌≡◌ {A = ℕ} 0 1 = cc in absurd_eq z
        go (Ok answer.Finished) q t = let z : ◌≡◌ {A = ℕ} 0 1 = cc in absurd_eq z
        go (Err y) q t = let z : ◌≡◌ {A = ℕ} 0 1 = cc in absurd_eq z

  calls_alike : (events : List Event) (d : TagDecoder) (s : List ℕ) → Octets s → Alike events d s
  calls_alike [] d s byte = asks_alike d s
  calls_alike (x ∷ events) d s byte =
      let r = decode es ps d s in
      event_alike d s x events byte (calls_alike events r.state (drop r.taken s) (octets_drop r.taken s byte))

-- ---- what the writer writes

module _ (es ps items vals out : List ℕ) (n : ℕ) (e : (write es ps items vals out).0 ≡ Ok n) where
  -- it is no longer than a position can be
  pub written_near : length (written es ps items vals out n) ≤ farthest
  written_near =
      let w = is_written es ps items vals out n e in
      let ms = marks_of vals items in
      let doc : Run = run_of ms in
      let m = ap length (matched_marks ms w.match) in
      omega (arith, ap length (written_bytes es ps items vals out n e), run_length doc, size_run (table_of es ps) [] doc w.good, w.few)

  module _ (first : List ℕ) (later : List (List ℕ)) (is : first ++ joined later ≡ written es ps items vals out n) (octets : Octets vals) where
    -- what a fresh decoder gives in any pieces, in either mode, is one run on all of it
    pub written_one_run : (strict : Bool) → lent_in_pieces strict es ps first later ≡ run es ps (reading fresh strict) (written es ps items vals out n)
    unfolding with_settings
    written_one_run strict =
        let byte : Octets (first ++ joined later) = subst Octets (sym is) (written_octets es ps items vals out n e octets) in
        let near : 0 + length (first ++ joined later) ≤ farthest = omega (arith, ap length is, written_near) in
        any_pieces es ps (reading fresh strict) first later byte refl near ∙ ap (run es ps (reading fresh strict)) is

    -- so it is read back in any pieces, in either mode where its items are taken so
    pub written_in_pieces_in : (strict : Bool) → every (is_taken strict) (marks_of vals items) ≡ true → IsReadInPieces strict es ps first later (marks_of vals items)
    written_in_pieces_in strict taken =
        let w = written es ps items vals out n in
        let r = read_back_in es ps items vals out strict octets n e taken in
        let one = written_one_run strict in
        let gives = calls_alike es ps least_header r.events (reading fresh strict) w (written_octets es ps items vals out n e octets) r.told in
        let handed : events_of (lent_in_pieces strict es ps first later) ≡ r.events = ap (λ (o : Outcome). events_of o) one ∙ gives.handed in
        record {
          same = ap₂ (λ (s : List ℕ) (l : List Event). map (said s) l) is handed ∙ r.same;
          counts = ap said_counts handed ∙ r.counts;
          needs_more_lem = ap (λ (o : Outcome). o.last) one ∙ gives.asks;
          all_read = ap (λ (o : Outcome). o.rest) one ∙ gives.rest ∙ r.all_read;
          finish = ap (λ (o : Outcome). (decode_eof es ps o.state []).answer) one ∙ ap (λ (d : TagDecoder). (decode_eof es ps d []).answer) gives.left ∙ r.finish;
        }

    -- as ported, which a fresh decoder is, whatever the items
    pub written_in_pieces : IsReadInPieces false es ps first later (marks_of vals items)
    written_in_pieces = written_in_pieces_in false (all_taken (marks_of vals items))
