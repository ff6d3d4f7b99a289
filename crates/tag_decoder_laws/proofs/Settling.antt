-- A call that settles the record decides what it would decide on the record so settled: settling is done once, and what
-- it leaves is what the steps after it go by. Assumes nothing.
use Prim.Native.Nat.{ℕ, ◌+◌, ◌≤◌}
use mathlib.Core.Path.{◌≡◌, refl, sym, ap, ◌∙◌}
use mathlib.Core.Bool.{Bool, true, false, not, ◌&&◌, false≢true}
use mathlib.Core.List.{List, [], ◌∷◌, map}
use native.Mathlib.Omega.{arith}
use borrow.Author.Tests.{le-leb}
use lib.ListN.{length}
use Rattle.spec_util.specs.Walk.{most_open}
use Rattle.basics.specs.Lists.{first_index}
use Rattle.basics.proofs.Bools.{cond_yes}
use Rattle.tools.specs.Bytes.{Octets}
use Rattle.table.specs.Check.{only_ids}
use Rattle.table.specs.Table.{Entry, table_of, parts_of, parts_in, path_of, is_typed}
use Rattle.table.specs.declared.types.Path.{Path}
use Rattle.table.specs.declared.types.PathPart.{PathPart}
use Rattle.table.specs.declared.types.PathPart.TheVariants.{Id, Global}
use Rattle.tag_parse.specs.declared.types.TagHeader.{TagHeader}
use Rattle.decoder_rules.specs.Record.{farthest, implied, with_open, with_notes, settled_to}
use Rattle.decoder_rules.specs.OneCall.{check10to12, check_record10to12, is_full, step3, step6, settles, step7, noted}
use Rattle.decoder_rules.specs.Deciding.{steps8_11, decide}
use Rattle.decoder_rules.specs.Moving.{apply, decode}
use Rattle.decoder_rules.specs.declared.types.Decision.{Decision}
use Rattle.decoder_rules.specs.declared.types.TagDecoder.{TagDecoder}
use Rattle.decoder_rules.proofs.Exits.{Admitted, Reading, NoneFull, AtHeader, on_header, header_exits, exits, exit_decides, Settling, settling_exit}
use Rattle.decoder_rules.proofs.GoodState.{passed12, is_good_state}
use Rattle.decoder_rules.proofs.MoveEffects.{settled_position, settled_settled, settled_finished, settled_opens, settled_count, settled_waiting_count}
use Rattle.decoder_rules.proofs.MovesKeepGoodState.{settled_good}
use Rattle.decoder_move.proofs.DecisionApplies.{decide_applies, note_settles}
use Rattle.std.specs.Prelude.{None, Ok, Option, Some}

-- where step 7 settles, the record was not settled and the ID has a type
pub settles_when : (t : List Entry) (d : TagDecoder) (h : TagHeader) → settles t d h ≡ true → (d.settled ≡ false) × (is_typed h.kind ≡ true)
settles_when t d h q = by d.settled (is_typed h.kind) (only_ids (path_of t h.id)) q
  where
    by : (settled typed plain : Bool) → (not settled && typed && plain) ≡ true → (settled ≡ false) × (typed ≡ true)
    by false true plain e = (refl, refl)
    by false false plain e = absurd (false≢true e)
    by true typed plain e = absurd (false≢true e)

-- what is decided on a header that passed step 6, where step 7 leaves this note
abbrev pub decided : List ℕ → List ℕ → TagDecoder → List ℕ → TagHeader → Option Path → Decision
decided es ps d s h n = record { note = n; action = steps8_11 (table_of es ps) (noted ps d n) h s }

-- the decision is that, by the view
at_header_decides : (es ps : List ℕ) (d : TagDecoder) (s : List ℕ) (h : TagHeader) (n : Option Path) → AtHeader es ps d s h → step6 d h ≡ true → step7 (table_of es ps) d h ≡ n
    → decide es ps d s ≡ decided es ps d s h n
at_header_decides es ps d s h n at typed q =
    sym (exit_decides es ps d s (on_header h at typed (header_exits (table_of es ps) (noted ps d (step7 (table_of es ps) d h)) h s))) ∙ ap (decided es ps d s h) q

-- the note of a settling call
settling_note_lem : {es ps : List ℕ} {d : TagDecoder} {s : List ℕ} {path : Path} (w : Settling es ps d s path) → step7 (table_of es ps) d w.h ≡ Some path
settling_note_lem {es} {ps} {d} w = cond_yes (settles (table_of es ps) d w.h) (Some w.h.path) None w.settling ∙ ap Some w.path

-- and its decision
pub settling_decides : (es ps : List ℕ) (d : TagDecoder) (s : List ℕ) (path : Path) (w : Settling es ps d s path)
    → decide es ps d s ≡ decided es ps d s w.h (Some path)
settling_decides es ps d s path w = at_header_decides es ps d s w.h (Some path) w.at w.typed (settling_note_lem w)

-- no master that a path implies has a known size
none_full_implied : (p : ℕ) (path : List PathPart) → first_index (is_full p) (map implied path) ≡ length path
unfolding first_index is_full
none_full_implied p [] = refl
none_full_implied p (Id x ∷ path) = rw (none_full_implied p path) (omega arith)
none_full_implied p (Global a b ∷ path) = rw (none_full_implied p path) (omega arith)

module _ (es ps : List ℕ) (d : TagDecoder) (s : List ℕ) (path : Path) (short : length (parts_in (parts_of ps) path) ≤ most_open) (w : Settling es ps d s path) where
  abbrev parts : List PathPart
  parts = parts_in (parts_of ps) path

  -- the record as the call leaves it
  abbrev after : TagDecoder
  after = settled_to d parts

  first_again : Admitted es ps d s → check_record10to12 es ps after (length s) ≡ Ok tt
  unfolding check_record10to12 check10to12
  first_again ok =
      let p = passed12 es ps d (length s) ok.first in
      let good = is_good_state after (settled_good d p.good parts short) in
      let near : after.position + length s ≤ farthest = rw (settled_position d parts) p.near in
      rw (p.shape, good, le-leb _ _ near)

  admitted_again : Admitted es ps d s → Admitted es ps after s
  admitted_again ok = record { first = first_again ok; second = rw (settled_finished d parts) ok.second }

  reading_again : Reading es ps d s → Reading es ps after s
  reading_again r =
      record {
        admitted = admitted_again r.admitted;
        none_waiting = settled_waiting_count d parts ∙ r.none_waiting;
        unfinished = settled_finished d parts ∙ r.unfinished;
      }

  none_full_again : after.open_count ≤ step3 after
  none_full_again = rw (settled_opens d parts, settled_count d parts, none_full_implied after.position parts) (omega arith)

  at_header_again : AtHeader es ps after s w.h
  at_header_again =
      let at = w.at.at_bytes in
      let none : NoneFull es ps after s = record { reading = reading_again at.none_full.reading; none_full = none_full_again } in
      record { at_bytes = record { none_full = none; some_byte = at.some_byte }; read = w.at.read }

  typed_again : step6 after w.h ≡ true
  unfolding settled_to with_open with_notes
  typed_again = w.typed

  note_again : step7 (table_of es ps) after w.h ≡ None
  note_again = rw (settled_settled d parts)

  same_call : decode es ps after s ≡ decode es ps d s
  unfolding apply noted
  same_call =
      ap (apply ps after) (at_header_decides es ps after s w.h None at_header_again typed_again note_again)
      ∙ sym (ap (apply ps d) (settling_decides es ps d s path w))

-- the record as a settling call leaves it answers that call as the record before it did
pub settled_once : (es ps : List ℕ) (d : TagDecoder) (s : List ℕ) → Octets s → (n : Option Path) → (decide es ps d s).note ≡ n → decode es ps (noted ps d n) s ≡ decode es ps d s
unfolding noted
settled_once es ps d s byte None q = refl
settled_once es ps d s byte (Some path) q =
    let short = note_settles ps path (rw q at (decide_applies es ps d s byte).note) in
    same_call es ps d s path short (settling_exit es ps d s (exits es ps d s) q)
