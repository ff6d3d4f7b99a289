-- Document 02, CR 1: the number of bytes that a decision waits for. "With fewer further bytes the answer is still
-- need-more, unless 12 comes first." Assumes nothing.
use Prim.Native.Nat.{ℕ, ◌+◌, ◌-◌, ◌≤◌, ◌<◌}
use mathlib.Core.Path.{◌≡◌, refl, sym}
use mathlib.Core.Bool.{true, false, true≢false}
use mathlib.Core.List.{List, ◌++◌}
use native.Mathlib.Decide.{dec_le}
use native.Mathlib.Omega.{arith}
use borrow.Author.Tests.{lt-ltb}
use lib.Dec.{ltb}
use lib.ListN.{length, get_or, length-append}
use Rattle.table.specs.Table.{Entry, table_of}
use Rattle.tag_parse.specs.Header.{read_header, header_missing}
use Rattle.tag_parse.specs.declared.types.TagHeader.{TagHeader}
use Rattle.tag_parse.proofs.Cases.{id_none}
use Rattle.tag_parse.proofs.Missing.{header_asks, header_missing_lem, part_missing}
use Rattle.decoder_rules.specs.Record.{farthest}
use Rattle.decoder_rules.specs.OneCall.{step6, step7, noted}
use Rattle.decoder_rules.specs.Deciding.{least_header, action_needs_more, action_missing, decide}
use Rattle.decoder_rules.specs.declared.types.Action.{Action}
use Rattle.decoder_rules.specs.declared.types.Decision.{Decision}
use Rattle.decoder_rules.specs.declared.types.TagDecoder.{TagDecoder}
use Rattle.decoder_rules.proofs.Exits.{Closing, closes, no_master_lem, HeaderExit, misplaced, oversized, too_large, past_end, ends_tops, too_many, starts, no_size, payload_incomplete, payload_refused, holds, NoneFull, AtHeader, Exit, refused_first, after_finish, hands_out, finished, closes_full, no_byte, header_incomplete, header_refused, id_refused, on_header, exits, exit_decides}
use Rattle.decoder_rules.proofs.AppendedDecision.{none_full_longer, at_header_longer}
use Rattle.std.specs.Prelude.{Err, Ok, Result}
use Rattle.decoder_rules.specs.declared.types.DecodeError.{DecodeError}
use Rattle.tag_parse.specs.declared.types.ParseError.{ParseError}
use Rattle.tools.specs.declared.status.Status.{Status}
use Rattle.tools.specs.declared.status.Status.TheVariants as status

-- ---- where something is missing

closing_asks : {t : List Entry} {d : TagDecoder} {k : ℕ} {a : Result Action DecodeError} → Closing t d k a → action_needs_more a ≡ ltb 0 (action_missing a)
closing_asks (closes m) = refl
closing_asks (no_master_lem m) = refl

header_exit_asks : {t : List Entry} {d : TagDecoder} {h : TagHeader} {s : List ℕ} {a : Result Action DecodeError} → HeaderExit t d h s a → action_needs_more a ≡ ltb 0 (action_missing a)
header_exit_asks (misplaced p) = refl
header_exit_asks (oversized n p e f) = refl
header_exit_asks (too_large n p e f g) = refl
header_exit_asks (past_end p e f g) = refl
header_exit_asks (ends_tops v l c) = closing_asks c
header_exit_asks (too_many at k l) = refl
header_exit_asks (starts at k l) = refl
header_exit_asks (no_size at k e) = refl
header_exit_asks {t} {d} {h} {s} (payload_incomplete n has l) = let some : 0 < h.len + n - length s = omega arith in sym (lt-ltb 0 _ some)
header_exit_asks (payload_refused n x has l e) = refl
header_exit_asks (holds n v has l e) = refl

-- a call waits exactly where a byte is missing
pub decision_asks : (es ps : List ℕ) (d : TagDecoder) (s : List ℕ) → action_needs_more (decide es ps d s).action ≡ ltb 0 (action_missing (decide es ps d s).action)
decision_asks es ps d s = go (exits es ps d s)
  where
    go : {a : Decision} → Exit es ps d s a → action_needs_more a.action ≡ ltb 0 (action_missing a.action)
    go (refused_first x e) = refl
    go (after_finish e f l) = refl
    go (hands_out ok w) = refl
    go (finished ok w f) = refl
    go (closes_full r l c) = closing_asks c
    go (no_byte n z) = refl
    go (header_incomplete at e) = rw e at (header_asks (table_of es ps) s)
    go (header_refused x at e) = refl
    go (id_refused h at f) = refl
    go (on_header h at f x) = header_exit_asks x

pub closing_never : {t : List Entry} {d : TagDecoder} {k : ℕ} {a : Result Action DecodeError} → Closing t d k a → action_needs_more a ≡ true → ⊥
closing_never (closes m) q = true≢false (sym q)
closing_never (no_master_lem m) q = true≢false (sym q)

-- a decoder that waits is not finished
pub waits_unfinished : (es ps : List ℕ) (d : TagDecoder) (s : List ℕ) → action_needs_more (decide es ps d s).action ≡ true → d.finished ≡ false
waits_unfinished es ps d s = go (exits es ps d s)
  where
    go : {a : Decision} → Exit es ps d s a → action_needs_more a.action ≡ true → d.finished ≡ false
    go (refused_first x e) q = absurd (true≢false (sym q))
    go (after_finish e f l) q = absurd (true≢false (sym q))
    go (hands_out ok w) q = absurd (true≢false (sym q))
    go (finished ok w f) q = absurd (true≢false (sym q))
    go (closes_full r l c) q = absurd (closing_never c q)
    go (no_byte n z) q = n.reading.unfinished
    go (header_incomplete at e) q = at.none_full.reading.unfinished
    go (header_refused x at e) q = absurd (true≢false (sym q))
    go (id_refused h at f) q = absurd (true≢false (sym q))
    go (on_header h at f x) q = at.at_bytes.none_full.reading.unfinished

-- ---- fewer further bytes

-- "no byte at all gives 2": so of the header
pub none_missing : (t : List Entry) (s : List ℕ) → length s ≡ 0 → header_missing (read_header t s) ≡ least_header
none_missing t s z = part_missing t s (id_none s z)

-- where the masters that are full are closed, a call waits for the header at least
header_waits : (es ps : List ℕ) (d : TagDecoder) (s : List ℕ) → NoneFull es ps d s → header_missing (read_header (table_of es ps) s) ≤ action_missing (decide es ps d s).action
header_waits es ps d s n = some_or (dec_le 1 (length s))
  where
    by : 0 < length s → (r : Result (Status TagHeader) ParseError) → read_header (table_of es ps) s ≡ r → header_missing (read_header (table_of es ps) s) ≤ action_missing (decide es ps d s).action
    by some (Ok (status.NeedMore m)) e = rw (← exit_decides es ps d s (header_incomplete (record { none_full = n; some_byte = some }) e), e) (omega arith)
    by some (Err x) e = rw e (omega arith)
    by some (Ok (status.Complete h)) e = rw e (omega arith)

    some_or : Dec (1 ≤ length s) → header_missing (read_header (table_of es ps) s) ≤ action_missing (decide es ps d s).action
    some_or (yes h) = by h (read_header (table_of es ps) s) refl
    some_or (no f) =
        let z : length s ≡ 0 = omega arith in
        rw (← exit_decides es ps d s (no_byte n z), none_missing (table_of es ps) s z) (omega arith)

closing_waits : {t : List Entry} {d : TagDecoder} {k : ℕ} {a : Result Action DecodeError} → Closing t d k a → action_missing a ≡ 0
closing_waits (closes m) = refl
closing_waits (no_master_lem m) = refl

module _ (es ps : List ℕ) (d : TagDecoder) (s u : List ℕ) (byte : get_or s 0 0 < 256) (open_still : d.finished ≡ false) (near : d.position + length (s ++ u) ≤ farthest) where
  header_still : NoneFull es ps d s → header_missing (read_header (table_of es ps) s) ≤ length u + action_missing (decide es ps d (s ++ u)).action
  header_still n =
      let f = (header_missing_lem (table_of es ps) s).fewer u in
      let g = header_waits es ps d (s ++ u) (none_full_longer es ps d s u byte open_still near n) in
      omega arith

  payload_still : {h : TagHeader} → AtHeader es ps d s h → step6 d h ≡ true → {a : Result Action DecodeError}
      → HeaderExit (table_of es ps) (noted ps d (step7 (table_of es ps) d h)) h s a → action_missing a ≤ length u + action_missing (decide es ps d (s ++ u)).action
  payload_still at f (misplaced p) = omega arith
  payload_still at f (oversized n p e g) = omega arith
  payload_still at f (too_large n p e g i) = omega arith
  payload_still at f (past_end p e g i) = omega arith
  payload_still at f (ends_tops v l c) = let z = closing_waits c in omega arith
  payload_still at f (too_many a k l) = omega arith
  payload_still at f (starts a k l) = omega arith
  payload_still at f (no_size a k e) = omega arith
  payload_still {h} at f (payload_incomplete n has l) = go (dec_le (h.len + n) (length s + length u))
    where
      go : Dec (h.len + n ≤ length s + length u) → h.len + n - length s ≤ length u + action_missing (decide es ps d (s ++ u)).action
      go (yes i) = omega arith
      go (no i) =
          let more : length (s ++ u) ≡ length s + length u = length-append s u in
          let short : length (s ++ u) < h.len + n = omega arith in
          let x = exit_decides es ps d (s ++ u) (on_header h (at_header_longer es ps d s u byte open_still near at) f (payload_incomplete n has short)) in
          rw (← x) (omega arith)
  payload_still at f (payload_refused n x has l e) = omega arith
  payload_still at f (holds n v has l e) = omega arith

  -- of n bytes that a call waits for, it waits for n - k at least behind k further ones, whatever they are
  pub decision_missing : action_missing (decide es ps d s).action ≤ length u + action_missing (decide es ps d (s ++ u)).action
  decision_missing = go (exits es ps d s)
    where
      go : {a : Decision} → Exit es ps d s a → action_missing a.action ≤ length u + action_missing (decide es ps d (s ++ u)).action
      go (refused_first x e) = omega arith
      go (after_finish e f l) = omega arith
      go (hands_out ok w) = omega arith
      go (finished ok w f) = omega arith
      go (closes_full r l c) = let z = closing_waits c in omega arith
      go (no_byte n z) = rw (none_missing (table_of es ps) s z) at (header_still n)
      go (header_incomplete at e) = rw e at (header_still at.none_full)
      go (header_refused x at e) = omega arith
      go (id_refused h at f) = omega arith
      go (on_header h at f x) = payload_still at f x
