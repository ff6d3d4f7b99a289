-- What is decided stays when bytes are appended, unless more were needed. Assumes nothing.
use Prim.Native.Nat.{ℕ, ◌+◌, ◌≤◌, ◌<◌}
use mathlib.Core.Path.{◌≡◌, refl, ◌∙◌}
use mathlib.Core.Bool.{false, true≢false}
use mathlib.Core.List.{List, ◌++◌}
use native.Mathlib.Omega.{arith}
use borrow.Author.Tests.{le-leb}
use lib.ListN.{length, get_or, drop, length-append, length-drop}
use lib.Seq.{take-append-le, drop-append-le}
use Rattle.decoder_rules.specs.Record.{farthest}
use Rattle.table.specs.Table.{Entry, table_of}
use Rattle.tag_parse.specs.Header.{read_header, header_needs_more}
use Rattle.tag_parse.specs.declared.types.TagHeader.{TagHeader}
use Rattle.tag_parse.proofs.Headers.{header_local}
use Rattle.decoder_rules.specs.OneCall.{check10to12, check_record10to12, check13, step7, noted}
use Rattle.decoder_rules.specs.Deciding.{action_needs_more, decide}
use Rattle.decoder_rules.specs.declared.types.Action.{Action}
use Rattle.decoder_rules.specs.declared.types.Decision.{Decision}
use Rattle.decoder_rules.specs.declared.types.TagDecoder.{TagDecoder}
use Rattle.decoder_rules.proofs.Exits.{HeaderExit, misplaced, oversized, too_large, past_end, ends_tops, too_many, starts, no_size, payload_incomplete, payload_refused, holds, payload_of, Admitted, Reading, NoneFull, AtBytes, AtHeader, Exit, refused_first, after_finish, hands_out, finished, closes_full, no_byte, header_incomplete, header_refused, id_refused, on_header, exits, exit_decides}
use Rattle.std.specs.Prelude.{Result}
use Rattle.decoder_rules.specs.declared.types.DecodeError.{DecodeError}
use Rattle.tag_parse.specs.declared.types.ParseError.{ParseError}
use Rattle.tools.specs.declared.status.Status.{Status}

module _ (t : List Entry) (d : TagDecoder) (h : TagHeader) (s u : List ℕ) where
  -- a payload that is there is read alike
  payload_longer : (n : ℕ) → h.len + n ≤ length s → payload_of d h n (s ++ u) ≡ payload_of d h n s
  payload_longer n l =
      let front : h.len ≤ length s = omega arith in
      let body : n ≤ length (drop h.len s) = rw length-drop (omega arith) in
      rw (drop-append-le h.len s u front, take-append-le n (drop h.len s) u body)

  longer : {n : ℕ} → n ≤ length s → n ≤ length (s ++ u)
  longer l = rw (length-append s u) (omega arith)

  -- 8 to 11
  pub header_longer : {a : Result Action DecodeError} → HeaderExit t d h s a → action_needs_more a ≡ false → HeaderExit t d h (s ++ u) a
  header_longer (misplaced p) m = misplaced p
  header_longer (oversized n p e f) m = oversized n p e f
  header_longer (too_large n p e f g) m = too_large n p e f g
  header_longer (past_end p e f g) m = past_end p e f g
  header_longer (ends_tops v l c) m = ends_tops v l c
  header_longer (too_many at k l) m = too_many at k l
  header_longer (starts at k l) m = starts at k l
  header_longer (no_size at k e) m = no_size at k e
  header_longer (payload_incomplete n has l) m = absurd (true≢false m)
  header_longer (payload_refused n x has l e) m = payload_refused n x has (longer l) (payload_longer n l ∙ e)
  header_longer (holds n v has l e) m = holds n v has (longer l) (payload_longer n l ∙ e)

module _ (es ps : List ℕ) (d : TagDecoder) (s u : List ℕ) (byte : get_or s 0 0 < 256) (open_still : d.finished ≡ false) (near : d.position + length (s ++ u) ≤ farthest) where
  near_part : d.position + length s ≤ farthest
  near_part = let n = near in omega (arith, length-append s u)

  -- 10, 11 and 12 go by the number of bytes only
  first_longer : check_record10to12 es ps d (length (s ++ u)) ≡ check_record10to12 es ps d (length s)
  unfolding check_record10to12 check10to12
  first_longer = rw (le-leb _ _ near, le-leb _ _ near_part)

  second_longer : check13 d.finished (length (s ++ u)) ≡ check13 d.finished (length s)
  unfolding check13
  second_longer = rw open_still

  admitted_longer : Admitted es ps d s → Admitted es ps d (s ++ u)
  admitted_longer ok = record { first = first_longer ∙ ok.first; second = second_longer ∙ ok.second }

  reading_longer : Reading es ps d s → Reading es ps d (s ++ u)
  reading_longer r = record { admitted = admitted_longer r.admitted; none_waiting = r.none_waiting; unfinished = r.unfinished }

  pub none_full_longer : NoneFull es ps d s → NoneFull es ps d (s ++ u)
  none_full_longer n = record { reading = reading_longer n.reading; none_full = n.none_full }

  bytes_longer : AtBytes es ps d s → AtBytes es ps d (s ++ u)
  bytes_longer at =
      record {
        none_full = none_full_longer at.none_full;
        some_byte = rw (length-append s u) (omega (arith, at.some_byte));
      }

  -- a header that is there is read alike
  read_longer : {r : Result (Status TagHeader) ParseError} → read_header (table_of es ps) s ≡ r → header_needs_more r ≡ false → read_header (table_of es ps) (s ++ u) ≡ r
  read_longer e f = header_local (table_of es ps) s u byte (rw e f) ∙ e

  -- and so it stands there with all bytes too
  pub at_header_longer : {h : TagHeader} → AtHeader es ps d s h → AtHeader es ps d (s ++ u) h
  at_header_longer at =
      record { at_bytes = bytes_longer at.at_bytes; read = read_longer at.read refl }

  -- the whole call
  pub exit_longer : {a : Decision} → Exit es ps d s a → action_needs_more a.action ≡ false → Exit es ps d (s ++ u) a
  exit_longer (refused_first x e) m = refused_first x (first_longer ∙ e)
  exit_longer (after_finish e f l) m = after_finish (first_longer ∙ e) f (rw (length-append s u) (omega arith))
  exit_longer (hands_out ok w) m = hands_out (admitted_longer ok) w
  exit_longer (finished ok w f) m = finished (admitted_longer ok) w f
  exit_longer (closes_full r l c) m = closes_full (reading_longer r) l c
  exit_longer (no_byte n z) m = absurd (true≢false m)
  exit_longer (header_incomplete at e) m = absurd (true≢false m)
  exit_longer (header_refused x at e) m = header_refused x (bytes_longer at) (read_longer e refl)
  exit_longer (id_refused h at f) m = id_refused h (at_header_longer at) f
  exit_longer (on_header h at f x) m = on_header h (at_header_longer at) f (header_longer (table_of es ps) (noted ps d (step7 (table_of es ps) d h)) h s u x m)

  -- so the decision on the first bytes is that on all
  pub decide_longer : action_needs_more (decide es ps d s).action ≡ false → decide es ps d s ≡ decide es ps d (s ++ u)
  decide_longer m = exit_decides es ps d (s ++ u) (exit_longer (exits es ps d s) m)
