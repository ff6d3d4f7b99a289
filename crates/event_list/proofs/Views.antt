-- The next answer of a whole input, from what stands in the buffer: u is unread, and rest is still to be read. Assumes
-- nothing.
use Prim.Native.Nat.{ℕ, ◌+◌, ◌-◌, ◌≤◌, ◌<◌}
use mathlib.Core.Path.{◌≡◌, sym, ap, ◌∙◌}
use mathlib.Core.Bool.{true, false}
use mathlib.Core.List.{List, ◌++◌, append-nil}
use native.Mathlib.Omega.{arith}
use native.Mathlib.Decide.{dec_le}
use borrow.Author.Tests.{lt-ltb, le-ltb}
use lib.ListN.{length, take, length-append, length-take}
use lib.Seq.{take-append-add, take_all}
use Rattle.decoder_rules.specs.Record.{farthest}
use Rattle.tools.specs.Bytes.{Octets}
use Rattle.tools.proofs.BigEndian.{octets_take}
use Rattle.table.specs.Table.{table_of}
use Rattle.decoder_rules.specs.Moving.{needs_more, decode}
use Rattle.decoder_rules.specs.EndOfInput.{ended_or, decode_eof}
use Rattle.decoder_rules.specs.declared.types.Decoded.{Decoded}
use Rattle.decoder_rules.specs.declared.types.TagDecoder.{TagDecoder}
use Rattle.table.specs.BenchTable.{bench_entries, bench_parts}
use Rattle.event_list.specs.Whole.{next_answer}
use Rattle.tag_decoder_laws.proofs.AppendedBytes.{octets_front, decode_local, need_more_changes_nothing}
use Rattle.tag_decoder_laws.proofs.EofAsDecoded.{eof_as_decoded}

-- ---- what the next answer is, by how much is still to come

-- the input ends before the buffer is full
pub seen_all : (size : ℕ) (d : TagDecoder) (s : List ℕ) → length s < size → next_answer size d s ≡ decode_eof bench_entries bench_parts d s
unfolding next_answer
seen_all size d s h = rw (lt-ltb _ _ h)

-- it does not
pub seen_front : (size : ℕ) (d : TagDecoder) (s : List ℕ) → size ≤ length s → next_answer size d s ≡ decode bench_entries bench_parts d (take size s)
unfolding next_answer
seen_front size d s h = rw (le-ltb _ _ h)

-- the end of input goes by the answer of `decode` alone
pub eof_same : (d e : TagDecoder) (s : List ℕ) → decode bench_entries bench_parts d s ≡ decode bench_entries bench_parts e s
    → decode_eof bench_entries bench_parts d s ≡ decode_eof bench_entries bench_parts e s
unfolding decode_eof
eof_same d e s q = ap (λ (r : Decoded). ended_or (table_of bench_entries bench_parts) s r r.answer) q

module _ (size : ℕ) (d : TagDecoder) (u rest : List ℕ) (held : length u ≤ size) (byte : Octets (u ++ rest)) (open_still : d.finished ≡ false)
    (near : d.position + length (u ++ rest) ≤ farthest) where
  abbrev more : List ℕ
  more = take (size - length u) rest

  -- the bytes in view begin with the unread ones
  in_view : take size (u ++ rest) ≡ u ++ more
  in_view = let e : size ≡ length u + (size - length u) = omega arith in ap (λ (n : ℕ). take n (u ++ rest)) e ∙ take-append-add u rest (size - length u)

  octets_view : Octets (u ++ more)
  octets_view = rw in_view at (octets_take size (u ++ rest) byte)

  near_view : d.position + length (u ++ more) ≤ farthest
  near_view =
      let n = near in
      omega (arith, length-append u rest, length-append u more, length-take (size - length u) rest)

  -- an answer that does not ask for more is the answer of the whole
  pub view_answers : needs_more (decode bench_entries bench_parts d u).answer ≡ false → next_answer size d (u ++ rest) ≡ decode bench_entries bench_parts d u
  view_answers some = go (dec_le size (length (u ++ rest)))
    where
      same : decode bench_entries bench_parts d (u ++ more) ≡ decode bench_entries bench_parts d u
      same = decode_local bench_entries bench_parts d u more (octets_front u more octets_view 0) open_still near_view some

      go : Dec (size ≤ length (u ++ rest)) → next_answer size d (u ++ rest) ≡ decode bench_entries bench_parts d u
      go (yes h) = seen_front size d (u ++ rest) h ∙ ap (decode bench_entries bench_parts d) in_view ∙ same
      go (no f) =
          let h : length (u ++ rest) < size = omega arith in
          let all : u ++ rest ≡ u ++ more = sym (take_all size (u ++ rest) (omega arith)) ∙ in_view in
          seen_all size d (u ++ rest) h
          ∙ ap (decode_eof bench_entries bench_parts d) all
          ∙ eof_as_decoded bench_entries bench_parts d (u ++ more) open_still (ap (λ (x : Decoded). needs_more x.answer) same ∙ some)
          ∙ same

  -- need more with the buffer full is the answer of the whole
  pub full_answers : size ≡ length u → next_answer size d (u ++ rest) ≡ decode bench_entries bench_parts d u
  full_answers e =
      let h : size ≤ length (u ++ rest) = omega (arith, length-append u rest) in
      let none : size - length u ≡ 0 = omega arith in
      seen_front size d (u ++ rest) h ∙ ap (decode bench_entries bench_parts d) (in_view ∙ ap (λ (n : ℕ). u ++ take n rest) none ∙ append-nil u)

  -- after a call that asked for more the whole has the same next answer
  pub asked_answers : needs_more (decode bench_entries bench_parts d u).answer ≡ true
      → next_answer size (decode bench_entries bench_parts d u).state (u ++ rest) ≡ next_answer size d (u ++ rest)
  asked_answers q = go (dec_le size (length (u ++ rest)))
    where
      e : TagDecoder
      e = (decode bench_entries bench_parts d u).state

      same : decode bench_entries bench_parts e (u ++ more) ≡ decode bench_entries bench_parts d (u ++ more)
      same = need_more_changes_nothing bench_entries bench_parts d u more octets_view open_still near_view q

      go : Dec (size ≤ length (u ++ rest)) → next_answer size e (u ++ rest) ≡ next_answer size d (u ++ rest)
      go (yes h) =
          seen_front size e (u ++ rest) h ∙ ap (decode bench_entries bench_parts e) in_view ∙ same ∙ sym (seen_front size d (u ++ rest) h ∙ ap (decode bench_entries bench_parts d) in_view)
      go (no f) =
          let h : length (u ++ rest) < size = omega arith in
          let all : u ++ rest ≡ u ++ more = sym (take_all size (u ++ rest) (omega arith)) ∙ in_view in
          seen_all size e (u ++ rest) h ∙ eof_same e d (u ++ rest) (rw all same) ∙ sym (seen_all size d (u ++ rest) h)
