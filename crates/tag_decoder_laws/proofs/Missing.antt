-- Of the decoder's calls: how many bytes are missing behind further ones, and whether as many bytes as are missing are
-- ever enough. Assumes nothing.
use Prim.Native.Nat.{ℕ, ◌+◌, ◌≤◌}
use mathlib.Core.Path.{◌≡◌, refl, sym, ap, ◌∙◌}
use mathlib.Core.Bool.{Bool, true, false}
use mathlib.Core.List.{List, ◌++◌}
use mathlib.Core.Logic.{◌⊎◌, inl, inr}
use native.Mathlib.Omega.{arith}
use borrow.Author.Tests.{ltb-false}
use lib.Dec.{ltb}
use lib.ListN.{length}
use Rattle.tools.specs.Bytes.{Octets}
use Rattle.tools.specs.Missing.{Enough}
use Rattle.decoder_rules.specs.Record.{farthest}
use Rattle.decoder_rules.specs.Deciding.{action_missing, decide}
use Rattle.decoder_rules.specs.Missing.{Stuck}
use Rattle.decoder_rules.specs.Moving.{needs_more, missing_in, decode}
use Rattle.decoder_rules.specs.declared.types.TagDecoder.{TagDecoder}
use Rattle.decoder_rules.proofs.Enough.{enough_or_stuck}
use Rattle.decoder_rules.proofs.Missing.{decision_asks, decision_missing, waits_unfinished}
use Rattle.decoder_rules.proofs.MoveLaws.{decode_needs_more, decode_missing_decided}
use Rattle.tag_decoder_laws.proofs.AppendedBytes.{octets_front, need_more_changes_nothing}

-- a call asks for more exactly where a byte is missing
pub answer_asks : (es ps : List ℕ) (d : TagDecoder) (s : List ℕ) → needs_more (decode es ps d s).answer ≡ ltb 0 (missing_in (decode es ps d s).answer)
answer_asks es ps d s = decode_needs_more es ps d s ∙ decision_asks es ps d s ∙ ap (ltb 0) (sym (decode_missing_decided es ps d s))

module _ (es ps : List ℕ) (d : TagDecoder) (s u : List ℕ) (byte : Octets (s ++ u)) (near : d.position + length (s ++ u) ≤ farthest) where
  -- of n missing bytes at least n - k are missing behind k further ones, whatever they are, on the record as the call
  -- left it; where 12 comes, it comes instead
  pub answer_missing : missing_in (decode es ps d s).answer ≤ length u + missing_in (decode es ps (decode es ps d s).state (s ++ u)).answer
  answer_missing = go (needs_more (decode es ps d s).answer) refl
    where
      go : (m : Bool) → needs_more (decode es ps d s).answer ≡ m
          → missing_in (decode es ps d s).answer ≤ length u + missing_in (decode es ps (decode es ps d s).state (s ++ u)).answer
      go true q =
          let open_still = waits_unfinished es ps d s (sym (decode_needs_more es ps d s) ∙ q) in
          rw (need_more_changes_nothing es ps d s u byte open_still near q, decode_missing_decided es ps d s, decode_missing_decided es ps d (s ++ u))
          (decision_missing es ps d s u (octets_front s u byte 0) open_still near)
      go false q = let none : missing_in (decode es ps d s).answer ≤ 0 = ltb-false 0 _ (sym (answer_asks es ps d s) ∙ q) in omega arith

-- some further bytes, as many as are missing, bring another answer, or the call is stuck; 12 does not come
pub answer_enough : (es ps : List ℕ) (d : TagDecoder) (s : List ℕ) → Octets s → d.position + (length s + missing_in (decode es ps d s).answer) ≤ farthest
    → Enough (λ l. missing_in (decode es ps d l).answer) s ⊎ Stuck es ps d s
answer_enough es ps d s byte near = go (enough_or_stuck es ps d s byte (rw (decode_missing_decided es ps d s) at near))
  where
    go : Enough (λ l. action_missing (decide es ps d l).action) s ⊎ Stuck es ps d s → Enough (λ l. missing_in (decode es ps d l).answer) s ⊎ Stuck es ps d s
    go (inl e) =
        inl (record {
          further = e.further;
          bytes = e.bytes;
          count = e.count ∙ sym (decode_missing_decided es ps d s);
          none = decode_missing_decided es ps d (s ++ e.further) ∙ e.none;
        })
    go (inr x) = inr x
