-- What the routines return, by value and with the record lent, is the same however a caller cuts a transfer: any run of
-- results that their contracts ensure is `run`, so that `any_pieces` is said of it. Assumes nothing.
use Prim.Native.Nat.{ℕ, ◌+◌, ◌≤◌}
use mathlib.Core.Path.{◌≡◌, refl, sym, ap, ap₂, ◌∙◌, subst}
use mathlib.Core.Bool.{false}
use mathlib.Core.List.{List, [], ◌∷◌, ◌++◌, flatten}
use lib.ListN.{length, drop}
use Rattle.tools.specs.Bytes.{Octets}
use Rattle.tools.proofs.BigEndian.{octets_append}
use Rattle.tag_parse.proofs.Cases.{octets_drop}
use Rattle.decoder_rules.specs.Moving.{decode}
use Rattle.decoder_rules.specs.Record.{farthest}
use Rattle.decoder_rules.specs.declared.types.Answer.{Answer}
use Rattle.decoder_rules.specs.declared.types.Answer.TheVariants as answer
use Rattle.decoder_rules.specs.declared.types.Decoded.{Decoded}
use Rattle.decoder_rules.specs.declared.types.TagDecoder.{TagDecoder}
use Rattle.tag_decoder_laws.proofs.AppendedBytes.{octets_front}
use Rattle.tag_decoder_lent.specs.declared.types.Reply.{Reply}
use Rattle.guarantees.specs.Calls.{decoding, answered}
use Rattle.guarantees.specs.Results.{ByValue, decoded, ByReference, lent_decoded}
use Rattle.joining.specs.Joining.{Outcome, ended_by, after, with, run, unread_behind, joined, in_pieces}
use Rattle.joining.specs.Results.{ReturnsByValue, ReturnsByReference, RunOf, stops, goes_on, PiecesOf, none_left, next_piece, Transfer, SameHoweverCut}
use Rattle.joining.proofs.Joining.{joins, any_pieces}
use Rattle.joining.proofs.Runs.{octets_back, rest_octets, runs}
use Rattle.std.specs.Prelude.{Err, Result}
use Rattle.decoder_rules.specs.declared.types.Refusal.{Refusal}

-- ---- results that are the definition's

module _ (es ps : List ℕ) (Returns : TagDecoder → List ℕ → Decoded → Type 1) (one : (d : TagDecoder) (s : List ℕ) (r : Decoded) → Returns d s r → r ≡ decode es ps d s) where
  -- a run of them is a run
  run_is : (d : TagDecoder) (s : List ℕ) (o : Outcome) → Octets s → RunOf Returns d s o → o ≡ run es ps d s
  run_is d s _ byte (stops _ _ r x none) =
      let q = one d s r x in
      ap (λ (y : Decoded). ended_by y s) q ∙ sym ((runs es ps d s byte).stops (rw q at none))
  run_is d s _ byte (goes_on _ _ r e o x event others) =
      let q = one d s r x in
      ap (after (with e r ∷ [])) (run_is r.state (drop r.taken s) o (octets_drop r.taken s byte) others)
      ∙ ap (λ (y : Decoded). after (with e y ∷ []) (run es ps y.state (drop y.taken s))) q
      ∙ sym ((runs es ps d s byte).goes_on (rw q at event))

  -- runs of them on pieces are the runs on pieces
  pieces_are : (o p : Outcome) (later : List (List ℕ)) → Octets o.rest → Octets (joined later) → PiecesOf Returns o later p → p ≡ in_pieces es ps o later
  unfolding in_pieces flatten
  pieces_are _ _ _ rest bytes (none_left o) = refl
  pieces_are _ _ _ rest bytes (next_piece o p q b later here others) =
      let both : Octets (o.rest ++ b) = octets_append o.rest b rest (octets_front b (joined later) bytes) in
      let is : p ≡ run es ps o.state (o.rest ++ b) = run_is o.state (o.rest ++ b) p both here in
      let left : Octets p.rest = subst (λ (x : Outcome). Octets x.rest) (sym is) (rest_octets es ps o.state (o.rest ++ b) both) in
      pieces_are (after o.handed p) q later left (octets_back b (joined later) bytes) others
      ∙ ap (λ (x : Outcome). in_pieces es ps (after o.handed x) later) is

  module _ (d : TagDecoder) (s : List ℕ) (byte : Octets s) (open_still : d.finished ≡ false) (near : d.position + length s ≤ farthest) where
    -- what a caller has is one run on all
    transfer_is : (a : List ℕ) (later : List (List ℕ)) (o : Outcome) → a ++ joined later ≡ s → Transfer Returns d a later o → o ≡ run es ps d s
    transfer_is a later o is t =
        let all : Octets (a ++ joined later) = subst Octets (sym is) byte in
        let front : Octets a = octets_front a (joined later) all in
        let first : t.first ≡ run es ps d a = run_is d a t.first front t.on_first in
        let rest : Octets t.first.rest = subst (λ (x : Outcome). Octets x.rest) (sym first) (rest_octets es ps d a front) in
        pieces_are t.first o later rest (octets_back a (joined later) all) t.on_later
        ∙ ap (λ (x : Outcome). in_pieces es ps x later) first
        ∙ any_pieces es ps d a later all open_still (rw is near)
        ∙ ap (run es ps d) is

    -- so it does not matter how it was cut
    same_cut : SameHoweverCut Returns d s
    same_cut = record {
      same = λ a c before later f g o p t u. transfer_is a before o f t ∙ sym (transfer_is c later p g u);
      same_refusal = λ a b is o p x r q whole.
          let all : Octets (a ++ b) = subst Octets (sym is) byte in
          let first : o ≡ run es ps d a = run_is d a o (octets_front a b all) r in
          let refused : (run es ps d a).last ≡ Err x = ap (λ (y : Outcome). y.last) (sym first) ∙ q in
          run_is d s p byte whole
          ∙ ap (run es ps d) (sym is)
          ∙ (joins es ps d a b all open_still (rw is near)).same_refusal x refused
          ∙ ap (λ (y : Outcome). unread_behind y b) (sym first);
    }

-- ---- the routines

module _ (es ps : List ℕ) (d : TagDecoder) (s : List ℕ) where
  -- answer, bytes taken and record of a result are those of the definition
  value_is : (a : Result Answer Refusal) (n : ℕ) (e : TagDecoder) → ByValue es ps d (decoding s) (answered a n) e → record { answer = a; taken = n; state = e } ≡ decode es ps d s
  value_is _ _ _ (decoded _ r k) = rw (k.holds.0, k.holds.1, k.holds.2, k.holds.3) at k.ensured

  lent_is : (a : Result Answer Refusal) (n : ℕ) (e : TagDecoder) → ByReference es ps d (decoding s) (answered a n) e → record { answer = a; taken = n; state = e } ≡ decode es ps d s
  lent_is _ _ _ (lent_decoded _ r e k) = ap₂ (λ (y : Reply) (z : TagDecoder). record { answer = y.answer; taken = y.taken; state = z }) k.answer k.left

module _ (es ps : List ℕ) (d : TagDecoder) (s : List ℕ) (byte : Octets s) (open_still : d.finished ≡ false) (near : d.position + length s ≤ farthest) where
  -- of `calls::decode` of tag_decoder
  pub by_value_same_however_cut : SameHoweverCut (ReturnsByValue es ps) d s
  by_value_same_however_cut = same_cut es ps (ReturnsByValue es ps) (λ d s r x. value_is es ps d s r.answer r.taken r.state x) d s byte open_still near

  -- of `calls::decode` of tag_decoder_lent
  pub lent_same_however_cut : SameHoweverCut (ReturnsByReference es ps) d s
  lent_same_however_cut = same_cut es ps (ReturnsByReference es ps) (λ d s r x. lent_is es ps d s r.answer r.taken r.state x) d s byte open_still near
