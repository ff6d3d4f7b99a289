-- Where the reads cut the input does not change what the decoder answers. An answer that does not ask for more stays
-- when bytes are appended (`decode_local`). A call that asks for more may settle the record; called again on more
-- bytes, the record so left answers what it would have answered without that call (`need_more_changes_nothing`).
-- Assumes nothing.
use Prim.Native.Nat.{ℕ, zero, suc, ◌+◌, ◌≤◌, ◌<◌}
use mathlib.Core.Path.{◌≡◌, refl, sym, ap, ◌∙◌}
use mathlib.Core.Bool.{true, false}
use mathlib.Core.List.{List, [], ◌∷◌, ◌++◌}
use native.Mathlib.Omega.{arith}
use lib.ListN.{length, get_or}
use Rattle.decoder_rules.specs.Record.{farthest}
use Rattle.tools.specs.Bytes.{Octets}
use Rattle.table.specs.declared.types.Path.{Path}
use Rattle.decoder_rules.specs.OneCall.{noted}
use Rattle.decoder_rules.specs.Deciding.{decide}
use Rattle.decoder_rules.specs.Moving.{needs_more, apply, decode}
use Rattle.decoder_rules.specs.declared.types.Decision.{Decision}
use Rattle.decoder_rules.specs.declared.types.TagDecoder.{TagDecoder}
use Rattle.decoder_rules.proofs.AppendedDecision.{at_header_longer, decide_longer}
use Rattle.decoder_rules.proofs.Exits.{exits, Settling, settling_exit}
use Rattle.decoder_rules.proofs.MoveLaws.{decode_needs_more, decode_more_stays}
use Rattle.tag_decoder_laws.proofs.Settling.{settling_decides, settled_once}
use Rattle.std.specs.Prelude.{None, Option, Some}

module _ (es ps : List ℕ) (d : TagDecoder) (s u : List ℕ) (byte : get_or s 0 0 < 256) (open_still : d.finished ≡ false) (near : d.position + length (s ++ u) ≤ farthest) where
  -- an answer that does not ask for more stays when bytes are appended: the event, the bytes taken and the record
  pub decode_local : needs_more (decode es ps d s).answer ≡ false → decode es ps d (s ++ u) ≡ decode es ps d s
  decode_local q = ap (apply ps d) (sym (decide_longer es ps d s u byte open_still near (sym (decode_needs_more es ps d s) ∙ q)))

-- the front of octets are octets
pub octets_front : (s u : List ℕ) → Octets (s ++ u) → Octets s
octets_front [] u byte i = omega arith
octets_front (x ∷ s) u byte zero = byte 0
octets_front (x ∷ s) u byte (suc i) = octets_front s u (λ j. byte (suc j)) i

module _ (es ps : List ℕ) (d : TagDecoder) (s u : List ℕ) (byte : Octets (s ++ u)) (open_still : d.finished ≡ false) (near : d.position + length (s ++ u) ≤ farthest) where
  -- a note that is made on the first bytes is made on all
  note_local : (path : Path) → (decide es ps d s).note ≡ Some path → (decide es ps d (s ++ u)).note ≡ Some path
  note_local path q =
      let w = settling_exit es ps d s (exits es ps d s) q in
      let longer : Settling es ps d (s ++ u) path = record {
        h = w.h;
        at = at_header_longer es ps d s u (octets_front s u byte 0) open_still near w.at;
        typed = w.typed;
        settling = w.settling;
        path = w.path;
      } in
      ap (λ (a : Decision). a.note) (settling_decides es ps d (s ++ u) path longer)

  -- the record with the note that a call makes answers a call on more bytes as the record without it
  pub again : (n : Option Path) → (decide es ps d s).note ≡ n → decode es ps (noted ps d n) (s ++ u) ≡ decode es ps d (s ++ u)
  unfolding noted
  again None q = refl
  again (Some path) q = settled_once es ps d (s ++ u) byte (Some path) (note_local path q)

  -- a call that asked for more has changed nothing for the next, whatever it is lent then
  pub need_more_changes_nothing : needs_more (decode es ps d s).answer ≡ true → decode es ps (decode es ps d s).state (s ++ u) ≡ decode es ps d (s ++ u)
  need_more_changes_nothing q = rw (decode_more_stays es ps d s q).same (again (decide es ps d s).note refl)

-- and it takes nothing
pub need_more_takes_none : (es ps : List ℕ) (d : TagDecoder) (s : List ℕ) → needs_more (decode es ps d s).answer ≡ true → (decode es ps d s).taken ≡ 0
need_more_takes_none es ps d s q = (decode_more_stays es ps d s q).none
