-- A decision fits the record that it is applied to: what closes is open, what starts has room, and no more bytes are
-- taken than were lent. Assumes nothing.
use Prim.Native.Nat.{ℕ, ◌+◌, ◌-◌, ◌≤◌, ◌<◌}
use mathlib.Core.Path.{◌≡◌, refl, sym, ap, ◌∙◌}
use mathlib.Core.Bool.{true, false≢true}
use mathlib.Core.List.{List, [], ◌∷◌, map}
use native.Mathlib.Omega.{arith}
use borrow.Author.Tests.{leb-true, le-leb}
use lib.ListN.{length, get_or, length-map}
use lib.Seq.{length-take-le, get_or-take}
use Rattle.basics.specs.Lists.{every}
use Rattle.basics.proofs.Every.{every_at, every_other}
use Rattle.tools.specs.Bytes.{Octets}
use Rattle.table.specs.Table.{Entry, table_of, parts_of, parts_in}
use Rattle.table.specs.declared.types.Path.{Path}
use Rattle.table.specs.declared.types.PathPart.{PathPart}
use Rattle.table.specs.declared.types.PathPart.TheVariants.{Id, Global}
use Rattle.tag_parse.proofs.Headers.{header_sound}
use Rattle.tag_parse.specs.declared.types.EBMLSize.{EBMLSize}
use Rattle.tag_parse.specs.declared.types.TagHeader.{TagHeader}
use Rattle.tag_parse.specs.declared.types.TagValue.{TagValue}
use Rattle.decoder_rules.specs.Record.{farthest, opens, implied, with_open, with_notes, settled_to}
use Rattle.decoder_rules.specs.OneCall.{refusal6, good_open, step3, settles, step7, noted, step10}
use Rattle.decoder_rules.specs.Deciding.{plain, decide}
use Rattle.decoder_rules.specs.Moving.{move, apply, decode}
use Rattle.decoder_rules.specs.EndOfInput.{ended_or, decode_eof}
use Rattle.decoder_rules.specs.Numbers.{parse_error}
use Rattle.decoder_rules.specs.declared.types.Action.{Action}
use Rattle.decoder_rules.specs.declared.types.Action.TheVariants as act
use Rattle.decoder_rules.specs.declared.types.Answer.{Answer}
use Rattle.decoder_rules.specs.declared.types.Decision.{Decision}
use Rattle.decoder_rules.specs.declared.types.Decoded.{Decoded}
use Rattle.decoder_rules.specs.declared.types.DecodeError.{DecodeError}
use Rattle.decoder_rules.specs.declared.types.DecodeError.TheVariants.{NotAMaster}
use Rattle.decoder_rules.specs.declared.types.TagDecoder.{TagDecoder}
use Rattle.basics.proofs.ArrayOf32.{filled-length}
use Rattle.basics.proofs.Bools.{pick}
use Rattle.spec_util.specs.Walk.{most_open, no_tag}
use Rattle.decoder_rules.proofs.HeaderPath.{path_few}
use Rattle.decoder_rules.proofs.Exits as exit
use Rattle.decoder_rules.proofs.Exits.{Closing, HeaderExit, Admitted, AtHeader, Exit, exits}
use Rattle.decoder_rules.proofs.EndExits.{is_quiet}
use Rattle.decoder_rules.proofs.GoodState.{GoodState, good_open_lem, passed12}
use Rattle.decoder_rules.proofs.MoveEffects.{settled_opens}
use Rattle.decoder_move.specs.Applies.{NoteApplies, count_fits, CountsFit, ActionApplies, DecisionApplies}
use Rattle.std.specs.Prelude.{Err, None, Ok, Option, Result, Some}
use Rattle.decoder_rules.specs.declared.types.Refusal.{Refusal}

-- the record is good, and n more bytes are within reach
pub record Near (d : TagDecoder) (n : ℕ) : Type 0 where
  pub few : d.open_count ≤ most_open
  pub near : d.position + n ≤ farthest
  pub counts : every count_fits (opens d) ≡ true

-- what 11 leaves has counts that fit
counts_fit : (d : TagDecoder) → GoodState d → every count_fits (opens d) ≡ true
counts_fit d g =
    every_other (good_open d.position) count_fits (λ m e. le-leb m.count farthest (omega (arith, g.place, (good_open_lem d.position m e).count))) (opens d) g.masters

-- ---- what each action asks

-- a refusal asks nothing
pub fits_refuse : (d : TagDecoder) (n : ℕ) (e : DecodeError) → ActionApplies d n (Err e)
unfolding ActionApplies
fits_refuse d n e = tt

-- need more asks that the record is near
pub fits_more : (d : TagDecoder) (n m : ℕ) → Near d n → ActionApplies d n (Ok (act.NeedMore m))
unfolding ActionApplies
fits_more d n m good = (good.few, good.near, good.counts)

-- so does the finish
pub fits_finish : (d : TagDecoder) (n : ℕ) → Near d n → ActionApplies d n (Ok act.Finish)
unfolding ActionApplies
fits_finish d n good = (good.few, good.near, good.counts)

-- an End that is handed out waits
pub fits_hand_out : (d : TagDecoder) (n : ℕ) → 0 < d.waiting_count → ActionApplies d n (Ok act.HandOut)
unfolding ActionApplies
fits_hand_out d n h = h

-- what closes is open
pub fits_close : (d : TagDecoder) (n k : ℕ) → k < d.open_count → d.open_count ≤ most_open → ActionApplies d n (Ok (act.Close k))
unfolding ActionApplies
fits_close d n k h f = (h, f)

-- a Start has room, and its header was lent
pub fits_start : (d : TagDecoder) (n x : ℕ) (z : EBMLSize) (len : ℕ) → d.open_count < most_open → len ≤ n → Near d n → ActionApplies d n (Ok (act.Start x z len))
unfolding ActionApplies
fits_start d n x z len f l good = (f, l, good.near, (good.few, good.counts))

-- the bytes of a Data were lent
pub fits_data : (d : TagDecoder) (n x : ℕ) (v : TagValue) (m : ℕ) → m ≤ n → Near d n → ActionApplies d n (Ok (act.Data x v m))
unfolding ActionApplies
fits_data d n x v m l good = (l, good.near, (good.few, good.counts))

-- ---- steps 8 to 11

module _ (t : List Entry) (d : TagDecoder) (n : ℕ) (good : Near d n) where
  closing_within : (k : ℕ) {a : Result Action DecodeError} → k < d.open_count → Closing t d k a → ActionApplies d n a
  closing_within k h (exit.closes e) = fits_close d n k h good.few
  closing_within k h (exit.no_master_lem e) = fits_refuse d n NotAMaster

  module _ (h : TagHeader) (s : List ℕ) (e : length s ≡ n) (l : h.len ≤ n) where
    header_fits : {a : Result Action DecodeError} → HeaderExit t d h s a → ActionApplies d n a
    header_fits (exit.misplaced p) = fits_refuse d n _
    header_fits (exit.oversized m p z f) = fits_refuse d n _
    header_fits (exit.too_large m p z f g) = fits_refuse d n _
    header_fits (exit.past_end p z f g) = fits_refuse d n _
    header_fits (exit.ends_tops v k c) = closing_within (step10 t d h.id) k c
    header_fits (exit.too_many at k f) = fits_refuse d n _
    header_fits (exit.starts at k f) = fits_start d n h.id h.size h.len f l good
    header_fits (exit.no_size at k z) = fits_refuse d n _
    header_fits (exit.payload_incomplete m has f) = fits_more d n _ good
    header_fits (exit.payload_refused m x has f q) = fits_refuse d n _
    header_fits (exit.holds m v has f q) = fits_data d n h.id v (h.len + m) (omega arith) good

-- ---- the note

-- what a path implies has had no child
implied_fit : (path : List PathPart) → every count_fits (map implied path) ≡ true
unfolding every
implied_fit [] = refl
implied_fit (Id x ∷ path) = implied_fit path
implied_fit (Global least most ∷ path) = implied_fit path

-- a note that fits leaves a good record good
noted_near : (ps : List ℕ) (d : TagDecoder) (n : ℕ) (note : Option Path) → Near d n → NoteApplies ps note → Near (noted ps d note) n
unfolding NoteApplies noted settled_to with_open with_notes
noted_near ps d n None good f = good
noted_near ps d n (Some path) good f =
    record { few = f; near = good.near; counts = rw (settled_opens d (parts_in (parts_of ps) path)) (implied_fit (parts_in (parts_of ps) path)) }

-- no note asks nothing
pub note_none : (ps : List ℕ) → NoteApplies ps None
unfolding NoteApplies
note_none ps = tt

-- a path that fits the record
pub note_settle : (ps : List ℕ) (path : Path) → length (parts_in (parts_of ps) path) ≤ most_open → NoteApplies ps (Some path)
unfolding NoteApplies
note_settle ps path h = h

-- the array of a record with a note that applies has its places
pub noted_long : (ps : List ℕ) (d : TagDecoder) (n : Option Path) → NoteApplies ps n → length d.«open» ≡ most_open → length (noted ps d n).«open» ≡ most_open
unfolding NoteApplies noted settled_to with_open
noted_long ps d None f h = h
noted_long ps d (Some path) f h = filled-length no_tag (map implied (parts_in (parts_of ps) path)) (rw length-map f)

plain_fits : (ps : List ℕ) (d : TagDecoder) (n : ℕ) (a : Result Action DecodeError) → ActionApplies d n a → DecisionApplies ps d n (plain a)
unfolding noted
plain_fits ps d n a f = record { note = note_none ps; action = f }

-- ---- the decision

module _ (es ps : List ℕ) (d : TagDecoder) (s : List ℕ) (byte : Octets s) where
  refuse_fits : (e : DecodeError) → DecisionApplies ps d (length s) (plain (Err e))
  refuse_fits e = plain_fits ps d (length s) (Err e) (fits_refuse d (length s) e)

  -- the record that 1 admits is near
  near_by : Admitted es ps d s → Near d (length s)
  near_by ok = let p = passed12 es ps d (length s) ok.first in record { few = p.good.open_count; near = p.near; counts = counts_fit d p.good }

  -- the path of a header that was read has at most 16 parts
  step7_fits : (h : TagHeader) → AtHeader es ps d s h → NoteApplies ps (step7 (table_of es ps) d h)
  step7_fits h at =
      let t = table_of es ps in
      let shape = (passed12 es ps d (length s) at.at_bytes.none_full.reading.admitted.first).shape in
      let few = path_few es ps s h at.read shape in
      pick (NoteApplies ps) (settles t d h) (Some h.path) None (λ f. note_settle ps h.path (omega arith)) (λ f. note_none ps)

  exit_fits : {a : Decision} → Exit es ps d s a → DecisionApplies ps d (length s) a
  exit_fits (exit.refused_first x e) = refuse_fits x
  exit_fits (exit.after_finish e f l) = refuse_fits _
  exit_fits (exit.hands_out ok w) = plain_fits ps d (length s) (Ok act.HandOut) (fits_hand_out d (length s) w)
  exit_fits (exit.finished ok w f) = plain_fits ps d (length s) (Ok act.Finish) (fits_finish d (length s) (near_by ok))
  exit_fits (exit.closes_full r l c) =
      plain_fits ps d (length s) _ (closing_within (table_of es ps) d (length s) (near_by r.admitted) (step3 d) l c)
  exit_fits (exit.no_byte n z) = plain_fits ps d (length s) _ (fits_more d (length s) _ (near_by n.reading.admitted))
  exit_fits (exit.header_incomplete at e) =
      plain_fits ps d (length s) _ (fits_more d (length s) _ (near_by at.none_full.reading.admitted))
  exit_fits (exit.header_refused x at e) = refuse_fits (parse_error x)
  exit_fits (exit.id_refused h at f) = refuse_fits (refusal6 d h)
  exit_fits (exit.on_header h at f x) =
      let note = step7_fits h at in
      let good = noted_near ps d (length s) (step7 (table_of es ps) d h) (near_by at.at_bytes.none_full.reading.admitted) note in
      record {
        note = note;
        action = header_fits (table_of es ps) (noted ps d (step7 (table_of es ps) d h)) (length s) good h s refl (header_sound (table_of es ps) s h byte at.read).whole x;
      }

  -- what is decided applies
  pub decide_applies : DecisionApplies ps d (length s) (decide es ps d s)
  decide_applies = exit_fits (exits es ps d s)

-- ---- what fits, taken apart

-- an End waits
pub hands_out : (d : TagDecoder) (n : ℕ) → ActionApplies d n (Ok act.HandOut) → 0 < d.waiting_count
unfolding ActionApplies
hands_out d n f = f

-- what closes is open, and at most 32 are
pub closes : (d : TagDecoder) (n k : ℕ) → ActionApplies d n (Ok (act.Close k)) → (k < d.open_count) × (d.open_count ≤ most_open)
unfolding ActionApplies
closes d n k f = f

-- there is room, and the header is within reach
pub starts : (d : TagDecoder) (n x : ℕ) (z : EBMLSize) (len : ℕ) → ActionApplies d n (Ok (act.Start x z len)) → (d.open_count < most_open) × (d.position + len ≤ farthest)
unfolding ActionApplies
starts d n x z len f = (f.0, omega (arith, f.1, f.2))

-- and the counts of the open masters fit
pub start_counts : (d : TagDecoder) (n x : ℕ) (z : EBMLSize) (len : ℕ) → ActionApplies d n (Ok (act.Start x z len)) → CountsFit d
unfolding ActionApplies
start_counts d n x z len f = f.3

-- the bytes are within reach
pub passes_on : (d : TagDecoder) (n x : ℕ) (v : TagValue) (m : ℕ) → ActionApplies d n (Ok (act.Data x v m)) → d.position + m ≤ farthest
unfolding ActionApplies
passes_on d n x v m f = omega (arith, f.0, f.1)

-- and the counts of the open masters fit
pub data-counts : (d : TagDecoder) (n x : ℕ) (v : TagValue) (m : ℕ) → ActionApplies d n (Ok (act.Data x v m)) → CountsFit d
unfolding ActionApplies
data-counts d n x v m f = f.2

-- so that of the top fits, where one is open
pub top_fits : (d : TagDecoder) (top : ℕ) → length d.«open» ≡ most_open → CountsFit d → (0 < d.open_count → top ≡ d.open_count - 1) → 0 < d.open_count
    → (get_or d.«open» top no_tag).count ≤ farthest
top_fits d top long fits is h =
    let e = every_at count_fits (opens d) no_tag fits.1 top (rw (length-take-le d.open_count d.«open» (omega (arith, fits.0))) (omega (arith, is h))) in
    leb-true (get_or d.«open» top no_tag).count farthest (rw (get_or-take d.open_count d.«open» top no_tag (omega (arith, is h))) at e)

-- the path fits the record
pub note_settles : (ps : List ℕ) (path : Path) → NoteApplies ps (Some path) → length (parts_in (parts_of ps) path) ≤ most_open
unfolding NoteApplies
note_settles ps path f = f

-- ---- need more and Finished leave a good record

quiet_near : (d : TagDecoder) (n : ℕ) (a : Result Action DecodeError) → ActionApplies d n a → is_quiet (move d a).answer ≡ true → Near (move d a).state n
unfolding ActionApplies move
quiet_near d n (Err e) f q = absurd (false≢true q)
quiet_near d n (Ok (act.NeedMore missing)) f q = record { few = f.0; near = f.1; counts = f.2 }
quiet_near d n (Ok act.Finish) f q = record { few = f.0; near = f.1; counts = f.2 }
quiet_near d n (Ok act.HandOut) f q = absurd (false≢true q)
quiet_near d n (Ok (act.Close k)) f q = absurd (false≢true q)
quiet_near d n (Ok (act.Start x y l)) f q = absurd (false≢true q)
quiet_near d n (Ok (act.Data x v m)) f q = absurd (false≢true q)

-- of a whole call, whose result r is
module _ (es ps : List ℕ) (d : TagDecoder) (s : List ℕ) (byte : Octets s) (r : Decoded) (is : r ≡ decode es ps d s) where
  -- need more and the finish leave a record that is near
  pub after_quiet : is_quiet r.answer ≡ true → Near r.state (length s)
  unfolding apply
  after_quiet e = rw is (quiet_near _ (length s) _ (decide_applies es ps d s byte).action (sym (ap (λ (x : Decoded). is_quiet x.answer) is) ∙ e))

  -- the end of input goes by the call's answer
  pub eof_of : (a : Result Answer Refusal) → r.answer ≡ a → decode_eof es ps d s ≡ ended_or (table_of es ps) s r a
  unfolding decode_eof
  eof_of a e = rw (← is) (ap (ended_or (table_of es ps) s r) e)
