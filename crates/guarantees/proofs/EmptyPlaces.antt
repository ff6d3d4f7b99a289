-- The empty places of a decoder's record are zero, after any calls on a fresh decoder and with any words for a table:
-- its arrays are its two lists with empty places after them. So are a size that is not known and a greatest size that
-- is not set. Each move, each call and each setting keeps it. Assumes nothing.
use Prim.Native.Nat.{ℕ, suc, ◌+◌, ◌≤◌, ◌<◌}
use mathlib.Core.Path.{◌≡◌, refl}
use mathlib.Core.Bool.{Bool, true, false, true≢false}
use mathlib.Core.List.{List, [], ◌∷◌}
use native.Mathlib.Omega.{arith}
use lib.ListN.{length}
use Rattle.spec_util.specs.Walk.{most_open}
use Rattle.tools.specs.Bytes.{Octets}
use Rattle.table.specs.Shape.{good_shape}
use Rattle.table.specs.Table.{table_of, parts_of, parts_in}
use Rattle.table.specs.declared.types.PathPart.{PathPart}
use Rattle.spec_util.specs.declared.types.OpenTag.{OpenTag}
use Rattle.decoder_rules.specs.Record.{fresh, with_settings, with_open, with_waiting, with_notes, settled_to, counted, opened, closed_to, handed_out, with_sizes_grown}
use Rattle.decoder_rules.specs.OneCall.{check_record10to12, noted}
use Rattle.decoder_rules.specs.Deciding.{decide}
use Rattle.decoder_rules.specs.Moving.{move, apply, decode, master_at}
use Rattle.decoder_rules.specs.Recovery.{try_recover}
use Rattle.decoder_rules.specs.FirstPlace.{record_on, Standing, Incomplete, Valid, Other, stands_at, first_place, recovered_at}
use Rattle.decoder_rules.specs.Settings.{limited_to}
use Rattle.decoder_rules.specs.declared.types.Action.{Action}
use Rattle.decoder_rules.specs.declared.types.Action.TheVariants as act
use Rattle.decoder_rules.specs.declared.types.Decoded.{Decoded}
use Rattle.decoder_rules.specs.declared.types.Settings.{Settings}
use Rattle.decoder_rules.specs.declared.types.TagDecoder.{TagDecoder}
use Rattle.decoder_rules.proofs.AbsentZero.{AbsentZero, size_known_or0, fresh_absent, master_sized, settings_absent, with_notes_absent, settled_absent, opened_absent, closed_absent, handed_absent, counted_absent, grown_absent}
use Rattle.decoder_rules.proofs.Counting.{counted_arrays, counted_clean}
use Rattle.decoder_rules.proofs.EmptyPlacesZero.{Clean, fresh_clean, with_notes_clean, settled_clean, opened_clean, closed_clean, handed_clean, grown_clean}
use Rattle.decoder_rules.proofs.EndExits as end
use Rattle.decoder_rules.proofs.EndExits.{EndExit, EofExit, eof_exits}
use Rattle.decoder_rules.proofs.FirstPlace.{note_holds, recovery_is_first}
use Rattle.decoder_rules.proofs.GoodState.{passed12}
use Rattle.decoder_rules.proofs.MoveEffects.{Arrays, fresh_arrays, with_notes_arrays, settled_arrays, opened_arrays, closed_arrays, handed_arrays, grown_arrays}
use Rattle.decoder_rules.proofs.MoveLaws.{with_note}
use Rattle.decoder_move.specs.Applies.{NoteApplies, ActionApplies}
use Rattle.decoder_move.proofs.DecisionApplies.{decide_applies, note_none}
use Rattle.tag_decoder.proofs.Recovering.{step7_applies}
use Rattle.guarantees.specs.Calls.{Call, decoding, ending, recovering, allow, strictly, limit, lent, next, record_after, Lent}
use Rattle.std.specs.Prelude.{Err, None, Ok, Option, Result, Some, ⊤}
use Rattle.decoder_rules.specs.declared.types.DecodeError.{DecodeError}
use Rattle.table.specs.declared.types.Path.{Path}

-- a record whose empty places and absent values are zero: it has its places, and its counts are at most 32
pub record Tidy (d : TagDecoder) : Type 0 where
  pub arrays : Arrays d
  pub clean : Clean d
  pub few_open : d.open_count ≤ most_open
  pub few_waiting : d.waiting_count ≤ most_open
  pub absent : AbsentZero d

fresh_tidy : Tidy fresh
fresh_tidy = record { arrays = fresh_arrays; clean = fresh_clean; few_open = omega arith; few_waiting = omega arith; absent = fresh_absent }

-- ---- the moves

module _ (d : TagDecoder) (k : Tidy d) where
  settings_tidy : (s : Settings) → (s.max_given ≡ false → s.max_size ≡ 0) → Tidy (with_settings d s)
  unfolding with_settings
  settings_tidy s h = record {
    arrays = record { masters = k.arrays.masters; ends = k.arrays.ends };
    clean = record { masters = k.clean.masters; ends = k.clean.ends };
    few_open = k.few_open;
    few_waiting = k.few_waiting;
    absent = settings_absent d k.arrays k.few_open k.absent s h;
  }

  notes_tidy : (p : ℕ) (s f : Bool) → Tidy (with_notes d p s f)
  unfolding with_notes
  notes_tidy p s f = record {
    arrays = with_notes_arrays d k.arrays p s f;
    clean = with_notes_clean d k.arrays k.clean p s f;
    few_open = k.few_open;
    few_waiting = k.few_waiting;
    absent = with_notes_absent d k.arrays k.few_open k.absent p s f;
  }

  settled_tidy : (path : List PathPart) → length path ≤ most_open → Tidy (settled_to d path)
  unfolding settled_to with_open with_notes
  settled_tidy path h = record {
    arrays = settled_arrays d k.arrays path h;
    clean = settled_clean d k.arrays k.clean path;
    few_open = h;
    few_waiting = k.few_waiting;
    absent = settled_absent d k.arrays k.few_open k.absent path;
  }

  opened_tidy : (m : OpenTag) → d.open_count < most_open → size_known_or0 m ≡ true → Tidy (opened d m)
  unfolding opened with_open
  opened_tidy m h s = record {
    arrays = opened_arrays d k.arrays m;
    clean = opened_clean d k.arrays k.clean m h;
    few_open = omega arith;
    few_waiting = k.few_waiting;
    absent = opened_absent d k.arrays k.few_open k.absent m h s;
  }

  closed_tidy : (n : ℕ) → n ≤ d.open_count → Tidy (closed_to d n)
  unfolding closed_to with_open with_waiting
  closed_tidy n h = record {
    arrays = closed_arrays d k.arrays n;
    clean = closed_clean d k.arrays k.clean n h k.few_open;
    few_open = omega (arith, k.few_open);
    few_waiting = omega (arith, k.few_open);
    absent = closed_absent d k.arrays k.few_open k.absent n h;
  }

  handed_tidy : Tidy (handed_out d)
  unfolding handed_out with_waiting
  handed_tidy = record {
    arrays = handed_arrays d k.arrays;
    clean = handed_clean d k.arrays k.clean k.few_waiting;
    few_open = k.few_open;
    few_waiting = omega (arith, k.few_waiting);
    absent = handed_absent d k.arrays k.few_open k.absent;
  }

  counted_tidy : Tidy (counted d)
  unfolding counted with_open
  counted_tidy = record {
    arrays = counted_arrays d k.arrays;
    clean = counted_clean d k.arrays k.clean k.few_open;
    few_open = k.few_open;
    few_waiting = k.few_waiting;
    absent = counted_absent d k.arrays k.few_open k.absent;
  }

  grown_tidy : (n : ℕ) → Tidy (with_sizes_grown d n)
  unfolding with_sizes_grown with_open
  grown_tidy n = record {
    arrays = grown_arrays d k.arrays n;
    clean = grown_clean d k.arrays k.clean n k.few_open;
    few_open = k.few_open;
    few_waiting = k.few_waiting;
    absent = grown_absent d k.arrays k.few_open k.absent n;
  }

  -- a note that applies, and an action that does
  noted_tidy : (ps : List ℕ) (n : Option Path) → NoteApplies ps n → Tidy (noted ps d n)
  unfolding noted NoteApplies
  noted_tidy ps None f = k
  noted_tidy ps (Some path) f = settled_tidy (parts_in (parts_of ps) path) f

move_tidy : (d : TagDecoder) → Tidy d → (n : ℕ) (a : Result Action DecodeError) → ActionApplies d n a → Tidy (move d a).state
unfolding move ActionApplies counted with_open with_notes
move_tidy d k n (Err e) f = k
move_tidy d k n (Ok (act.NeedMore missing)) f = k
move_tidy d k n (Ok act.Finish) f = k
move_tidy d k n (Ok act.HandOut) f = handed_tidy d k
move_tidy d k n (Ok (act.Close i)) f = closed_tidy d k i (omega (arith, f.0))
move_tidy d k n (Ok (act.Start x z len)) f =
    opened_tidy _ (counted_tidy _ (notes_tidy d k (d.position + len) d.settled d.finished)) (master_at x z d.position len) f.0 (master_sized x z d.position len)
move_tidy d k n (Ok (act.Data x v m)) f = counted_tidy _ (notes_tidy d k (d.position + m) d.settled d.finished)

-- ---- decode, and the end of input

module _ (es ps : List ℕ) (d : TagDecoder) (k : Tidy d) (s : List ℕ) (byte : Octets s) where
  with_note_tidy : Tidy (with_note es ps d s)
  with_note_tidy = noted_tidy d k ps (decide es ps d s).note (decide_applies es ps d s byte).note

  decode_tidy : Tidy (decode es ps d s).state
  unfolding apply
  decode_tidy = move_tidy (with_note es ps d s) with_note_tidy (length s) (decide es ps d s).action (decide_applies es ps d s byte).action

  ended_tidy : {e : TagDecoder} {r : Decoded} → Tidy e → EndExit (table_of es ps) e s r → Tidy r.state
  unfolding move
  ended_tidy t (end.bytes_left l) = t
  ended_tidy t (end.master_cut z l) = t
  ended_tidy t (end.no_master_lem n m) = t
  ended_tidy {e} t (end.finishes n m z) = notes_tidy e t e.position e.settled true
  ended_tidy {e} t (end.closes_all n m l) = closed_tidy _ (notes_tidy e t e.position e.settled true) 0 (omega arith)

  exit_tidy : {r : Decoded} → EofExit es ps d s r → Tidy r.state
  exit_tidy (end.as_decoded q) = decode_tidy
  exit_tidy (end.at_end q x) = ended_tidy with_note_tidy x

-- ---- a recovery

module _ (es ps : List ℕ) (shape : good_shape es ps ≡ true) (d : TagDecoder) where
  -- so it is on the way of a search
  pub on_tidy : Tidy d → (s : List ℕ) (n i : ℕ) → Tidy (record_on ps (table_of es ps) d s n i)
  unfolding record_on
  on_tidy k s n i = notes_tidy _ (noted_tidy d k ps _ (note_holds (table_of es ps) d (NoteApplies ps) (note_none ps) (λ r h e. step7_applies es ps shape d r h e) s n)) _ _ _

standing_tidy : (x : Standing) (n : ℕ) (e : TagDecoder) → Tidy e → Tidy (recovered_at x n e).state
standing_tidy Incomplete n e k = k
standing_tidy Valid n e k = grown_tidy e k n
standing_tidy Other n e k = k

recover_tidy : (es ps : List ℕ) (d : TagDecoder) → Tidy d → (s : List ℕ) → Tidy (try_recover es ps d s).state
recover_tidy es ps d k s = go (check_record10to12 es ps d (length s)) refl
  where
    go : (c : Result ⊤ DecodeError) → check_record10to12 es ps d (length s) ≡ c → Tidy (try_recover es ps d s).state
    go (Ok _) e =
        let i = first_place ps (table_of es ps) d s in
        rw (recovery_is_first es ps d s e)
        (standing_tidy (stands_at ps (table_of es ps) d s i) i (record_on ps (table_of es ps) d s (suc i) i) (on_tidy es ps (passed12 es ps d (length s) e).shape d k s (suc i) i))
    go (Err x) e = unfold try_recover in rw e k

-- ---- any calls

limited_tidy : (d : TagDecoder) → Tidy d → (n : Option ℕ) → Tidy (limited_to d n)
limited_tidy d k None = settings_tidy d k _ (λ f. refl)
limited_tidy d k (Some n) = settings_tidy d k _ (λ f. absurd (true≢false f))

-- any call on such a record leaves one
pub next_tidy : (es ps : List ℕ) (d : TagDecoder) → Tidy d → (c : Call) → Octets (lent c) → Tidy (next es ps d c)
next_tidy es ps d k (decoding s) byte = decode_tidy es ps d k s byte
next_tidy es ps d k (ending s) byte = exit_tidy es ps d k s byte (eof_exits es ps d s)
next_tidy es ps d k (recovering s) byte = recover_tidy es ps d k s
next_tidy es ps d k (allow ids hierarchy oversized) byte = settings_tidy d k _ k.absent.greatest
next_tidy es ps d k (strictly b) byte = settings_tidy d k _ k.absent.greatest
next_tidy es ps d k (limit n) byte = limited_tidy d k n

-- the record after any calls has its places, counts of at most 32, and zero in each empty place
pub tidy_after : (es ps : List ℕ) (cs : List Call) → Lent cs → Tidy (record_after es ps cs)
unfolding record_after Lent
tidy_after es ps [] l = fresh_tidy
tidy_after es ps (c ∷ cs) l = next_tidy es ps (record_after es ps cs) (tidy_after es ps cs l.1) c l.0

-- of any table words, checked or not: the places past the open masters and past the waiting Ends hold zero
pub clean_after : (es ps : List ℕ) (cs : List Call) → Lent cs → Clean (record_after es ps cs)
clean_after es ps cs l = (tidy_after es ps cs l).clean

-- a size that is not known is 0, and so is a greatest size that is not set
pub absent_after : (es ps : List ℕ) (cs : List Call) → Lent cs → AbsentZero (record_after es ps cs)
absent_after es ps cs l = (tidy_after es ps cs l).absent
