-- A recovery: where it stops, the invariant holds, with the open ends grown where it found a header; its only refusal
-- is 12. Assumes nothing.
use Prim.Native.Nat.{ℕ, suc, ◌+◌, ◌≤◌}
use mathlib.Core.Path.{◌≡◌, refl, sym, ◌∙◌, subst}
use mathlib.Core.Bool.{true, ◌||◌}
use mathlib.Core.List.{List, ◌++◌, map}
use native.Mathlib.Omega.{arith}
use borrow.Author.Tests.{leb-true, le-leb}
use lib.ListN.{length, take, length-map}
use Rattle.basics.specs.Lists.{every}
use Rattle.table.specs.Shape.{good_shape}
use Rattle.table.specs.Table.{Entry, table_of, parts_of, parts_in}
use Rattle.table.specs.Passed.{PassedTable}
use Rattle.decoder_rules.specs.Record.{farthest, opens, with_open, with_notes, at_position, settled_to, with_sizes_grown}
use Rattle.decoder_rules.specs.Numbers.{error_number}
use Rattle.decoder_rules.specs.OneCall.{good_open, check_record10to12, noted, is_settle}
use Rattle.decoder_rules.specs.Recovery.{try_recover}
use Rattle.decoder_rules.specs.FirstPlace.{note_before, record_on, Standing, Incomplete, Valid, Other, stands_at, first_place, recovered_at}
use Rattle.decoder_rules.specs.declared.types.Recovered.{Recovered}
use Rattle.decoder_rules.specs.declared.types.Search.{Search}
use Rattle.decoder_rules.specs.declared.types.Search.TheVariants as search
use Rattle.decoder_rules.specs.declared.types.TagDecoder.{TagDecoder}
use Rattle.decoder_rules.proofs.GoodState.{passed12}
use Rattle.basics.proofs.Every.{every_other, every_map}
use Rattle.basics.proofs.Bools.{or_none}
use Rattle.decoder_rules.proofs.FirstPlace.{note_holds, first_is_least, recovery_is_first}
use Rattle.decoder_rules.proofs.MoveLaws.{noted_settings, noted-position, noted_settled}
use Rattle.decoder_rules.proofs.MoveEffects.{SameSettings, settled_opens, grown_settings, grown_notes}
use Rattle.decoder_rules.proofs.MovesKeepGoodState.{grown_good, implied_all}
use Rattle.guarantees.specs.Settling.{implied_by}
use Rattle.guarantees.specs.History.{Started, later, outermost_end, after_search}
use Rattle.guarantees.proofs.Ends.{ended_by}
use Rattle.guarantees.proofs.Notes.{note_of_search, search_note_or}
use Rattle.guarantees.proofs.Decided.{NoteFacts, step7_facts, only_far}
use Rattle.guarantees.proofs.Tied.{stack, all_ended, Linked, Tied}
use Rattle.guarantees.proofs.Outermost.{none_batch, ended_grown, batch_later}
use Rattle.guarantees.proofs.Moves.{moved_linked, settled_linked, stack_later, grown_linked}
use Rattle.guarantees.proofs.Steps.{unsettled_waiting}
use Rattle.std.specs.Prelude.{Err, None, Ok, Option, Result, Some, ⊤}
use Rattle.decoder_rules.specs.declared.types.DecodeError.{DecodeError}
use Rattle.table.specs.declared.types.Path.{Path}
use Rattle.decoder_rules.specs.declared.types.Refusal.{Refusal}

-- ---- ends and places

ended-later : (p q : ℕ) → p ≤ q → (g : Option ℕ) → ended_by p g ≡ true → ended_by q g ≡ true
ended-later p q h None e = refl
ended-later p q h (Some f) e = le-leb f q (omega (arith, leb-true f p e))

all_later : (p q : ℕ) → p ≤ q → (l : List Started) → all_ended p l ≡ true → all_ended q l ≡ true
all_later p q h l e = every_other (λ m. ended_by p m.end) (λ m. ended_by q m.end) (λ m f. ended-later p q h m.end f) l e

all_grown : (p n : ℕ) (l : List Started) → all_ended p l ≡ true → all_ended (p + n) (map (later n) l) ≡ true
unfolding later
all_grown p n l e = every_map (λ m. ended_by p m.end) (later n) (λ m. ended_by (p + n) m.end) (λ m f. ended_grown p n m.end f) l e

-- ---- what a recovery promises

-- a recovery is refused with 12 alone
abbrev pub SearchFacts : Result Search Refusal → Type 0
SearchFacts (Ok (search.Found passed)) = Unit {0}
SearchFacts (Ok (search.NotFound passed)) = Unit {0}
SearchFacts (Err r) = error_number r.error ≡ 12

-- a recovery that starts at p on the bytes s, left being the implied parents with those of its note
pub record RecoveryHolds (t : List Entry) (s : List ℕ) (starts : List Started) (left : List ℕ) (p : ℕ) (r : Recovered) : Type 0 where
  pub promised : SearchFacts r.answer
  pub tied : Tied t r.state (after_search t s r.answer starts) left (p + r.taken)

-- ---- on the way: p is the place where it started, e the record now

record Passing (t : List Entry) (starts : List Started) (left : List ℕ) (p : ℕ) (e : TagDecoder) : Type 0 where
  linked : Linked t e starts left e.position
  finished : e.finished ≡ true → length starts ≤ e.waiting_count
  full : e.finished ≡ true → all_ended p starts ≡ true
  batch : ended_by p (outermost_end (take e.waiting_count (stack starts left))) ≡ true
  good : every (good_open p) (opens e) ≡ true

module _ (t : List Entry) (starts : List Started) (left : List ℕ) (p : ℕ) (e : TagDecoder) where
  further_on : (q : ℕ) → e.position ≤ q → q ≤ farthest → Passing t starts left p e → Passing t starts left p (at_position e q)
  unfolding with_notes
  further_on q h near k = record {
    linked = moved_linked t e starts left e.position k.linked q e.finished h near;
    finished = k.finished;
    full = k.full;
    batch = k.batch;
    good = k.good;
  }

  with_note_lem : (ps : List ℕ) (x : Option Path) → NoteFacts ps t e x → Passing t starts left p e → Passing t starts (implied_by ps x ++ left) p (noted ps e x)
  unfolding noted implied_by settled_to with_open with_notes
  with_note_lem ps None f k = k
  with_note_lem ps (Some path) f k = record {
    linked = settled_linked t e starts left e.position k.linked (parts_in (parts_of ps) path) f.unsettled f.masters f.short;
    finished = k.finished;
    full = k.full;
    batch = none_batch e.waiting_count (unsettled_waiting t e starts left e.position k.linked f.unsettled) p _;
    good = rw (settled_opens e (parts_in (parts_of ps) path)) (implied_all p (parts_in (parts_of ps) path));
  }

-- ---- where it ends: p is the place where it started, e the record n bytes on

module _ (t : List Entry) (s : List ℕ) (starts : List Started) (left : List ℕ) (p n : ℕ) (e : TagDecoder) (here : e.position ≡ p + n) (k : Passing t starts left p e) where
  linked_here : Linked t e starts left (p + n)
  linked_here = subst (Linked t e starts left) here k.linked

  ends_without : Tied t e starts left (p + n)
  ends_without = record {
    linked = linked_here;
    finished = k.finished;
    full = λ f. all_later p (p + n) (omega arith) starts (k.full f);
    batch = ended-later p (p + n) (omega arith) (outermost_end (take e.waiting_count (stack starts left))) k.batch;
  }

  ends_with : Tied t (with_sizes_grown e n) (map (later n) starts) left (p + n)
  unfolding with_sizes_grown with_open
  ends_with = record {
    linked =
        grown_linked t e starts left (p + n) linked_here n
        (grown_good e k.linked.good k.linked.arrays p n k.good (omega (arith, here)));
    finished = λ f. rw length-map (k.finished f);
    full = λ f. all_grown p n starts (k.full f);
    batch = batch_later p n e.waiting_count (stack starts left) (stack (map (later n) starts) left) (stack_later n starts left) k.batch;
  }

  ends : (x : Standing) → RecoveryHolds t s starts left p (recovered_at x n e)
  ends Incomplete = record { promised = tt; tied = ends_without }
  ends Valid = record { promised = tt; tied = ends_with }
  ends Other = record { promised = tt; tied = ends_without }

-- ---- the search

module _ (es ps : List ℕ) (shape : good_shape es ps ≡ true) (passed : PassedTable (table_of es ps)) (starts : List Started) (d : TagDecoder) (s : List ℕ) where
  -- a recovery where a refusal comes first, or none
  abbrev RecoveryHoldsOr : List ℕ → ℕ → Result ⊤ DecodeError → Type 0
  RecoveryHoldsOr left p c = RecoveryHolds (table_of es ps) s starts (implied_by ps (search_note_or ps (table_of es ps) d s c) ++ left) p (try_recover es ps d s)

  -- so far a search comes, with the note that the places up to its end leave
  search_passes : (left : List ℕ) → d.position + length s ≤ farthest → Passing (table_of es ps) starts left d.position d
      → Passing (table_of es ps) starts (implied_by ps (note_of_search ps (table_of es ps) d s) ++ left) d.position
      (record_on ps (table_of es ps) d s (suc (first_place ps (table_of es ps) d s)) (first_place ps (table_of es ps) d s))
  unfolding record_on
  search_passes left near k =
      let t = table_of es ps in
      let n = note_of_search ps t d s in
      let facts = note_holds t d (NoteFacts ps t d) tt (λ r h e. step7_facts es ps shape passed r h e d) s (suc (first_place ps t d s)) in
      further_on t starts (implied_by ps n ++ left) d.position (noted ps d n) (d.position + first_place ps t d s)
      (omega (arith, noted-position ps d n)) (omega (arith, near, (first_is_least es ps d s).within))
      (with_note_lem t starts left d.position d ps n facts k)

  search_or_lem : (left : List ℕ) → Tied (table_of es ps) d starts left d.position → (c : Result ⊤ DecodeError) → check_record10to12 es ps d (length s) ≡ c → RecoveryHoldsOr left d.position c
  unfolding try_recover record_on with_notes implied_by
  search_or_lem left k (Ok _) e =
      let t = table_of es ps in
      let i = first_place ps t d s in
      let at_first : Passing t starts left d.position d =
      record { linked = k.linked; finished = k.finished; full = k.full; batch = k.batch; good = k.linked.good.masters } in
      rw (recovery_is_first es ps d s e)
      (ends t s starts _ d.position i (record_on ps t d s (suc i) i) refl (search_passes left (passed12 es ps d (length s) e).near at_first) (stands_at ps t d s i))
  search_or_lem left k (Err x) e =
      let z : d.position ≡ d.position + 0 = omega arith in
      rw e (record { promised = (only_far es ps d (length s) shape k.linked.good e).number; tied = subst (Tied (table_of es ps) d starts left) z k })

  -- a recovery promises so much, from a record that is tied
  pub recover_searched : (left : List ℕ) (p : ℕ) → Tied (table_of es ps) d starts left p
      → RecoveryHolds (table_of es ps) s starts (implied_by ps (search_note_or ps (table_of es ps) d s (check_record10to12 es ps d (length s))) ++ left) p (try_recover es ps d s)
  recover_searched left p k =
      let c = check_record10to12 es ps d (length s) in
      let here = subst (Tied (table_of es ps) d starts left) (sym k.linked.place) k in
      subst (λ (q : ℕ). RecoveryHoldsOr left q c) k.linked.place (search_or_lem left here c refl)

-- ---- a recovery leaves the settings, and settles where its first note does

-- what it keeps of the record d, where n is its first note
pub record Keeps (d : TagDecoder) (n : Option Path) (e : TagDecoder) : Type 0 where
  pub settings : SameSettings d e
  pub settled : e.settled ≡ (d.settled || is_settle n)

module _ (es ps : List ℕ) (d : TagDecoder) (s : List ℕ) where
  standing-keeps : (n : Option Path) (x : Standing) (i : ℕ) (e : TagDecoder) → Keeps d n e → Keeps d n (recovered_at x i e).state
  standing-keeps n Incomplete i e k = k
  standing-keeps n Valid i e k = record { settings = grown_settings e i ∙ k.settings; settled = (grown_notes e i).settled ∙ k.settled }
  standing-keeps n Other i e k = k

  on_keeps : (n i : ℕ) → Keeps d (note_before (table_of es ps) d s n) (record_on ps (table_of es ps) d s n i)
  unfolding record_on with_notes
  on_keeps n i = record { settings = noted_settings ps d _; settled = noted_settled ps d _ }

  -- so does a recovery
  pub recover_keeps : Keeps d (search_note_or ps (table_of es ps) d s (check_record10to12 es ps d (length s))) (try_recover es ps d s).state
  recover_keeps = go (check_record10to12 es ps d (length s)) refl
    where
      go : (c : Result ⊤ DecodeError) → check_record10to12 es ps d (length s) ≡ c → Keeps d (search_note_or ps (table_of es ps) d s c) (try_recover es ps d s).state
      go (Ok _) e =
          let i = first_place ps (table_of es ps) d s in
          rw (recovery_is_first es ps d s e) (standing-keeps _ (stands_at ps (table_of es ps) d s i) i (record_on ps (table_of es ps) d s (suc i) i) (on_keeps (suc i) i))
      go (Err x) e = unfold try_recover in rw e (record { settings = refl; settled = or_none d.settled })
