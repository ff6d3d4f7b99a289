-- What recovery skips in a session: the position reached is what events took and what recoveries passed over, and the
-- open ends grow by what was passed over where a header was found. Assumes nothing.
use Prim.Native.Nat.{ℕ, suc, ◌+◌, ◌≤◌}
use mathlib.Core.Path.{◌≡◌, refl, sym, ap, ◌∙◌, subst}
use mathlib.Core.Bool.{false, cond, not, ◌&&◌}
use mathlib.Core.List.{List, [], ◌∷◌, map}
use native.Mathlib.Omega.{arith}
use lib.ListN.{length, take}
use Rattle.basics.proofs.Bools.{both, pick, cond_yes, cond_no, not-false, absurd_eq}
use Rattle.table.specs.BenchTable.{bench_entries, bench_parts}
use Rattle.table.specs.Check.{check_table, only_ids}
use Rattle.table.specs.Table.{table_of, parts_of, parts_in, path_of, is_typed}
use Rattle.table.specs.declared.types.PathPart.{PathPart}
use Rattle.table.specs.declared.types.PathPart.TheVariants.{Id, Global}
use Rattle.table.proofs.Examples.{checks}
use Rattle.spec_util.specs.declared.types.OpenTag.{OpenTag}
use Rattle.tag_parse.specs.declared.types.TagHeader.{TagHeader}
use Rattle.decoder_rules.specs.Numbers.{error_number, search_refusal}
use Rattle.decoder_rules.specs.Record.{opens, end_of, implied, with_notes, size_grown}
use Rattle.decoder_rules.specs.OneCall.{check_record10to12, settles, step7, noted}
use Rattle.decoder_rules.specs.Recovery.{try_recover, passed_in, is_found}
use Rattle.decoder_rules.specs.FirstPlace.{record_on, Standing, Incomplete, Valid, Other, stands_at, is_valid, first_place, recovered_at}
use Rattle.decoder_rules.specs.declared.types.Answer.TheVariants as answer
use Rattle.decoder_rules.specs.declared.types.Search.{Search}
use Rattle.decoder_rules.specs.declared.types.TagDecoder.{TagDecoder}
use Rattle.decoder_rules.proofs.FirstPlace.{note_holds, recovery_is_first, recovery_tells_first, recovery_passes_over}
use Rattle.decoder_rules.proofs.MoveEffects.{settled_opens, grown_opens}
use Rattle.guarantees.specs.Calls.{Call, decoding, ending, recovering, allow, strictly, limit, Response, answered, searched, silent, response_to, record_after, history, Lent}
use Rattle.guarantees.specs.History.{taken_in, position}
use Rattle.guarantees.specs.Promises.{last_response, position_at}
use Rattle.guarantees.specs.Skipped.{event_took, recovery_passed, taken_by_events, skipped, known_ends, grown_by, Skipping}
use Rattle.guarantees.proofs.AnyCalls.{good_shape_lem, tied_after}
use Rattle.guarantees.proofs.Decided.{only_far}
use Rattle.guarantees.proofs.EmptyPlaces.{tidy_after, on_tidy}
use Rattle.guarantees.proofs.InOrder.{takes_none}
use Rattle.guarantees.proofs.Steps.{stack_length, unsettled_waiting}
use Rattle.std.specs.Prelude.{Err, None, Ok, Option, Result, Some, ⊤}
use Rattle.decoder_rules.specs.declared.types.DecodeError.{DecodeError}
use Rattle.table.specs.declared.types.Path.{Path}
use Rattle.decoder_rules.specs.declared.types.Refusal.{Refusal}

-- ---- the bytes of a session

module _ (es ps : List ℕ) (d : TagDecoder) where
  -- a call that is answered as a recovery is one
  searched_is : (c : Call) (a : Result Search Refusal) (n : ℕ) → response_to es ps d c ≡ searched a n
      → (s : List ℕ) × (a ≡ (try_recover es ps d s).answer) × (n ≡ (try_recover es ps d s).taken)
  searched_is (decoding s) a n q = let z : ◌≡◌ {A = ℕ} 0 1 = cc in absurd_eq z
  searched_is (ending s) a n q = let z : ◌≡◌ {A = ℕ} 0 1 = cc in absurd_eq z
  searched_is (recovering s) a n q = (s, cc, cc)
  searched_is (allow ids hierarchy oversized) a n q = let z : ◌≡◌ {A = ℕ} 0 1 = cc in absurd_eq z
  searched_is (strictly b) a n q = let z : ◌≡◌ {A = ℕ} 0 1 = cc in absurd_eq z
  searched_is (limit m) a n q = let z : ◌≡◌ {A = ℕ} 0 1 = cc in absurd_eq z

  -- what a call takes an event took, or a recovery passed over
  taken_by_lem : (c : Call) (x : Response) → response_to es ps d c ≡ x → taken_in x ≡ event_took x + recovery_passed x
  taken_by_lem c (answered (Ok (answer.Event e)) n) q = omega arith
  taken_by_lem c (answered (Ok (answer.NeedMore missing)) n) q = omega (arith, takes_none es ps d c _ n q refl)
  taken_by_lem c (answered (Ok answer.Finished) n) q = omega (arith, takes_none es ps d c _ n q refl)
  taken_by_lem c (answered (Err r) n) q = omega (arith, takes_none es ps d c _ n q refl)
  taken_by_lem c (searched a n) q =
      let k = searched_is c a n q in
      let same : passed_in a ≡ n = ap passed_in k.1 ∙ (recovery_passes_over es ps d k.0).taken ∙ sym k.2 in
      omega (arith, same)
  taken_by_lem c silent q = refl

module _ (es ps : List ℕ) where
  position_is : (cs : List Call) → position_at es ps cs ≡ taken_by_events (history es ps cs) + skipped (history es ps cs)
  unfolding history position taken_by_events skipped
  position_is [] = refl
  position_is (c ∷ cs) = omega (arith, position_is cs, taken_by_lem es ps (record_after es ps cs) c _ refl)

-- ---- the ends of what is open

-- the ends of a master and of more
abbrev ends_with : OpenTag → List ℕ → List ℕ
ends_with m l = cond m.known (end_of m ∷ l) l

ends_with_grown : (n : ℕ) (m : OpenTag) (l : List ℕ) → ends_with (size_grown n m) (map (λ e. e + n) l) ≡ map (λ e. e + n) (ends_with m l)
unfolding size_grown
ends_with_grown n m l =
    pick (λ (x : OpenTag). ends_with x (map (λ e. e + n) l) ≡ map (λ e. e + n) (ends_with m l)) m.known _ m
    (λ e. let sum : m.data_start + (m.size + n) ≡ m.data_start + m.size + n = omega arith in ap (λ (x : ℕ). x ∷ map (λ e. e + n) l) sum ∙ sym (ap (map (λ e. e + n)) (cond_yes _ _ _ e)))
    (λ e. cond_no _ _ _ e ∙ sym (ap (map (λ e. e + n)) (cond_no _ _ _ e)))

ends_of_grown : (n : ℕ) (l : List OpenTag) → known_ends (map (size_grown n) l) ≡ map (λ e. e + n) (known_ends l)
unfolding known_ends
ends_of_grown n [] = refl
ends_of_grown n (m ∷ l) = ap (ends_with (size_grown n m)) (ends_of_grown n l) ∙ ends_with_grown n m (known_ends l)

ends_of_implied : (l : List PathPart) → known_ends (map implied l) ≡ []
unfolding known_ends
ends_of_implied [] = refl
ends_of_implied (Id x ∷ l) = ends_of_implied l
ends_of_implied (Global min max ∷ l) = ends_of_implied l

plus_none : (l : List ℕ) → l ≡ map (λ e. e + 0) l
plus_none [] = refl
plus_none (e ∷ l) = let z : e ≡ e + 0 = omega arith in rw (← z, ← plus_none l)

module _ (es ps : List ℕ) (checked : check_table es ps ≡ (Ok tt)) (cs : List Call) (l : Lent cs) where
  abbrev d : TagDecoder
  d = record_after es ps cs

  -- where nothing has settled nothing is open
  none_open : d.settled ≡ false → opens d ≡ []
  none_open u =
      let k = (tied_after es ps checked cs l).linked in
      let w = unsettled_waiting (table_of es ps) d _ _ _ k u in
      let z : d.open_count ≡ 0 = sym (stack_length (table_of es ps) d _ _ _ k w) ∙ ap length (k.unsettled u) in
      ap (λ (n : ℕ). take n d.«open») z

  -- no note changes a known end
  abbrev Same : Option Path → Type 0
  Same n = known_ends (opens (noted ps d n)) ≡ known_ends (opens d)

  step7_ends : (h : TagHeader) → Same (step7 (table_of es ps) d h)
  unfolding noted known_ends
  step7_ends h =
      pick Same (settles (table_of es ps) d h) (Some h.path) None
      (λ e.
      let ids = both (not d.settled && is_typed h.kind) (only_ids (path_of (table_of es ps) h.id)) e in
      let u = not-false d.settled (both (not d.settled) (is_typed h.kind) ids.left).left in
      ap known_ends (settled_opens d (parts_in (parts_of ps) h.path)) ∙ ends_of_implied (parts_in (parts_of ps) h.path) ∙ sym (ap known_ends (none_open u)))
      (λ e. refl)

  on_ends : (s : List ℕ) (n i : ℕ) → known_ends (opens (record_on ps (table_of es ps) d s n i)) ≡ known_ends (opens d)
  unfolding record_on with_notes noted
  on_ends s n i = note_holds (table_of es ps) d Same refl (λ r h q. step7_ends h) s n

  standing_ends : (s : List ℕ) (x : Standing) (i : ℕ) → let r = recovered_at x i (record_on ps (table_of es ps) d s (suc i) i) in
      known_ends (opens r.state) ≡ map (λ e. e + grown_by r.answer) (known_ends (opens d))
  standing_ends s Incomplete i = on_ends s (suc i) i ∙ plus_none _
  standing_ends s Valid i =
      let e = record_on ps (table_of es ps) d s (suc i) i in
      let k = on_tidy es ps (good_shape_lem es ps checked) d (tidy_after es ps cs l) s (suc i) i in
      ap known_ends (grown_opens e i (omega (arith, k.arrays.masters, k.few_open))) ∙ ends_of_grown i (opens e) ∙ ap (map (λ e. e + i)) (on_ends s (suc i) i)
  standing_ends s Other i = on_ends s (suc i) i ∙ plus_none _

  ends_grow : (s : List ℕ) (a : Result Search Refusal) (n : ℕ) → last_response es ps cs (recovering s) ≡ searched a n
      → known_ends (opens (record_after es ps (recovering s ∷ cs))) ≡ map (λ e. e + grown_by a) (known_ends (opens d))
  unfolding record_after
  ends_grow s a n q =
      let same : (try_recover es ps d s).answer ≡ a = cc in
      subst (λ (x : Result Search Refusal). known_ends (opens (try_recover es ps d s).state) ≡ map (λ e. e + grown_by x) (known_ends (opens d))) same
      (go (check_record10to12 es ps d (length s)) refl)
    where
      go : (c : Result ⊤ DecodeError) → check_record10to12 es ps d (length s) ≡ c
          → known_ends (opens (try_recover es ps d s).state) ≡ map (λ e. e + grown_by (try_recover es ps d s).answer) (known_ends (opens d))
      go (Ok _) e = let i = first_place ps (table_of es ps) d s in rw (recovery_is_first es ps d s e) (standing_ends s (stands_at ps (table_of es ps) d s i) i)
      go (Err x) e = unfold try_recover in rw e (plus_none _)

  -- ---- the first place

  passed_is_first : (s : List ℕ) (a : Result Search Refusal) (n : ℕ) → last_response es ps cs (recovering s) ≡ searched a n → search_refusal a ≡ 0
      → (passed_in a ≡ first_place ps (table_of es ps) d s) × (is_found a ≡ is_valid (stands_at ps (table_of es ps) d s (passed_in a)))
  passed_is_first s a n q z =
      let same : (try_recover es ps d s).answer ≡ a = cc in
      subst First same (go (check_record10to12 es ps d (length s)) refl (ap search_refusal same ∙ z))
    where
      First : Result Search Refusal → Type 0
      First x = (passed_in x ≡ first_place ps (table_of es ps) d s) × (is_found x ≡ is_valid (stands_at ps (table_of es ps) d s (passed_in x)))

      go : (c : Result ⊤ DecodeError) → check_record10to12 es ps d (length s) ≡ c → search_refusal (try_recover es ps d s).answer ≡ 0 → First (try_recover es ps d s).answer
      go (Ok _) e f =
          let k = recovery_tells_first es ps d s e in
          (k.passed, k.found ∙ ap (λ (i : ℕ). is_valid (stands_at ps (table_of es ps) d s i)) (sym k.passed))
      go (Err x) e f =
          let far = (only_far es ps d (length s) (good_shape_lem es ps checked) (tied_after es ps checked cs l).linked.good e).number in
          let z : search_refusal (try_recover es ps d s).answer ≡ error_number x = unfold try_recover in rw e in
          absurd (omega (arith, far, z, f))

-- ---- of every table that the check passes

-- what recovery skips is as stated
pub skipping : (es ps : List ℕ) → check_table es ps ≡ Ok tt → Skipping es ps
skipping es ps checked = record {
  position_is = λ cs. position_is es ps cs;
  at_most_position = λ cs. omega (arith, position_is es ps cs);
  record-position = λ cs l. (tied_after es ps checked cs l).linked.place;
  passed_is_taken = λ cs s a n q. taken_of cs s a n q;
  passed_is_first = λ cs s a n l. passed_is_first es ps checked cs l s a n;
  ends_grow = λ cs s a n l. ends_grow es ps checked cs l s a n;
}
  where
    taken_of : (cs : List Call) (s : List ℕ) (a : Result Search Refusal) (n : ℕ) → last_response es ps cs (recovering s) ≡ searched a n → (passed_in a ≡ n) × (passed_in a ≤ length s)
    taken_of cs s a n q =
        let same : (try_recover es ps (record_after es ps cs) s).answer ≡ a = cc in
        let took : (try_recover es ps (record_after es ps cs) s).taken ≡ n = cc in
        let k = recovery_passes_over es ps (record_after es ps cs) s in
        (ap passed_in (sym same) ∙ k.taken ∙ took, subst (λ (x : Result Search Refusal). passed_in x ≤ length s) same k.within)

-- so of document 01's bench table
pub bench_skipping : Skipping bench_entries bench_parts
bench_skipping = skipping bench_entries bench_parts checks.bench_passes
