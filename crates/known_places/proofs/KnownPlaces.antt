-- Known sizes mean known places, over any calls on a fresh decoder. The Starts that are open and the implied parents
-- that are left are the masters of the record (`stack_is`), which Placed.antt speaks of. Assumes nothing.
use Prim.Native.Nat.{ℕ, ◌+◌, ◌≤◌}
use mathlib.Core.Path.{◌≡◌, refl, sym, ap, ◌∙◌, subst}
use mathlib.Core.Bool.{Bool, true, false, not, ◌&&◌, ◌||◌, false≢true}
use mathlib.Core.List.{List, [], ◌∷◌, ◌++◌, map, reverse, reverse-cons, reverse-reverse, map-map, append-nil, append_assoc, Memᴰ}
use native.Mathlib.Omega.{arith}
use lib.ListN.{length, length-append, length-map, length-reverse}
use Rattle.basics.specs.Lists.{every}
use Rattle.basics.proofs.Bools.{absurd_eq, both, and_both, or_some, not-false}
use Rattle.basics.proofs.Every.{every_member, every_other, every_reversed}
use Rattle.basics.proofs.Maps.{map_reversed, every_mapped}
use Rattle.tools.specs.Bytes.{Octets}
use Rattle.table.specs.Check.{check_table, only_ids}
use Rattle.table.specs.Table.{Entry, table_of, data_type_of, path_of, path_ids, is_typed}
use Rattle.table.specs.declared.types.PathPart.{PathPart}
use Rattle.table.specs.declared.types.PathPart.TheVariants.{Id, Global}
use Rattle.table.proofs.Consequences.{path_masters}
use Rattle.table.proofs.Passed.{passed_gives}
use Rattle.table.proofs.Shaped as shaped
use Rattle.spec_util.specs.Ended.{is_ended_by, is_ended_in}
use Rattle.spec_util.specs.Rfc8794.{stays_open, EndsUnknownSize, untyped_at_root}
use Rattle.spec_util.specs.Walk.{unknown_and_ended}
use Rattle.spec_util.specs.declared.types.OpenTag.{OpenTag}
use Rattle.spec_util.proofs.EndsByRfc.{ends_agree, ends_no_parent}
use Rattle.decoder_rules.specs.Record.{opens, end_of, with_settings}
use Rattle.decoder_rules.specs.Deciding.{decide}
use Rattle.decoder_rules.specs.OneCall.{noted}
use Rattle.decoder_rules.specs.Settings.{limited_to}
use Rattle.decoder_rules.specs.declared.types.Answer.TheVariants as answer
use Rattle.decoder_rules.specs.declared.types.Event.{Event}
use Rattle.decoder_rules.specs.declared.types.Event.TheVariants as event
use Rattle.decoder_rules.specs.declared.types.Settings.{Settings}
use Rattle.decoder_rules.specs.declared.types.TagDecoder.{TagDecoder}
use Rattle.decoder_rules.proofs.ModeKept.{decode_settings, eof_settings}
use Rattle.decoder_rules.proofs.MoveEffects.{opens-length}
use Rattle.decoder_rules.proofs.MoveLaws.{noted_settings}
use Rattle.guarantees.specs.Calls.{Call, decoding, ending, recovering, allow, strictly, limit, lent, Response, answered, searched, silent, response_to, next, Step, record_after, history, Lent}
use Rattle.guarantees.specs.CutRecords.{is_known_end, every_known}
use Rattle.guarantees.specs.History.{Started, starts_open, left_by, parents_left}
use Rattle.guarantees.specs.Promises.{event_id, element_offset, open_at, left_at, position_at}
use Rattle.guarantees.specs.Settling.{is_strict_after, seen_parents}
use Rattle.guarantees.specs.UnknownEnds.{standing_at}
use Rattle.guarantees.proofs.AnyCalls.{good_shape_lem, tied_after, parents_after, mode_after_lem}
use Rattle.guarantees.proofs.Decided.{NoteFacts, AllFacts, decide_facts}
use Rattle.guarantees.proofs.Ends.{known_end}
use Rattle.guarantees.proofs.Notes.{note_of}
use Rattle.guarantees.proofs.Recovery.{recover_keeps}
use Rattle.guarantees.proofs.Steps.{stack_is, noted_tied}
use Rattle.guarantees.proofs.Tied.{as_started, parent_of, Tied, both_empty}
use Rattle.guarantees.proofs.TopLevel.{known_open, known_before}
use Rattle.known_places.specs.KnownPlaces.{hierarchy_after, hierarchy_test_on, hierarchy_test_never_off, ever_implied, place_of, stays_before, OfPath, AsAsked, KnownHere, KnownPlaces, StrictPlaces}
use Rattle.known_places.proofs.Placed.{Handed, decode_handed, eof_handed, strict_ids, open_ids_lem}
use Rattle.std.specs.Prelude.{Err, None, Ok, Option, Some}

-- ---- masters and their Starts

-- a path of IDs is the parts of its IDs
pub parts_of_ids : (path : List PathPart) → only_ids path ≡ true → map (λ (x : ℕ). Id x) (path_ids path) ≡ path
unfolding only_ids every path_ids
parts_of_ids [] o = refl
parts_of_ids (Id x ∷ path) o = ap (λ (l : List PathPart). Id x ∷ l) (parts_of_ids path o)
parts_of_ids (Global least most ∷ path) o = absurd (false≢true o)

-- the place of masters of the record is their IDs
place_of_masters : (l : List OpenTag) → place_of (map as_started (reverse l)) ≡ map (λ (x : ℕ). Id x) (map (λ (m : OpenTag). m.id) l)
place_of_masters l =
    map_reversed (λ (m : Started). Id m.id) (map as_started (reverse l))
    ∙ ap reverse (map-map (λ (m : Started). Id m.id) as_started (reverse l))
    ∙ ap reverse (map_reversed (λ (m : OpenTag). Id m.id) l)
    ∙ reverse-reverse (map (λ (m : OpenTag). Id m.id) l)
    ∙ sym (map-map (λ (x : ℕ). Id x) (λ (m : OpenTag). m.id) l)

-- a master stays open before an ID where its Start does
stays_as_started : (t : List Entry) (x : ℕ) (m : OpenTag) → stays_before t x (as_started m) ≡ true → stays_open t x m ≡ true
unfolding stays_open unknown_and_ended is_ended_in
stays_as_started t x m e = go m.known (is_ended_by t m.id x) e
  where
    go : (known ended : Bool) → (is_known_end (known_end known (end_of m)) || not ended) ≡ true → not (not known && ended) ≡ true
    go true ended e = refl
    go false ended e = e

masters_stay : (t : List Entry) (x : ℕ) (l : List OpenTag) → every (stays_before t x) (map as_started (reverse l)) ≡ true → every (stays_open t x) l ≡ true
masters_stay t x l e =
    let r : every (λ (m : OpenTag). stays_before t x (as_started m)) (reverse l) ≡ true = sym (every_mapped as_started (stays_before t x) (λ m. stays_before t x (as_started m)) (λ m. refl) (reverse l)) ∙ e in
    let k : every (stays_open t x) (reverse l) ≡ true = every_other (λ m. stays_before t x (as_started m)) (stays_open t x) (stays_as_started t x) (reverse l) r in
    subst (λ (k : List OpenTag). every (stays_open t x) k ≡ true) (reverse-reverse l) (every_reversed (stays_open t x) (reverse l) k)

-- ---- an element ends none of the masters on its path

-- what is in a list is in the list turned round
in_reversed : {A : Type 0} {a : A} {l : List A} → Memᴰ a l → Memᴰ a (reverse l)
in_reversed {a} (mathlib.Core.List.Memᴰ.head {x} {xs} q) = subst (Memᴰ a) (sym (reverse-cons x xs)) (mathlib.Core.List.Memᴰ.append_right (reverse xs) (mathlib.Core.List.Memᴰ.head q))
in_reversed {a} (mathlib.Core.List.Memᴰ.tail {x} {xs} m) = subst (Memᴰ a) (sym (reverse-cons x xs)) (mathlib.Core.List.Memᴰ.append_left (x ∷ []) (in_reversed m))

module _ (es ps : List ℕ) (checked : check_table es ps ≡ (Ok tt)) (x : ℕ) (typed : is_typed (data_type_of (table_of es ps) x) ≡ true)
    (ids : only_ids (path_of (table_of es ps) x) ≡ true) where
  abbrev the_table : List Entry
  the_table = table_of es ps

  -- these masters are the path after its front, the innermost last
  rest_stays : (front : List PathPart) (l : List Started) → path_of the_table x ≡ front ++ map (λ (m : Started). Id m.id) l → every (stays_before the_table x) l ≡ true
  unfolding every
  rest_stays front [] q = refl
  rest_stays front (m ∷ l) q =
      let later : List PathPart = map (λ (m : Started). Id m.id) l in
      let none : is_ended_by the_table m.id x ≡ false = ends_no_parent es ps checked x typed ids front m.id later q in
      and_both (ap (λ (b : Bool). is_known_end m.end || not b) none ∙ sym (or_some (is_known_end m.end)))
      (rest_stays (front ++ (Id m.id ∷ [])) l (q ∙ sym (append_assoc front (Id m.id ∷ []) later)))

  path_stays : (l : List Started) → place_of l ≡ path_of the_table x → every (stays_before the_table x) l ≡ true
  path_stays l q =
      subst (λ (k : List Started). every (stays_before the_table x) k ≡ true) (reverse-reverse l) (every_reversed (stays_before the_table x) (reverse l) (rest_stays [] (reverse l) (sym q)))

  -- so none of Unknown size is among them that section 6.2 ends
  none_ended : (l : List Started) → place_of l ≡ path_of the_table x → (m : Started) → Memᴰ m l → m.end ≡ None → EndsUnknownSize the_table m.id x → ⊥
  unfolding untyped_at_root
  none_ended l q m i none ends =
      let parent : Memᴰ (Id m.id) (path_of the_table x) = subst (Memᴰ (Id m.id)) q (mathlib.Core.List.Memᴰ.map (λ (m : Started). Id m.id) (in_reversed i)) in
      let master = path_masters the_table (passed_gives es ps checked) x m.id parent in
      let ended : is_ended_by the_table m.id x ≡ true = (ends_agree es ps checked m.id x master (rw typed)).1 ends in
      let stays : stays_before the_table x m ≡ true = every_member (stays_before the_table x) (path_stays l q) i in
      false≢true (sym (ap (λ (g : Option ℕ). is_known_end g || not (is_ended_by the_table m.id x)) none ∙ ap not ended) ∙ stays)

-- ---- the hierarchy test

module _ (es ps : List ℕ) where
  limit_keeps : (d : TagDecoder) (n : Option ℕ) → (limited_to d n).settings.allow_hierarchy ≡ d.settings.allow_hierarchy
  unfolding with_settings
  limit_keeps d None = refl
  limit_keeps d (Some n) = refl

  hierarchy_next : (d : TagDecoder) (c : Call) → not (next es ps d c).settings.allow_hierarchy ≡ hierarchy_after c (not d.settings.allow_hierarchy)
  unfolding with_settings
  hierarchy_next d (decoding s) = ap (λ (x : Settings). not x.allow_hierarchy) (decode_settings es ps d s)
  hierarchy_next d (ending s) = ap (λ (x : Settings). not x.allow_hierarchy) (eof_settings es ps d s)
  hierarchy_next d (recovering s) = ap (λ (x : Settings). not x.allow_hierarchy) (recover_keeps es ps d s).settings
  hierarchy_next d (allow ids hierarchy oversized) = refl
  hierarchy_next d (strictly b) = refl
  hierarchy_next d (limit n) = ap not (limit_keeps d n)

  -- it is on in the record where the calls say so
  hierarchy_after_lem : (cs : List Call) → not (record_after es ps cs).settings.allow_hierarchy ≡ hierarchy_test_on cs
  unfolding record_after hierarchy_test_on
  hierarchy_after_lem [] = refl
  hierarchy_after_lem (c ∷ cs) = hierarchy_next (record_after es ps cs) c ∙ ap (hierarchy_after c) (hierarchy_after_lem cs)

-- it is on at a call, where it was on at every one
never_off_on : (cs : List Call) → hierarchy_test_never_off cs ≡ true → hierarchy_test_on cs ≡ true
unfolding hierarchy_test_never_off hierarchy_test_on
never_off_on [] h = refl
never_off_on (c ∷ cs) h = let b = both (hierarchy_after c true) (hierarchy_test_never_off cs) h in ap (hierarchy_after c) (never_off_on cs b.right) ∙ b.left

-- what is lent at the last call, and at those before it, are octets
octets_of : (cs : List Call) (c : Call) → Lent (c ∷ cs) → Octets (lent c) × Lent cs
unfolding Lent
octets_of cs c l = l

-- ---- a call that hands out an element, after the calls cs

module _ (es ps : List ℕ) (checked : check_table es ps ≡ (Ok tt)) (cs : List Call) (before : Lent cs) where
  abbrev t : List Entry
  t = table_of es ps

  -- the record before the call
  abbrev now : TagDecoder
  now = record_after es ps cs

  tied : Tied t now (open_at es ps cs) (parents_left ps t (history es ps cs)) (position_at es ps cs)
  tied = tied_after es ps checked cs before

  facts : (s : List ℕ) → Octets s → AllFacts ps t now s (decide es ps now s)
  facts s byte =
      decide_facts es ps (good_shape_lem es ps checked) (passed_gives es ps checked) now s byte tied.linked.masters
      (opens-length now tied.linked.arrays tied.linked.good.open_count) tied.linked.good

  -- d is the record with the note of the call c, which hands out an element of the ID x: its masters are those that
  -- stand
  record There (c : Call) (x : ℕ) : Type 0 where
    d : TagDecoder
    settings : d.settings ≡ now.settings
    handed : Handed t d (lent c) x
    count : length (opens d) ≡ d.open_count
    stands : standing_at es ps cs c ≡ map as_started (reverse (opens d))

  there_by : (c : Call) (x : ℕ) → Octets (lent c) → NoteFacts ps t now (note_of es ps now c) → Handed t (noted ps now (note_of es ps now c)) (lent c) x → There c x
  there_by c x byte n h =
      let d = noted ps now (note_of es ps now c) in
      let k : Tied t d (open_at es ps cs) (left_at es ps cs c) (position_at es ps cs) =
      subst (λ (l : List ℕ). Tied t d (open_at es ps cs) (l ++ parents_left ps t (history es ps cs)) (position_at es ps cs)) (parents_after es ps checked cs before c byte)
      (noted_tied ps t now _ _ _ (note_of es ps now c) n tied) in
      record {
        d = d;
        settings = noted_settings ps now (note_of es ps now c);
        handed = h;
        count = opens-length d k.linked.arrays k.linked.good.open_count;
        stands = stack_is t d _ _ _ k.linked h.none_waiting;
      }

  there : (c : Call) (e : Event) (o n : ℕ) → element_offset e ≡ Some o → Octets (lent c) → response_to es ps now c ≡ answered (Ok (answer.Event e)) n → There c (event_id e)
  there (decoding s) e o n i byte q =
      let a = facts s byte in
      there_by (decoding s) (event_id e) byte a.note (decode_handed es ps now s a.action e o i (cc))
  there (ending s) e o n i byte q =
      let a = facts s byte in
      there_by (ending s) (event_id e) byte a.note (eof_handed es ps now s a.action e o i (cc))
  there (recovering s) e o n i byte q = let z : ◌≡◌ {A = ℕ} 0 1 = cc in absurd_eq z
  there (allow ids hierarchy oversized) e o n i byte q = let z : ◌≡◌ {A = ℕ} 0 1 = cc in absurd_eq z
  there (strictly b) e o n i byte q = let z : ◌≡◌ {A = ℕ} 0 1 = cc in absurd_eq z
  there (limit m) e o n i byte q = let z : ◌≡◌ {A = ℕ} 0 1 = cc in absurd_eq z

module _ (es ps : List ℕ) (checked : check_table es ps ≡ (Ok tt)) (cs : List Call) (c : Call) (octets : Lent (c ∷ cs)) (on : hierarchy_test_on cs ≡ true)
    (e : Event) (of : OfPath es ps cs c e) where
  abbrev x : ℕ
  x = event_id e

  k : There es ps checked cs (octets_of cs c octets).1 c x
  k = there es ps checked cs (octets_of cs c octets).1 c e of.offset of.handed_out.0 of.element (octets_of cs c octets).0 of.handed_out.1

  test_on : k.d.settings.allow_hierarchy ≡ false
  test_on = ap (λ (s : Settings). s.allow_hierarchy) k.settings ∙ not-false _ (hierarchy_after_lem es ps cs ∙ on)

  by_ids : map (λ (m : OpenTag). m.id) (opens k.d) ≡ path_ids (path_of (table_of es ps) x) → place_of (standing_at es ps cs c) ≡ path_of (table_of es ps) x
  by_ids q =
      ap place_of k.stands ∙ place_of_masters (opens k.d) ∙ ap (map (λ (y : ℕ). Id y)) q ∙ parts_of_ids (path_of (table_of es ps) x) of.ids

  -- where each that stands stays open before the element, they are its path
  standing_place : every (stays_before (table_of es ps) x) (standing_at es ps cs c) ≡ true → place_of (standing_at es ps cs c) ≡ path_of (table_of es ps) x
  standing_place stay =
      by_ids
      (open_ids_lem (table_of es ps) k.d (lent c) x k.handed of.typed of.ids test_on k.count
      (masters_stay (table_of es ps) x (opens k.d) (subst (λ (l : List Started). every (stays_before (table_of es ps) x) l ≡ true) k.stands stay)))

  -- strictly they always are
  strict_standing : is_strict_after (history es ps cs) ≡ true → place_of (standing_at es ps cs c) ≡ path_of (table_of es ps) x
  strict_standing strict =
      let b : k.d.settings.strict ≡ true = ap (λ (s : Settings). s.strict) k.settings ∙ mode_after_lem es ps checked cs (octets_of cs c octets).1 ∙ strict in
      by_ids (strict_ids (table_of es ps) k.d (lent c) x k.handed of.typed of.ids test_on k.count b)

  -- so section 6.2 ends none of those that stand
  ended_first : is_strict_after (history es ps cs) ≡ true → (m : Started) → Memᴰ m (standing_at es ps cs c) → m.end ≡ None → EndsUnknownSize (table_of es ps) m.id x → ⊥
  ended_first strict = none_ended es ps checked x of.typed of.ids (standing_at es ps cs c) (strict_standing strict)

  -- where no implied parent is left, those that stand are the Starts that are open
  none_but_starts : left_at es ps cs c ≡ [] → standing_at es ps cs c ≡ open_at es ps cs
  none_but_starts none = ap (λ (l : List ℕ). open_at es ps cs ++ map parent_of l) none ∙ append-nil (open_at es ps cs)

  open_place : left_at es ps cs c ≡ [] → place_of (standing_at es ps cs c) ≡ path_of (table_of es ps) x → place_of (open_at es ps cs) ≡ path_of (table_of es ps) x
  open_place none p = ap place_of (sym (none_but_starts none)) ∙ p

  -- a path has at most 16 parts
  few : (l : List Started) → place_of l ≡ path_of (table_of es ps) x → length l ≤ 16
  few l p =
      let n : length (place_of l) ≡ length l = simp (length-map, length-reverse) in
      omega (arith, n, ap length p, shaped.at_most_16 es ps (good_shape_lem es ps checked) x)

-- ---- what is asked gives what is needed

-- where none is left before, none is after
none_left : (x : Response) (starts : List Started) → left_by x starts [] ≡ []
none_left (answered (Ok (answer.Event (event.Start x o))) n) starts = refl
none_left (answered (Ok (answer.Event (event.End end))) n) [] = refl
none_left (answered (Ok (answer.Event (event.End end))) n) (m ∷ starts) = refl
none_left (answered (Ok (answer.Event (event.Data x o v))) n) starts = refl
none_left (answered (Ok (answer.NeedMore missing)) n) starts = refl
none_left (answered (Ok answer.Finished) n) starts = refl
none_left (answered (Err r) n) starts = refl
none_left (searched a n) starts = refl
none_left silent starts = refl

-- so none is where none ever was
pub no_parents : (ps : List ℕ) (t : List Entry) (h : List Step) → ever_implied ps t h ≡ [] → parents_left ps t h ≡ []
unfolding ever_implied parents_left
no_parents ps t [] e = refl
no_parents ps t (s ∷ h) e =
    let b = both_empty (seen_parents ps t h (lent s.call) s.told) (ever_implied ps t h) e in
    rw (b.0, no_parents ps t h b.1) (none_left s.told (starts_open t h))

module _ (es ps : List ℕ) where
  known_so_far : (cs : List Call) (c : Call) → Lent (c ∷ cs) → hierarchy_test_on cs ≡ true → ever_implied ps (table_of es ps) (history es ps (c ∷ cs)) ≡ []
      → every_known (table_of es ps) (history es ps cs) ≡ true → KnownHere es ps cs c
  unfolding ever_implied history
  known_so_far cs c l on none known =
      let t = table_of es ps in
      let b = both_empty (seen_parents ps t (history es ps cs) (lent c) (response_to es ps (record_after es ps cs) c)) (ever_implied ps t (history es ps cs)) none in
      record { octets = l; test_on = on; none_left = rw (b.0, no_parents ps t (history es ps cs) b.1); known = known_open t (history es ps cs) known }

  asked_known : (cs : List Call) (c : Call) → AsAsked es ps cs c → KnownHere es ps cs c
  unfolding hierarchy_test_never_off
  asked_known cs c a =
      known_so_far cs c a.octets (never_off_on cs (both (hierarchy_after c true) (hierarchy_test_never_off cs) a.test_on).right) a.none_implied
      (known_before es ps cs c a.none_unknown)

-- ==== known sizes mean known places

module _ (es ps : List ℕ) (checked : check_table es ps ≡ (Ok tt)) (cs : List Call) (c : Call) (e : Event) (of : OfPath es ps cs c e) where
  known_place : KnownHere es ps cs c → place_of (open_at es ps cs) ≡ path_of (table_of es ps) (event_id e)
  known_place k =
      let t = table_of es ps in
      let stay : every (stays_before t (event_id e)) (open_at es ps cs) ≡ true =
      every_other (λ (m : Started). is_known_end m.end) (stays_before t (event_id e)) (λ m q. rw q) (open_at es ps cs) k.known in
      let all : every (stays_before t (event_id e)) (standing_at es ps cs c) ≡ true =
      subst (λ (l : List Started). every (stays_before t (event_id e)) l ≡ true) (sym (none_but_starts es ps checked cs c k.octets k.test_on e of k.none_left)) stay in
      open_place es ps checked cs c k.octets k.test_on e of k.none_left (standing_place es ps checked cs c k.octets k.test_on e of all)

  known_few : KnownHere es ps cs c → length (open_at es ps cs) ≤ 16
  known_few k = few es ps checked cs c k.octets k.test_on e of (open_at es ps cs) (known_place k)

-- known sizes mean known places, of every table that the check passes
pub known_places : (es ps : List ℕ) → check_table es ps ≡ Ok tt → KnownPlaces es ps
known_places es ps checked = record {
  place = λ cs c a e of. known_place es ps checked cs c e of (asked_known es ps cs c a);
  at_most_16 = λ cs c a e of. known_few es ps checked cs c e of (asked_known es ps cs c a);
  as_asked = asked_known es ps;
  known_before = known_so_far es ps;
  place_here = λ cs c k e of. known_place es ps checked cs c e of k;
  at_most_16_here = λ cs c k e of. known_few es ps checked cs c e of k;
  place_standing = λ cs c l on e of. standing_place es ps checked cs c l on e of;
  standing-stays = λ cs c e of. path_stays es ps checked (event_id e) of.typed of.ids (standing_at es ps cs c);
}

-- and strictly places are known whatever the sizes
pub strict_places : (es ps : List ℕ) → check_table es ps ≡ Ok tt → StrictPlaces es ps
strict_places es ps checked = record {
  strict_standing = λ cs c l strict on e of. strict_standing es ps checked cs c l on e of strict;
  strict_ended_first = λ cs c l strict on e of. ended_first es ps checked cs c l on e of strict;
  strict_place = λ cs c l strict on none e of. open_place es ps checked cs c l on e of none (strict_standing es ps checked cs c l on e of strict);
  strict_at_most_16 = λ cs c l strict on e of.
      let n : length (standing_at es ps cs c) ≡ length (open_at es ps cs) + length (left_at es ps cs c) = simp (length-append, length-map) in
      omega (arith, n, few es ps checked cs c l on e of (standing_at es ps cs c) (strict_standing es ps checked cs c l on e of strict));
}
