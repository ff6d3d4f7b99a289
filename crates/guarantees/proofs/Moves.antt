-- Each move of the record keeps what ties it to what a caller can tell. Assumes nothing.
use Prim.Native.Nat.{ℕ, suc, ◌+◌, ◌≤◌, ◌<◌}
use mathlib.Core.Path.{◌≡◌, refl, sym, ap, ◌∙◌, subst}
use mathlib.Core.Bool.{Bool, true, false, true≢false}
use mathlib.Core.List.{List, [], ◌∷◌, ◌++◌, map, reverse, append-nil, map-append, map-map, reverse-append}
use native.Mathlib.Omega.{arith}
use lib.ListN.{length, get_or, take, drop, length-map, length-reverse, length-drop, take-append-drop, get_or-map}
use lib.Seq.{get_or-take, drop-cons}
use Rattle.basics.specs.Lists.{every}
use Rattle.table.specs.Table.{Entry, data_type_of, is_master}
use Rattle.table.specs.declared.types.PathPart.{PathPart}
use Rattle.table.specs.declared.types.PathPart.TheVariants.{Id, Global}
use Rattle.spec_util.specs.declared.types.OpenTag.{OpenTag}
use Rattle.spec_util.specs.Walk.{most_open, no_tag}
use Rattle.decoder_rules.specs.Record.{farthest, opens, end_of, end_for, no_end, implied, with_settings, with_open, with_waiting, with_notes, at_position, settled_to, with_one_more, counted, opened, ends_from, closed_to, handed_out, size_grown, with_sizes_grown, waits}
use Rattle.decoder_rules.specs.OneCall.{good_open}
use Rattle.decoder_rules.specs.declared.types.Settings.{Settings}
use Rattle.decoder_rules.specs.declared.types.WaitingEnd.{WaitingEnd}
use Rattle.decoder_rules.specs.declared.types.TagDecoder.{TagDecoder}
use Rattle.decoder_rules.proofs.GoodState.{GoodState}
use Rattle.basics.proofs.Every.{every_append, every_take, every_map, every_reversed}
use Rattle.basics.proofs.Bools.{and_both, both, pick}
use Rattle.basics.proofs.Maps.{map_reversed}
use Rattle.decoder_rules.proofs.MoveEffects.{opens-length, waits-length, with_notes_arrays, settled_opens, settled_arrays, opened-opens, opened_arrays, closed_opens, closed_waits, closed_arrays, handed_waits, handed_arrays, grown_opens, grown_arrays}
use Rattle.decoder_rules.proofs.Counting.{counted-map, counted_every, counted_arrays, counted_good}
use Rattle.decoder_rules.proofs.MovesKeepGoodState.{with_notes_good, settled_good, opened_good, closed_good, handed_good}
use Rattle.guarantees.specs.History.{Started, later_end, later, left_by_end}
use Rattle.guarantees.specs.Promises.{EndMatches}
use Rattle.guarantees.proofs.Ends.{known_end}
use Rattle.decoder_rules.proofs.Exits.{all_masters}
use Rattle.guarantees.proofs.Tied.{as_started, parent_of, as_end, named, stack, all_started, Linked, map_same, popped, none_open, both_empty}
use Rattle.std.specs.Prelude.{Option, Some}

-- ---- settings, and the position

module _ (t : List Entry) (d : TagDecoder) (starts : List Started) (left : List ℕ) (p : ℕ) (k : Linked t d starts left p) where
  -- other settings
  pub settings_linked : (s : Settings) → Linked t (with_settings d s) starts left p
  unfolding with_settings
  settings_linked s = record {
    arrays = record { masters = k.arrays.masters; ends = k.arrays.ends };
    good = record { open_count = k.good.open_count; waiting_count = k.good.waiting_count; place = k.good.place; masters = k.good.masters; ends = k.good.ends };
    masters = k.masters;
    ended = k.ended;
    waiting = k.waiting;
    parts = k.parts;
    kinds = k.kinds;
    few = k.few;
    place = k.place;
    unsettled = k.unsettled;
  }

  -- a position further on
  pub moved_linked : (q : ℕ) (f : Bool) → d.position ≤ q → q ≤ farthest → Linked t (with_notes d q d.settled f) starts left q
  unfolding with_notes
  moved_linked q f h l = record {
    arrays = with_notes_arrays d k.arrays q d.settled f;
    good = with_notes_good d k.good q d.settled f h l;
    masters = k.masters;
    ended = k.ended;
    waiting = k.waiting;
    parts = k.parts;
    kinds = k.kinds;
    few = k.few;
    place = refl;
    unsettled = k.unsettled;
  }

-- ---- lists

map_dropped : {A B : Type 0} (f : A → B) (l : List A) → drop 1 (map f l) ≡ map f (drop 1 l)
map_dropped f [] = refl
map_dropped f (a ∷ l) = refl

no_ends : (l : List Started) → map as_end l ≡ [] → l ≡ []
no_ends [] e = refl
no_ends (m ∷ l) e = let z : ◌≡◌ {A = ℕ} 0 1 = cc in absurd (omega arith)

-- nothing waits
pub none_ended : {t : List Entry} {d : TagDecoder} {starts : List Started} {left : List ℕ} {p : ℕ} (k : Linked t d starts left p) → d.waiting_count ≡ 0 → k.ended ≡ []
none_ended {d = d} k e = no_ends k.ended (k.waiting ∙ ap (λ (n : ℕ). map named (take n d.waiting)) e)

-- ---- a Start or a Data counts

-- an element of at least one byte is taken, and counts in the innermost open master
pub counted_linked : (t : List Entry) (d : TagDecoder) (starts : List Started) (left : List ℕ) (p : ℕ) → Linked t d starts left p → (q : ℕ) → d.position < q → q ≤ farthest
    → Linked t (counted (at_position d q)) starts left q
unfolding counted with_open with_notes with_one_more
counted_linked t d starts left p k q h l =
    let e = at_position d q in
    let arrays = with_notes_arrays d k.arrays q d.settled d.finished in
    let same : map as_started (reverse (opens (counted e))) ≡ map as_started (reverse (opens d)) =
    map_reversed as_started (opens (counted e)) ∙ ap reverse (counted-map e arrays k.good.open_count as_started (λ m. refl)) ∙ sym (map_reversed as_started (opens d)) in
    record {
      arrays = counted_arrays e arrays;
      good = counted_good d k.good k.arrays q h l;
      masters = counted_every e arrays k.good.open_count _ _ (λ m f. f) (λ m f. f) k.masters;
      ended = k.ended;
      waiting = k.waiting;
      parts = k.parts ∙ ap (λ (r : List Started). k.ended ++ r) (sym same);
      kinds = k.kinds;
      few = k.few;
      place = refl;
      unsettled = k.unsettled;
    }

-- ---- settling

as_parent : (part : PathPart) → as_started (implied part) ≡ parent_of (implied part).id
as_parent (Id x) = refl
as_parent (Global least most) = refl

as_parents : (path : List PathPart) → map parent_of (map (λ (m : OpenTag). m.id) (reverse (map implied path))) ≡ map as_started (reverse (map implied path))
as_parents path =
    let l = map implied path in
    map-map parent_of (λ (m : OpenTag). m.id) (reverse l)
    ∙ map_reversed (λ (m : OpenTag). parent_of m.id) l
    ∙ ap reverse (map-map (λ (m : OpenTag). parent_of m.id) implied path ∙ sym (map_same (λ (a : PathPart). as_started (implied a)) (λ (a : PathPart). parent_of (implied a).id) as_parent path) ∙ sym (map-map as_started implied path))
    ∙ sym (map_reversed as_started l)

settled_parts : (starts : List Started) (left : List ℕ) (ended : List Started) (path : List PathPart) → starts ≡ [] → left ≡ [] → ended ≡ []
    → stack starts (map (λ (m : OpenTag). m.id) (reverse (map implied path)) ++ left) ≡ ended ++ map as_started (reverse (map implied path))
settled_parts starts left ended path p q r = rw (p, q, r, append-nil) (as_parents path)

module _ (t : List Entry) (d : TagDecoder) (starts : List Started) (left : List ℕ) (p : ℕ) (k : Linked t d starts left p) where
  -- the record settles: the parents of the path are implied
  pub settled_linked : (path : List PathPart) → d.settled ≡ false → all_masters t (map implied path) ≡ true → length path ≤ most_open
      → Linked t (settled_to d path) starts (map (λ (m : OpenTag). m.id) (reverse (map implied path)) ++ left) p
  unfolding settled_to with_open with_notes every
  settled_linked path u m h =
      let none = none_open starts left (k.unsettled u) in
      let free : k.ended ≡ [] = (both_empty k.ended _ (sym k.parts ∙ k.unsettled u)).0 in
      let parts = settled_parts starts left k.ended path none.0 none.1 free in
      record {
        arrays = settled_arrays d k.arrays path h;
        good = settled_good d k.good path h;
        masters = rw (settled_opens d path) m;
        ended = k.ended;
        waiting = k.waiting;
        parts = rw (settled_opens d path) parts;
        kinds = rw (parts, free) (every_map (λ (o : OpenTag). is_master (data_type_of t o.id)) as_started (λ (o : Started). is_master (data_type_of t o.id)) (λ a e. e) (reverse (map implied path)) (every_reversed _ (map implied path) m));
        few = rw (parts, free) (simp (length-map, length-reverse) h);
        place = k.place;
        unsettled = λ e. absurd (true≢false e);
      }

  -- ---- a Start

  -- a master starts
  pub opened_linked : (m : OpenTag) → d.waiting_count ≡ 0 → d.settled ≡ true → d.open_count < most_open → good_open d.position m ≡ true
      → is_master (data_type_of t m.id) ≡ true → Linked t (opened d m) (as_started m ∷ starts) left p
  unfolding opened with_open every
  opened_linked m w s h g e =
      let l : d.open_count < length d.«open» = omega (arith, k.arrays.masters) in
      let free = none_ended k w in
      let is : stack starts left ≡ map as_started (reverse (opens d)) = k.parts ∙ ap (λ (l : List Started). l ++ map as_started (reverse (opens d))) free in
      let n : length (opens d) ≡ d.open_count = opens-length d k.arrays (omega arith) in
      record {
        arrays = opened_arrays d k.arrays m;
        good = opened_good d k.good k.arrays m h g;
        masters = rw (opened-opens d m l) (every_append _ (opens d) (m ∷ []) k.masters (and_both e refl));
        ended = k.ended;
        waiting = k.waiting;
        parts = rw (opened-opens d m l, reverse-append (opens d) (m ∷ []), free) (ap (λ (l : List Started). as_started m ∷ l) is);
        kinds = and_both e k.kinds;
        few = rw is (simp (length-map, length-reverse) (omega arith));
        place = k.place;
        unsettled = λ u. absurd (true≢false (sym s ∙ u));
      }

-- ---- an End

-- this End is handed out, and e is the record after it
pub record Popped (t : List Entry) (e : TagDecoder) (starts : List Started) (left : List ℕ) (p : ℕ) (end : WaitingEnd) : Type 0 where
  pub matches : EndMatches starts left end
  pub master : is_master (data_type_of t end.id) ≡ true
  pub linked : Linked t e (drop 1 starts) (left_by_end starts left) p

cons_settled : {m : Started} {rest l : List Started} → l ≡ m ∷ rest → l ≡ [] → ⊥
cons_settled e f = let z : ◌≡◌ {A = ℕ} 0 1 = cc in omega arith

module _ (t : List Entry) (d : TagDecoder) (starts : List Started) (left : List ℕ) (p : ℕ) (k : Linked t d starts left p) where
  -- what of the invariant is the same after any End
  module _ (m : Started) (rest : List Started) (e : stack starts left ≡ m ∷ rest) where
    left_is : stack (drop 1 starts) (left_by_end starts left) ≡ rest
    left_is = (popped starts left m rest (record { id = m.id; offset = m.offset; count = 0 }) e refl).1

    kinds_left : all_started t (stack (drop 1 starts) (left_by_end starts left)) ≡ true
    unfolding every
    kinds_left = rw left_is (both (is_master (data_type_of t m.id)) (all_started t rest) (rw e at k.kinds)).right

    kind_first : is_master (data_type_of t m.id) ≡ true
    unfolding every
    kind_first = (both (is_master (data_type_of t m.id)) (all_started t rest) (rw e at k.kinds)).left

    few_left : length (stack (drop 1 starts) (left_by_end starts left)) ≤ most_open
    few_left = rw left_is (let h : suc (length rest) ≤ most_open = rw e at k.few in omega arith)

  handed_go : (ended : List Started) → map as_end ended ≡ map named (waits d) → stack starts left ≡ ended ++ map as_started (reverse (opens d)) → 0 < d.waiting_count
      → Popped t (handed_out d) starts left p (get_or d.waiting 0 no_end)
  unfolding handed_out with_waiting
  handed_go [] w e h =
      let n : length (waits d) ≡ d.waiting_count = waits-length d k.arrays k.good.waiting_count in
      let z : 0 ≡ length (waits d) = ap length w ∙ length-map (waits d) named in
      absurd (omega arith)
  handed_go (m ∷ rest) w e h =
      let end = get_or d.waiting 0 no_end in
      let first : as_end m ≡ named end =
      ap (λ (l : List (ℕ × ℕ)). get_or l 0 (named no_end)) w ∙ get_or-map named (waits d) 0 no_end ∙ ap named (get_or-take d.waiting_count d.waiting 0 no_end h) in
      let q = popped starts left m (rest ++ map as_started (reverse (opens d))) end e (sym first) in
      record {
        matches = q.0;
        master = subst (λ (x : ℕ). is_master (data_type_of t x) ≡ true) (ap (λ (n : ℕ × ℕ). n.0) first) (kind_first m _ e);
        linked = record {
          arrays = handed_arrays d k.arrays;
          good = handed_good d k.good k.arrays;
          masters = k.masters;
          ended = rest;
          waiting = ap (drop 1) w ∙ map_dropped named (waits d) ∙ ap (map named) (sym (handed_waits d (omega (arith, k.arrays.ends, k.good.waiting_count))));
          parts = q.1;
          kinds = kinds_left m _ e;
          few = few_left m _ e;
          place = k.place;
          unsettled = λ u. absurd (cons_settled e (k.unsettled u));
        };
      }

  -- a waiting End is handed out
  pub handed_linked : 0 < d.waiting_count → Popped t (handed_out d) starts left p (get_or d.waiting 0 no_end)
  handed_linked h = handed_go k.ended k.waiting k.parts h

  -- ---- the masters above the first n close

  module _ (n : ℕ) (none : d.waiting_count ≡ 0) (h : n < d.open_count) where
    top : OpenTag
    top = get_or (reverse (drop n (opens d))) 0 no_tag

    others : List OpenTag
    others = drop 1 (reverse (drop n (opens d)))

    -- the innermost of them, and then the others
    top_first : reverse (drop n (opens d)) ≡ top ∷ others
    unfolding top others
    top_first =
        drop-cons (reverse (drop n (opens d))) 0 no_tag
        (simp (length-reverse, length-drop) (omega (arith, opens-length d k.arrays k.good.open_count)))

    all_parts : stack starts left ≡ as_started top ∷ (map as_started others ++ map as_started (reverse (take n (opens d))))
    all_parts =
        k.parts
        ∙ ap (λ (l : List Started). l ++ map as_started (reverse (opens d))) (none_ended k none)
        ∙ ap (map as_started)
        (ap reverse (sym (take-append-drop n (opens d)))
        ∙ reverse-append (take n (opens d)) (drop n (opens d))
        ∙ ap (λ (l : List OpenTag). l ++ reverse (take n (opens d))) top_first)
        ∙ map-append as_started (top ∷ others) (reverse (take n (opens d)))

    its_ends : map as_end (map as_started others) ≡ map named (drop 1 (map end_for (reverse (drop n (opens d)))))
    unfolding end_for
    its_ends =
        map-map as_end as_started others ∙ sym (map-map named end_for others)
        ∙ sym (ap (λ (l : List OpenTag). map named (drop 1 (map end_for l))) top_first)

    closed_go : Popped t (closed_to d n) starts left p (end_for top)
    unfolding closed_to with_open with_waiting end_for
    closed_go =
        let l : d.open_count ≤ length d.«open» = omega (arith, k.arrays.masters, k.good.open_count) in
        let rest = map as_started others ++ map as_started (reverse (take n (opens d))) in
        let q = popped starts left (as_started top) rest (end_for top) all_parts refl in
        record {
          matches = q.0;
          master = kind_first (as_started top) rest all_parts;
          linked = record {
            arrays = closed_arrays d k.arrays n;
            good = closed_good d k.good k.arrays n (omega arith);
            masters = rw (closed_opens d n (omega arith) l) (every_take _ n (opens d) k.masters);
            ended = map as_started others;
            waiting = its_ends ∙ ap (map named) (sym (closed_waits d n l));
            parts = rw (closed_opens d n (omega arith) l) q.1;
            kinds = kinds_left (as_started top) rest all_parts;
            few = few_left (as_started top) rest all_parts;
            place = k.place;
            unsettled = λ u. absurd (cons_settled all_parts (k.unsettled u));
          };
        }

    -- the first of their Ends is handed out
    pub closed_linked : Popped t (closed_to d n) starts left p (get_or (ends_from d n) 0 no_end)
    unfolding ends_from
    closed_linked = rw top_first closed_go

-- ---- a recovery that found a header

grown_id : (n : ℕ) (m : OpenTag) → (size_grown n m).id ≡ m.id
unfolding size_grown
grown_id n m = pick (λ (o : OpenTag). o.id ≡ m.id) m.known _ m (λ e. refl) (λ e. refl)

-- a known end grows as the size does
pub grown_later : (n : ℕ) (m : OpenTag) → later n (as_started m) ≡ as_started (size_grown n m)
unfolding size_grown later
grown_later n m =
    pick (λ (o : OpenTag). later n (as_started m) ≡ as_started o) m.known _ m
    (λ e. ap ended (ap (λ (b : Bool). later_end n (known_end b (end_of m))) e ∙ ap Some sum))
    (λ e. ap ended (ap (λ (b : Bool). later_end n (known_end b (end_of m))) e ∙ sym (ap (λ (b : Bool). known_end b (end_of m)) e)))
  where
    ended : Option ℕ → Started
    ended g = record { id = m.id; offset = m.tag_start; end = g }

    sum : m.data_start + m.size + n ≡ m.data_start + (m.size + n)
    sum = omega arith

-- the Starts and the implied parents, n bytes on
pub stack_later : (n : ℕ) (starts : List Started) (left : List ℕ) → stack (map (later n) starts) left ≡ map (later n) (stack starts left)
unfolding later
stack_later n starts left = ap (λ (l : List Started). map (later n) starts ++ l) (sym (map-map (later n) parent_of left)) ∙ sym (map-append (later n) starts (map parent_of left))

-- the open ends grow
pub grown_linked : (t : List Entry) (d : TagDecoder) (starts : List Started) (left : List ℕ) (p : ℕ) → Linked t d starts left p → (n : ℕ) → GoodState (with_sizes_grown d n)
    → Linked t (with_sizes_grown d n) (map (later n) starts) left p
unfolding with_sizes_grown with_open later
grown_linked t d starts left p k n g =
    let l : d.open_count ≤ length d.«open» = omega (arith, k.arrays.masters, k.good.open_count) in
    let all = stack_later n starts left in
    record {
      arrays = grown_arrays d k.arrays n;
      good = g;
      masters = rw (grown_opens d n l) (every_map (λ (m : OpenTag). is_master (data_type_of t m.id)) (size_grown n) (λ (m : OpenTag). is_master (data_type_of t m.id)) (λ m e. rw (grown_id n m) e) (opens d) k.masters);
      ended = map (later n) k.ended;
      waiting = map-map as_end (later n) k.ended ∙ k.waiting;
      parts =
          all ∙ ap (map (later n)) k.parts ∙ map-append (later n) k.ended (map as_started (reverse (opens d)))
          ∙ ap (λ (r : List Started). map (later n) k.ended ++ r)
          (map-map (later n) as_started (reverse (opens d))
          ∙ map_same (λ (m : OpenTag). later n (as_started m)) (λ (m : OpenTag). as_started (size_grown n m)) (grown_later n) (reverse (opens d))
          ∙ sym (map-map as_started (size_grown n) (reverse (opens d)))
          ∙ ap (map as_started) (map_reversed (size_grown n) (opens d) ∙ ap reverse (sym (grown_opens d n l))));
      kinds = rw all (every_map (λ (m : Started). is_master (data_type_of t m.id)) (later n) (λ (m : Started). is_master (data_type_of t m.id)) (λ m e. e) (stack starts left) k.kinds);
      few = rw (all, length-map) k.few;
      place = k.place;
      unsettled = λ u. all ∙ ap (map (later n)) (k.unsettled u);
    }
