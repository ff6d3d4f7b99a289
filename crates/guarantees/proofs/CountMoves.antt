-- What each move of the record, and the note, make of the counts that it holds. Assumes nothing.
use Prim.Native.Nat.{ℕ, ◌≤◌, ◌<◌}
use mathlib.Core.Path.{◌≡◌, refl, sym, ap, ◌∙◌}
use mathlib.Core.Bool.{false}
use mathlib.Core.List.{List, [], ◌∷◌, ◌++◌, map, reverse, append-nil, map-append, map-map, reverse-append}
use native.Mathlib.Omega.{arith}
use lib.ListN.{length, get_or, take, drop, length-reverse, length-drop, take-append-drop}
use lib.Seq.{drop-cons, get_or-take}
use Rattle.table.specs.Table.{Entry, parts_of, parts_in}
use Rattle.table.specs.declared.types.PathPart.{PathPart}
use Rattle.table.specs.declared.types.PathPart.TheVariants.{Id, Global}
use Rattle.basics.proofs.Bools.{pick}
use Rattle.spec_util.specs.Walk.{most_open, no_tag}
use Rattle.spec_util.specs.declared.types.OpenTag.{OpenTag}
use Rattle.tag_parse.specs.declared.types.EBMLSize.{EBMLSize}
use Rattle.tag_parse.specs.declared.types.EBMLSize.TheVariants.{Known, Unknown}
use Rattle.decoder_rules.specs.Record.{opens, waits, end_for, no_end, implied, with_open, with_waiting, with_notes, settled_to, with_one_more, counted, opened, ends_from, closed_to, handed_out, size_grown, with_sizes_grown}
use Rattle.decoder_rules.specs.OneCall.{noted}
use Rattle.decoder_rules.specs.Moving.{master_at}
use Rattle.decoder_rules.specs.declared.types.TagDecoder.{TagDecoder}
use Rattle.decoder_rules.specs.declared.types.WaitingEnd.{WaitingEnd}
use Rattle.decoder_rules.proofs.Counting.{first_more, counted_top}
use Rattle.decoder_rules.proofs.MoveEffects.{Arrays, opens-length, waits-length, settled_opens, opened-opens, closed_opens, closed_waits, handed_waits, grown_opens}
use Rattle.guarantees.specs.Settling.{implied_by}
use Rattle.guarantees.specs.History.{Started}
use Rattle.guarantees.specs.Counts.{child_of_first, with_implied, counts_in}
use Rattle.guarantees.proofs.Decided.{NoteFacts}
use Rattle.basics.proofs.Maps.{map_reversed}
use Rattle.guarantees.proofs.Steps.{stack_length, unsettled_waiting}
use Rattle.guarantees.proofs.Tied.{Linked, map_same}
use Rattle.std.specs.Prelude.{None, Option, Some}
use Rattle.table.specs.declared.types.Path.{Path}

-- ---- the counts of masters, and of Ends

abbrev pub tag_count : OpenTag → ℕ
tag_count m = m.count

abbrev pub end_count : WaitingEnd → ℕ
end_count e = e.count

-- where nothing waits they are those of the open masters
only_open : (d : TagDecoder) → d.waiting_count ≡ 0 → counts_in d ≡ map tag_count (reverse (opens d))
only_open d none = ap (λ (n : ℕ). map end_count (take n d.waiting) ++ map tag_count (reverse (opens d))) none

-- ---- an End is handed out

-- of these counts the first is the End's, and the others stay
pub record Popped (l : List ℕ) (end : WaitingEnd) (e : TagDecoder) : Type 0 where
  pub its : end.count ≡ get_or l 0 0
  pub others : counts_in e ≡ drop 1 l

module _ (d : TagDecoder) (a : Arrays d) where
  pub handed_counts : d.waiting_count ≤ most_open → 0 < d.waiting_count → Popped (counts_in d) (get_or d.waiting 0 no_end) (handed_out d)
  unfolding handed_out with_waiting
  handed_counts few some =
      let n : length (waits d) ≡ d.waiting_count = waits-length d a few in
      let r = map tag_count (reverse (opens d)) in
      let first : waits d ≡ get_or d.waiting 0 no_end ∷ drop 1 (waits d) =
      drop-cons (waits d) 0 no_end (omega arith) ∙ ap (λ (x : WaitingEnd). x ∷ drop 1 (waits d)) (get_or-take d.waiting_count d.waiting 0 no_end some) in
      record {
        its = sym (ap (λ (l : List WaitingEnd). get_or (map end_count l ++ r) 0 0) first);
        others =
            ap (λ (l : List WaitingEnd). map end_count l ++ r) (handed_waits d (omega (arith, a.ends)))
            ∙ sym (ap (λ (l : List WaitingEnd). drop 1 (map end_count l ++ r)) first);
      }

  module _ (k : ℕ) (few : d.open_count ≤ most_open) (none : d.waiting_count ≡ 0) (h : k < d.open_count) where
    top : OpenTag
    top = get_or (reverse (drop k (opens d))) 0 no_tag

    rest : List OpenTag
    rest = drop 1 (reverse (drop k (opens d)))

    closed_first : reverse (drop k (opens d)) ≡ top ∷ rest
    unfolding top rest
    closed_first = drop-cons (reverse (drop k (opens d))) 0 no_tag (simp (length-reverse, length-drop) (omega (arith, opens-length d a few)))

    -- from the innermost on
    all : counts_in d ≡ tag_count top ∷ (map tag_count rest ++ map tag_count (reverse (take k (opens d))))
    all =
        only_open d none
        ∙ ap (map tag_count)
        (ap reverse (sym (take-append-drop k (opens d)))
        ∙ reverse-append (take k (opens d)) (drop k (opens d))
        ∙ ap (λ (l : List OpenTag). l ++ reverse (take k (opens d))) closed_first)
        ∙ map-append tag_count (top ∷ rest) (reverse (take k (opens d)))

    pub closed_counts : Popped (counts_in d) (get_or (ends_from d k) 0 no_end) (closed_to d k)
    unfolding ends_from end_for
    closed_counts =
        let long : d.open_count ≤ length d.«open» = omega (arith, a.masters) in
        record {
          its = ap (λ (l : List OpenTag). end_count (get_or (map end_for l) 0 no_end)) closed_first ∙ sym (ap (λ (l : List ℕ). get_or l 0 0) all);
          others =
              ap (λ (l : List WaitingEnd). map end_count l ++ map tag_count (reverse (opens (closed_to d k)))) (closed_waits d k long ∙ ap (λ (l : List OpenTag). drop 1 (map end_for l)) closed_first)
              ∙ ap (λ (l : List OpenTag). map end_count (map end_for rest) ++ map tag_count (reverse l)) (closed_opens d k (omega arith) long)
              ∙ ap (λ (l : List ℕ). l ++ map tag_count (reverse (take k (opens d)))) (map-map end_count end_for rest)
              ∙ sym (ap (drop 1) all);
        }

-- ---- a Start or a Data

first_more_lem : (l : List OpenTag) → map tag_count (first_more l) ≡ child_of_first (map tag_count l)
unfolding with_one_more
first_more_lem [] = refl
first_more_lem (m ∷ l) = refl

-- it counts in the innermost master
pub counted-counts : (d : TagDecoder) → Arrays d → d.open_count ≤ most_open → d.waiting_count ≡ 0 → counts_in (counted d) ≡ child_of_first (counts_in d)
unfolding counted with_open
counted-counts d a few none =
    only_open (counted d) none ∙ ap (map tag_count) (counted_top d a few) ∙ first_more_lem (reverse (opens d)) ∙ sym (ap child_of_first (only_open d none))

-- a master starts with no child
pub opened-counts : (d : TagDecoder) → Arrays d → (m : OpenTag) → m.count ≡ 0 → d.open_count < most_open → d.waiting_count ≡ 0 → counts_in (opened d m) ≡ 0 ∷ counts_in d
unfolding opened with_open
opened-counts d a m childless few none =
    only_open (opened d m) none
    ∙ ap (map tag_count) (ap reverse (opened-opens d m (omega (arith, a.masters))) ∙ reverse-append (opens d) (m ∷ []))
    ∙ ap (λ (n : ℕ). n ∷ map tag_count (reverse (opens d))) childless
    ∙ sym (ap (λ (l : List ℕ). 0 ∷ l) (only_open d none))

pub none_yet : (x : ℕ) (z : EBMLSize) (p len : ℕ) → (master_at x z p len).count ≡ 0
none_yet x Unknown p len = refl
none_yet x (Known n) p len = refl

-- ---- sizes that grow

grown_count : (n : ℕ) (m : OpenTag) → tag_count (size_grown n m) ≡ tag_count m
unfolding size_grown
grown_count n m = pick (λ (o : OpenTag). o.count ≡ m.count) m.known _ m (λ e. refl) (λ e. refl)

pub grown_counts : (d : TagDecoder) → Arrays d → d.open_count ≤ most_open → (n : ℕ) → counts_in (with_sizes_grown d n) ≡ counts_in d
unfolding with_sizes_grown with_open
grown_counts d a few n =
    ap (λ (l : List ℕ). map end_count (waits d) ++ l)
    (map_reversed tag_count (opens (with_sizes_grown d n))
    ∙ ap reverse (ap (map tag_count) (grown_opens d n (omega (arith, a.masters))) ∙ map-map tag_count (size_grown n) (opens d) ∙ map_same (λ (m : OpenTag). tag_count (size_grown n m)) tag_count (grown_count n) (opens d))
    ∙ sym (map_reversed tag_count (opens d)))

-- ---- the note

implied_count : (part : PathPart) → tag_count (implied part) ≡ 0
implied_count (Id x) = refl
implied_count (Global least most) = refl

-- what a path implies has had no child
implied-counts : (path : List PathPart) → map tag_count (reverse (map implied path)) ≡ map (λ x. 0) (map (λ (m : OpenTag). m.id) (reverse (map implied path)))
implied-counts path =
    let l = map implied path in
    let none : map tag_count l ≡ map (λ (m : OpenTag). 0) l =
    map-map tag_count implied path ∙ map_same (λ (part : PathPart). tag_count (implied part)) (λ part. 0) implied_count path ∙ sym (map-map (λ (m : OpenTag). 0) implied path) in
    map_reversed tag_count l ∙ ap reverse none ∙ sym (map_reversed (λ (m : OpenTag). 0) l) ∙ sym (map-map (λ x. 0) (λ (m : OpenTag). m.id) (reverse l))

module _ (t : List Entry) (d : TagDecoder) where
  -- before settling there are none
  unsettled_counts : {starts : List Started} {left : List ℕ} {p : ℕ} → Linked t d starts left p → d.settled ≡ false → counts_in d ≡ []
  unsettled_counts {starts} {left} {p} k u =
      let w = unsettled_waiting t d starts left p k u in
      let n : d.open_count ≡ 0 = sym (stack_length t d starts left p k w) ∙ ap length (k.unsettled u) in
      only_open d w ∙ ap (λ (j : ℕ). map tag_count (reverse (take j d.«open»))) n

  pub noted-counts : {starts : List Started} {left : List ℕ} {p : ℕ} → Linked t d starts left p → (ps : List ℕ) (n : Option Path) → NoteFacts ps t d n
      → counts_in (noted ps d n) ≡ with_implied (implied_by ps n) (counts_in d)
  unfolding noted implied_by settled_to with_open with_notes
  noted-counts k ps None f = refl
  noted-counts {starts} {left} {p} k ps (Some path) f =
      let parts = parts_in (parts_of ps) path in
      let ids = map (λ (m : OpenTag). m.id) (reverse (map implied parts)) in
      only_open (settled_to d parts) (unsettled_waiting t d starts left p k f.unsettled)
      ∙ ap (λ (l : List OpenTag). map tag_count (reverse l)) (settled_opens d parts)
      ∙ implied-counts parts
      ∙ sym (append-nil (map (λ x. 0) ids))
      ∙ ap (λ (l : List ℕ). map (λ x. 0) ids ++ l) (sym (unsettled_counts k f.unsettled))
