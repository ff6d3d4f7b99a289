-- The open masters of a written document as its reader counts them: those on the decoder's stack, and above them those
-- whose Ends wait. A master that is full is ended by the next call, whichever of the two it is. Assumes nothing.
use Prim.Native.Nat.{ℕ, ◌+◌, ◌^◌, ◌≤◌, ◌<◌}
use mathlib.Core.Path.{◌≡◌, refl, sym, ap, ◌∙◌}
use mathlib.Core.Bool.{Bool, true, false, not, false≢true}
use mathlib.Core.List.{List, [], ◌∷◌, ◌++◌, map, reverse, reverse-append}
use native.Mathlib.Omega.{arith}
use native.Mathlib.Decide.{dec_le}
use borrow.Author.Tests.{le-leb}
use lib.Dec.{leb}
use lib.ListN.{length, get_or, take, drop, length-append, length-map, length-take, length-drop, length-reverse, get_or-append}
use lib.Seq.{take-append-le, drop-append-le, take-length, drop-length}
use Rattle.basics.specs.Lists.{every, first_index}
use Rattle.basics.proofs.Bools.{and_both}
use Rattle.basics.proofs.Every.{every_at, every_drop, every_map, every_reversed}
use Rattle.table.specs.Shape.{good_shape}
use Rattle.table.specs.Table.{table_of, data_type_of, is_master}
use Rattle.spec_util.specs.Walk.{no_tag}
use Rattle.spec_util.specs.declared.types.OpenTag.{OpenTag}
use Rattle.decoder_rules.specs.Moving.{gives, decode}
use Rattle.decoder_rules.specs.OneCall.{good_end, is_full}
use Rattle.decoder_rules.specs.Record.{end_for}
use Rattle.decoder_rules.specs.declared.types.Answer.TheVariants as answer
use Rattle.decoder_rules.specs.declared.types.Event.TheVariants as event
use Rattle.decoder_rules.specs.declared.types.TagDecoder.{TagDecoder}
use Rattle.tag_writer.proofs.Standing.{standing, All, all_every, all_take, all_front, all_last, Reaching, first_passes, first_bound, first_test, hands_out, closes}
use Rattle.std.specs.Prelude.{Ok}

-- at place p these masters are open for the reader: the first k stand on the decoder's stack, the Ends of the others wait
pub record Stands (strict : Bool) (p : ℕ) (st : List OpenTag) (d : TagDecoder) : Type 0 where
  pub settled : Bool
  pub k : ℕ
  pub within : k ≤ length st
  pub outer : k < length st → is_full p (get_or st k no_tag) ≡ true
  pub root : settled ≡ false → st ≡ []
  pub is : d ≡ standing strict settled p (take k st) (map end_for (reverse (drop k st)))

not_none : (st : List OpenTag) (x : OpenTag) → st ++ (x ∷ []) ≡ [] → ⊥
not_none st x e = omega (arith, length-append st (x ∷ []), ap length e)

-- where none of them is full, all stand on the stack and no End waits
pub stands_clear : {strict : Bool} {p : ℕ} {st : List OpenTag} {d : TagDecoder} (s : Stands strict p st d) → every (λ (m : OpenTag). not (is_full p m)) st ≡ true → d ≡ standing strict s.settled p st []
stands_clear {strict} {p} {st} {d} s none = go (dec_le (length st) s.k)
  where
    yes-and-no : (c : Bool) → c ≡ true → not c ≡ true → ⊥
    yes-and-no true e f = false≢true f
    yes-and-no false e f = false≢true e

    go : Dec (length st ≤ s.k) → d ≡ standing strict s.settled p st []
    go (yes h) =
        let e : s.k ≡ length st = omega (arith, s.within) in
        let f : take s.k st ≡ st = ap (λ (n : ℕ). take n st) e ∙ take-length st in
        let g : drop s.k st ≡ [] = ap (λ (n : ℕ). drop n st) e ∙ drop-length st in
        s.is ∙ rw (f, g)
    go (no n) =
        let l : s.k < length st = omega arith in
        absurd (yes-and-no (is_full p (get_or st s.k no_tag)) (s.outer l) (every_at (λ (m : OpenTag). not (is_full p m)) st no_tag none s.k l))

module _ (es ps : List ℕ) (shape : good_shape es ps ≡ true) (strict : Bool) (p lim : ℕ) (st : List OpenTag) (x : OpenTag) (s : List ℕ)
    (few : length st < 32) (near : p + length s ≤ 2 ^ 62) (full : is_full p x ≡ true) (reach : All (Reaching (table_of es ps) p lim) (st ++ (x ∷ []))) where
  abbrev whole : List OpenTag
  whole = st ++ (x ∷ [])

  whole_length : length whole ≡ length st + 1
  whole_length = length-append st (x ∷ [])

  -- the counts of the Ends that wait are not beyond the place
  waiting_good : (k : ℕ) → every (good_end p) (end_for x ∷ map end_for (reverse (drop k st))) ≡ true
  unfolding good_end end_for every
  waiting_good k =
      let test : OpenTag → Bool = λ (m : OpenTag). leb m.count p in
      let all = all_every test (λ m r. le-leb _ _ r.count) st (all_front (Reaching (table_of es ps) p lim) st (x ∷ []) reach) in
      let last = all_last (Reaching (table_of es ps) p lim) st x reach in
      and_both (le-leb _ _ last.count) (every_map test end_for (good_end p) (λ m e. e) (reverse (drop k st)) (every_reversed test (drop k st) (every_drop test k st all)))

  -- the End of the innermost is the answer, and the others stand
  pub ends : {d : TagDecoder} → Stands strict p (st ++ (x ∷ [])) d
      → (d' : TagDecoder) × (decode es ps d s ≡ gives (Ok (answer.Event (event.End (end_for x)))) 0 d') × Stands strict p st d'
  ends {d} a = go (dec_le a.k (length st))
    where
      go : Dec (a.k ≤ length st) → (d' : TagDecoder) × (decode es ps d s ≡ gives (Ok (answer.Event (event.End (end_for x)))) 0 d') × Stands strict p st d'
      go (yes h) =
          let b = a.settled in
          let k = a.k in
          let ws = map end_for (reverse (drop k st)) in
          let o : take k whole ≡ take k st = take-append-le k st (x ∷ []) h in
          let r : map end_for (reverse (drop k whole)) ≡ end_for x ∷ ws = ap (λ (l : List OpenTag). map end_for (reverse l)) (drop-append-le k st (x ∷ []) h) ∙ ap (map end_for) (reverse-append (drop k st) (x ∷ [])) in
          let e : d ≡ standing strict b p (take k st) (end_for x ∷ ws) = a.is ∙ rw (o, r) in
          let n : length ws < 32 = simp (length-map, length-reverse, length-drop) (omega arith) in
          let m : length (take k st) ≤ 32 = simp length-take (omega arith) in
          let first = first_passes es ps shape strict b p lim s (take k st) (end_for x ∷ ws) (all_take _ k st (all_front _ st (x ∷ []) reach)) (waiting_good k) m (omega arith) near in (
            standing strict b p (take k st) ws,
            rw e (hands_out es ps strict b p (take k st) (end_for x) ws s first n),
            record {
              settled = b;
              k = k;
              within = h;
              outer = λ l. ap (is_full p) (sym (get_or-append st (x ∷ []) no_tag k l)) ∙ a.outer (omega (arith, whole_length));
              root = λ f. absurd (not_none st x (a.root f));
              is = refl;
            },
          )
      go (no f) =
          let b = a.settled in
          let q : a.k ≡ length whole = omega (arith, a.within, whole_length) in
          let o : take a.k whole ≡ whole = ap (λ (n : ℕ). take n whole) q ∙ take-length whole in
          let r : drop a.k whole ≡ [] = ap (λ (n : ℕ). drop n whole) q ∙ drop-length whole in
          let e : d ≡ standing strict b p whole [] = a.is ∙ rw (o, r) in
          let first = first_passes es ps shape strict b p lim s whole [] reach (unfold every in refl) (omega (arith, whole_length)) (omega arith) near in
          let masters = all_every (λ (m : OpenTag). is_master (data_type_of (table_of es ps) m.id)) (λ m g. g.master) whole reach in
          let j = first_index (is_full p) whole in
          let low : j ≤ length st = first_bound (is_full p) st x full in (
            standing strict b p (take j st) (map end_for (reverse (drop j st))),
            rw e (closes es ps strict b p st x s first full masters),
            record {
              settled = b;
              k = j;
              within = low;
              outer = λ l. ap (is_full p) (sym (get_or-append st (x ∷ []) no_tag j l)) ∙ first_test (is_full p) whole no_tag (omega (arith, whole_length));
              root = λ f. absurd (not_none st x (a.root f));
              is = refl;
            },
          )
