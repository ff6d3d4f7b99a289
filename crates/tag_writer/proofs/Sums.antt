-- The steps of sizing a list, over plain values: what a call of one function needs, and what it makes of the answer of
-- the other. Assumes nothing.
use Prim.Native.Nat.{ℕ, ◌+◌, ◌-◌, ◌*◌, ◌/◌, ◌≤◌, ◌<◌}
use mathlib.Core.Path.{◌≡◌, refl, sym, ap, subst, ◌∙◌}
use mathlib.Core.Bool.{Bool, true, false, ◌&&◌}
use mathlib.Core.List.{List, [], ◌∷◌, ◌++◌, tail-eq_of_cons-eq}
use native.Mathlib.Omega.{arith}
use borrow.Author.Tests.{leb-true, eqb-true, eqb-false}
use lib.Dec.{leb, eqb}
use lib.ListN.{length, get_or, drop, set, length-append, length-drop, drop_of_length-le}
use lib.Seq.{get_or-set_other}
use Rattle.basics.specs.Lists.{every}
use Rattle.basics.proofs.Bools.{both}
use Rattle.basics.proofs.Every.{every_drop}
use Rattle.tag_writer.specs.Document.{Element, value, Run, payload, header_bytes, size_of_element, size_of_run}
use Rattle.tag_writer.specs.Items.{Mark, start, end, datum, value_at, mark_of, marks_of, element_marks, run_marks}
use Rattle.tag_writer.specs.Sizing.{element_fits, run_fits, is_small, Sizable, stops, RunAt, ElementAt, RunSized, ElementSized, SizesIn}
use Rattle.tag_writer.specs.Write.{greatest_size}
use Rattle.tag_writer.specs.declared.types.Sized.{Sized}
use Rattle.tag_writer.proofs.KeptSizes.{in_other, in_set, in_same, in_both}
use Rattle.tag_writer.proofs.Shapes.{marks_count, mark_here, mark_start, mark_end, mark_value, end_no_start, value_no_start, as_master, as_value, no_end, as_none, AsThen, as_then, drop_more, element_some, run_bound}

dec_eq : (a b : ℕ) → Dec (a ≡ b)
dec_eq a b = by (eqb a b) refl
  where
    by : (c : Bool) → eqb a b ≡ c → Dec (a ≡ b)
    by true e = yes (eqb-true a b e)
    by false e = no (eqb-false a b e)

module _ (vals items : List ℕ) (at : ℕ) where
  abbrev ms : List Mark
  ms = marks_of vals items

  abbrev word : ℕ → ℕ
  word k = get_or items (4 * at + k) 0

  here : at < length items / 4 → drop at ms ≡ mark_of vals (word 0) (word 1) (word 2) (word 3) ∷ drop (at + 1) ms
  here h = let z : 4 * at ≡ 4 * at + 0 = omega arith in rw (← z) (mark_here vals items at h)

  -- ---- an element

  element_fits_in : (e : Element) (tail : List Mark) → drop at ms ≡ element_marks e ++ tail → at + length (element_marks e) ≤ length items / 4
  element_fits_in e tail q =
      let n : length (element_marks e) + length tail ≡ length ms - at = sym (length-append (element_marks e) tail) ∙ ap length (sym q) ∙ length-drop at ms in
      omega (arith, marks_count vals items, element_some e)

  pub element_there : ElementAt ms at → at < length items / 4
  element_there a = omega (arith, element_fits_in a.element a.tail a.is, element_some a.element)

  -- at a Start its children begin with the next item
  module _ (there : at < length items / 4) (kind : word 0 ≡ 0) where
    starts_here : drop at ms ≡ start (word 1) ∷ drop (at + 1) ms
    starts_here = here there ∙ ap (λ (m : Mark). m ∷ drop (at + 1) ms) (mark_start vals (word 0) (word 1) (word 2) (word 3) kind)

    pub inner_run : ElementAt ms at → RunAt ms (at + 1)
    inner_run a =
        let m = as_master (word 1) (drop (at + 1) ms) a.element a.tail (sym starts_here ∙ a.is) in
        record { run = m.children; tail = end (word 1) ∷ a.tail; stop = refl; is = m.inside }

    pub master_sized : (s : Sized) (h : ℕ) (b f : Bool)
        → ((run : Run) (tail : List Mark) → stops tail ≡ true → drop (at + 1) ms ≡ run_marks run ++ tail → RunSized ms (at + 1) s run)
        → h ≡ length (header_bytes (word 1) s.size) → b ≡ leb s.size greatest_size → f ≡ (b && s.fits)
        → (e : Element) (tail : List Mark) → drop at ms ≡ element_marks e ++ tail
        → ElementSized ms at (record { size = h + s.size; next = s.next + 1; fits = f }) e
    unfolding size_of_element element_marks element_fits
    master_sized s h b f inside eh eb ef e tail q =
        let m = as_master (word 1) (drop (at + 1) ms) e tail (sym starts_here ∙ q) in
        let r = inside m.children (end (word 1) ∷ tail) refl m.inside in
        rw m.element
        (record {
          size = rw (eh, r.size);
          next = omega (arith, r.next, length-append (run_marks m.children) (end (word 1) ∷ []));
          fits = rw (ef, eb, r.size, r.fits);
        })

    -- its size is set, and the sizes of the masters in it are there already
    pub master_in_lem : (s : Sized) {l : List ℕ}
        → ((run : Run) (tail : List Mark) → stops tail ≡ true → drop (at + 1) ms ≡ run_marks run ++ tail → RunSized ms (at + 1) s run)
        → ElementAt ms at → at < length l → SizesIn ms (at + 1) s.next l → SizesIn ms at (s.next + 1) (set l at s.size)
    unfolding inner_run
    master_in_lem s {l} inside a room sizes =
        let r = inner_run a in
        let n = (inside r.run r.tail r.stop r.is).next in
        let ended : drop s.next ms ≡ end (word 1) ∷ a.tail = rw n (drop_more ms (at + 1) (run_marks r.run) r.tail r.is) in
        in_both ms (in_set ms at s.size l room (λ x run tail st q. (inside run tail st (tail-eq_of_cons-eq (sym starts_here ∙ q))).size))
        (in_both ms (in_same ms sizes (λ j f u. get_or-set_other l at j s.size 0 (λ e. omega arith)))
        (in_other ms s.next (set l at s.size) (λ x t q. end_no_start (sym ended ∙ q))))

  -- at a value
  module _ (there : at < length items / 4) (kind : word 0 ≡ 0 → ⊥) where
    holds_here : (e : Element) (tail : List Mark) → drop at ms ≡ element_marks e ++ tail
        → (drop at ms ≡ datum (word 1) (value_at vals (word 0) (word 2) (word 3)) ∷ drop (at + 1) ms) × (e ≡ value (word 1) (value_at vals (word 0) (word 2) (word 3)))
    holds_here e tail q = by (dec_eq (word 0) 6)
      where
        by : Dec (word 0 ≡ 6)
            → (drop at ms ≡ datum (word 1) (value_at vals (word 0) (word 2) (word 3)) ∷ drop (at + 1) ms) × (e ≡ value (word 1) (value_at vals (word 0) (word 2) (word 3)))
        by (yes y) =
            let d : drop at ms ≡ end (word 1) ∷ drop (at + 1) ms = here there ∙ ap (λ (m : Mark). m ∷ drop (at + 1) ms) (mark_end vals (word 0) (word 1) (word 2) (word 3) y) in
            absurd (no_end (word 1) (drop (at + 1) ms) e tail (sym d ∙ q))
        by (no n) =
            let d : drop at ms ≡ datum (word 1) (value_at vals (word 0) (word 2) (word 3)) ∷ drop (at + 1) ms =
            here there ∙ ap (λ (m : Mark). m ∷ drop (at + 1) ms) (mark_value vals (word 0) (word 1) (word 2) (word 3) kind n) in
            (d, as_value (word 1) (value_at vals (word 0) (word 2) (word 3)) (drop (at + 1) ms) e tail (sym d ∙ q))

    pub value_sized : (n h : ℕ) → n ≡ length (payload (value_at vals (word 0) (word 2) (word 3))) → h ≡ length (header_bytes (word 1) n)
        → (e : Element) (tail : List Mark) → drop at ms ≡ element_marks e ++ tail → ElementSized ms at (record { size = h + n; next = at + 1; fits = true }) e
    unfolding size_of_element element_marks element_fits
    value_sized n h en eh e tail q = rw (holds_here e tail q).1 (record { size = rw (eh, en); next = refl; fits = refl })

    -- of a value no size is kept
    pub value_in : ElementAt ms at → (l : List ℕ) → SizesIn ms at (at + 1) l
    value_in a l = in_other ms at l (λ x t q. value_no_start (sym (holds_here a.element a.tail a.is).0 ∙ q))

    pub value_small : Sizable ms → ElementAt ms at → length (payload (value_at vals (word 0) (word 2) (word 3))) ≤ 4_000_000_000
    unfolding every
    value_small able a =
        let v = value_at vals (word 0) (word 2) (word 3) in
        let d = (holds_here a.element a.tail a.is).0 in
        let s : every is_small (datum (word 1) v ∷ drop (at + 1) ms) ≡ true = subst (λ (l : List Mark). every is_small l ≡ true) d (every_drop is_small at ms able.small) in
        leb-true _ _ (both (leb (length (payload v)) greatest_size) (every is_small (drop (at + 1) ms)) s).left

  -- ---- a run

  none_sized : stops (drop at ms) ≡ true → (run : Run) (tail : List Mark) → stops tail ≡ true → drop at ms ≡ run_marks run ++ tail
      → RunSized ms at (record { size = 0; next = at; fits = true }) run
  unfolding size_of_run run_marks run_fits
  none_sized s run tail t q = rw (as_none (drop at ms) run tail s q) (record { size = refl; next = omega arith; fits = refl })

  pub past_sized : length items / 4 ≤ at → (run : Run) (tail : List Mark) → stops tail ≡ true → drop at ms ≡ run_marks run ++ tail
      → RunSized ms at (record { size = 0; next = at; fits = true }) run
  past_sized h =
      let l : length ms ≤ at = omega (arith, marks_count vals items) in
      none_sized (ap stops (drop_of_length-le ms l))

  module _ (there : at < length items / 4) where
    pub end_sized : word 0 ≡ 6 → (run : Run) (tail : List Mark) → stops tail ≡ true → drop at ms ≡ run_marks run ++ tail
        → RunSized ms at (record { size = 0; next = at; fits = true }) run
    end_sized y = none_sized (ap stops (here there ∙ ap (λ (m : Mark). m ∷ drop (at + 1) ms) (mark_end vals (word 0) (word 1) (word 2) (word 3) y)))

    module _ (kind : word 0 ≡ 6 → ⊥) where
      more_here : stops (drop at ms) ≡ false
      more_here = by (dec_eq (word 0) 0)
        where
          by : Dec (word 0 ≡ 0) → stops (drop at ms) ≡ false
          by (yes y) = ap stops (here there ∙ ap (λ (m : Mark). m ∷ drop (at + 1) ms) (mark_start vals (word 0) (word 1) (word 2) (word 3) y))
          by (no n) = ap stops (here there ∙ ap (λ (m : Mark). m ∷ drop (at + 1) ms) (mark_value vals (word 0) (word 1) (word 2) (word 3) n kind))

      split_run : (run : Run) (tail : List Mark) → stops tail ≡ true → drop at ms ≡ run_marks run ++ tail → AsThen (drop at ms) run tail
      split_run run tail t q = as_then (drop at ms) run tail more_here t q

      pub first_element : RunAt ms at → ElementAt ms at
      first_element a =
          let s = split_run a.run a.tail a.stop a.is in
          record { element = s.first; tail = run_marks s.others ++ a.tail; is = s.split }

      module _ (r : Sized) (first : (e : Element) (tail : List Mark) → drop at ms ≡ element_marks e ++ tail → ElementSized ms at r e) where
        after_first : (run : Run) (tail : List Mark) (s : AsThen (drop at ms) run tail) → drop r.next ms ≡ run_marks s.others ++ tail
        after_first run tail s =
            rw (first s.first (run_marks s.others ++ tail) s.split).next (drop_more ms at (element_marks s.first) (run_marks s.others ++ tail) s.split)

        pub other_elements : RunAt ms at → RunAt ms r.next
        other_elements a =
            let s = split_run a.run a.tail a.stop a.is in
            record { run = s.others; tail = a.tail; stop = a.stop; is = after_first a.run a.tail s }

        pub next_later : RunAt ms at → (at < r.next) × (r.next ≤ length items / 4)
        next_later a =
            let s = split_run a.run a.tail a.stop a.is in
            let f = first s.first (run_marks s.others ++ a.tail) s.split in
            (omega (arith, f.next, element_some s.first), omega (arith, f.next, element_fits_in s.first (run_marks s.others ++ a.tail) s.split))

        module _ (o : Sized) (others : (run : Run) (tail : List Mark) → stops tail ≡ true → drop r.next ms ≡ run_marks run ++ tail → RunSized ms r.next o run) where
          pub run_sized : (f : Bool) → f ≡ (r.fits && o.fits) → (run : Run) (tail : List Mark) → stops tail ≡ true → drop at ms ≡ run_marks run ++ tail
              → RunSized ms at (record { size = r.size + o.size; next = o.next; fits = f }) run
          unfolding size_of_run run_marks run_fits
          run_sized f ef run tail t q =
              let s = split_run run tail t q in
              let one = first s.first (run_marks s.others ++ tail) s.split in
              let two = others s.others tail t (after_first run tail s) in
              rw s.is
              (record {
                size = rw (one.size, two.size);
                next = omega (arith, one.next, two.next, length-append (element_marks s.first) (run_marks s.others));
                fits = rw (ef, one.fits, two.fits);
              })

          pub sum_bound : Sizable ms → RunAt ms at → r.size + o.size ≤ 2_050_000_000_000
          sum_bound able a =
              let s = run_sized (r.fits && o.fits) refl a.run a.tail a.stop a.is in
              omega (arith, s.size, (run_bound ms able at a.run a.tail a.is).0)

  -- the answer of a run is small
  pub run_small : Sizable ms → RunAt ms at → (r : Sized) → ((run : Run) (tail : List Mark) → stops tail ≡ true → drop at ms ≡ run_marks run ++ tail → RunSized ms at r run)
      → at ≤ length items / 4 → (r.size ≤ 2_050_000_000_000) × (r.next ≤ 1024)
  run_small able a r all h =
      let s = all a.run a.tail a.stop a.is in
      let b = run_bound ms able at a.run a.tail a.is in
      (omega (arith, s.size, b.0), omega (arith, s.next, b.2, able.few, marks_count vals items))
