-- What is compared after a move does not ask for more than what was compared before it. Assumes nothing.
use Prim.Native.Nat.{ℕ, ◌+◌, ◌≤◌, ◌<◌}
use mathlib.Core.Path.{◌≡◌, refl, sym, ap, ◌∙◌}
use mathlib.Core.Bool.{Bool, true, false, cond}
use mathlib.Core.List.{List, [], ◌∷◌, ◌++◌, map, reverse, map-append, reverse-reverse}
use native.Mathlib.Omega.{arith}
use lib.ListN.{length, get_or, take, drop, length-map}
use lib.Seq.{get_or-take}
use Rattle.basics.proofs.ArrayOf32.{filled-length}
use Rattle.basics.proofs.Maps.{map_reversed, take-map, drop-map, map_twice, map_at}
use Rattle.spec_util.specs.Walk.{most_open, no_tag}
use Rattle.spec_util.specs.declared.types.OpenTag.{OpenTag}
use Rattle.tag_parse.specs.declared.types.EBMLSize.{EBMLSize}
use Rattle.decoder_rules.specs.Record.{farthest, opens, waits, end_for, no_end, larger, with_open, with_waiting, with_notes, at_position, with_one_more, counted, opened, ends_from, closed_to, handed_out, size_grown, with_sizes_grown}
use Rattle.decoder_rules.specs.Moving.{gives, master_at, move}
use Rattle.decoder_rules.specs.declared.types.Action.{Action}
use Rattle.decoder_rules.specs.declared.types.Action.TheVariants as act
use Rattle.decoder_rules.specs.declared.types.Answer.TheVariants as answer
use Rattle.decoder_rules.specs.declared.types.Decoded.{Decoded}
use Rattle.decoder_rules.specs.declared.types.Event.TheVariants as event
use Rattle.decoder_rules.specs.declared.types.TagDecoder.{TagDecoder}
use Rattle.decoder_rules.specs.declared.types.WaitingEnd.{WaitingEnd}
use Rattle.decoder_rules.proofs.Counting.{first_more, counted_top}
use Rattle.decoder_rules.proofs.MoveEffects.{opened-opens, closed_opens, closed_waits, handed_waits, grown_opens}
use Rattle.decoder_move.specs.Applies.{ActionApplies}
use Rattle.decoder_move.proofs.DecisionApplies.{hands_out, closes, starts as start_fits, passes_on}
use Rattle.restarts.specs.Comparing.{Extent, wholly, but_counts, seen_count, seen_master, seen_end, Sound, seen_record, seen_answer}
use Rattle.restarts.proofs.SeenDecision.{Full, sound_arrays, sound_good, is_sound, sound_full, count_none, built, built_same, seen_each, seen-opens, seen-waits, good_seen}
use Rattle.restarts.proofs.SoundCalls.{TakesSome, notes_sound, counted_sound}
use Rattle.std.specs.Prelude.{Err, Ok, Result}
use Rattle.decoder_rules.specs.declared.types.DecodeError.{DecodeError}

module _ (x : Extent) where
  abbrev f : OpenTag → OpenTag
  f = seen_master x

  abbrev g : WaitingEnd → WaitingEnd
  g = seen_end x

  -- ---- counts

  count_twice : (n : ℕ) → seen_count x (seen_count x n) ≡ seen_count x n
  count_twice n = go x
    where
      go : (y : Extent) → seen_count y (seen_count y n) ≡ seen_count y n
      go wholly = refl
      go but_counts = refl

  count_more : (n : ℕ) → seen_count x (seen_count x n + 1) ≡ seen_count x (n + 1)
  count_more n = go x
    where
      go : (y : Extent) → seen_count y (seen_count y n + 1) ≡ seen_count y (n + 1)
      go wholly = refl
      go but_counts = refl

  -- ---- masters and Ends

  master_twice : (m : OpenTag) → f (f m) ≡ f m
  unfolding seen_master
  master_twice m = rw (count_twice m.count)

  end_twice : (e : WaitingEnd) → g (g e) ≡ g e
  unfolding seen_end
  end_twice e = rw (count_twice e.count)

  no_end_lem : g no_end ≡ no_end
  unfolding seen_end
  no_end_lem = rw count_none

  -- of no master nothing is left out
  pub no_master_lem : f no_tag ≡ no_tag
  unfolding seen_master
  no_master_lem = rw count_none

  more_seen : (m : OpenTag) → f (with_one_more (f m)) ≡ f (with_one_more m)
  unfolding seen_master with_one_more
  more_seen m = rw (count_more m.count)

  grown_seen : (n : ℕ) (m : OpenTag) → f (size_grown n (f m)) ≡ f (size_grown n m)
  unfolding seen_master size_grown
  grown_seen n m = go m.known
    where
      go : (b : Bool) → f (cond b (larger n (f m)) (f m)) ≡ f (cond b (larger n m) m)
      go true = rw (count_twice m.count)
      go false = rw (count_twice m.count)

  all_grown : (n : ℕ) (l : List OpenTag) → map f (map (size_grown n) (map f l)) ≡ map f (map (size_grown n) l)
  all_grown n [] = refl
  all_grown n (m ∷ l) = rw (grown_seen n m) (ap (λ (k : List OpenTag). f (size_grown n m) ∷ k) (all_grown n l))

  first_more_lem : (l : List OpenTag) → map f (first_more (map f l)) ≡ map f (first_more l)
  first_more_lem [] = refl
  first_more_lem (m ∷ l) = rw (more_seen m) (ap (λ (k : List OpenTag). f (with_one_more m) ∷ k) (map_twice f master_twice l))

  -- the End of what is compared of a master is what is compared of its End
  ends_of : (l : List OpenTag) → map end_for (map f l) ≡ map g (map end_for l)
  unfolding end_for seen_master seen_end
  ends_of [] = refl
  ends_of (m ∷ l) = ap (λ (k : List WaitingEnd). g (end_for m) ∷ k) (ends_of l)

  -- ---- the record

  -- two records with the same masters and Ends, as far as they are compared, and the rest of c
  by_each : (c a b : TagDecoder) {l m : List OpenTag} {v w : List WaitingEnd} → seen_record x a ≡ built c l v → seen_record x b ≡ built c m w → l ≡ m → v ≡ w
      → seen_record x a ≡ seen_record x b
  by_each c a b p q e f = p ∙ built_same c e f ∙ sym q

  -- what is compared of a sound record is sound
  pub seen_sound : (d : TagDecoder) → Sound d → Sound (seen_record x d)
  seen_sound d k =
      let full = sound_full d k in
      let good = sound_good d k in
      is_sound (seen_record x d)
      (record {
        masters = ap (λ (b : TagDecoder). length b.«open») (seen_each x d) ∙ filled-length no_tag (map f (opens d)) (omega (arith, length-map (opens d) f, full.masters, good.open_count));
        ends = ap (λ (b : TagDecoder). length b.waiting) (seen_each x d) ∙ filled-length no_end (map g (waits d)) (omega (arith, length-map (waits d) g, full.ends, good.waiting_count));
      })
      (good_seen x d full good)

  module _ (d : TagDecoder) (k : Sound d) where
    abbrev e : TagDecoder
    e = seen_record x d

    abbrev full : Full d
    full = sound_full d k

    opens_twice : map f (opens e) ≡ map f (opens d)
    opens_twice = ap (map f) (seen-opens x d full) ∙ map_twice f master_twice (opens d)

    waits_twice : map g (waits e) ≡ map g (waits d)
    waits_twice = ap (map g) (seen-waits x d full) ∙ map_twice g end_twice (waits d)

    -- comparing once more sees the same
    pub seen_twice : seen_record x (seen_record x d) ≡ seen_record x d
    unfolding seen_record
    seen_twice = by_each d e d (seen_each x e) (seen_each x d) opens_twice waits_twice

    -- an End is handed out
    handed_seen : seen_record x (handed_out e) ≡ seen_record x (handed_out d)
    unfolding handed_out with_waiting seen_record
    handed_seen =
        let good = sound_good d k in
        let arrays = sound_arrays d k in
        let others = sound_arrays e (seen_sound d k) in
        let w : map g (waits (handed_out e)) ≡ map g (waits (handed_out d)) =
        ap (map g) (handed_waits e (omega (arith, others.ends, good.waiting_count)))
        ∙ sym (drop-map g 1 (waits e))
        ∙ ap (drop 1) waits_twice
        ∙ drop-map g 1 (waits d)
        ∙ ap (map g) (sym (handed_waits d (omega (arith, arrays.ends, good.waiting_count)))) in
        by_each (handed_out d) (handed_out e) (handed_out d) (seen_each x (handed_out e)) (seen_each x (handed_out d)) opens_twice w

    first_seen : 0 < d.waiting_count → g (get_or e.waiting 0 no_end) ≡ g (get_or d.waiting 0 no_end)
    first_seen some =
        let h : 0 < e.waiting_count = unfold seen_record in some in
        let here : get_or (waits e) 0 no_end ≡ g (get_or (waits d) 0 no_end) = ap (λ (l : List WaitingEnd). get_or l 0 no_end) (seen-waits x d full) ∙ map_at g no_end no_end_lem (waits d) 0 in
        ap g (sym (get_or-take e.waiting_count e.waiting 0 no_end h) ∙ here)
        ∙ end_twice (get_or (waits d) 0 no_end)
        ∙ ap g (get_or-take d.waiting_count d.waiting 0 no_end some)

    -- the masters above the first n close
    ends_from_lem : (n : ℕ) → ends_from e n ≡ map g (ends_from d n)
    unfolding ends_from
    ends_from_lem n =
        ap (λ (l : List OpenTag). map end_for (reverse (drop n l))) (seen-opens x d full)
        ∙ ap (λ (l : List OpenTag). map end_for (reverse l)) (drop-map f n (opens d))
        ∙ ap (map end_for) (sym (map_reversed f (drop n (opens d))))
        ∙ ends_of (reverse (drop n (opens d)))

    module _ (n : ℕ) (h : n ≤ d.open_count) where
      long : d.open_count ≤ length d.«open»
      long = omega (arith, k.masters, (sound_good d k).open_count)

      others_long : e.open_count ≤ length e.«open»
      others_long = omega (arith, (seen_sound d k).masters, (sound_good e (seen_sound d k)).open_count)

      closed_masters : map f (opens (closed_to e n)) ≡ map f (opens (closed_to d n))
      closed_masters =
          let less : n ≤ e.open_count = unfold seen_record in h in
          ap (map f) (closed_opens e n less others_long)
          ∙ sym (take-map f n (opens e))
          ∙ ap (take n) opens_twice
          ∙ take-map f n (opens d)
          ∙ ap (map f) (sym (closed_opens d n h long))

      closed_ends : map g (waits (closed_to e n)) ≡ map g (waits (closed_to d n))
      unfolding ends_from
      closed_ends =
          ap (map g) (closed_waits e n others_long)
          ∙ ap (λ (l : List WaitingEnd). map g (drop 1 l)) (ends_from_lem n)
          ∙ ap (map g) (drop-map g 1 (map end_for (reverse (drop n (opens d)))))
          ∙ map_twice g end_twice (drop 1 (map end_for (reverse (drop n (opens d)))))
          ∙ ap (map g) (sym (closed_waits d n long))

      closed_seen : seen_record x (closed_to e n) ≡ seen_record x (closed_to d n)
      unfolding seen_record closed_to with_open with_waiting
      closed_seen = by_each (closed_to d n) (closed_to e n) (closed_to d n) (seen_each x (closed_to e n)) (seen_each x (closed_to d n)) closed_masters closed_ends

    closed_first : (n : ℕ) → g (get_or (ends_from e n) 0 no_end) ≡ g (get_or (ends_from d n) 0 no_end)
    closed_first n =
        ap (λ (l : List WaitingEnd). g (get_or l 0 no_end)) (ends_from_lem n) ∙ ap g (map_at g no_end no_end_lem (ends_from d n) 0) ∙ end_twice (get_or (ends_from d n) 0 no_end)

    -- a child is counted
    counted-opens : map f (opens (counted e)) ≡ map f (opens (counted d))
    counted-opens =
        let others = seen_sound d k in
        let top : map f (reverse (opens (counted e))) ≡ map f (reverse (opens (counted d))) =
        ap (map f) (counted_top e (sound_arrays e others) (sound_good e others).open_count)
        ∙ ap (λ (l : List OpenTag). map f (first_more (reverse l))) (seen-opens x d full)
        ∙ ap (λ (l : List OpenTag). map f (first_more l)) (sym (map_reversed f (opens d)))
        ∙ first_more_lem (reverse (opens d))
        ∙ ap (map f) (sym (counted_top d (sound_arrays d k) (sound_good d k).open_count)) in
        back (opens (counted e)) (opens (counted d)) top
      where
        back : (a b : List OpenTag) → map f (reverse a) ≡ map f (reverse b) → map f a ≡ map f b
        back a b h =
            sym (reverse-reverse (map f a))
            ∙ ap reverse (sym (map_reversed f a) ∙ h ∙ map_reversed f b)
            ∙ reverse-reverse (map f b)

    pub counted-seen : seen_record x (counted e) ≡ seen_record x (counted d)
    unfolding seen_record counted with_open
    counted-seen = by_each (counted d) (counted e) (counted d) (seen_each x (counted e)) (seen_each x (counted d)) counted-opens waits_twice

    grown_masters : (n : ℕ) → map f (opens (with_sizes_grown e n)) ≡ map f (opens (with_sizes_grown d n))
    grown_masters n =
        let others = seen_sound d k in
        ap (map f) (grown_opens e n (omega (arith, others.masters, (sound_good e others).open_count)))
        ∙ ap (λ (l : List OpenTag). map f (map (size_grown n) l)) (seen-opens x d full)
        ∙ all_grown n (opens d)
        ∙ ap (map f) (sym (grown_opens d n (omega (arith, k.masters, (sound_good d k).open_count))))

    -- the sizes grow
    pub sizes_seen : (n : ℕ) → seen_record x (with_sizes_grown e n) ≡ seen_record x (with_sizes_grown d n)
    unfolding seen_record with_sizes_grown with_open
    sizes_seen n = by_each (with_sizes_grown d n) (with_sizes_grown e n) (with_sizes_grown d n) (seen_each x (with_sizes_grown e n)) (seen_each x (with_sizes_grown d n)) (grown_masters n) waits_twice

    -- a master starts
    opened_masters : (m : OpenTag) → d.open_count < most_open → map f (opens (opened e m)) ≡ map f (opens (opened d m))
    opened_masters m few =
        let others = seen_sound d k in
        let room : e.open_count < most_open = unfold seen_record in few in
        ap (map f) (opened-opens e m (omega (arith, others.masters)))
        ∙ map-append f (opens e) (m ∷ [])
        ∙ ap (λ (l : List OpenTag). l ++ (f m ∷ [])) opens_twice
        ∙ sym (map-append f (opens d) (m ∷ []))
        ∙ ap (map f) (sym (opened-opens d m (omega (arith, k.masters))))

    opened-seen : (m : OpenTag) → d.open_count < most_open → seen_record x (opened e m) ≡ seen_record x (opened d m)
    unfolding seen_record opened with_open
    opened-seen m few = by_each (opened d m) (opened e m) (opened d m) (seen_each x (opened e m)) (seen_each x (opened d m)) (opened_masters m few) waits_twice

-- ---- an answer and the record after it

-- what is compared of them
abbrev pub seen_decoded : Extent → Decoded → Decoded
seen_decoded x r = gives (seen_answer x r.answer) r.taken (seen_record x r.state)

module _ (x : Extent) where
  -- two records that are compared as the same, with a master more
  opened_same : (d e : TagDecoder) → Sound d → Sound e → (m : OpenTag) → d.open_count < most_open → e.open_count < most_open → seen_record x e ≡ seen_record x d
      → seen_record x (opened e m) ≡ seen_record x (opened d m)
  opened_same d e k j m few room h =
      sym (opened-seen x e j m room) ∙ ap (λ (b : TagDecoder). seen_record x (opened b m)) h ∙ opened-seen x d k m few

  -- where a Start, or a Data, was handed out
  on_seen : (d : TagDecoder) → Sound d → (q : ℕ) → d.position ≤ q → q ≤ farthest → seen_record x (counted (at_position (seen_record x d) q)) ≡ seen_record x (counted (at_position d q))
  unfolding with_notes seen_record
  on_seen d k q h l = counted-seen x (at_position d q) (notes_sound d k q d.settled d.finished h l)

  module _ (d : TagDecoder) (k : Sound d) (n : ℕ) where
    start_seen : (y : ℕ) (z : EBMLSize) (len : ℕ) → ActionApplies d n (Ok (act.Start y z len)) → TakesSome (Ok (act.Start y z len))
        → seen_record x (opened (counted (at_position (seen_record x d) (d.position + len))) (master_at y z d.position len))
        ≡ seen_record x (opened (counted (at_position d (d.position + len))) (master_at y z d.position len))
    start_seen y z len fits some =
        let q = d.position + len in
        let room = start_fits d n y z len fits in
        let later : d.position < q = omega (arith, some.0) in
        let c = counted_sound d k q later room.1 in
        let o = counted_sound (seen_record x d) (seen_sound x d k) q (unfold seen_record in later) room.1 in
        opened_same (counted (at_position d q)) (counted (at_position (seen_record x d) q)) c o (master_at y z d.position len)
        (unfold counted with_open with_notes in room.0) (unfold counted with_open with_notes seen_record in room.0) (on_seen d k q (omega arith) room.1)

    -- a move answers and leaves the same, as far as it is compared
    pub move_seen : (a : Result Action DecodeError) → ActionApplies d n a → TakesSome a → seen_decoded x (move (seen_record x d) a) ≡ seen_decoded x (move d a)
    move_seen (Err e) fits some = unfold move seen_record in ap (λ (s : TagDecoder). gives (Err (record { error = e; place = d.position })) 0 s) (seen_twice x d k)
    move_seen (Ok (act.NeedMore missing)) fits some = unfold move in ap (λ (s : TagDecoder). gives (Ok (answer.NeedMore missing)) 0 s) (seen_twice x d k)
    move_seen (Ok act.Finish) fits some = unfold move in ap (λ (s : TagDecoder). gives (Ok answer.Finished) 0 s) (seen_twice x d k)
    move_seen (Ok act.HandOut) fits some =
        unfold move in
        ap (λ (end : WaitingEnd). gives (Ok (answer.Event (event.End end))) 0 (seen_record x (handed_out (seen_record x d)))) (first_seen x d k (hands_out d n fits))
        ∙ ap (λ (s : TagDecoder). gives (Ok (answer.Event (event.End (seen_end x (get_or d.waiting 0 no_end))))) 0 s) (handed_seen x d k)
    move_seen (Ok (act.Close i)) fits some =
        let less : i ≤ d.open_count = omega (arith, (closes d n i fits).0) in
        unfold move in
        ap (λ (end : WaitingEnd). gives (Ok (answer.Event (event.End end))) 0 (seen_record x (closed_to (seen_record x d) i))) (closed_first x d k i)
        ∙ ap (λ (s : TagDecoder). gives (Ok (answer.Event (event.End (seen_end x (get_or (ends_from d i) 0 no_end))))) 0 s) (closed_seen x d k i less)
    move_seen (Ok (act.Start y z len)) fits some =
        unfold move seen_record in ap (λ (s : TagDecoder). gives (Ok (answer.Event (event.Start y d.position))) len s) (start_seen y z len fits some)
    move_seen (Ok (act.Data y v m)) fits some =
        unfold move seen_record in ap (λ (s : TagDecoder). gives (Ok (answer.Event (event.Data y d.position v))) m s) (on_seen d k (d.position + m) (omega arith) (passes_on d n y v m fits))
