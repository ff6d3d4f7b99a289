-- The finish comes exactly at the end of the last element at the top, where the child-size test was never off, there was
-- no recovery, and every Start was of known size: while that element is open the position stays within it, and its End
-- comes only where it is full. Assumes nothing.
use Prim.Native.Nat.{ℕ, ◌+◌, ◌≤◌}
use mathlib.Core.Path.{◌≡◌, refl, sym, ap, ◌∙◌, subst}
use mathlib.Core.Bool.{Bool, true, false, false≢true}
use mathlib.Core.List.{List, [], ◌∷◌}
use native.Mathlib.Omega.{arith}
use borrow.Author.Tests.{leb-true}
use lib.ListN.{drop}
use Rattle.basics.specs.Lists.{every}
use Rattle.basics.proofs.Bools.{both, and_both, not-false, absurd_eq}
use Rattle.basics.proofs.Every.{every_drop, every_map}
use Rattle.table.specs.Table.{Entry, table_of}
use Rattle.tag_parse.specs.declared.types.EBMLSize.{EBMLSize}
use Rattle.tag_parse.specs.declared.types.EBMLSize.TheVariants.{Known, Unknown}
use Rattle.decoder_rules.specs.declared.types.Answer.{Answer}
use Rattle.decoder_rules.specs.declared.types.Answer.TheVariants as answer
use Rattle.decoder_rules.specs.declared.types.Event.TheVariants as event
use Rattle.decoder_rules.specs.declared.types.Search.{Search}
use Rattle.decoder_rules.specs.declared.types.Search.TheVariants as search
use Rattle.decoder_rules.specs.declared.types.TagDecoder.{TagDecoder}
use Rattle.decoder_rules.specs.declared.types.WaitingEnd.{WaitingEnd}
use Rattle.tag_parse.specs.declared.types.TagValue.{TagValue}
use Rattle.guarantees.specs.Calls.{Call, lent, Response, answered, searched, silent, response_to, Step, record_after, history, Lent}
use Rattle.guarantees.specs.History.{Started, declared_end, header_end, end_after, later_end, later, after_response, taken_in, first_end, outermost_end, starts_open, position, test_after, child_test_never_off, is_no_recovery, never_recovered}
use Rattle.guarantees.specs.Promises.{HeaderAlone, WholeData, Runs, last_response, Answers, open_at, left_at, position_at}
use Rattle.guarantees.specs.CutRecords.{started_by, ever_started, is_known_end, every_known, top_by, last_top_end}
use Rattle.guarantees.proofs.Steps.{reaches_to, Ends}
use Rattle.guarantees.proofs.AnyCalls.{ResponseFacts, MeasuredResponse, promised_after, test_after_lem}
use Rattle.guarantees.proofs.Guarantees.{never_off_on, finish_closes}
use Rattle.guarantees.proofs.Nested.{reaches_outermost}
use Rattle.guarantees.proofs.FullEnds.{end_is_full, no_search}
use Rattle.guarantees.proofs.InOrder.{is_element, takes_none}
use Rattle.std.specs.Prelude.{Err, None, Ok, Option, Result, Some}
use Rattle.decoder_rules.specs.declared.types.Refusal.{Refusal}

-- ---- where elements end

-- the header alone ends inside its element
pub head_inside : (t : List Entry) (s : List ℕ) (p n e : ℕ) → HeaderAlone t s n → declared_end t p s ≡ Some e → p + n ≤ e
unfolding declared_end
head_inside t s p n e h q = go h.its.size (sym (ap (header_end p) h.read) ∙ q)
  where
    go : (z : EBMLSize) → end_after (p + h.its.len) z ≡ Some e → p + n ≤ e
    go Unknown r = let y : ◌≡◌ {A = ℕ} 0 1 = cc in absurd_eq y
    go (Known k) r = let y : p + h.its.len + k ≡ e = cc in omega (arith, y, h.no_more)

-- a Data ends where what is taken does
pub data-end : (strict : Bool) (t : List Entry) (s : List ℕ) (p n : ℕ) (v : TagValue) → WholeData strict t s p n v → declared_end t p s ≡ Some (p + n)
unfolding declared_end
data-end strict t s p n v h =
    let a : p + h.its.len + h.size ≡ p + n = omega (arith, h.count) in
    ap (header_end p) h.read ∙ ap (end_after (p + h.its.len)) h.known ∙ ap Some a

-- a known end is a number
pub known_end_lem : (g : Option ℕ) → is_known_end g ≡ true → (e : ℕ) × (g ≡ Some e)
known_end_lem None h = absurd (false≢true h)
known_end_lem (Some e) h = (e, refl)

-- ---- the outermost of Starts of known size

abbrev all_of : List Started → Bool
all_of l = every (λ m. is_known_end m.end) l

-- the outermost of some is known, and stays so with one more inside
outermost_known : (m : Started) (l : List Started) → all_of (m ∷ l) ≡ true → (e : ℕ) × (outermost_end (m ∷ l) ≡ Some e)
unfolding outermost_end every
outermost_known m l h = go (outermost_end l)
  where
    go : (g : Option ℕ) → (e : ℕ) × (first_end g m.end ≡ Some e)
    go None = known_end_lem m.end (both (is_known_end m.end) (all_of l) h).left
    go (Some e) = (e, refl)

under : (m : Started) (l : List Started) (f : ℕ) → all_of l ≡ true → outermost_end (m ∷ l) ≡ Some f → (l ≡ [] → ⊥) → outermost_end l ≡ Some f
unfolding outermost_end
under m [] f h e n = absurd (n refl)
under m (m' ∷ l) f h e n =
    let k = outermost_known m' l h in
    k.1 ∙ sym (ap (λ (g : Option ℕ). first_end g m.end) k.1) ∙ e

-- an element that ends at e, inside all of these, ends inside the outermost
inside_outermost : (e f : ℕ) (l : List Started) → Ends false (Some e) l → outermost_end l ≡ Some f → e ≤ f
inside_outermost e f l h q = leb-true e f (subst (λ (g : Option ℕ). reaches_to e g ≡ true) q (reaches_outermost e l (h refl)))

-- ---- the place

-- nothing is open and the position is the end g of the last element at the top, or this is open and the position is in it
pub data TopAt (g : Option ℕ) (l : List Started) (p : ℕ) : Type 0 where
  outside : l ≡ [] → g ≡ Some p → TopAt g l p
  inside : (f : ℕ) → g ≡ Some f → outermost_end l ≡ Some f → p ≤ f → TopAt g l p

same_top : (g : Option ℕ) (l : List Started) (p n : ℕ) → n ≡ 0 → TopAt g l p → TopAt g l (p + n)
same_top g l p n z (outside y q) = let e : p ≡ p + n = omega arith in outside y (q ∙ ap Some e)
same_top g l p n z (inside f q r h) = inside f q r (omega arith)

-- a Start of known end
start_top : (t : List Entry) (s : List ℕ) (y o n p : ℕ) (l : List Started) (g : Option ℕ) → HeaderAlone t s n → o ≡ p → Ends false (declared_end t p s) l → is_known_end (declared_end t o s) ≡ true
    → TopAt g l p → TopAt (top_by t s l (answered (Ok (answer.Event (event.Start y o))) n) g) (after_response t s (answered (Ok (answer.Event (event.Start y o))) n) l) (p + n)
unfolding outermost_end
start_top t s y o n p [] g h i ends k at =
    let e = known_end_lem (declared_end t o s) k in
    let q : declared_end t p s ≡ Some e.0 = ap (λ (z : ℕ). declared_end t z s) (sym i) ∙ e.1 in
    inside e.0 e.1 e.1 (head_inside t s p n e.0 h q)
start_top t s y o n p (m ∷ l) g h i ends k (outside z q) = let w : ◌≡◌ {A = ℕ} 0 1 = cc in absurd_eq w
start_top t s y o n p (m ∷ l) g h i ends k (inside f q r le) =
    let e = known_end_lem (declared_end t o s) k in
    let q' : declared_end t p s ≡ Some e.0 = ap (λ (z : ℕ). declared_end t z s) (sym i) ∙ e.1 in
    let ends' : Ends false (Some e.0) (m ∷ l) = subst (λ (z : Option ℕ). Ends false z (m ∷ l)) q' ends in
    let a : p + n ≤ f = omega (arith, head_inside t s p n e.0 h q', inside_outermost e.0 f (m ∷ l) ends' r) in
    inside f q (ap (λ (z : Option ℕ). first_end z (declared_end t o s)) r) a

-- an End
end_top : (t : List Entry) (s : List ℕ) (end : WaitingEnd) (n p : ℕ) (l : List Started) (g : Option ℕ) → n ≡ 0 → all_of l ≡ true
    → ((f : ℕ) (m : Started) (rest : List Started) → l ≡ m ∷ rest → m.end ≡ Some f → f ≤ p)
    → TopAt g l p → TopAt (top_by t s l (answered (Ok (answer.Event (event.End end))) n) g) (drop 1 l) (p + n)
unfolding outermost_end every
end_top t s end n p [] g z k full at = same_top g [] p n z at
end_top t s end n p (m ∷ l) g z k full (outside y q) = let w : ◌≡◌ {A = ℕ} 0 1 = cc in absurd_eq w
end_top t s end n p (m ∷ []) g z k full (inside f q r le) = let a : f ≡ p + n = omega (arith, full f m [] refl r, le, z) in outside refl (q ∙ ap Some a)
end_top t s end n p (m ∷ m' ∷ l) g z k full (inside f q r le) =
    let known = (both (is_known_end m.end) (all_of (m' ∷ l)) k).right in
    inside f q (under m (m' ∷ l) f known r (λ e. let w : ◌≡◌ {A = ℕ} 0 1 = cc in absurd_eq w)) (omega arith)

-- a Data
data-top : (strict : Bool) (t : List Entry) (s : List ℕ) (y o n p : ℕ) (v : TagValue) (l : List Started) (g : Option ℕ) → WholeData strict t s p n v → o ≡ p → Ends false (declared_end t p s) l
    → TopAt g l p → TopAt (top_by t s l (answered (Ok (answer.Event (event.Data y o v))) n) g) l (p + n)
data-top strict t s y o n p v [] g h i ends at = outside refl (ap (λ (z : ℕ). declared_end t z s) i ∙ data-end strict t s p n v h)
data-top strict t s y o n p v (m ∷ l) g h i ends (outside z q) = let w : ◌≡◌ {A = ℕ} 0 1 = cc in absurd_eq w
data-top strict t s y o n p v (m ∷ l) g h i ends (inside f q r le) =
    inside f q r (inside_outermost (p + n) f (m ∷ l) (subst (λ (z : Option ℕ). Ends false z (m ∷ l)) (data-end strict t s p n v h) ends) r)

-- what any call tells, where the child-size test is on
told_top : (strict : Bool) (t : List Entry) (s : List ℕ) (l : List Started) (left : List ℕ) (p : ℕ) (g : Option ℕ) (x : Response) (ever : List Started) → ResponseFacts t false s l left p x → MeasuredResponse strict t s p x
    → ((a : Result Answer Refusal) (n : ℕ) → x ≡ answered a n → is_element a ≡ false → n ≡ 0) → ((a : Result Search Refusal) (n : ℕ) → x ≡ searched a n → ⊥)
    → ((end : WaitingEnd) (n f : ℕ) (m : Started) (rest : List Started) → x ≡ answered (Ok (answer.Event (event.End end))) n → l ≡ m ∷ rest → m.end ≡ Some f → f ≤ p)
    → all_of (started_by t s x ever) ≡ true → all_of l ≡ true → TopAt g l p → TopAt (top_by t s l x g) (after_response t s x l) (p + taken_in x)
unfolding every
told_top strict t s l left p g (answered (Ok (answer.Event (event.Start y o))) n) ever f m none unsearched full ks kl at =
    start_top t s y o n p l g m f.1.offset f.1.inside (both (is_known_end (declared_end t o s)) (all_of ever) ks).left at
told_top strict t s l left p g (answered (Ok (answer.Event (event.End end))) n) ever f m none unsearched full ks kl at =
    end_top t s end n p l g (none _ n refl refl) kl (λ e m' rest q u. full end n e m' rest refl q u) at
told_top strict t s l left p g (answered (Ok (answer.Event (event.Data y o v))) n) ever f m none unsearched full ks kl at = data-top strict t s y o n p v l g m f.1.offset f.1.inside at
told_top strict t s l left p g (answered (Ok (answer.NeedMore missing)) n) ever f m none unsearched full ks kl at = same_top g l p n (none _ n refl refl) at
told_top strict t s l left p g (answered (Ok answer.Finished) n) ever f m none unsearched full ks kl at = same_top g l p n (none _ n refl refl) at
told_top strict t s l left p g (answered (Err r) n) ever f m none unsearched full ks kl at = same_top g l p n (none _ n refl refl) at
told_top strict t s l left p g (searched a n) ever f m none unsearched full ks kl at = absurd (unsearched a n refl)
told_top strict t s l left p g silent ever f m none unsearched full ks kl at = same_top g l p 0 refl at

-- ---- which Starts are of known size

-- where those up to a call are, those before it are
told_before : (t : List Entry) (s : List ℕ) (x : Response) (ever : List Started) → all_of (started_by t s x ever) ≡ true → all_of ever ≡ true
unfolding every
told_before t s (answered (Ok (answer.Event (event.Start y o))) n) ever k = (both (is_known_end (declared_end t o s)) (all_of ever) k).right
told_before t s (answered (Ok (answer.Event (event.End end))) n) ever k = k
told_before t s (answered (Ok (answer.Event (event.Data y o v))) n) ever k = k
told_before t s (answered (Ok (answer.NeedMore missing)) n) ever k = k
told_before t s (answered (Ok answer.Finished) n) ever k = k
told_before t s (answered (Err r) n) ever k = k
told_before t s (searched a n) ever k = k
told_before t s silent ever k = k

-- a known end is known later too
known_later : (n : ℕ) (g : Option ℕ) → is_known_end g ≡ true → is_known_end (later_end n g) ≡ true
known_later n None e = e
known_later n (Some f) e = refl

-- those that are open stay so
told_known : (t : List Entry) (s : List ℕ) (x : Response) (ever l : List Started) → (all_of ever ≡ true → all_of l ≡ true)
    → all_of (started_by t s x ever) ≡ true → all_of (after_response t s x l) ≡ true
unfolding every later
told_known t s (answered (Ok (answer.Event (event.Start y o))) n) ever l h k = let b = both (is_known_end (declared_end t o s)) (all_of ever) k in and_both b.left (h b.right)
told_known t s (answered (Ok (answer.Event (event.End end))) n) ever l h k = every_drop (λ (m : Started). is_known_end m.end) 1 l (h k)
told_known t s (answered (Ok (answer.Event (event.Data y o v))) n) ever l h k = h k
told_known t s (answered (Ok (answer.NeedMore missing)) n) ever l h k = h k
told_known t s (answered (Ok answer.Finished) n) ever l h k = h k
told_known t s (answered (Err r) n) ever l h k = h k
told_known t s (searched (Ok (search.Found passed)) n) ever l h k =
    every_map (λ (m : Started). is_known_end m.end) (later passed) (λ (m : Started). is_known_end m.end) (λ m e. known_later passed m.end e) l (h k)
told_known t s (searched (Ok (search.NotFound passed)) n) ever l h k = h k
told_known t s (searched (Err r) n) ever l h k = h k
told_known t s silent ever l h k = h k

-- where every Start is of known size, those that are open are
pub known_open : (t : List Entry) (h : List Step) → every_known t h ≡ true → all_of (starts_open t h) ≡ true
unfolding ever_started starts_open every
known_open t [] k = refl
known_open t (s ∷ h) k = told_known t (lent s.call) s.told (ever_started t h) (starts_open t h) (known_open t h) k

-- ---- any calls

module _ (es ps : List ℕ) where
  abbrev t : List Entry
  t = table_of es ps

  -- where every Start is of known size, those before the last call are
  pub known_before : (cs : List Call) (c : Call) → every_known t (history es ps (c ∷ cs)) ≡ true → every_known t (history es ps cs) ≡ true
  unfolding history ever_started
  known_before cs c k = told_before t (lent c) (last_response es ps cs c) (ever_started t (history es ps cs)) k

  -- so it is after any calls
  pub top_at : (cs : List Call) → Runs es ps cs → child_test_never_off cs ≡ true → never_recovered cs ≡ true → every_known t (history es ps cs) ≡ true
      → TopAt (last_top_end t (history es ps cs)) (open_at es ps cs) (position_at es ps cs)
  unfolding Lent history ever_started starts_open position last_top_end child_test_never_off never_recovered
  top_at [] run on none k = outside refl refl
  top_at (c ∷ cs) run on none k =
      let d : TagDecoder = record_after es ps cs in
      let before : Runs es ps cs = record { checked = run.checked; octets = run.octets.1 } in
      let b = both (test_after c true) (child_test_never_off cs) on in
      let r = both (is_no_recovery c) (never_recovered cs) none in
      let ever = ever_started t (history es ps cs) in
      let unsearched = no_search es ps d c r.left in
      let known = known_before cs c k in
      let off : d.settings.allow_oversized ≡ false = not-false _ (test_after_lem es ps run.checked cs run.octets.1 ∙ never_off_on cs b.right) in
      let f = subst (λ (x : Bool). ResponseFacts t x (lent c) (open_at es ps cs) (left_at es ps cs c) (position_at es ps cs) (response_to es ps d c)) off (promised_after es ps cs c run).promised in
      told_top _ t (lent c) (open_at es ps cs) (left_at es ps cs c) (position_at es ps cs) (last_top_end t (history es ps cs)) (last_response es ps cs c) ever f (promised_after es ps cs c run).measured
      (takes_none es ps d c) unsearched (λ end n e m rest q u v. end_is_full es ps cs c run b.right end e m rest (n, q) u v) k (known_open t (history es ps cs) known)
      (top_at cs before b.right r.right known)

  -- when the finish is answered, the position is the end of the last element at the top
  pub finish_at_the_end : (cs : List Call) (c : Call) → Runs es ps (c ∷ cs) → child_test_never_off cs ≡ true → never_recovered cs ≡ true → every_known t (history es ps cs) ≡ true
      → Answers es ps cs c (Ok answer.Finished) → last_top_end t (history es ps cs) ≡ Some (position_at es ps cs)
  unfolding Lent outermost_end
  finish_at_the_end cs c run on none k a =
      go (last_top_end t (history es ps cs)) (open_at es ps cs) (finish_closes es ps cs c run a) (top_at cs (record { checked = run.checked; octets = run.octets.1 }) on none k)
    where
      go : (g : Option ℕ) (l : List Started) → l ≡ [] → TopAt g l (position_at es ps cs) → g ≡ Some (position_at es ps cs)
      go g l y (outside z q) = q
      go g l y (inside f q r h) = let w : None ≡ Some f = sym (ap outermost_end y) ∙ r in let z : ◌≡◌ {A = ℕ} 0 1 = cc in absurd_eq z
