-- What a finish means: where the child-size test was never off and there was no recovery, every Start of known size that
-- was ever answered has been read to its end. A Start of known size has its End only where it is full, so that one which
-- is not full is still open, and at the finish none is. Assumes nothing.
use Prim.Native.Nat.{ℕ, ◌+◌, ◌≤◌, ◌<◌}
use mathlib.Core.Path.{◌≡◌, refl, sym, ap, ◌∙◌, subst}
use mathlib.Core.Bool.{true, false≢true}
use mathlib.Core.List.Memᴰ
use mathlib.Core.List.{List, [], ◌∷◌, map, Memᴰ}
use mathlib.Core.Logic.{⊎_elim}
use native.Mathlib.Decide.{dec_le}
use native.Mathlib.Numerals.{add-one}
use native.Mathlib.Omega.{arith}
use borrow.Author.Tests.{leb-true}
use lib.ListN.{take, drop}
use Rattle.basics.specs.Lists.{every}
use Rattle.basics.proofs.Bools.{both, absurd_eq}
use Rattle.basics.proofs.Every.{every_append, every_take}
use Rattle.table.specs.Table.{Entry, table_of}
use Rattle.decoder_rules.specs.declared.types.Answer.TheVariants as answer
use Rattle.decoder_rules.specs.declared.types.Event.TheVariants as event
use Rattle.decoder_rules.specs.declared.types.Search.{Search}
use Rattle.decoder_rules.specs.declared.types.TagDecoder.{TagDecoder}
use Rattle.decoder_rules.specs.declared.types.WaitingEnd.{WaitingEnd}
use Rattle.guarantees.specs.Calls.{Call, decoding, ending, recovering, allow, strictly, limit, lent, Response, answered, searched, silent, response_to, next, record_after, history, Lent}
use Rattle.guarantees.specs.History.{Started, after_response, taken_in, first_end, outermost_end, starts_open, position, test_after, child_test_never_off, is_no_recovery, never_recovered}
use Rattle.guarantees.specs.Promises.{Runs, last_response, Answers, open_at, left_at, position_at}
use Rattle.guarantees.specs.CutRecords.{started_by, ever_started}
use Rattle.guarantees.proofs.Ends.{ended_by}
use Rattle.guarantees.proofs.Tied.{parent_of, stack}
use Rattle.guarantees.proofs.Steps.{reaches_to, all_reach}
use Rattle.guarantees.proofs.AnyCalls.{BatchResponse, promised_after}
use Rattle.guarantees.proofs.Guarantees.{finish_closes}
use Rattle.guarantees.proofs.Nested.{Nested, nested_after, reaches_outermost}
use Rattle.std.specs.Prelude.{Err, None, Ok, Option, Result, Some}
use Rattle.decoder_rules.specs.declared.types.Refusal.{Refusal}

-- ---- a Start of known size has its End only where it is full

parents_reach : (f : ℕ) (left : List ℕ) → all_reach f (map parent_of left) ≡ true
unfolding every
parents_reach f [] = refl
parents_reach f (x ∷ left) = parents_reach f left

full_by : (m : Started) (l : List Started) (left : List ℕ) (w p f : ℕ) → ended_by p (outermost_end (take (w + 1) (stack (m ∷ l) left))) ≡ true → Nested (m ∷ l) → m.end ≡ Some f → f ≤ p
unfolding outermost_end Nested
full_by m l left w p f b h e =
    let b' : ended_by p (first_end (outermost_end (take w (stack l left))) m.end) ≡ true = rw add-one at b in
    let r : all_reach f l ≡ true = rw e at h.0 in
    let q : reaches_to f (outermost_end (take w (stack l left))) ≡ true =
    reaches_outermost f (take w (stack l left)) (every_take (λ (o : Started). reaches_to f o.end) w (stack l left) (every_append (λ (o : Started). reaches_to f o.end) l (map parent_of left) r (parents_reach f left))) in
    go (outermost_end (take w (stack l left))) q b'
  where
    go : (g : Option ℕ) → reaches_to f g ≡ true → ended_by p (first_end g m.end) ≡ true → f ≤ p
    go None q b = let c : ended_by p (Some f) ≡ true = rw e at b in leb-true f p c
    go (Some g) q b = omega (arith, leb-true f g q, leb-true g p b)

-- the End of the last Start that is open, if that is of known size, comes where it is full
pub end_is_full : (es ps : List ℕ) (cs : List Call) (c : Call) → Runs es ps (c ∷ cs) → child_test_never_off cs ≡ true → (end : WaitingEnd) (f : ℕ) (m : Started) (l : List Started)
    → Answers es ps cs c (Ok (answer.Event (event.End end))) → open_at es ps cs ≡ m ∷ l → m.end ≡ Some f → f ≤ position_at es ps cs
unfolding Lent
end_is_full es ps cs c run on end f m l a e k =
    let d = next es ps (record_after es ps cs) c in
    let before : Runs es ps cs = record { checked = run.checked; octets = run.octets.1 } in
    let b = subst (λ (z : Response). BatchResponse (stack (open_at es ps cs) (left_at es ps cs c)) (position_at es ps cs) z d) a.1 (promised_after es ps cs c run).batch in
    let b' : ended_by (position_at es ps cs) (outermost_end (take (d.waiting_count + 1) (stack (m ∷ l) (left_at es ps cs c)))) ≡ true =
    subst (λ (z : List Started). ended_by (position_at es ps cs) (outermost_end (take (d.waiting_count + 1) (stack z (left_at es ps cs c)))) ≡ true) e b in
    full_by m l (left_at es ps cs c) d.waiting_count (position_at es ps cs) f b' (subst Nested e (nested_after es ps cs before on)) k

-- ---- a call that is no recovery

-- tells of no search
pub no_search : (es ps : List ℕ) (d : TagDecoder) (c : Call) → is_no_recovery c ≡ true → (a : Result Search Refusal) (n : ℕ) → response_to es ps d c ≡ searched a n → ⊥
no_search es ps d (decoding s) e a n q = let z : ◌≡◌ {A = ℕ} 0 1 = cc in absurd_eq z
no_search es ps d (ending s) e a n q = let z : ◌≡◌ {A = ℕ} 0 1 = cc in absurd_eq z
no_search es ps d (recovering s) e a n q = false≢true e
no_search es ps d (allow ids hierarchy oversized) e a n q = let z : ◌≡◌ {A = ℕ} 0 1 = cc in absurd_eq z
no_search es ps d (strictly b) e a n q = let z : ◌≡◌ {A = ℕ} 0 1 = cc in absurd_eq z
no_search es ps d (limit m) e a n q = let z : ◌≡◌ {A = ℕ} 0 1 = cc in absurd_eq z

-- ---- every Start that was ever answered

-- one that is not full is still open
abbrev StillOpen : List Started → List Started → ℕ → Type 0
StillOpen ever l p = (m : Started) → Memᴰ m ever → (f : ℕ) → m.end ≡ Some f → p < f → Memᴰ m l

less : (p n f : ℕ) → p + n < f → p < f
less p n f h = omega arith

told_kept : (t : List Entry) (s : List ℕ) (x : Response) (l ever : List Started) (p : ℕ)
    → ((end : WaitingEnd) (n f : ℕ) (m : Started) (rest : List Started) → x ≡ answered (Ok (answer.Event (event.End end))) n → l ≡ m ∷ rest → m.end ≡ Some f → f ≤ p)
    → ((a : Result Search Refusal) (n : ℕ) → x ≡ searched a n → ⊥) → StillOpen ever l p → StillOpen (started_by t s x ever) (after_response t s x l) (p + taken_in x)
told_kept t s (answered (Ok (answer.Event (event.Start y o))) n) l ever p full none k m i f e h =
    ⊎_elim (λ q. Memᴰ.head q) (λ j. Memᴰ.tail (k m j f e (less p n f h))) (Memᴰ.cases_cons i)
told_kept t s (answered (Ok (answer.Event (event.End end))) n) l ever p full none k m i f e h = go l (λ m' rest q. full end n f m' rest refl q) (k m i f e (less p n f h))
  where
    go : (l : List Started) → ((m' : Started) (rest : List Started) → l ≡ m' ∷ rest → m'.end ≡ Some f → f ≤ p) → Memᴰ m l → Memᴰ m (drop 1 l)
    go [] u j = absurd (Memᴰ.not-nil j)
    go (m' ∷ rest) u j =
        ⊎_elim (λ q. absurd (omega (arith, u m' rest refl (ap (λ (z : Started). z.end) (sym q) ∙ e), h))) (λ z. z) (Memᴰ.cases_cons j)
told_kept t s (answered (Ok (answer.Event (event.Data y o v))) n) l ever p full none k m i f e h = k m i f e (less p n f h)
told_kept t s (answered (Ok (answer.NeedMore missing)) n) l ever p full none k m i f e h = k m i f e (less p n f h)
told_kept t s (answered (Ok answer.Finished) n) l ever p full none k m i f e h = k m i f e (less p n f h)
told_kept t s (answered (Err r) n) l ever p full none k m i f e h = k m i f e (less p n f h)
told_kept t s (searched a n) l ever p full none k m i f e h = absurd (none a n refl)
told_kept t s silent l ever p full none k m i f e h = k m i f e (less p 0 f h)

module _ (es ps : List ℕ) where
  still_open : (cs : List Call) → Runs es ps cs → child_test_never_off cs ≡ true → never_recovered cs ≡ true
      → StillOpen (ever_started (table_of es ps) (history es ps cs)) (open_at es ps cs) (position_at es ps cs)
  unfolding Lent history ever_started starts_open position child_test_never_off never_recovered
  still_open [] run on none = λ m i f e h. absurd (Memᴰ.not-nil i)
  still_open (c ∷ cs) run on none =
      let before : Runs es ps cs = record { checked = run.checked; octets = run.octets.1 } in
      let b = both (test_after c true) (child_test_never_off cs) on in
      let r = both (is_no_recovery c) (never_recovered cs) none in
      told_kept (table_of es ps) (lent c) (last_response es ps cs c) (open_at es ps cs) (ever_started (table_of es ps) (history es ps cs)) (position_at es ps cs)
      (λ end n f m rest q u v. end_is_full es ps cs c run b.right end f m rest (n, q) u v) (no_search es ps (record_after es ps cs) c r.left) (still_open cs before b.right r.right)

  -- when the finish is answered, every Start of known size that was ever answered has been read to its end
  pub finish_is_whole : (cs : List Call) (c : Call) → Runs es ps (c ∷ cs) → child_test_never_off cs ≡ true → never_recovered cs ≡ true → Answers es ps cs c (Ok answer.Finished)
      → (m : Started) → Memᴰ m (ever_started (table_of es ps) (history es ps cs)) → (f : ℕ) → m.end ≡ Some f → f ≤ position_at es ps cs
  unfolding Lent
  finish_is_whole cs c run on none a m i f e = go (dec_le f (position_at es ps cs))
    where
      go : Dec (f ≤ position_at es ps cs) → f ≤ position_at es ps cs
      go (yes h) = h
      go (no h) =
          let before : Runs es ps cs = record { checked = run.checked; octets = run.octets.1 } in
          absurd (Memᴰ.not-nil (subst (λ (l : List Started). Memᴰ m l) (finish_closes es ps cs c run a) (still_open cs before on none m i f e (omega arith))))
