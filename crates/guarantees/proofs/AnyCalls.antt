-- The one induction over calls: from a fresh decoder, whatever the calls are, the record is tied to what a caller can
-- tell, and the child-size test is on where the calls say so. Assumes nothing.
use Prim.Native.Nat.{ℕ, ◌+◌}
use mathlib.Core.Path.{◌≡◌, refl, sym, ap, ◌∙◌, subst}
use mathlib.Core.Bool.{Bool, true, false, not, true≢false, ◌||◌}
use mathlib.Core.List.{List, [], ◌∷◌, ◌++◌}
use native.Mathlib.Omega.{arith}
use lib.ListN.{length}
use Rattle.tools.specs.Bytes.{Octets}
use Rattle.table.specs.Shape.{good_shape}
use Rattle.table.specs.Check.{check_table}
use Rattle.table.specs.Table.{Entry, table_of}
use Rattle.table.proofs.Passed.{passed_gives, answered as shape_of}
use Rattle.decoder_rules.specs.OneCall.{is_settle, check_record10to12}
use Rattle.decoder_rules.specs.Deciding.{decide}
use Rattle.decoder_rules.specs.declared.types.Settings.{Settings}
use Rattle.decoder_rules.specs.declared.types.TagDecoder.{TagDecoder}
use Rattle.basics.proofs.Bools.{cond_yes, cond_no}
use Rattle.decoder_rules.specs.Record.{with_settings}
use Rattle.decoder_rules.specs.Settings.{with_allowances, with_strict, with_greatest, allowing, limited_to}
use Rattle.decoder_rules.proofs.FirstPlace.{settled_before}
use Rattle.decoder_rules.proofs.MoveEffects.{opens-length}
use Rattle.guarantees.specs.Calls.{Call, decoding, ending, recovering, allow, strictly, limit, lent, Response, answered, searched, silent, response_to, next, record_after, history, Lent}
use Rattle.guarantees.specs.Settling.{mode_after, is_strict_after, implied_by, seen_note, has_settled, seen_parents}
use Rattle.guarantees.specs.History.{Started, after_response, starts_open, left_by, parents_left, taken_in, position, test_after, child_test_on}
use Rattle.guarantees.specs.Promises.{Runs, left_at}
use Rattle.guarantees.proofs.Notes.{search_note_or, note_of}
use Rattle.guarantees.proofs.Decided.{NoteFacts, decide_facts}
use Rattle.guarantees.proofs.Tied.{stack, Tied, fresh_tied}
use Rattle.guarantees.proofs.Moves.{settings_linked}
use Rattle.guarantees.proofs.Steps.{AnswerFacts, Quiet, stack_length, unsettled_waiting, Measured, SettledBy, Batch, decode_called, eof_called}
use Rattle.guarantees.proofs.ImpliedParentsVisible.{Began, next_settled, note_seen}
use Rattle.guarantees.proofs.Recovery.{SearchFacts, recover_searched, recover_keeps}
use Rattle.std.specs.Prelude.{Err, None, Ok, Option, Result, Some, ⊤}
use Rattle.decoder_rules.specs.declared.types.DecodeError.{DecodeError}
use Rattle.table.specs.declared.types.Path.{Path}
use Rattle.table.specs.declared.types.TableError.{TableError}
use Rattle.table.specs.declared.types.TableError.TheVariants as fault

-- ---- what the check gives

not_bad : (c : Result ⊤ TableError) → c ≡ Ok tt → c ≡ Err fault.BadShape → ⊥
not_bad c e f = let z : ◌≡◌ {A = ℕ} 0 1 = cc in omega arith

-- a table that the check passes has a good shape
pub good_shape_lem : (es ps : List ℕ) → check_table es ps ≡ Ok tt → good_shape es ps ≡ true
good_shape_lem es ps e = shape_of es ps (not_bad (check_table es ps) e)

-- ---- one call

-- what is promised of what a call answers
abbrev pub ResponseFacts : List Entry → Bool → List ℕ → List Started → List ℕ → ℕ → Response → Type 0
ResponseFacts t off s starts left p (answered a n) = AnswerFacts t off s starts left p a
ResponseFacts t off s starts left p (searched a n) = SearchFacts a
ResponseFacts t off s starts left p silent = Unit {0}

-- a Start takes its header alone and a Data its element whole, of what any call answers
abbrev pub MeasuredResponse : Bool → List Entry → List ℕ → ℕ → Response → Type 0
MeasuredResponse strict t s p (answered a n) = Measured strict t s p a n
MeasuredResponse strict t s p (searched a n) = Unit {0}
MeasuredResponse strict t s p silent = Unit {0}

-- `SettledBy` of any call
abbrev pub SettledByResponse : List Entry → Response → TagDecoder → Type 0
SettledByResponse t (answered a n) e = SettledBy t a e
SettledByResponse t (searched a n) e = Unit {0}
SettledByResponse t silent e = Unit {0}

-- an End closes with those that still wait, of what any call answers
abbrev pub BatchResponse : List Started → ℕ → Response → TagDecoder → Type 0
BatchResponse l p (answered a n) e = Batch l p a e
BatchResponse l p (searched a n) e = Unit {0}
BatchResponse l p silent e = Unit {0}

-- an answer that ends the events, of what any call answers
abbrev pub QuietResponse : Response → TagDecoder → Type 0
QuietResponse (answered a n) e = Quiet a n e
QuietResponse (searched a n) e = Unit {0}
QuietResponse silent e = Unit {0}

-- the promises of what the call c tells, and the invariant after it; left has the parents that c implies
pub record After (es ps : List ℕ) (d : TagDecoder) (starts : List Started) (left : List ℕ) (p : ℕ) (c : Call) : Type 0 where
  pub promised : ResponseFacts (table_of es ps) d.settings.allow_oversized (lent c) starts left p (response_to es ps d c)
  pub tied :
      Tied (table_of es ps) (next es ps d c) (after_response (table_of es ps) (lent c) (response_to es ps d c) starts) (left_by (response_to es ps d c) starts left) (p + taken_in (response_to es ps d c))
  pub measured : MeasuredResponse d.settings.strict (table_of es ps) (lent c) p (response_to es ps d c)
  pub settles : SettledByResponse (table_of es ps) (response_to es ps d c) (next es ps d c)
  pub quiet : QuietResponse (response_to es ps d c) (next es ps d c)
  pub batch : BatchResponse (stack starts left) p (response_to es ps d c) (next es ps d c)
  -- the child-size test is on after it as the call says
  pub test : not (next es ps d c).settings.allow_oversized ≡ test_after c (not d.settings.allow_oversized)
  -- and so is the mode
  pub mode : (next es ps d c).settings.strict ≡ mode_after c d.settings.strict

module _ (es ps : List ℕ) (checked : check_table es ps ≡ (Ok tt)) (d : TagDecoder) (starts : List Started) (left : List ℕ) (p : ℕ)
    (k : Tied (table_of es ps) d starts left p) where
  set_tied : (s : Settings) → Tied (table_of es ps) (with_settings d s) starts left (p + 0)
  unfolding with_settings
  set_tied s =
      let z : p ≡ p + 0 = omega arith in
      subst (Tied (table_of es ps) (with_settings d s) starts left) z
      (record { linked = settings_linked (table_of es ps) d starts left p k.linked s; finished = k.finished; full = k.full; batch = k.batch })

  limited : (n : Option ℕ) → Tied (table_of es ps) (limited_to d n) starts left (p + 0)
  limited None = set_tied (with_greatest d.settings false 0)
  limited (Some n) = set_tied (with_greatest d.settings true n)

  same_test : (n : Option ℕ) → not (limited_to d n).settings.allow_oversized ≡ not d.settings.allow_oversized
  unfolding with_settings
  same_test None = refl
  same_test (Some n) = refl

  same_mode : (n : Option ℕ) → (limited_to d n).settings.strict ≡ d.settings.strict
  unfolding with_settings
  same_mode None = refl
  same_mode (Some n) = refl

  set_test : (ids hierarchy oversized : Bool) → not (allowing d ids hierarchy oversized).settings.allow_oversized ≡ test_after (allow ids hierarchy oversized) (not d.settings.allow_oversized)
  unfolding with_settings
  set_test ids hierarchy oversized = refl

  -- what a call on a record that is tied promises, and that the record is tied after it
  pub after : (c : Call) → Octets (lent c) → After es ps d starts (implied_by ps (note_of es ps d c) ++ left) p c
  unfolding implied_by with_settings
  after (decoding s) byte =
      let c = decode_called es ps (good_shape_lem es ps checked) (passed_gives es ps checked) d s byte starts left p k in
      record { promised = c.promised; tied = c.tied; measured = c.measured; settles = c.settles; quiet = c.quiet; batch = c.batch; test = ap (λ (x : Settings). not x.allow_oversized) c.kept; mode = ap (λ (x : Settings). x.strict) c.kept }
  after (ending s) byte =
      let c = eof_called es ps (good_shape_lem es ps checked) (passed_gives es ps checked) d s byte starts left p k in
      record { promised = c.promised; tied = c.tied; measured = c.measured; settles = c.settles; quiet = c.quiet; batch = c.batch; test = ap (λ (x : Settings). not x.allow_oversized) c.kept; mode = ap (λ (x : Settings). x.strict) c.kept }
  after (recovering s) byte =
      let c = recover_searched es ps (good_shape_lem es ps checked) (passed_gives es ps checked) starts d s left p k in
      record { promised = c.promised; tied = c.tied; measured = tt; settles = tt; quiet = tt; batch = tt; test = ap (λ (x : Settings). not x.allow_oversized) (recover_keeps es ps d s).settings; mode = ap (λ (x : Settings). x.strict) (recover_keeps es ps d s).settings }
  after (allow ids hierarchy oversized) byte = record { promised = tt; tied = set_tied (with_allowances d.settings ids hierarchy oversized); measured = tt; settles = tt; quiet = tt; batch = tt; test = set_test ids hierarchy oversized; mode = refl }
  after (strictly b) byte = record { promised = tt; tied = set_tied (with_strict d.settings b); measured = tt; settles = tt; quiet = tt; batch = tt; test = refl; mode = refl }
  after (limit n) byte = record { promised = tt; tied = limited n; measured = tt; settles = tt; quiet = tt; batch = tt; test = same_test n; mode = same_mode n }

  -- ---- a settled record implies no parent

  decided : (s : List ℕ) → Octets s → d.settled ≡ true → implied_by ps (decide es ps d s).note ≡ []
  unfolding implied_by
  decided s byte u =
      go (decide es ps d s).note
      (decide_facts es ps (good_shape_lem es ps checked) (passed_gives es ps checked) d s byte k.linked.masters (opens-length d k.linked.arrays k.linked.good.open_count) k.linked.good).note
    where
      go : (n : Option Path) → NoteFacts ps (table_of es ps) d n → implied_by ps n ≡ []
      go None f = refl
      go (Some path) f = absurd (true≢false (sym u ∙ f.unsettled))

  -- a call on a settled record implies no parent
  pub settled_implies_none : (c : Call) → Octets (lent c) → d.settled ≡ true → implied_by ps (note_of es ps d c) ≡ []
  unfolding implied_by
  settled_implies_none (decoding s) byte u = decided s byte u
  settled_implies_none (ending s) byte u = decided s byte u
  settled_implies_none (recovering s) byte u = go (check_record10to12 es ps d (length s))
    where
      go : (x : Result ⊤ DecodeError) → implied_by ps (search_note_or ps (table_of es ps) d s x) ≡ []
      go (Ok _) = ap (implied_by ps) (settled_before (table_of es ps) d s _ u)
      go (Err e) = refl
  settled_implies_none (allow ids hierarchy oversized) byte u = refl
  settled_implies_none (strictly b) byte u = refl
  settled_implies_none (limit n) byte u = refl

-- ---- any calls

both_true : (a b x y : Bool) → a ≡ true → b ≡ true → (a || x) ≡ (b || y)
both_true a b x y p q = rw (p, q)

-- the record after these calls is tied to what a caller can tell, and has settled where a caller can tell so
record Known (es ps : List ℕ) (cs : List Call) : Type 0 where
  tied : Tied (table_of es ps) (record_after es ps cs) (starts_open (table_of es ps) (history es ps cs)) (parents_left ps (table_of es ps) (history es ps cs)) (position (history es ps cs))
  settled : (record_after es ps cs).settled ≡ has_settled (table_of es ps) (history es ps cs)
  mode : (record_after es ps cs).settings.strict ≡ is_strict_after (history es ps cs)

module _ (es ps : List ℕ) (checked : check_table es ps ≡ (Ok tt)) (cs : List Call) (k : Known es ps cs) where
  began : (record_after es ps cs).settled ≡ false → Began (record_after es ps cs)
  began u =
      let d = record_after es ps cs in
      let w = unsettled_waiting (table_of es ps) d _ _ _ k.tied.linked u in
      let l = stack_length (table_of es ps) d _ _ _ k.tied.linked w in
      record { unsettled = u; none_waiting = w; none_open = sym l ∙ ap length (k.tied.linked.unsettled u) }

  -- the note of a call is the one that a caller can tell, who knows the mode
  told_note_lem : (record_after es ps cs).settled ≡ false → (c : Call)
      → note_of es ps (record_after es ps cs) c ≡ seen_note (is_strict_after (history es ps cs)) (table_of es ps) (lent c) (response_to es ps (record_after es ps cs) c)
  told_note_lem e c =
      note_seen es ps (record_after es ps cs) (good_shape_lem es ps checked) k.tied.linked.good (began e) c
      ∙ ap (λ (m : Bool). seen_note m (table_of es ps) (lent c) (response_to es ps (record_after es ps cs) c)) k.mode

  -- the parents that a call implies are those that a caller can tell
  parents_seen : (c : Call) → Octets (lent c)
      → implied_by ps (note_of es ps (record_after es ps cs) c) ≡ seen_parents ps (table_of es ps) (history es ps cs) (lent c) (response_to es ps (record_after es ps cs) c)
  parents_seen c byte = go (record_after es ps cs).settled refl
    where
      go : (b : Bool) → (record_after es ps cs).settled ≡ b
          → implied_by ps (note_of es ps (record_after es ps cs) c) ≡ seen_parents ps (table_of es ps) (history es ps cs) (lent c) (response_to es ps (record_after es ps cs) c)
      go true e = settled_implies_none es ps checked (record_after es ps cs) _ _ _ k.tied c byte e ∙ sym (cond_yes _ [] _ (sym k.settled ∙ e))
      go false e = ap (implied_by ps) (told_note_lem e c) ∙ sym (cond_no _ [] _ (sym k.settled ∙ e))

  -- so what was proved of one call is proved of a call after these
  after_these : (c : Call) → Octets (lent c)
      → After es ps (record_after es ps cs) (starts_open (table_of es ps) (history es ps cs)) (left_at es ps cs c) (position (history es ps cs)) c
  after_these c byte =
      subst (λ (l : List ℕ). After es ps (record_after es ps cs) (starts_open (table_of es ps) (history es ps cs)) (l ++ parents_left ps (table_of es ps) (history es ps cs)) (position (history es ps cs)) c) (parents_seen c byte)
      (after es ps checked (record_after es ps cs) _ _ _ k.tied c byte)

  settled_next : (c : Call) → (next es ps (record_after es ps cs) c).settled
      ≡ (has_settled (table_of es ps) (history es ps cs) || is_settle (seen_note (is_strict_after (history es ps cs)) (table_of es ps) (lent c) (response_to es ps (record_after es ps cs) c)))
  settled_next c = next_settled es ps (record_after es ps cs) c ∙ go (record_after es ps cs).settled refl
    where
      go : (b : Bool) → (record_after es ps cs).settled ≡ b
          → ((record_after es ps cs).settled || is_settle (note_of es ps (record_after es ps cs) c))
          ≡ (has_settled (table_of es ps) (history es ps cs) || is_settle (seen_note (is_strict_after (history es ps cs)) (table_of es ps) (lent c) (response_to es ps (record_after es ps cs) c)))
      go true e =
          both_true (record_after es ps cs).settled (has_settled (table_of es ps) (history es ps cs)) (is_settle (note_of es ps (record_after es ps cs) c)) (is_settle (seen_note (is_strict_after (history es ps cs)) (table_of es ps) (lent c) (response_to es ps (record_after es ps cs) c))) e
          (sym k.settled ∙ e)
      go false e =
          ap (λ (b : Bool). b || is_settle (note_of es ps (record_after es ps cs) c)) k.settled
          ∙ ap (λ (x : Option Path). has_settled (table_of es ps) (history es ps cs) || is_settle x) (told_note_lem e c)

known : (es ps : List ℕ) → check_table es ps ≡ Ok tt → (cs : List Call) → Lent cs → Known es ps cs
unfolding record_after history starts_open parents_left position has_settled is_strict_after Lent
known es ps checked [] l = record { tied = fresh_tied (table_of es ps); settled = refl; mode = refl }
known es ps checked (c ∷ cs) l =
    let k = known es ps checked cs l.1 in
    let a = after_these es ps checked cs k c l.0 in
    record { tied = a.tied; settled = settled_next es ps checked cs k c; mode = a.mode ∙ ap (mode_after c) k.mode }

-- after any calls the record is tied to what a caller can tell
pub tied_after : (es ps : List ℕ) → check_table es ps ≡ Ok tt → (cs : List Call) → Lent cs
    → Tied (table_of es ps) (record_after es ps cs) (starts_open (table_of es ps) (history es ps cs)) (parents_left ps (table_of es ps) (history es ps cs)) (position (history es ps cs))
tied_after es ps checked cs l = (known es ps checked cs l).tied

-- the parents that a call after any calls implies are those that a caller can tell
pub parents_after : (es ps : List ℕ) → check_table es ps ≡ Ok tt → (cs : List Call) → Lent cs → (c : Call) → Octets (lent c)
    → implied_by ps (note_of es ps (record_after es ps cs) c) ≡ seen_parents ps (table_of es ps) (history es ps cs) (lent c) (response_to es ps (record_after es ps cs) c)
parents_after es ps checked cs l c byte = parents_seen es ps checked cs (known es ps checked cs l) c byte

-- after any calls the record has settled where a caller can tell so
pub settled_after : (es ps : List ℕ) → check_table es ps ≡ Ok tt → (cs : List Call) → Lent cs → (record_after es ps cs).settled ≡ has_settled (table_of es ps) (history es ps cs)
settled_after es ps checked cs l = (known es ps checked cs l).settled

-- after any calls reading is strict where a caller can tell so
pub mode_after_lem : (es ps : List ℕ) → check_table es ps ≡ Ok tt → (cs : List Call) → Lent cs → (record_after es ps cs).settings.strict ≡ is_strict_after (history es ps cs)
mode_after_lem es ps checked cs l = (known es ps checked cs l).mode

-- so the promises hold of the last call
pub promised_after : (es ps : List ℕ) (cs : List Call) (c : Call) → Runs es ps (c ∷ cs)
    → After es ps (record_after es ps cs) (starts_open (table_of es ps) (history es ps cs)) (left_at es ps cs c) (position (history es ps cs)) c
unfolding Lent
promised_after es ps cs c r = after_these es ps r.checked cs (known es ps r.checked cs r.octets.1) c r.octets.0

-- ---- the child-size test

-- after any calls the child-size test is on where the calls say so
pub test_after_lem : (es ps : List ℕ) → check_table es ps ≡ Ok tt → (cs : List Call) → Lent cs → not (record_after es ps cs).settings.allow_oversized ≡ child_test_on cs
unfolding record_after child_test_on Lent
test_after_lem es ps checked [] l = refl
test_after_lem es ps checked (c ∷ cs) l =
    (after_these es ps checked cs (known es ps checked cs l.1) c l.0).test ∙ ap (test_after c) (test_after_lem es ps checked cs l.1)
