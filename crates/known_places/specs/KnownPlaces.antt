-- What closed sizes buy (document 02, CR 12): where every master is of known size, the place of an element is the path
-- that the table gives its ID. Stated of what a caller can tell, the calls and their answers; nothing here is read off
-- the decoder's record. A list of calls, and a history, stand latest first.
use Rattle.std.specs.Prelude.{ℕ, ◌+◌, ◌≤◌, ◌≡◌, Bool, true, not, ◌&&◌, ◌||◌, length, None, Ok, Some}
use mathlib.Core.List.{List, [], ◌∷◌, ◌++◌, map, reverse, Memᴰ}
use Rattle.basics.specs.Lists.{every}
use Rattle.table.specs.Check.{only_ids}
use Rattle.table.specs.Table.{Entry, table_of, data_type_of, path_of, is_typed}
use Rattle.table.specs.declared.types.PathPart.{PathPart}
use Rattle.table.specs.declared.types.PathPart.TheVariants.{Id}
use Rattle.spec_util.specs.Ended.{is_ended_by}
use Rattle.spec_util.specs.Rfc8794.{EndsUnknownSize}
use Rattle.decoder_rules.specs.declared.types.Answer.TheVariants as answer
use Rattle.decoder_rules.specs.declared.types.Event.{Event}
use Rattle.guarantees.specs.Calls.{Call, decoding, ending, recovering, allow, strictly, limit, lent, Step, history, Lent}
use Rattle.guarantees.specs.CutRecords.{is_known_end, every_known}
use Rattle.guarantees.specs.History.{Started, never_recovered}
use Rattle.guarantees.specs.Promises.{event_id, element_offset, Answers, open_at, left_at}
use Rattle.guarantees.specs.Settling.{is_strict_after, seen_parents}
use Rattle.guarantees.specs.UnknownEnds.{standing_at}

-- ---- "hierarchy test on"

-- whether the hierarchy test is on after a call, where it was on or not before it
abbrev pub hierarchy_after : Call → Bool → Bool
hierarchy_after (decoding s) on = on
hierarchy_after (ending s) on = on
hierarchy_after (recovering s) on = on
hierarchy_after (allow ids hierarchy oversized) on = not hierarchy
hierarchy_after (strictly b) on = on
hierarchy_after (limit n) on = on

-- the hierarchy test is on after these calls; it is on at first
unfoldable pub hierarchy_test_on : List Call → Bool
hierarchy_test_on [] = true
hierarchy_test_on (c ∷ cs) = hierarchy_after c (hierarchy_test_on cs)

-- the hierarchy test was on at every one of these calls
unfoldable pub hierarchy_test_never_off : List Call → Bool
hierarchy_test_never_off [] = true
hierarchy_test_never_off (c ∷ cs) = hierarchy_after c true && hierarchy_test_never_off cs

-- ---- "the ported mode"

-- a call does not ask for strict reading
abbrev pub asks_ported : Call → Bool
asks_ported (decoding s) = true
asks_ported (ending s) = true
asks_ported (recovering s) = true
asks_ported (allow ids hierarchy oversized) = true
asks_ported (strictly b) = not b
asks_ported (limit n) = true

-- reading was never strict
unfoldable pub never_strict : List Call → Bool
never_strict [] = true
never_strict (c ∷ cs) = asks_ported c && never_strict cs

-- ---- "no parent ever implied by settling"

-- every parent that a call of this history implied
unfoldable pub ever_implied : List ℕ → List Entry → List Step → List ℕ
ever_implied ps t [] = []
ever_implied ps t (s ∷ h) = seen_parents ps t h (lent s.call) s.told ++ ever_implied ps t h

-- ---- the place

-- these masters, of which the innermost is the first, as a path: outermost first
abbrev pub place_of : List Started → List PathPart
place_of masters = map (λ m. Id m.id) (reverse masters)

-- a master of known size stays open before the ID x; one of unknown size does, unless x ends it
abbrev pub stays_before : List Entry → ℕ → Started → Bool
stays_before t x m = is_known_end m.end || not (is_ended_by t m.id x)

-- "Start and Data of a typed ID whose path is all IDs": the call c after the calls cs hands out e
pub record OfPath (es ps : List ℕ) (cs : List Call) (c : Call) (e : Event) : Type 0 where
  pub handed_out : Answers es ps cs c (Ok (answer.Event e))
  pub offset : ℕ
  pub element : element_offset e ≡ Some offset
  pub typed : is_typed (data_type_of (table_of es ps) (event_id e)) ≡ true
  pub ids : only_ids (path_of (table_of es ps) (event_id e)) ≡ true

-- ---- what is asked of the calls cs and then c

-- document 02's words
pub record AsAsked (es ps : List ℕ) (cs : List Call) (c : Call) : Type 0 where
  pub octets : Lent (c ∷ cs)
  pub ported : never_strict (c ∷ cs) ≡ true
  pub test_on : hierarchy_test_never_off (c ∷ cs) ≡ true
  pub no_recovery : never_recovered (c ∷ cs) ≡ true
  pub none_implied : ever_implied ps (table_of es ps) (history es ps (c ∷ cs)) ≡ []
  pub none_unknown : every_known (table_of es ps) (history es ps (c ∷ cs)) ≡ true

-- what is needed of them, in either mode: the test is on at c, no implied parent is left there, and the Starts that are
-- open there are of known size. Before, the test may have been off, there may have been recoveries and implied parents,
-- and Starts of Unknown size that have had their End; c itself may hand out one more of these
pub record KnownHere (es ps : List ℕ) (cs : List Call) (c : Call) : Type 0 where
  pub octets : Lent (c ∷ cs)
  pub test_on : hierarchy_test_on cs ≡ true
  pub none_left : left_at es ps cs c ≡ []
  pub known : every (λ m. is_known_end m.end) (open_at es ps cs) ≡ true

-- ---- the statements, of the table in these words

-- known sizes mean known places
pub record KnownPlaces (es ps : List ℕ) : Type 0 where
  -- "at every Start and Data of a typed ID whose path is all IDs, the open masters are exactly that path, in order"
  pub place : (cs : List Call) (c : Call) → AsAsked es ps cs c → (e : Event) → OfPath es ps cs c e → place_of (open_at es ps cs) ≡ path_of (table_of es ps) (event_id e)
  -- "so at most 16"
  pub at_most_16 : (cs : List Call) (c : Call) → AsAsked es ps cs c → (e : Event) → OfPath es ps cs c e → length (open_at es ps cs) ≤ 16
  -- document 02 asks for more than is needed: the test may have been off before this call, there may have been
  -- recoveries, and this call may hand out a master of Unknown size
  pub as_asked : (cs : List Call) (c : Call) → AsAsked es ps cs c → KnownHere es ps cs c
  pub known_before : (cs : List Call) (c : Call) → Lent (c ∷ cs) → hierarchy_test_on cs ≡ true → ever_implied ps (table_of es ps) (history es ps (c ∷ cs)) ≡ []
      → every_known (table_of es ps) (history es ps cs) ≡ true → KnownHere es ps cs c
  -- the same where no more is asked than is needed
  pub place_here : (cs : List Call) (c : Call) → KnownHere es ps cs c → (e : Event) → OfPath es ps cs c e → place_of (open_at es ps cs) ≡ path_of (table_of es ps) (event_id e)
  pub at_most_16_here : (cs : List Call) (c : Call) → KnownHere es ps cs c → (e : Event) → OfPath es ps cs c e → length (open_at es ps cs) ≤ 16
  -- in either mode, whatever sizes there were: all that stand, implied parents too, are the path, if each that is of
  -- Unknown size stays open before the element
  pub place_standing : (cs : List Call) (c : Call) → Lent (c ∷ cs) → hierarchy_test_on cs ≡ true → (e : Event) → OfPath es ps cs c e
      → every (stays_before (table_of es ps) (event_id e)) (standing_at es ps cs c) ≡ true → place_of (standing_at es ps cs c) ≡ path_of (table_of es ps) (event_id e)
  -- and only then
  pub standing-stays : (cs : List Call) (c : Call) (e : Event) → OfPath es ps cs c e → place_of (standing_at es ps cs c) ≡ path_of (table_of es ps) (event_id e)
      → every (stays_before (table_of es ps) (event_id e)) (standing_at es ps cs c) ≡ true

-- the same strictly, where no size need be known: section 6.2 of the standard ends masters of Unknown size first
pub record StrictPlaces (es ps : List ℕ) : Type 0 where
  -- all that stand, implied parents too, are the path
  pub strict_standing : (cs : List Call) (c : Call) → Lent (c ∷ cs) → is_strict_after (history es ps cs) ≡ true → hierarchy_test_on cs ≡ true
      → (e : Event) → OfPath es ps cs c e → place_of (standing_at es ps cs c) ≡ path_of (table_of es ps) (event_id e)
  -- so a master of Unknown size that the element ends, by the words of section 6.2, has had its End before
  pub strict_ended_first : (cs : List Call) (c : Call) → Lent (c ∷ cs) → is_strict_after (history es ps cs) ≡ true → hierarchy_test_on cs ≡ true
      → (e : Event) → OfPath es ps cs c e → (m : Started) → Memᴰ m (standing_at es ps cs c) → m.end ≡ None → EndsUnknownSize (table_of es ps) m.id (event_id e) → ⊥
  -- and the open masters are exactly that path, where no implied parent is left
  pub strict_place : (cs : List Call) (c : Call) → Lent (c ∷ cs) → is_strict_after (history es ps cs) ≡ true → hierarchy_test_on cs ≡ true → left_at es ps cs c ≡ []
      → (e : Event) → OfPath es ps cs c e → place_of (open_at es ps cs) ≡ path_of (table_of es ps) (event_id e)
  -- and at most 16, implied parents counted
  pub strict_at_most_16 : (cs : List Call) (c : Call) → Lent (c ∷ cs) → is_strict_after (history es ps cs) ≡ true → hierarchy_test_on cs ≡ true
      → (e : Event) → OfPath es ps cs c e → length (open_at es ps cs) + length (left_at es ps cs c) ≤ 16
