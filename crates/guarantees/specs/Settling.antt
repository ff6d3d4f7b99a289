-- The implied parents as a caller can tell them, from the bytes lent and the answers alone. Document 01, step 7: "if
-- not yet settled and a typed ID's path is all IDs (or empty), the stack becomes those IDs".
use Rattle.std.specs.Prelude.{ℕ, suc, Bool, false, cond, ◌||◌, List, [], ◌∷◌, map, reverse, eqb, Err, None, Ok, Option, Result, Some}
use Rattle.table.specs.Table.{Entry, parts_of, parts_in}
use Rattle.spec_util.specs.declared.types.OpenTag.{OpenTag}
use Rattle.decoder_rules.specs.Numbers.{answer_refusal}
use Rattle.decoder_rules.specs.Record.{implied}
use Rattle.decoder_rules.specs.OneCall.{is_settle}
use Rattle.decoder_rules.specs.FirstPlace.{settle_at, settle_before}
use Rattle.decoder_rules.specs.declared.types.Search.{Search}
use Rattle.decoder_rules.specs.declared.types.Search.TheVariants as search
use Rattle.guarantees.specs.Calls.{Call, decoding, ending, recovering, allow, strictly, limit, lent, Response, answered, searched, silent, Step}
use Rattle.table.specs.declared.types.Path.{Path}
use Rattle.decoder_rules.specs.declared.types.Refusal.{Refusal}

-- ---- the mode

-- whether reading is strict after a call, where it was or was not before it
abbrev pub mode_after : Call → Bool → Bool
mode_after (decoding s) strict = strict
mode_after (ending s) strict = strict
mode_after (recovering s) strict = strict
mode_after (allow ids hierarchy oversized) strict = strict
mode_after (strictly b) strict = b
mode_after (limit n) strict = strict

-- whether reading is strict after this history; at first it is as ported
unfoldable pub is_strict_after : List Step → Bool
is_strict_after [] = false
is_strict_after (s ∷ h) = mode_after s.call (is_strict_after h)

-- ---- the implied parents

-- the parents that a note implies: of a settling note the IDs of its path, the innermost first
unfoldable pub implied_by : List ℕ → Option Path → List ℕ
implied_by ps None = []
implied_by ps (Some path) = map (λ (m : OpenTag). m.id) (reverse (map implied (parts_in (parts_of ps) path)))

-- the refusal of this number comes before a byte is read: 12 and 13 do
abbrev pub comes_unread : ℕ → Bool
comes_unread n = eqb n 12 || eqb n 13

-- the note of a recovery: where it passed over n bytes, it read a header at n + 1 places
abbrev pub search_note : Bool → List Entry → List ℕ → Result Search Refusal → Option Path
search_note strict t s (Ok (search.Found passed)) = settle_before strict t (suc passed) s
search_note strict t s (Ok (search.NotFound passed)) = settle_before strict t (suc passed) s
search_note strict t s (Err r) = None

-- what a call on the bytes s that told this settled, strictly or as ported, where nothing had settled
abbrev pub seen_note : Bool → List Entry → List ℕ → Response → Option Path
seen_note strict t s (answered a n) = cond (comes_unread (answer_refusal a)) None (settle_at strict t s)
seen_note strict t s (searched a n) = search_note strict t s a
seen_note strict t s silent = None

-- some call settled
unfoldable pub has_settled : List Entry → List Step → Bool
has_settled t [] = false
has_settled t (s ∷ h) = has_settled t h || is_settle (seen_note (is_strict_after h) t (lent s.call) s.told)

-- the parents that a call after this history implied
abbrev pub seen_parents : List ℕ → List Entry → List Step → List ℕ → Response → List ℕ
seen_parents ps t h s x = cond (has_settled t h) [] (implied_by ps (seen_note (is_strict_after h) t s x))
