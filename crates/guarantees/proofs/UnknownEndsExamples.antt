-- Masters of unknown size that close, computed: strictly by each kind of case of RFC 8794's section 6.2, and as ported
-- where no case of it holds, so that the strict mode is needed in `closes_by_62`. Assumes nothing.
use Prim.Native.Nat.{ℕ}
use mathlib.Core.Path.{◌≡◌, refl, sym, ap, ◌∙◌}
use mathlib.Core.Bool.{true, false, false≢true}
use mathlib.Core.List.Memᴰ
use mathlib.Core.List.{List, [], ◌∷◌}
use native.Mathlib.Omega.{arith}
use Rattle.table.specs.BenchTable.{bench_entries, bench_parts}
use Rattle.table.specs.Table.{data_type_of, is_typed}
use Rattle.spec_util.specs.Rfc8794.{EndsUnknownSize, a_parent, a_sibling, a_root}
use Rattle.basics.proofs.Bools.{absurd_eq}
use Rattle.guarantees.specs.Calls.{Call, decoding, ending, allow, strictly}
use Rattle.guarantees.specs.History.{Started}
use Rattle.guarantees.specs.UnknownEnds.{Closes, EndsBy62, by_element, by_known_end, by_end_of_input}
use Rattle.guarantees.proofs.Computing.{history_computes}
use Rattle.guarantees.proofs.Examples.{bench}
use Rattle.std.specs.Prelude.{Err, None, Ok, Result, Some}
use Rattle.tag_parse.specs.declared.types.ParseError.{ParseError}
use Rattle.tools.specs.declared.status.Status.{Status}
use Rattle.tag_parse.specs.declared.types.TagHeader.{TagHeader}
use Rattle.tools.specs.declared.status.Status.TheVariants as status

-- ---- the calls, latest first

-- a Session of unknown size, and in it a Feed of unknown size
abbrev session : List Call → List Call
session before = decoding (0x4E ∷ 0x01 ∷ 0xFF ∷ []) ∷ before

abbrev feed : List Call → List Call
feed before = decoding (0xA1 ∷ 0xFF ∷ []) ∷ before

-- a Session of two bytes, which the header of a Feed of unknown size fills
abbrev filled : List Call
filled = feed (decoding (0x4E ∷ 0x01 ∷ 0x82 ∷ []) ∷ strictly true ∷ [])

-- a second Session
abbrev another : Call
another = decoding (0x4E ∷ 0x01 ∷ 0x80 ∷ [])

-- D10: IDs allowed, and after the header of Session an ID that the table does not have
abbrev ids_allowed : List Call
ids_allowed = session (allow true false false ∷ [])

abbrev untyped : Call
untyped = decoding (0x81 ∷ 0x80 ∷ [])

-- the masters as their Starts
abbrev the_session : Started
the_session = record { id = 0x4E01; offset = 0; end = None }

abbrev the_feed : Started
the_feed = record { id = 0xA1; offset = 3; end = None }

-- ---- the list

-- what closes at these calls, and what does not close by section 6.2
pub record UnknownEndsExamples : Type 0 where
  -- by an element: a root ends the Feed and the Session around it, whose End waits
  pub feed_at_root : Closes bench_entries bench_parts (feed (session (strictly true ∷ []))) another the_feed (the_session ∷ [])
  pub session_at_root : Closes bench_entries bench_parts (feed (session (strictly true ∷ []))) another the_session []
  -- by a known end: the Feed closes with the Session around it, which is full
  pub at_known_end : Closes bench_entries bench_parts filled (decoding []) the_feed (record { id = 0x4E01; offset = 0; end = Some 5 } ∷ [])
  -- by the end of input
  pub at_end_of_input : Closes bench_entries bench_parts (session (strictly true ∷ [])) (ending []) the_session []
  -- as ported an ID without type ends a root, where no case of section 6.2 holds
  pub ported_closes : Closes bench_entries bench_parts ids_allowed untyped the_session []
  pub not_by_62 : EndsBy62 bench_entries bench_parts ids_allowed untyped the_session [] → ⊥

-- ---- D10

-- the ID of a header, if one was read
abbrev id_of : Result (Status TagHeader) ParseError → ℕ
id_of (Ok (status.NeedMore missing)) = 0
id_of (Err e) = 0
id_of (Ok (status.Complete h)) = h.id

-- an ID without type ends no master by section 6.2
ends_none : (x : ℕ) → is_typed (data_type_of bench x) ≡ false → EndsUnknownSize bench 0x4E01 x → ⊥
ends_none x e (a_parent n p) = false≢true (sym e ∙ n.typed)
ends_none x e (a_sibling n p q) = false≢true (sym e ∙ n.typed)
ends_none x e (a_root n p) = false≢true (sym e ∙ n.typed)

no_case : EndsBy62 bench_entries bench_parts ids_allowed untyped the_session [] → ⊥
unfolding history_computes
no_case (by_element h is k) = ends_none h.id (ap (λ (x : ℕ). is_typed (data_type_of bench x)) (sym (ap id_of is))) k
no_case (by_known_end parent end i k l) = Memᴰ.not-nil i
no_case (by_end_of_input e) = let z : ◌≡◌ {A = ℕ} 0 1 = cc in absurd_eq z

-- and it is so
pub unknown_ends_examples : UnknownEndsExamples
unfolding history_computes
unknown_ends_examples = record {
  feed_at_root = record { inside = []; stands = refl; none_waits = refl; closed = omega arith };
  session_at_root = record { inside = the_feed ∷ []; stands = refl; none_waits = refl; closed = omega arith };
  at_known_end = record { inside = []; stands = refl; none_waits = refl; closed = omega arith };
  at_end_of_input = record { inside = []; stands = refl; none_waits = refl; closed = omega arith };
  ported_closes = record { inside = []; stands = refl; none_waits = refl; closed = omega arith };
  not_by_62 = no_case;
}
