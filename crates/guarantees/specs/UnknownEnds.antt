-- Where a master of unknown size ends, over any calls on a fresh decoder. Document 02, CR 11: "The strict mode closes a
-- master only where section 6.2 of the standard lets it end". That section is of masters of unknown size; its cases are
-- those of `EndsBy62`. A call that closes masters answers the first of their Ends, and the others wait for the next
-- calls: so an End is spoken of by the call at which its master closed.
use Rattle.std.specs.Prelude.{ℕ, ◌≤◌, ◌≡◌, true, length, None, Ok, Some}
use mathlib.Core.List.{List, [], ◌∷◌, ◌++◌, map, Memᴰ}
use Rattle.table.specs.Table.{table_of}
use Rattle.spec_util.specs.Rfc8794.{EndsUnknownSize}
use Rattle.tag_parse.specs.Header.{read_header}
use Rattle.tag_parse.specs.declared.types.TagHeader.{TagHeader}
use Rattle.decoder_rules.specs.declared.types.Answer.TheVariants.{Event}
use Rattle.decoder_rules.specs.declared.types.Event.TheVariants.{End}
use Rattle.decoder_rules.specs.declared.types.WaitingEnd.{WaitingEnd}
use Rattle.guarantees.specs.Calls.{Call, ending, lent, record_after, history, Lent}
use Rattle.guarantees.specs.Settling.{is_strict_after}
use Rattle.guarantees.specs.History.{Started}
use Rattle.guarantees.specs.Promises.{Answers, open_at, left_at, position_at}
use Rattle.tools.specs.declared.status.Status.TheVariants as status

-- ---- a call c after the calls cs

module _ (es ps : List ℕ) (cs : List Call) (c : Call) where
  -- the masters that have not had their End where the call comes, the innermost first: the Starts that are open and then
  -- the implied parents that are left, each at 0 and of unknown size
  abbrev pub standing_at : List Started
  standing_at = open_at es ps cs ++ map (λ x. record { id = x; offset = 0; end = None }) (left_at es ps cs c)

  -- the call closes the master m, which stands inside these others: no End waits before it, and after it the record has
  -- no more open masters than stand around m
  pub record Closes (m : Started) (around : List Started) : Type 0 where
    pub inside : List Started
    pub stands : standing_at ≡ inside ++ m ∷ around
    pub none_waits : (record_after es ps cs).waiting_count ≡ 0
    pub closed : (record_after es ps (c ∷ cs)).open_count ≤ length around

  -- section 6.2 lets the master m, which stands inside these others, end at this call
  pub data EndsBy62 (m : Started) (around : List Started) : Type 0 where
    -- at an element that ends it, a parent, a sibling or a root: its header stands at the front of the bytes lent
    by_element : (h : TagHeader) → read_header (table_of es ps) (lent c) ≡ Ok (status.Complete h) → EndsUnknownSize (table_of es ps) m.id h.id → EndsBy62 m around
    -- at the end of a parent of known size: one of those around it ends at the position, or before
    by_known_end : (parent : Started) (end : ℕ) → Memᴰ parent around → parent.end ≡ Some end → end ≤ position_at es ps cs → EndsBy62 m around
    -- at the end of the document: the input has ended, and no byte is left
    by_end_of_input : c ≡ ending [] → EndsBy62 m around

-- ---- any calls, latest first

-- one of these calls closed the master m and, if reading was strict then, by a case of section 6.2
pub record ClosedIn (es ps : List ℕ) (run : List Call) (m : Started) : Type 0 where
  pub later : List Call
  pub call : Call
  pub before : List Call
  pub in_run : run ≡ later ++ call ∷ before
  pub around : List Started
  pub closes : Closes es ps before call m around
  pub by_62 : is_strict_after (history es ps before) ≡ true → EndsBy62 es ps before call m around

-- where masters of unknown size end, of the table in these words
pub record UnknownEnds (es ps : List ℕ) : Type 0 where
  -- strictly, a call closes such a master only where section 6.2 lets it end
  pub closes_by_62 : (cs : List Call) (c : Call) → Lent (c ∷ cs) → is_strict_after (history es ps cs) ≡ true → (m : Started) (around : List Started) → m.end ≡ None
      → Closes es ps cs c m around → EndsBy62 es ps cs c m around
  -- and each End of such a master, which is the first of those that stand (`end_matches`), is of one that closed so: at
  -- the call that answers it, or at an earlier one
  pub end_by_62 : (cs : List Call) (c : Call) → Lent (c ∷ cs) → (end : WaitingEnd) → Answers es ps cs c (Ok (Event (End end))) → (m : Started) (around : List Started)
      → standing_at es ps cs c ≡ m ∷ around → m.end ≡ None → ClosedIn es ps (c ∷ cs) m
