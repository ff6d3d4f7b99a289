-- Every size in what is written is known, and the decoder says so of every Start that it hands out.
use Rattle.std.specs.Prelude.{ℕ, ◌+◌, ◌≡◌, true, List, [], ◌++◌, drop, Ok}
use Rattle.table.specs.Table.{Entry, table_of}
use Rattle.table.specs.declared.types.TagDataType.TheVariants.{Master}
use Rattle.tag_parse.specs.Header.{read_header}
use Rattle.tag_parse.specs.declared.types.EBMLSize.TheVariants.{Known}
use Rattle.tag_parse.specs.declared.types.TagHeader.{TagHeader}
use Rattle.guarantees.specs.Calls.{Call, history, Lent}
use Rattle.guarantees.specs.CutRecords.{InOrder, every_known}
use Rattle.tools.specs.declared.status.Status.TheVariants as status

-- these bytes are headers of known size and payloads to their end: after the header of a Master comes what is in it,
-- after any other header as much payload as it says
pub data KnownSizes (t : List Entry) : List ℕ → Type 0 where
  no_more : KnownSizes t []
  master : {s : List ℕ} (h : TagHeader) (n : ℕ) → read_header t s ≡ Ok (status.Complete h) → h.kind ≡ Master → h.size ≡ Known n → KnownSizes t (drop h.len s) → KnownSizes t s
  value : {s : List ℕ} (h : TagHeader) (n : ℕ) → read_header t s ≡ Ok (status.Complete h) → (h.kind ≡ Master → ⊥) → h.size ≡ Known n → KnownSizes t (drop (h.len + n) s) → KnownSizes t s

-- where any front of the bytes w is read in order, in whatever pieces, with whatever settings and without recovery,
-- every Start that is handed out is of known size
pub record StartsKnown (es ps w : List ℕ) : Type 0 where
  pub known : (s rest : List ℕ) → s ++ rest ≡ w → (cs : List Call) → Lent cs → InOrder es ps s cs → every_known (table_of es ps) (history es ps cs) ≡ true
