-- A document that is taken strictly, with the numbers of its masters' children; and two that are written but not taken
-- strictly, a text with a zero byte and an ID of 5 bytes: strictly the one is read back shorter and the other refused.
-- Computed from the definitions. Assumes nothing.
use Prim.Native.Nat.{ℕ}
use mathlib.Core.Path.{◌≡◌, refl}
use mathlib.Core.Bool.{true, false}
use mathlib.Core.List.{List, [], ◌∷◌, map}
use lib.ListN.{replicate, take}
use Rattle.basics.specs.Lists.{every}
use Rattle.tag_parse.specs.declared.types.TagValue.TheVariants.{Utf8}
use Rattle.decoder_rules.specs.Record.{fresh}
use Rattle.decoder_rules.specs.Run.{Told, event, need_more, refusal, nothing, Call, decode_calls}
use Rattle.decoder_rules.specs.Settings.{reading}
use Rattle.decoder_rules.specs.Strictly.{no_zero}
use Rattle.decoder_rules.specs.declared.types.Event.TheVariants.{Data}
use Rattle.decoder_rules.proofs.Computing.{rules_compute}
use Rattle.tag_writer.specs.Counts.{children_in, element_counts, run_counts}
use Rattle.tag_writer.specs.Items.{marks_of, run_of}
use Rattle.tag_writer.specs.ReadBack.{is_taken}
use Rattle.tag_writer.specs.Write.{write}
use Rattle.tag_writer.proofs.Computing.{writer_computes}
use Rattle.std.specs.Prelude.{Ok, Result}
use Rattle.tag_writer.specs.declared.types.WriteError.{WriteError}

-- ---- the table

-- Session 4E01 Master, root; Feed A1 Master, in Session; Unit A3 Utf8, in Feed; A5 Utf8 and 0812345678 Unsigned, roots
abbrev entries : List ℕ
entries =
    0x4E01 ∷ 0 ∷ 0 ∷ 0
    ∷ 0xA1 ∷ 0 ∷ 0 ∷ 1
    ∷ 0xA3 ∷ 3 ∷ 0 ∷ 2
    ∷ 0xA5 ∷ 3 ∷ 0 ∷ 0
    ∷ 0x0812345678 ∷ 1 ∷ 0 ∷ 0
    ∷ []

abbrev parts : List ℕ
parts =
    0 ∷ 0x4E01 ∷ 0
    ∷ 0 ∷ 0xA1 ∷ 0
    ∷ []

-- ---- what is written

-- items, and the buffer of their values
pub record Case : Type 0 where
  pub items : List ℕ
  pub vals : List ℕ

-- a Session with two Feeds: the first has the Units ml and m, the second is empty
abbrev two_feeds : Case
two_feeds =
    record {
      items =
          0 ∷ 0x4E01 ∷ 0 ∷ 0
          ∷ 0 ∷ 0xA1 ∷ 0 ∷ 0
          ∷ 3 ∷ 0xA3 ∷ 0 ∷ 2
          ∷ 3 ∷ 0xA3 ∷ 0 ∷ 1
          ∷ 6 ∷ 0xA1 ∷ 0 ∷ 0
          ∷ 0 ∷ 0xA1 ∷ 0 ∷ 0
          ∷ 6 ∷ 0xA1 ∷ 0 ∷ 0
          ∷ 6 ∷ 0x4E01 ∷ 0 ∷ 0
          ∷ [];
      vals = 0x6D ∷ 0x6C ∷ [];
    }

-- a text of an m and a zero byte
abbrev zero_in_text : Case
zero_in_text = record { items = 3 ∷ 0xA5 ∷ 0 ∷ 2 ∷ []; vals = 0x6D ∷ 0x00 ∷ [] }

-- the number 5 under an ID of 5 bytes
abbrev long_id : Case
long_id = record { items = 1 ∷ 0x0812345678 ∷ 0 ∷ 8 ∷ []; vals = 0 ∷ 0 ∷ 0 ∷ 0 ∷ 0 ∷ 0 ∷ 0 ∷ 5 ∷ [] }

abbrev written : Case → Result ℕ WriteError × List ℕ
written c = write entries parts c.items c.vals (replicate 20 0)

-- all three are written
pub written_so : ◌≡◌ {A = List (Result ℕ WriteError)} (map (λ c. (written c).0) (two_feeds ∷ zero_in_text ∷ long_id ∷ [])) (Ok 14 ∷ Ok 4 ∷ Ok 7 ∷ [])
unfolding writer_computes
written_so = refl

-- the first is taken strictly, the others are not
pub taken_so : map (λ c. every (is_taken true) (marks_of c.vals c.items)) (two_feeds ∷ zero_in_text ∷ long_id ∷ []) ≡ true ∷ false ∷ false ∷ []
unfolding writer_computes rules_compute no_zero is_taken
taken_so = refl

-- the children of its masters, as they end: the first Feed's, the second's, the Session's
pub counts_so : run_counts (run_of (marks_of two_feeds.vals two_feeds.items)) ≡ 2 ∷ 0 ∷ 2 ∷ []
unfolding writer_computes children_in element_counts
counts_so = refl

-- ---- what is read strictly

-- what two calls tell of the first n bytes that were written
abbrev strictly : ℕ → Case → List Told
strictly n c = map (λ (k : Call). k.told) (decode_calls 2 entries parts (reading fresh true) (take n (written c).1)).calls

-- the text ends at its zero byte, and an ID of 5 bytes is refusal 80
pub strictly_so : ◌≡◌ {A = List (List Told)}
    (strictly 4 zero_in_text ∷ strictly 7 long_id ∷ [])
    ((event (Data 0xA5 0 (Utf8 (record { begin = 2; end = 3 }))) ∷ need_more 2 ∷ [])
    ∷ (refusal 80 0 nothing ∷ [])
    ∷ [])
unfolding writer_computes rules_compute
strictly_so = refl
