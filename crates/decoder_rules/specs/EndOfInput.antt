-- Document 01, "One call of the decoder, in order", "End of input": the call once the input has ended for good. Here t
-- is the lent table as entries, d the record as the call before it left it, s the bytes that are left.
use Rattle.std.specs.Prelude.{ℕ, ◌+◌, Bool, true, cond, ◌&&◌, List, ltb, eqb, length, get_or, drop, Err, None, Ok, Option, Result, Some}
use Rattle.tools.specs.Vint.{read_vint}
use Rattle.basics.specs.Lists.{every, first_index}
use Rattle.table.specs.Table.{Entry, table_of, data_type_of, is_master}
use Rattle.spec_util.specs.Walk.{no_tag}
use Rattle.spec_util.specs.declared.types.OpenTag.{OpenTag}
use Rattle.tag_parse.specs.Header.{read_tag_id, size_of}
use Rattle.tag_parse.specs.declared.types.EBMLSize.{EBMLSize}
use Rattle.tag_parse.specs.declared.types.EBMLSize.TheVariants.{Known, Unknown}
use Rattle.decoder_rules.specs.Record.{opens, end_of, with_notes}
use Rattle.decoder_rules.specs.Moving.{gives, refuse, move, decode}
use Rattle.decoder_rules.specs.declared.types.Action.TheVariants as act
use Rattle.decoder_rules.specs.declared.types.Answer.{Answer}
use Rattle.decoder_rules.specs.declared.types.Answer.TheVariants as answer
use Rattle.decoder_rules.specs.declared.types.Cut.{Cut}
use Rattle.decoder_rules.specs.declared.types.Decoded.{Decoded}
use Rattle.decoder_rules.specs.declared.types.DecodeError.TheVariants as error
use Rattle.decoder_rules.specs.declared.types.TagDecoder.{TagDecoder}
use Rattle.decoder_rules.specs.declared.types.Refusal.{Refusal}
use Rattle.tools.specs.declared.status.Status.{Status}
use Rattle.tools.specs.declared.errors.ToolError.{ToolError}
use Rattle.tools.specs.declared.status.Status.TheVariants as status

-- ---- what 23 names

-- a cut element that starts at p where n bytes are left: its ID and size as far as they are there, and the bytes from
-- len on: "for bytes left the range after a header of known size, else all of them"
abbrev pub cut_at : ℕ → ℕ → Option ℕ → Option ℕ → ℕ → Cut
cut_at p n x size len = record { start = p; id = x; size = size; part = Some (record { begin = p + len; end = p + n }) }

-- where the header of len bytes is complete: x is its ID
abbrev pub cut_sized : ℕ → ℕ → ℕ → ℕ → EBMLSize → Cut
cut_sized p n x len Unknown = cut_at p n (Some x) None 0
cut_sized p n x len (Known size) = cut_at p n (Some x) (Some size) len

-- where the ID x of k bytes is complete, by what was read as the size after it
abbrev pub cut_size : ℕ → ℕ → ℕ → ℕ → Result (Status (ℕ × ℕ)) ToolError → Cut
cut_size p n x k (Ok (status.NeedMore missing)) = cut_at p n (Some x) None 0
cut_size p n x k (Err e) = cut_at p n (Some x) None 0
cut_size p n x k (Ok (status.Complete (v, L))) = cut_sized p n x (k + L) (size_of v L)

-- by what was read as the ID: "ID if complete, size if known"
abbrev pub cut_id : ℕ → List ℕ → Status (ℕ × ℕ) → Cut
cut_id p s (status.NeedMore missing) = cut_at p (length s) None None 0
cut_id p s (status.Complete (x, k)) = cut_size p (length s) x k (read_vint (drop k s))

-- what 23 names for the bytes s that are left at the position p
unfoldable pub cut_bytes : ℕ → List ℕ → Cut
cut_bytes p s = cut_id p s (read_tag_id s)

-- whether the end of input at the position p cuts an open master: "an open known master with position < its end"
unfoldable pub is_cut : ℕ → OpenTag → Bool
is_cut p m = m.known && ltb p (end_of m)

-- what 23 names for an open master that is cut
abbrev pub cut_master : OpenTag → Cut
cut_master m = record { start = m.tag_start; id = Some m.id; size = Some m.size; part = None }

-- ---- the call

-- "all close, it is finished, and the first End, or Finished if none, is handed out"
unfoldable pub finish : TagDecoder → Decoded
finish d =
    cond (eqb d.open_count 0) (gives (Ok answer.Finished) 0 (with_notes d d.position d.settled true))
    (move (with_notes d d.position d.settled true) (Ok (act.Close 0)))

-- all close, or 24 if one is no Master in the table
unfoldable pub close_all : List Entry → TagDecoder → Decoded
close_all t d = cond (every (λ m. is_master (data_type_of t m.id)) (opens d)) (finish d) (refuse error.NotAMaster d.position d)

-- 23 for the open master with the index k, where there is one, else all close
abbrev pub cut_or : List Entry → TagDecoder → ℕ → Decoded
cut_or t d k =
    cond (ltb k d.open_count)
    (refuse (error.UnexpectedEOF (cut_master (get_or d.«open» k no_tag))) (get_or d.«open» k no_tag).tag_start d)
    (close_all t d)

-- "bytes left, or an open known master with position < its end (outermost first): 23.", else all close
unfoldable pub end_of_input : List Entry → TagDecoder → List ℕ → Decoded
end_of_input t d s =
    cond (ltb 0 (length s)) (refuse (error.UnexpectedEOF (cut_bytes d.position s)) d.position d)
    (cut_or t d (first_index (is_cut d.position) (opens d)))

-- what the call answers where decoding answered so: the end of input "on need more or Finished", else the same
abbrev pub ended_or : List Entry → List ℕ → Decoded → Result Answer Refusal → Decoded
ended_or t s r (Ok (answer.Event e)) = r
ended_or t s r (Ok (answer.NeedMore missing)) = end_of_input t r.state s
ended_or t s r (Ok answer.Finished) = end_of_input t r.state s
ended_or t s r (Err e) = r

-- one call at the end of input: "first as above", with the bytes s
unfoldable pub decode_eof : List ℕ → List ℕ → TagDecoder → List ℕ → Decoded
decode_eof es ps d s = ended_or (table_of es ps) s (decode es ps d s) (decode es ps d s).answer
