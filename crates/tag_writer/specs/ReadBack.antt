-- Document 02, CR 2: "What is written decodes from a fresh decoder, settings as at first, to the same kinds, IDs and
-- values, then the finish." Every End comes with the number of its master's children (CR 10), and what the strict
-- reading (CR 11) takes of it decodes strictly too.
use Rattle.std.specs.Prelude.{ℕ, suc, ◌-◌, Bool, true, not, ◌&&◌, ◌||◌, ◌≡◌, List, [], ◌∷◌, ◌++◌, map, length, take, drop, Ok}
use Rattle.tag_parse.specs.declared.types.Range.{Range}
use Rattle.tag_parse.specs.declared.types.TagValue.{TagValue}
use Rattle.tag_parse.specs.declared.types.TagValue.TheVariants as value
use Rattle.decoder_rules.specs.Record.{fresh}
use Rattle.decoder_rules.specs.OneCall.{good_form}
use Rattle.decoder_rules.specs.Deciding.{least_header}
use Rattle.decoder_rules.specs.EndOfInput.{decode_eof}
use Rattle.decoder_rules.specs.Run.{event, need_more, decode_calls}
use Rattle.decoder_rules.specs.Settings.{reading}
use Rattle.decoder_rules.specs.Strictly.{no_zero}
use Rattle.decoder_rules.specs.declared.types.Answer.TheVariants as answer
use Rattle.decoder_rules.specs.declared.types.Event.{Event}
use Rattle.decoder_rules.specs.declared.types.Event.TheVariants as handed
use Rattle.tag_writer.specs.Document.{Value, unsigned, integer, text, binary, float, wrong}
use Rattle.tag_writer.specs.Items.{Mark, start, end, datum, run_of}
use Rattle.tag_writer.specs.Counts.{run_counts}

-- ---- what is said

-- the bytes of a range of those that were read
abbrev pub part : List ℕ → Range → List ℕ
part w r = take (r.end - r.begin) (drop r.begin w)

-- the value that an event carries; text and binary are ranges of the bytes w that were read
abbrev pub said_value : List ℕ → TagValue → Value
said_value w (value.UnsignedInt n) = unsigned n
said_value w (value.Integer z) = integer z
said_value w (value.Utf8 r) = text (part w r)
said_value w (value.Binary r) = binary (part w r)
said_value w (value.Float b) = float b
said_value w (value.Raw r) = wrong

-- what an event says: its kind, its ID and its value
abbrev pub said : List ℕ → Event → Mark
said w (handed.Start x o) = start x
said w (handed.End e) = end e.id
said w (handed.Data x o v) = datum x (said_value w v)

-- the counts of the Ends among these events, in their order
unfoldable pub said_counts : List Event → List ℕ
said_counts [] = []
said_counts (handed.Start x o ∷ l) = said_counts l
said_counts (handed.End e ∷ l) = e.count ∷ said_counts l
said_counts (handed.Data x o v ∷ l) = said_counts l

-- ---- what is taken

-- whether a value is no text with a zero byte in it, at which a text would end strictly
abbrev pub is_whole : Value → Bool
is_whole (unsigned n) = true
is_whole (integer z) = true
is_whole (text s) = no_zero s
is_whole (binary s) = true
is_whole (float b) = true
is_whole wrong = true

-- whether a mark is taken as it stands, strictly or as ported: strictly an ID has 4 bytes at most, and a text no zero
-- byte; as ported each is
unfoldable pub is_taken : Bool → Mark → Bool
is_taken strict (start x) = good_form strict x
is_taken strict (end x) = true
is_taken strict (datum x v) = good_form strict x && (not strict || is_whole v)

-- ---- what is read

-- the document w is read back, strictly or as ported: calls of `decode` from a fresh decoder in that mode answer events
-- that say these marks, one for one, every End with the number of its master's children; the call after them needs
-- more, with no byte left, and then the end of input answers the finish
pub record IsReadAs (strict : Bool) (es ps : List ℕ) (w : List ℕ) (ms : List Mark) : Type 0 where
  pub events : List Event
  pub told : map (λ c. c.told) (decode_calls (suc (length events)) es ps (reading fresh strict) w).calls ≡ map event events ++ (need_more least_header ∷ [])
  pub same : map (said w) events ≡ ms
  pub counts : said_counts events ≡ run_counts (run_of ms)
  pub all_read : (decode_calls (suc (length events)) es ps (reading fresh strict) w).rest ≡ []
  pub finish : (decode_eof es ps (decode_calls (suc (length events)) es ps (reading fresh strict) w).left []).answer ≡ Ok answer.Finished
