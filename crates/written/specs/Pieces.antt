-- A written document that comes in pieces: a run of `decode` for each when it comes, on the unread rest followed by it
-- (joining/specs/Joining.antt).
use Rattle.std.specs.Prelude.{ℕ, Bool, ◌≡◌, List, [], ◌++◌, map, Ok}
use Rattle.decoder_rules.specs.Deciding.{least_header}
use Rattle.decoder_rules.specs.EndOfInput.{decode_eof}
use Rattle.decoder_rules.specs.Record.{fresh}
use Rattle.decoder_rules.specs.Settings.{reading}
use Rattle.decoder_rules.specs.declared.types.Answer.TheVariants as answer
use Rattle.joining.specs.Joining.{Outcome, events_of, run, joined, in_pieces}
use Rattle.tag_writer.specs.Counts.{run_counts}
use Rattle.tag_writer.specs.Items.{Mark, run_of}
use Rattle.tag_writer.specs.ReadBack.{said, said_counts}

-- what a fresh decoder gives that reads strictly or as ported and is lent these pieces
abbrev pub lent_in_pieces : Bool → List ℕ → List ℕ → List ℕ → List (List ℕ) → Outcome
lent_in_pieces strict es ps first later = in_pieces es ps (run es ps (reading fresh strict) first) later

-- the document is read back in pieces, strictly or as ported: lent so to a fresh decoder in that mode it gives events
-- that say these marks, one for one, every End with the number of its master's children; then it needs more, with no
-- byte left, and the end of input answers the finish
pub record IsReadInPieces (strict : Bool) (es ps : List ℕ) (first : List ℕ) (later : List (List ℕ)) (ms : List Mark) : Type 0 where
  pub same : map (said (first ++ joined later)) (events_of (lent_in_pieces strict es ps first later)) ≡ ms
  pub counts : said_counts (events_of (lent_in_pieces strict es ps first later)) ≡ run_counts (run_of ms)
  pub needs_more_lem : (lent_in_pieces strict es ps first later).last ≡ Ok (answer.NeedMore least_header)
  pub all_read : (lent_in_pieces strict es ps first later).rest ≡ []
  pub finish : (decode_eof es ps (lent_in_pieces strict es ps first later).state []).answer ≡ Ok answer.Finished
