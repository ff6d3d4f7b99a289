-- What helpers' contracts use: what a decision keeps, so that the record can move. Here n is the count of bytes lent.
use Rattle.std.specs.Prelude.{ℕ, ◌+◌, ◌≤◌, ◌<◌, ◌≡◌, Bool, true, List, leb, length, Err, None, Ok, Option, Result, Some}
use Rattle.basics.specs.Lists.{every}
use Rattle.table.specs.Table.{parts_of, parts_in}
use Rattle.spec_util.specs.Walk.{most_open}
use Rattle.spec_util.specs.declared.types.OpenTag.{OpenTag}
use Rattle.decoder_rules.specs.Record.{farthest, opens}
use Rattle.decoder_rules.specs.declared.types.Action.{Action}
use Rattle.decoder_rules.specs.declared.types.Action.TheVariants as act
use Rattle.decoder_rules.specs.OneCall.{noted}
use Rattle.decoder_rules.specs.declared.types.Decision.{Decision}
use Rattle.decoder_rules.specs.declared.types.TagDecoder.{TagDecoder}
use Rattle.decoder_rules.specs.declared.types.DecodeError.{DecodeError}
use Rattle.table.specs.declared.types.Path.{Path}

-- a note applies where its path has at most 32 parts
unfoldable pub NoteApplies : List ℕ → Option Path → Type 0
NoteApplies ps None = Unit {0}
NoteApplies ps (Some path) = length (parts_in (parts_of ps) path) ≤ most_open

-- whether a master's count is at most the greatest position, so that one more fits
abbrev pub count_fits : OpenTag → Bool
count_fits m = leb m.count farthest

-- at most 32 masters are open, and the count of each fits
abbrev pub CountsFit : TagDecoder → Type 0
CountsFit d = (d.open_count ≤ most_open) × (every count_fits (opens d) ≡ true)

-- an action applies to the record with the note
unfoldable pub ActionApplies : TagDecoder → ℕ → Result Action DecodeError → Type 0
ActionApplies d n (Err e) = Unit {0}
ActionApplies d n (Ok (act.NeedMore missing)) = (d.open_count ≤ most_open) × (d.position + n ≤ farthest) × (every count_fits (opens d) ≡ true)
ActionApplies d n (Ok act.Finish) = (d.open_count ≤ most_open) × (d.position + n ≤ farthest) × (every count_fits (opens d) ≡ true)
ActionApplies d n (Ok act.HandOut) = 0 < d.waiting_count
ActionApplies d n (Ok (act.Close k)) = (k < d.open_count) × (d.open_count ≤ most_open)
ActionApplies d n (Ok (act.Start x size len)) = (d.open_count < most_open) × (len ≤ n) × (d.position + n ≤ farthest) × CountsFit d
ActionApplies d n (Ok (act.Data x v m)) = (m ≤ n) × (d.position + n ≤ farthest) × CountsFit d

-- a decision applies: its note, and then its action to the record with the note
pub record DecisionApplies (ps : List ℕ) (d : TagDecoder) (n : ℕ) (a : Decision) : Type 0 where
  pub note : NoteApplies ps a.note
  pub action : ActionApplies (noted ps d a.note) n a.action
