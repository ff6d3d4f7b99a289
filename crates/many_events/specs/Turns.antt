-- What only contracts of helpers cite: calls in a row that are handed out up to some turn, and the events that are made
-- without a call.
use Rattle.std.specs.Prelude.{ℕ, ◌+◌, ◌*◌, ◌-◌, ◌/◌, ◌≤◌, Bool, true, cond, ◌≡◌, ltb, length, take, drop, Err, None, Ok, Option, Result, Some}
use mathlib.Core.List.{List, ◌++◌, flat_map}
use Rattle.decoder_rules.specs.declared.types.Action.{Action}
use Rattle.decoder_rules.specs.declared.types.Action.TheVariants as act
use Rattle.decoder_rules.specs.declared.types.Decision.{Decision}
use Rattle.decoder_rules.specs.declared.types.Decoded.{Decoded}
use Rattle.decoder_rules.specs.declared.types.TagDecoder.{TagDecoder}
use Rattle.decoder_look.specs.declared.summary.Summary.{Summary}
use Rattle.many_events.specs.Events.{event_size}
use Rattle.many_events.specs.Many.{InARow, many_calls, one_call}
use Rattle.many_events.specs.declared.quick.Passed.{Passed}
use Rattle.many_events.specs.declared.quick.Quick.{Quick}
use Rattle.many_events.specs.declared.quick.Quick.TheVariants as quick
use Rattle.many_events.specs.declared.types.Ran.{Ran}
use Rattle.many_events.specs.declared.types.Stop.{Stop}
use Rattle.decoder_rules.specs.declared.types.DecodeError.{DecodeError}
use Rattle.table.specs.declared.types.Path.{Path}
use Rattle.decoder_rules.specs.declared.types.Refusal.{Refusal}

-- ---- turns

-- after n events and the bytes at these calls: l is the list with the words of those events in front
abbrev pub joined : ℕ → ℕ → List ℕ → InARow → Ran × List ℕ
joined n at l r = (
  record { count = n + length r.events; taken = at + r.taken; stop = r.stop; state = r.state },
  take (event_size * n) l ++ (flat_map (λ words. words) r.events ++ drop (event_size * (n + length r.events)) l),
)

-- the answer of calls that stop here
abbrev pub ended : ℕ → ℕ → Result Stop Refusal → TagDecoder → Ran
ended n at why d = record { count = n; taken = at; stop = why; state = d }

-- n events were handed out and the bytes at taken, d is the record after them and l the list; total is what the whole
-- answers
pub record Turning (call : TagDecoder → List ℕ → Decoded) (s : List ℕ) (room long : ℕ) (total : Ran × List ℕ) (l : List ℕ) (d : TagDecoder) (n at : ℕ) : Type 0 where
  pub within : at ≤ length s
  pub few : n ≤ room
  pub holds : event_size * room ≤ long
  pub as_long : length l ≡ long
  pub rest : joined n at l (many_calls call (room - n) d (drop at s)) ≡ total

-- some turns were made, up to the count and the bytes of r: l is the list before them, k after them
pub record PassesOver (es ps s l k : List ℕ) (d : TagDecoder) (n at : ℕ) (r : Passed) : Type 0 where
  pub onward : n ≤ r.count
  pub turns : (eof : Bool) (total : Ran × List ℕ) → Turning (one_call eof es ps) s (length l / event_size) (length l) total l d n at
      → Turning (one_call eof es ps) s (length l / event_size) (length l) total k r.state r.count r.taken

-- ---- events that are made without a call

-- by an action, where there is no note
abbrev pub quick_action : Result Action DecodeError → Option Quick
quick_action (Err e) = None
quick_action (Ok (act.NeedMore missing)) = None
quick_action (Ok act.Finish) = None
quick_action (Ok act.HandOut) = None
quick_action (Ok (act.Close k)) = Some (quick.End k)
quick_action (Ok (act.Start x size len)) = cond (ltb 0 len) (Some (quick.Start x size len)) None
quick_action (Ok (act.Data x v n)) = cond (ltb 0 n) (Some (quick.Data x v n)) None

-- by a note
abbrev pub quick_noted : Option Path → Result Action DecodeError → Option Quick
quick_noted None a = quick_action a
quick_noted (Some path) a = None

-- by a decision on a record that was found good or not
unfoldable pub quick_of : Bool → Decision → Option Quick
quick_of good a = cond good (quick_noted a.note a.action) None

-- what was seen of a good record, where it is still good, at this position, with so many masters, the outermost of
-- them that is full, and the least of their ends
abbrev pub seen_as : Summary → ℕ → ℕ → ℕ → ℕ → Summary
seen_as k p count first least = record {
  is_state_good = true;
  finished = k.finished;
  waiting_count = k.waiting_count;
  first_full = first;
  view = record { settings = k.view.settings; position = p; settled = k.view.settled; count = count; least_end = least };
}
