-- Every event of the call that is due brings the end nearer, so a run on a finite input comes to its last line
-- (`comes_to_an_end`), wherever the reads cut it. Assumes nothing.
use Prim.Native.Nat.{ℕ, ◌+◌, ◌-◌, ◌*◌, ◌<◌}
use mathlib.Core.Path.{◌≡◌}
use mathlib.Core.Bool.{Bool, true, false}
use mathlib.Core.List.{List}
use lib.ListN.{length}
use Rattle.tools.specs.Bytes.{Octets}
use Rattle.table.specs.BenchTable.{bench_entries, bench_parts}
use Rattle.decoder_rules.specs.declared.types.Answer.TheVariants as answer
use Rattle.decoder_rules.specs.declared.types.Event.{Event}
use Rattle.decoder_rules.specs.declared.types.TagDecoder.{TagDecoder}
use Rattle.tag_decoder_laws.proofs.Nearer.{weight, event_nearer, eof_event_nearer}
use Rattle.event_list.specs.Reading.{called}
use Rattle.std.specs.Prelude.{Ok}

-- an event of the call that is due brings the end nearer
pub call_nearer : (over : Bool) (d : TagDecoder) (s : List ℕ) → Octets s → {x : Event} → (called over d s).answer ≡ Ok (answer.Event x)
    → 256 * (length s - (called over d s).taken) + weight (called over d s).state < 256 * length s + weight d
unfolding called
call_nearer true d s byte q = eof_event_nearer bench_entries bench_parts d s byte q
call_nearer false d s byte q = event_nearer bench_entries bench_parts d s byte q
