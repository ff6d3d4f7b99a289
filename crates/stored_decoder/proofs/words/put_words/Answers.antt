-- `stored_decoder::words::put_words`: each group is written behind the one before it. Assumes nothing.
use Prim.Native.Nat.{ℕ}
use mathlib.Core.Path.{ap, ◌∙◌}
use mathlib.Core.List.{List}
use lib.ListN.{set, replicate}
use Rattle.basics.proofs.ArrayOf32.{length_of_map}
use Rattle.decoder_rules.proofs.MoveEffects.{Arrays}
use Rattle.stored_decoder.specs.Words.{rest_count}
use Rattle.stored_decoder.specs.Writing.{over}
use Rattle.stored_decoder.proofs.Written.{written, masters_of, ends_of}
use Rattle.stored_decoder.proofs.words.put_words.Goals as goal

pub returns : goal.returns
returns c =
    let arrays : Arrays c.args.d = record { masters = search length_of_map; ends = search length_of_map } in
    let d = c.args.d in
    written d arrays c.args.words.now c.put_rest.new.words c.requires
    (c.put_rest.ensures ∙ ap (over 300 (replicate rest_count 0)) (c.put_places-2.ensures ∙ ap (λ (l : List ℕ). over 204 (ends_of d) (set l 203 d.waiting_count)) (c.put_places.ensures ∙ ap (over 11 (masters_of d)) c.put_front.ensures)))
