-- A move is its parts: what is answered, what is taken, and the record. Assumes nothing.
use Prim.Native.Nat.{ℕ, zero, suc, ◌-◌, ◌≤◌, min}
use mathlib.Core.Path.{◌≡◌, refl}
use mathlib.Core.Bool.{cond}
use mathlib.Core.List.{List}
use native.Mathlib.Omega.{arith}
use borrow.Author.Tests.{lt-ltb}
use lib.Dec.{ltb}
use lib.ListN.{length, get_or, set}
use lib.Seq.{set-get_or}
use Rattle.spec_util.specs.Walk.{most_open, no_tag}
use Rattle.spec_util.specs.declared.types.OpenTag.{OpenTag}
use Rattle.decoder_rules.specs.Record.{no_end, with_one_more, counted_last}
use Rattle.decoder_rules.specs.Moving.{gives, move}
use Rattle.decoder_rules.specs.declared.types.Action.{Action}
use Rattle.decoder_rules.specs.declared.types.Action.TheVariants as act
use Rattle.decoder_rules.specs.declared.types.TagDecoder.{TagDecoder}
use Rattle.decoder_rules.proofs.MoveEffects.{ends_head}
use Rattle.decoder_move.specs.Applies.{ActionApplies}
use Rattle.decoder_move.specs.Answers.{answer_to, taken_by}
use Rattle.std.specs.Prelude.{Err, Ok, Result}
use Rattle.decoder_rules.specs.declared.types.DecodeError.{DecodeError}

-- i is the place of the top master where at most 32 are open
pub moved_parts : (d : TagDecoder) (n i : ℕ) (a : Result Action DecodeError) → length d.«open» ≡ most_open → ActionApplies d n a → (d.open_count ≤ most_open → i ≡ d.open_count - 1)
    → gives (answer_to a d.position (get_or d.waiting 0 no_end) (get_or d.«open» i no_tag)) (taken_by a) (move d a).state ≡ move d a
unfolding ActionApplies answer_to taken_by move
moved_parts d n i (Err e) w f top = refl
moved_parts d n i (Ok (act.NeedMore missing)) w f top = refl
moved_parts d n i (Ok act.Finish) w f top = refl
moved_parts d n i (Ok act.HandOut) w f top = refl
moved_parts d n i (Ok (act.Close k)) w f top = rw (top f.1, ends_head d k f.0 (omega (arith, f.1)))
moved_parts d n i (Ok (act.Start x z len)) w f top = refl
moved_parts d n i (Ok (act.Data x v m)) w f top = refl

-- the child that the top of the places has more is counted in the last of the n in use; where none is, nothing changes
pub child_counted : (l : List OpenTag) (n top : ℕ) → n ≤ most_open → top ≡ min (n - 1) (most_open - 1)
    → set l top (cond (ltb 0 n) (with_one_more (get_or l top no_tag)) (get_or l top no_tag)) ≡ counted_last n l
unfolding counted_last
child_counted l zero top few e = set-get_or l top no_tag
child_counted l (suc n) top few e =
    let k : top ≡ n = omega arith in
    rw (lt-ltb 0 (suc n) (omega arith), k)
