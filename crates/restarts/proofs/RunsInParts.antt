-- A run from fresh in two parts: the record and the history after the first go on as from any record. And the record
-- after any calls is sound. Assumes nothing.
use Prim.Native.Nat.{ℕ}
use mathlib.Core.Path.{◌≡◌, refl, ap, ◌∙◌}
use mathlib.Core.List.{List, [], ◌∷◌, ◌++◌}
use Rattle.decoder_rules.specs.Record.{fresh}
use Rattle.decoder_rules.specs.declared.types.TagDecoder.{TagDecoder}
use Rattle.decoder_rules.proofs.MoveEffects.{fresh_arrays}
use Rattle.decoder_rules.proofs.MovesKeepGoodState.{fresh_good}
use Rattle.guarantees.specs.Calls.{Call, next, Step, step_of, record_after, history, Lent}
use Rattle.restarts.specs.Comparing.{Sound}
use Rattle.restarts.specs.Runs.{record_from, history_from}
use Rattle.restarts.proofs.SeenDecision.{is_sound}
use Rattle.restarts.proofs.SoundCalls.{next_sound}

module _ (es ps : List ℕ) (cs : List Call) where
  -- the record after both
  pub record-split : (ds : List Call) → record_after es ps (ds ++ cs) ≡ record_from es ps (record_after es ps cs) ds
  unfolding record_after record_from
  record-split [] = refl
  record-split (c ∷ ds) = ap (λ (d : TagDecoder). next es ps d c) (record-split ds)

  -- and the history
  pub history_split : (ds : List Call) → history es ps (ds ++ cs) ≡ history_from es ps (record_after es ps cs) ds ++ history es ps cs
  unfolding history history_from
  history_split [] = refl
  history_split (c ∷ ds) =
      ap (λ (d : TagDecoder). step_of es ps d c ∷ history es ps (ds ++ cs)) (record-split ds)
      ∙ ap (λ (h : List Step). step_of es ps (record_from es ps (record_after es ps cs) ds) c ∷ h) (history_split ds)

-- what is lent at the calls of the first part
pub lent_first : (cs ds : List Call) → Lent (ds ++ cs) → Lent cs
unfolding Lent
lent_first cs [] l = l
lent_first cs (c ∷ ds) l = lent_first cs ds l.1

-- and of the second
pub lent-later : (cs ds : List Call) → Lent (ds ++ cs) → Lent ds
unfolding Lent
lent-later cs [] l = tt
lent-later cs (c ∷ ds) l = (l.0, lent-later cs ds l.1)

fresh_sound : Sound fresh
fresh_sound = is_sound fresh fresh_arrays fresh_good

-- the record after any calls is sound
pub sound_after : (es ps : List ℕ) (cs : List Call) → Lent cs → Sound (record_after es ps cs)
unfolding record_after Lent
sound_after es ps [] l = fresh_sound
sound_after es ps (c ∷ cs) l = next_sound es ps (record_after es ps cs) (sound_after es ps cs l.1) c l.0
