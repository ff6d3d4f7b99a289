-- Document 02, CR 14: a record that is the same as the stored one, whatever the empty places of either hold, answers any
-- calls with the very same. Assumes nothing.
use Prim.Native.Nat.{ℕ}
use mathlib.Core.Path.{◌≡◌, refl, sym, ap, ◌∙◌}
use mathlib.Core.List.{List, [], ◌∷◌, ◌++◌, map}
use Rattle.decoder_rules.specs.declared.types.Answer.{Answer}
use Rattle.decoder_rules.specs.declared.types.Answer.TheVariants as answer
use Rattle.decoder_rules.specs.declared.types.Event.TheVariants as event
use Rattle.decoder_rules.specs.declared.types.TagDecoder.{TagDecoder}
use Rattle.guarantees.specs.Calls.{Call, Response, answered, searched, silent, Step, record_after, history, Lent}
use Rattle.restarts.specs.Comparing.{wholly, seen_end, Sound, SameRecord, tidied, seen_answer, seen_response, seen_step}
use Rattle.restarts.specs.Restored.{AnswersAsStored}
use Rattle.restarts.specs.Runs.{history_from}
use Rattle.restarts.proofs.Alike.{seen_is_same, run_alike}
use Rattle.restarts.proofs.RunsInParts.{history_split, lent_first, lent-later, sound_after}
use Rattle.restarts.proofs.SeenMoves.{seen_sound}
use Rattle.std.specs.Prelude.{Err, Ok, Result}
use Rattle.decoder_rules.specs.declared.types.Refusal.{Refusal}

-- ---- what is compared wholly is all compared

answer_wholly : (a : Result Answer Refusal) → seen_answer wholly a ≡ a
unfolding seen_end
answer_wholly (Ok (answer.Event (event.Start id o))) = refl
answer_wholly (Ok (answer.Event (event.End end))) = refl
answer_wholly (Ok (answer.Event (event.Data id o v))) = refl
answer_wholly (Ok (answer.NeedMore missing)) = refl
answer_wholly (Ok answer.Finished) = refl
answer_wholly (Err r) = refl

response_wholly : (r : Response) → seen_response wholly r ≡ r
response_wholly (answered a n) = ap (λ (b : Result Answer Refusal). answered b n) (answer_wholly a)
response_wholly (searched a n) = refl
response_wholly silent = refl

steps_wholly : (h : List Step) → map (seen_step wholly) h ≡ h
unfolding seen_step
steps_wholly [] = refl
steps_wholly (s ∷ h) = rw (response_wholly s.told) (ap (λ (g : List Step). s ∷ g) (steps_wholly h))

-- ---- the statement

module _ (es ps : List ℕ) where
  same_answers : (d e : TagDecoder) → Sound d → Sound e → SameRecord d e → (cs : List Call) → Lent cs → history_from es ps e cs ≡ history_from es ps d cs
  same_answers d e k j h cs l =
      sym (steps_wholly (history_from es ps e cs)) ∙ (run_alike wholly es ps d e k j h cs l).told ∙ steps_wholly (history_from es ps d cs)

  same_history : (cs ds : List Call) → Lent (ds ++ cs) → (e : TagDecoder) → Sound e → SameRecord (record_after es ps cs) e → history_from es ps e ds ++ history es ps cs ≡ history es ps (ds ++ cs)
  same_history cs ds l e j h =
      ap (λ (g : List Step). g ++ history es ps cs) (same_answers (record_after es ps cs) e (sound_after es ps cs (lent_first cs ds l)) j h ds (lent-later cs ds l))
      ∙ sym (history_split es ps cs ds)

  -- of any words for a table
  pub answers_as_stored : AnswersAsStored es ps
  answers_as_stored = record {
    same_answers = same_answers;
    same_left = λ d e k j h cs l. (run_alike wholly es ps d e k j h cs l).left;
    same_history = same_history;
  }

  -- whatever its empty places hold, a record answers any calls as the one where they are zero
  pub tidied_answers : (d : TagDecoder) → Sound d → (cs : List Call) → Lent cs → history_from es ps (tidied d) cs ≡ history_from es ps d cs
  tidied_answers d k cs l = same_answers d (tidied d) k (seen_sound wholly d k) (seen_is_same wholly d k) cs l
