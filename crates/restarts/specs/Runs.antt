-- Any calls on a decoder that begins with any record, and what it means that two records answer them alike. A list of
-- calls stands latest first.
use Rattle.std.specs.Prelude.{ℕ, ◌≡◌, List, [], ◌∷◌, map}
use Rattle.decoder_rules.specs.declared.types.TagDecoder.{TagDecoder}
use Rattle.guarantees.specs.Calls.{Call, next, response_to, Step, step_of}
use Rattle.restarts.specs.Comparing.{Extent, Sound, Same, seen_response, seen_step}

module _ (es ps : List ℕ) where
  -- the record after these calls on the record d
  unfoldable pub record_from : TagDecoder → List Call → TagDecoder
  record_from d [] = d
  record_from d (c ∷ cs) = next es ps (record_from d cs) c

  -- what these calls on the record d answer, latest first
  unfoldable pub history_from : TagDecoder → List Call → List Step
  history_from d [] = []
  history_from d (c ∷ cs) = step_of es ps (record_from d cs) c ∷ history_from d cs

-- the call c on the records d and e: the same is told as far as it is compared, as many bytes are taken, and the records
-- left are the same as far
pub record CallAlike (x : Extent) (es ps : List ℕ) (d e : TagDecoder) (c : Call) : Type 0 where
  pub told : seen_response x (response_to es ps e c) ≡ seen_response x (response_to es ps d c)
  pub left : Same x (next es ps d c) (next es ps e c)
  -- and neither is refused by 11
  pub sound : Sound (next es ps d c) × Sound (next es ps e c)

-- the calls cs on the records d and e
pub record RunAlike (x : Extent) (es ps : List ℕ) (d e : TagDecoder) (cs : List Call) : Type 0 where
  pub told : map (seen_step x) (history_from es ps e cs) ≡ map (seen_step x) (history_from es ps d cs)
  pub left : Same x (record_from es ps d cs) (record_from es ps e cs)
  pub sound : Sound (record_from es ps d cs) × Sound (record_from es ps e cs)
