-- Runs of results: what the routine `decode` returned, call after call, as a caller has them; `Returns d s r` says that
-- a call on the record d with the bytes s may return r. Which results a routine may return is its contract alone
-- (guarantees/specs/Results.antt): by value, and with the record lent.
use Rattle.std.specs.Prelude.{ℕ, List, [], ◌∷◌, ◌++◌, ◌≡◌, drop, Err, Ok}
use Rattle.decoder_rules.specs.declared.types.Answer.TheVariants as answer
use Rattle.decoder_rules.specs.declared.types.Decoded.{Decoded}
use Rattle.decoder_rules.specs.declared.types.Event.{Event}
use Rattle.decoder_rules.specs.declared.types.Refusal.{Refusal}
use Rattle.decoder_rules.specs.declared.types.TagDecoder.{TagDecoder}
use Rattle.guarantees.specs.Calls.{decoding, answered}
use Rattle.guarantees.specs.Results.{ByValue, ByReference}
use Rattle.joining.specs.Joining.{Outcome, ended_by, after, with, NoEvent, unread_behind, joined}

-- ---- what the routines return

module _ (es ps : List ℕ) where
  -- `calls::decode` of tag_decoder
  abbrev pub ReturnsByValue : TagDecoder → List ℕ → Decoded → Type 1
  ReturnsByValue d s r = ByValue es ps d (decoding s) (answered r.answer r.taken) r.state

  -- `calls::decode` of tag_decoder_lent
  abbrev pub ReturnsByReference : TagDecoder → List ℕ → Decoded → Type 1
  ReturnsByReference d s r = ByReference es ps d (decoding s) (answered r.answer r.taken) r.state

-- ---- runs of them

module _ (Returns : TagDecoder → List ℕ → Decoded → Type 1) where
  -- calls on the record d with the bytes s, each on what the one before left, up to the first answer that is no event
  pub data RunOf : TagDecoder → List ℕ → Outcome → Type 1 where
    stops : (d : TagDecoder) (s : List ℕ) (r : Decoded) → Returns d s r → NoEvent r.answer → RunOf d s (ended_by r s)
    goes_on : (d : TagDecoder) (s : List ℕ) (r : Decoded) (e : Event) (o : Outcome) → Returns d s r → r.answer ≡ Ok (answer.Event e)
        → RunOf r.state (drop r.taken s) o → RunOf d s (after (with e r ∷ []) o)

  -- after a run that gave the first outcome: a run for each piece when it comes, on the unread rest followed by it, and
  -- what they gave in the end
  pub data PiecesOf : Outcome → List (List ℕ) → Outcome → Type 1 where
    none_left : (o : Outcome) → PiecesOf o [] o
    next_piece : (o p q : Outcome) (b : List ℕ) (later : List (List ℕ)) → RunOf o.state (o.rest ++ b) p → PiecesOf (after o.handed p) later q → PiecesOf o (b ∷ later) q

  -- what a caller has who is given these pieces, the first one a
  pub record Transfer (d : TagDecoder) (a : List ℕ) (later : List (List ℕ)) (o : Outcome) : Type 1 where
    pub first : Outcome
    pub on_first : RunOf d a first
    pub on_later : PiecesOf first later o

  -- however a transfer is cut, the callers have the same: what is handed out, the last answer, the record, the rest
  pub record SameHoweverCut (d : TagDecoder) (s : List ℕ) : Type 1 where
    pub same : (a c : List ℕ) (before later : List (List ℕ)) → a ++ joined before ≡ s → c ++ joined later ≡ s → (o p : Outcome) → Transfer d a before o → Transfer d c later p → o ≡ p
    -- and where its front was refused, so is all of it, at the same place with the same number after the same events
    pub same_refusal : (a b : List ℕ) → a ++ b ≡ s → (o p : Outcome) (x : Refusal) → RunOf d a o → o.last ≡ Err x → RunOf d s p → p ≡ unread_behind o b
