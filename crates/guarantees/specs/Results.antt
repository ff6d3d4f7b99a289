-- A run of results: calls one after the other, each on the record that the one before it left, with what each returned.
-- Which results a routine may return is its contract alone: by value, `Post`, the contract as the checker reads it; with
-- the record lent, the contract's own words, `ReturnsAndLeaves`.
use Rattle.std.specs.Prelude.{ℕ, ◌≡◌, Bool, List, [], ◌∷◌, Option}
use borrow.Fn.Kinds.{Dens, ended_of}
use contract.Lifetimes.{Lfts}
use denote.Triple.Clauses.{AtExit}
use Rattle.decoder_rules.specs.Moving.{decode}
use Rattle.decoder_rules.specs.EndOfInput.{decode_eof}
use Rattle.decoder_rules.specs.Recovery.{try_recover}
use Rattle.decoder_rules.specs.Settings.{allowing, reading, limited_to}
use Rattle.decoder_rules.specs.declared.types.Decoded.{Decoded}
use Rattle.decoder_rules.specs.declared.types.Recovered.{Recovered}
use Rattle.decoder_rules.specs.declared.types.TagDecoder.{TagDecoder}
use Rattle.tag_decoder.proofs.calls.decode.Kinds as decode-kinds
use Rattle.tag_decoder.proofs.calls.decode.Reads as decode-contract
use Rattle.tag_decoder.proofs.calls.decode_eof.Kinds as eof-kinds
use Rattle.tag_decoder.proofs.calls.decode_eof.Reads as eof-contract
use Rattle.tag_decoder.proofs.recovery.try_recover.Kinds as recover-kinds
use Rattle.tag_decoder.proofs.recovery.try_recover.Reads as recover-contract
use Rattle.tag_decoder.proofs.settings.new.Kinds as new-kinds
use Rattle.tag_decoder.proofs.settings.new.Reads as new-contract
use Rattle.tag_decoder.proofs.settings.allow_errors.Kinds as allow-kinds
use Rattle.tag_decoder.proofs.settings.allow_errors.Reads as allow-contract
use Rattle.tag_decoder.proofs.settings.set_strict.Kinds as strict-kinds
use Rattle.tag_decoder.proofs.settings.set_strict.Reads as strict-contract
use Rattle.tag_decoder.proofs.settings.set_max_allowable_tag_size.Kinds as max-kinds
use Rattle.tag_decoder.proofs.settings.set_max_allowable_tag_size.Reads as max-contract
use Rattle.tag_decoder_lent.specs.Lent.{ReturnsAndLeaves, apart, recovery_apart}
use Rattle.tag_decoder_lent.specs.declared.types.Reply.{Reply}
use Rattle.tag_decoder_lent.specs.declared.types.RecoveryReply.{RecoveryReply}
use Rattle.guarantees.specs.Calls.{Call, decoding, ending, recovering, allow, strictly, limit, Response, answered, searched, silent, Step, record_after, history}

-- ---- a run

-- calls, latest first, the record that the last of them left, and what each returned; New says which records `new` may
-- return, and Returns d c x e that the call c on the record d may return x and leave the record e
pub data Run (New : TagDecoder → Type 1) (Returns : TagDecoder → Call → Response → TagDecoder → Type 1) : List Call → TagDecoder → List Step → Type 1 where
  begun : (d : TagDecoder) → New d → Run New Returns [] d []
  called : (cs : List Call) (d : TagDecoder) (h : List Step) (c : Call) (x : Response) (e : TagDecoder) → Run New Returns cs d h → Returns d c x e
      → Run New Returns (c ∷ cs) e (record { call = c; told = x } ∷ h)

-- the record and what was returned are those of the definitions
pub record SameAsDefined (es ps : List ℕ) (cs : List Call) (d : TagDecoder) (h : List Step) : Type 0 where
  pub state : d ≡ record_after es ps cs
  pub told : h ≡ history es ps cs

-- ---- by value: some arguments with these contents, of which the contract ensures the result

-- `settings::new` may return d
pub record NewReturns (d : TagDecoder) : Type 1 where
  pub lifetimes : Lfts 0
  pub arguments : Dens lifetimes new-kinds.ps
  pub exit : AtExit (ended_of 0 new-kinds.ps new-kinds.r) lifetimes
  pub ensured : new-contract.Post lifetimes arguments d exit

module _ (es ps : List ℕ) (d : TagDecoder) where
  -- `calls::decode` on the record d and the bytes s may return r
  pub record DecodeReturns (s : List ℕ) (r : Decoded) : Type 1 where
    pub lifetimes : Lfts 3
    pub arguments : Dens lifetimes decode-kinds.ps
    pub exit : AtExit (ended_of 3 decode-kinds.ps decode-kinds.r) lifetimes
    pub holds : (arguments.0.now ≡ es) × (arguments.1.0.now ≡ ps) × (arguments.1.1.0 ≡ d) × (arguments.1.1.1.0.now ≡ s)
    pub ensured : decode-contract.Post lifetimes arguments r exit

  -- `calls::decode_eof` may
  pub record EofReturns (s : List ℕ) (r : Decoded) : Type 1 where
    pub lifetimes : Lfts 3
    pub arguments : Dens lifetimes eof-kinds.ps
    pub exit : AtExit (ended_of 3 eof-kinds.ps eof-kinds.r) lifetimes
    pub holds : (arguments.0.now ≡ es) × (arguments.1.0.now ≡ ps) × (arguments.1.1.0 ≡ d) × (arguments.1.1.1.0.now ≡ s)
    pub ensured : eof-contract.Post lifetimes arguments r exit

  -- `recovery::try_recover` may
  pub record RecoverReturns (s : List ℕ) (r : Recovered) : Type 1 where
    pub lifetimes : Lfts 3
    pub arguments : Dens lifetimes recover-kinds.ps
    pub exit : AtExit (ended_of 3 recover-kinds.ps recover-kinds.r) lifetimes
    pub holds : (arguments.0.now ≡ es) × (arguments.1.0.now ≡ ps) × (arguments.1.1.0 ≡ d) × (arguments.1.1.1.0.now ≡ s)
    pub ensured : recover-contract.Post lifetimes arguments r exit

-- `settings::allow_errors` on the record d may return e
pub record AllowReturns (d : TagDecoder) (ids hierarchy oversized : Bool) (e : TagDecoder) : Type 1 where
  pub lifetimes : Lfts 0
  pub arguments : Dens lifetimes allow-kinds.ps
  pub exit : AtExit (ended_of 0 allow-kinds.ps allow-kinds.r) lifetimes
  pub holds : (arguments.0 ≡ d) × (arguments.1.0 ≡ ids) × (arguments.1.1.0 ≡ hierarchy) × (arguments.1.1.1.0 ≡ oversized)
  pub ensured : allow-contract.Post lifetimes arguments e exit

-- `settings::set_strict` may
pub record StrictReturns (d : TagDecoder) (b : Bool) (e : TagDecoder) : Type 1 where
  pub lifetimes : Lfts 0
  pub arguments : Dens lifetimes strict-kinds.ps
  pub exit : AtExit (ended_of 0 strict-kinds.ps strict-kinds.r) lifetimes
  pub holds : (arguments.0 ≡ d) × (arguments.1.0 ≡ b)
  pub ensured : strict-contract.Post lifetimes arguments e exit

-- `settings::set_max_allowable_tag_size` may
pub record MaxReturns (d : TagDecoder) (n : Option ℕ) (e : TagDecoder) : Type 1 where
  pub lifetimes : Lfts 0
  pub arguments : Dens lifetimes max-kinds.ps
  pub exit : AtExit (ended_of 0 max-kinds.ps max-kinds.r) lifetimes
  pub holds : (arguments.0 ≡ d) × (arguments.1.0 ≡ n)
  pub ensured : max-contract.Post lifetimes arguments e exit

-- what the routines by value may return of each call
pub data ByValue (es ps : List ℕ) (d : TagDecoder) : Call → Response → TagDecoder → Type 1 where
  decoded : (s : List ℕ) (r : Decoded) → DecodeReturns es ps d s r → ByValue es ps d (decoding s) (answered r.answer r.taken) r.state
  ended : (s : List ℕ) (r : Decoded) → EofReturns es ps d s r → ByValue es ps d (ending s) (answered r.answer r.taken) r.state
  recovered : (s : List ℕ) (r : Recovered) → RecoverReturns es ps d s r → ByValue es ps d (recovering s) (searched r.answer r.taken) r.state
  allowed : (ids hierarchy oversized : Bool) (e : TagDecoder) → AllowReturns d ids hierarchy oversized e → ByValue es ps d (allow ids hierarchy oversized) silent e
  made_strict : (b : Bool) (e : TagDecoder) → StrictReturns d b e → ByValue es ps d (strictly b) silent e
  limited : (n : Option ℕ) (e : TagDecoder) → MaxReturns d n e → ByValue es ps d (limit n) silent e

-- ---- with the record lent: d before the call, e as the call leaves it

module _ (es ps : List ℕ) (d : TagDecoder) where
  -- `calls::decode` on the lent record d and the bytes s may return r and leave e
  abbrev pub DecodeLeaves : List ℕ → Reply → TagDecoder → Type 0
  DecodeLeaves s r e = ReturnsAndLeaves r e (apart (decode es ps d s))

  -- `calls::decode_eof` may
  abbrev pub EofLeaves : List ℕ → Reply → TagDecoder → Type 0
  EofLeaves s r e = ReturnsAndLeaves r e (apart (decode_eof es ps d s))

  -- `calls::try_recover` may
  abbrev pub RecoverLeaves : List ℕ → RecoveryReply → TagDecoder → Type 0
  RecoverLeaves s r e = ReturnsAndLeaves r e (recovery_apart (try_recover es ps d s))

-- `settings::allow_errors` on the lent record d may leave e
abbrev pub AllowLeaves : TagDecoder → Bool → Bool → Bool → TagDecoder → Type 0
AllowLeaves d ids hierarchy oversized e = e ≡ allowing d ids hierarchy oversized

-- `settings::set_strict` may
abbrev pub StrictLeaves : TagDecoder → Bool → TagDecoder → Type 0
StrictLeaves d b e = e ≡ reading d b

-- `settings::set_max_allowable_tag_size` may
abbrev pub MaxLeaves : TagDecoder → Option ℕ → TagDecoder → Type 0
MaxLeaves d n e = e ≡ limited_to d n

-- what the routines of tag_decoder_lent may return and leave of each call
pub data ByReference (es ps : List ℕ) (d : TagDecoder) : Call → Response → TagDecoder → Type 1 where
  lent_decoded : (s : List ℕ) (r : Reply) (e : TagDecoder) → DecodeLeaves es ps d s r e → ByReference es ps d (decoding s) (answered r.answer r.taken) e
  lent-ended : (s : List ℕ) (r : Reply) (e : TagDecoder) → EofLeaves es ps d s r e → ByReference es ps d (ending s) (answered r.answer r.taken) e
  lent_recovered : (s : List ℕ) (r : RecoveryReply) (e : TagDecoder) → RecoverLeaves es ps d s r e → ByReference es ps d (recovering s) (searched r.answer r.taken) e
  lent_allowed : (ids hierarchy oversized : Bool) (e : TagDecoder) → AllowLeaves d ids hierarchy oversized e → ByReference es ps d (allow ids hierarchy oversized) silent e
  lent_made_strict : (b : Bool) (e : TagDecoder) → StrictLeaves d b e → ByReference es ps d (strictly b) silent e
  lent_limited : (n : Option ℕ) (e : TagDecoder) → MaxLeaves d n e → ByReference es ps d (limit n) silent e
