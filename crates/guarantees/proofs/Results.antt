-- What the routines return is what the definitions say: in any run of results that their contracts ensure, the record is
-- `record_after` of the calls and the answers are `history` of them, by value and with the record lent. So what demand 3
-- says of the definitions it says of what the routines answer. Assumes nothing.
use Prim.Native.Nat.{ℕ}
use mathlib.Core.Path.{◌≡◌, refl, ap, ◌∙◌}
use mathlib.Core.List.{List, [], ◌∷◌}
use seplogic.Ra.Ura.{Ura}
use base.Logic.{SProp}
use prog.Memory.{Memory}
use prog.Routine.{Routine}
use types.Logic.{Logic}
use contract.Lifetimes.{Lfts}
use contract.Monad.{Fun, fact}
use denote.Triple.Entry.{Args, Res}
use denote.Triple.Clauses.{Ended, Clauses, Lasts, at_exit}
use Rattle.decoder_rules.specs.Record.{fresh}
use Rattle.decoder_rules.specs.Moving.{decode}
use Rattle.decoder_rules.specs.EndOfInput.{decode_eof}
use Rattle.decoder_rules.specs.Recovery.{try_recover}
use Rattle.decoder_rules.specs.declared.types.Decoded.{Decoded}
use Rattle.decoder_rules.specs.declared.types.Recovered.{Recovered}
use Rattle.decoder_rules.specs.declared.types.TagDecoder.{TagDecoder}
use Rattle.tag_decoder_lent.specs.declared.types.Reply.{Reply}
use Rattle.tag_decoder_lent.specs.declared.types.RecoveryReply.{RecoveryReply}
use Rattle.tag_decoder_lent.specs.contracts.calls.decode as lent-decode
use Rattle.tag_decoder_lent.specs.contracts.calls.decode_eof as lent-eof
use Rattle.tag_decoder_lent.specs.contracts.calls.try_recover as lent-recover
use Rattle.tag_decoder_lent.specs.contracts.settings.allow_errors as lent-allow
use Rattle.tag_decoder_lent.specs.contracts.settings.set_strict as lent-strict
use Rattle.tag_decoder_lent.specs.contracts.settings.set_max_allowable_tag_size as lent-max
use Rattle.guarantees.specs.Calls.{Call, Response, answered, searched, Step, response_to, next, step_of, record_after, history}
use Rattle.guarantees.specs.Results.{Run, begun, called, SameAsDefined, NewReturns, ByValue, decoded, ended, recovered, allowed, made_strict, limited, DecodeLeaves, EofLeaves, RecoverLeaves, AllowLeaves, StrictLeaves, MaxLeaves, ByReference, lent_decoded, lent-ended, lent_recovered, lent_allowed, lent_made_strict, lent_limited}

-- ---- a run of results that are the definitions'

-- x and e are what the definitions say of the call c on the record d
pub record AsDefined (es ps : List ℕ) (d : TagDecoder) (c : Call) (x : Response) (e : TagDecoder) : Type 0 where
  pub told : x ≡ response_to es ps d c
  pub state : e ≡ next es ps d c

module _ (es ps : List ℕ) (New : TagDecoder → Type 1) (Returns : TagDecoder → Call → Response → TagDecoder → Type 1)
    (new : (d : TagDecoder) → New d → d ≡ fresh) (one : (d : TagDecoder) (c : Call) (x : Response) (e : TagDecoder) → Returns d c x e → AsDefined es ps d c x e) where
  one_more : (cs : List Call) (d : TagDecoder) (h : List Step) (c : Call) (x : Response) (e : TagDecoder) → SameAsDefined es ps cs d h → AsDefined es ps d c x e
      → SameAsDefined es ps (c ∷ cs) e (record { call = c; told = x } ∷ h)
  unfolding record_after history
  one_more cs d h c x e k a =
      let told : x ≡ response_to es ps (record_after es ps cs) c = a.told ∙ ap (λ (y : TagDecoder). response_to es ps y c) k.state in
      record {
        state = a.state ∙ ap (λ (y : TagDecoder). next es ps y c) k.state;
        told = ap (λ (y : Response). record { call = c; told = y } ∷ h) told ∙ ap (λ (l : List Step). step_of es ps (record_after es ps cs) c ∷ l) k.told;
      }

  begun_is : (d : TagDecoder) → d ≡ fresh → SameAsDefined es ps [] d []
  unfolding record_after history
  begun_is d e = record { state = e; told = refl }

  -- a run of them has the definitions' record and answers
  pub same_run : (cs : List Call) (d : TagDecoder) (h : List Step) → Run New Returns cs d h → SameAsDefined es ps cs d h
  same_run _ _ _ (begun d e) = begun_is d (new d e)
  same_run _ _ _ (called cs d h c x e before r) = one_more cs d h c x e (same_run cs d h before) (one d c x e r)

-- ---- by value

new_is : (d : TagDecoder) → NewReturns d → d ≡ fresh
new_is d r = r.ensured

-- what a definition says of some arguments it says of what they hold
held : {A : Type 0} (f : List ℕ → List ℕ → TagDecoder → List ℕ → A) {es es' ps ps' s s' : List ℕ} {d d' : TagDecoder} {r : A}
    → (es' ≡ es) × (ps' ≡ ps) × (d' ≡ d) × (s' ≡ s) → r ≡ f es' ps' d' s' → r ≡ f es ps d s
held f h q = rw (h.0, h.1, h.2, h.3) at q

module _ (es ps : List ℕ) where
  value_is : (d : TagDecoder) (c : Call) (x : Response) (e : TagDecoder) → ByValue es ps d c x e → AsDefined es ps d c x e
  value_is d _ _ _ (decoded s r k) =
      let q : r ≡ decode es ps d s = held decode k.holds k.ensured in
      record { told = ap (λ (y : Decoded). answered y.answer y.taken) q; state = ap (λ (y : Decoded). y.state) q }
  value_is d _ _ _ (ended s r k) =
      let q : r ≡ decode_eof es ps d s = held decode_eof k.holds k.ensured in
      record { told = ap (λ (y : Decoded). answered y.answer y.taken) q; state = ap (λ (y : Decoded). y.state) q }
  value_is d _ _ _ (recovered s r k) =
      let q : r ≡ try_recover es ps d s = held try_recover k.holds k.ensured in
      record { told = ap (λ (y : Recovered). searched y.answer y.taken) q; state = ap (λ (y : Recovered). y.state) q }
  value_is d _ _ _ (allowed ids hierarchy oversized e k) =
      record { told = refl; state = rw (k.holds.0, k.holds.1, k.holds.2, k.holds.3) at k.ensured }
  value_is d _ _ _ (made_strict b e k) = record { told = refl; state = rw (k.holds.0, k.holds.1) at k.ensured }
  value_is d _ _ _ (limited n e k) = record { told = refl; state = rw (k.holds.0, k.holds.1) at k.ensured }

  -- a run of results of the routines by value
  pub run_is : (cs : List Call) (d : TagDecoder) (h : List Step) → Run NewReturns (ByValue es ps) cs d h → SameAsDefined es ps cs d h
  run_is = same_run es ps NewReturns (ByValue es ps) new_is value_is

-- ---- with the record lent

module _ (es ps : List ℕ) where
  lent_is : (d : TagDecoder) (c : Call) (x : Response) (e : TagDecoder) → ByReference es ps d c x e → AsDefined es ps d c x e
  lent_is d _ _ _ (lent_decoded s r e k) = record { told = ap (λ (y : Reply). answered y.answer y.taken) k.answer; state = k.left }
  lent_is d _ _ _ (lent-ended s r e k) = record { told = ap (λ (y : Reply). answered y.answer y.taken) k.answer; state = k.left }
  lent_is d _ _ _ (lent_recovered s r e k) = record { told = ap (λ (y : RecoveryReply). searched y.answer y.taken) k.answer; state = k.left }
  lent_is d _ _ _ (lent_allowed ids hierarchy oversized e k) = record { told = refl; state = k }
  lent_is d _ _ _ (lent_made_strict b e k) = record { told = refl; state = k }
  lent_is d _ _ _ (lent_limited n e k) = record { told = refl; state = k }

  -- a run of results of the routines to which the record is lent
  pub lent_run_is : (cs : List Call) (d : TagDecoder) (h : List Step) → Run NewReturns (ByReference es ps) cs d h → SameAsDefined es ps cs d h
  lent_run_is = same_run es ps NewReturns (ByReference es ps) new_is lent_is

-- what each of those contracts ensures, as the checker has it in its clauses, is what `ByReference` says of it: a is what
-- was lent and given, ws what the lent record is at exit
module _ {M : Type 1} {𝓤 : Ura M} (𝓛 : Logic 𝓤) (mem : Memory → SProp 𝓤) (run : Routine → Fun 𝓤) where
  abbrev Ensures : (T : Ended) → Clauses 𝓤 T → ((κs : Lfts T.signature.lifetimes) (a : Args T.signature κs) → Res T.signature κs → Lasts T κs a → Type 0) → Type 2
  Ensures T c P = (κs : Lfts T.signature.lifetimes) (a : Args T.signature κs) (g : (c κs a).ghost) (r : Res T.signature κs) (ws : Lasts T κs a)
      → (c κs a).ensures g r (at_exit T κs a ws) ≡ fact 𝓤 (P κs a r ws)

  pub lent_decode_ensures : Ensures lent-decode.ended (lent-decode.clauses 𝓛 mem run)
      (λ κs a r ws. DecodeLeaves a.1.0.now a.1.1.0.now a.0.now a.1.1.1.0.now r ws.0)
  lent_decode_ensures κs a g r ws = refl

  pub lent_eof_ensures : Ensures lent-eof.ended (lent-eof.clauses 𝓛 mem run)
      (λ κs a r ws. EofLeaves a.1.0.now a.1.1.0.now a.0.now a.1.1.1.0.now r ws.0)
  lent_eof_ensures κs a g r ws = refl

  pub lent_recover_ensures : Ensures lent-recover.ended (lent-recover.clauses 𝓛 mem run)
      (λ κs a r ws. RecoverLeaves a.1.0.now a.1.1.0.now a.0.now a.1.1.1.0.now r ws.0)
  lent_recover_ensures κs a g r ws = refl

  pub lent_allow_ensures : Ensures lent-allow.ended (lent-allow.clauses 𝓛 mem run) (λ κs a r ws. AllowLeaves a.0.now a.1.0 a.1.1.0 a.1.1.1.0 ws.0)
  lent_allow_ensures κs a g r ws = refl

  pub lent_strict_ensures : Ensures lent-strict.ended (lent-strict.clauses 𝓛 mem run) (λ κs a r ws. StrictLeaves a.0.now a.1.0 ws.0)
  lent_strict_ensures κs a g r ws = refl

  pub lent-max_ensures : Ensures lent-max.ended (lent-max.clauses 𝓛 mem run) (λ κs a r ws. MaxLeaves a.0.now a.1.0 ws.0)
  lent-max_ensures κs a g r ws = refl
