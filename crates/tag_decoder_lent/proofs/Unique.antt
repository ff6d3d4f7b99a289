-- No second answer meets the contract of a call on a lent record, and no second record is left: of two results, and two
-- records at exit, that a contract ensures at the same arguments, both are equal. It is said of the contract's clauses
-- themselves.
-- Assumes nothing.
use mathlib.Core.Path.{◌≡◌, refl, ap}
use seplogic.Ra.Ura.{Ura}
use base.Logic.{SProp, ent, emp, via}
use prog.Memory.{Memory}
use prog.Routine.{Routine}
use types.Logic.{Logic}
use contract.Lifetimes.{Lfts}
use contract.Monad.{Fun, conj, conj_r, fact, fact_mono, guard-conj}
use denote.Triple.Entry.{Args, Res}
use denote.Triple.Clauses.{Ended, Clauses, Lasts, at_exit}
use Rattle.tools.proofs.Unique.{same}
use Rattle.decoder_rules.specs.declared.types.TagDecoder.{TagDecoder}
use Rattle.tag_decoder_lent.specs.contracts.calls.decode as decode
use Rattle.tag_decoder_lent.specs.contracts.calls.decode_eof as decode-eof
use Rattle.tag_decoder_lent.specs.contracts.calls.try_recover as try-recover
use Rattle.tag_decoder_lent.specs.contracts.settings.allow_errors as allow-errors
use Rattle.tag_decoder_lent.specs.contracts.settings.set_max_allowable_tag_size as set-max
use Rattle.tag_decoder_lent.specs.contracts.settings.set_strict as set-strict
use Rattle.tag_decoder_lent.specs.contracts.settings.position as position
use Rattle.tag_decoder_lent.specs.contracts.settings.is_finished as is-finished

-- where a contract ensures the result r with the last values ws of what was lent, and r' with ws', they are the same
abbrev pub OneAnswer : {M : Type 1} (𝓤 : Ura M) (T : Ended) → Clauses 𝓤 T → Type 1
OneAnswer 𝓤 T c = (κs : Lfts T.signature.lifetimes) (a : Args T.signature κs) (g : (c κs a).ghost) (r r' : Res T.signature κs) (ws ws' : Lasts T κs a)
    → ent 𝓤 (conj 𝓤 ((c κs a).ensures g r (at_exit T κs a ws)) ((c κs a).ensures g r' (at_exit T κs a ws'))) (fact 𝓤 ((r ≡ r') × (ws ≡ ws')))

both : {M : Type 1} (𝓤 : Ura M) {φ ψ χ : Type 0} → (φ → ψ → χ) → ent 𝓤 (conj 𝓤 (fact 𝓤 φ) (fact 𝓤 ψ)) (fact 𝓤 χ)
both 𝓤 {φ} {ψ} {χ} f = guard-conj 𝓤 φ (emp 𝓤) (fact 𝓤 ψ) (λ x. via 𝓤 (fact 𝓤 ψ) (conj_r 𝓤 (emp 𝓤) (fact 𝓤 ψ)) (fact_mono 𝓤 ψ χ (f x)))

module _ {M : Type 1} {𝓤 : Ura M} (𝓛 : Logic 𝓤) (mem : Memory → SProp 𝓤) (run : Routine → Fun 𝓤) where
  pub decode_one : OneAnswer 𝓤 decode.ended (decode.clauses 𝓛 mem run)
  decode_one κs a g r r' ws ws' = both 𝓤 (λ p q. (same p.answer q.answer, ap (λ (d : TagDecoder). (d, ws.1)) (same p.left q.left)))

  pub decode_eof_one : OneAnswer 𝓤 decode-eof.ended (decode-eof.clauses 𝓛 mem run)
  decode_eof_one κs a g r r' ws ws' = both 𝓤 (λ p q. (same p.answer q.answer, ap (λ (d : TagDecoder). (d, ws.1)) (same p.left q.left)))

  pub try_recover_one : OneAnswer 𝓤 try-recover.ended (try-recover.clauses 𝓛 mem run)
  try_recover_one κs a g r r' ws ws' = both 𝓤 (λ p q. (same p.answer q.answer, ap (λ (d : TagDecoder). (d, ws.1)) (same p.left q.left)))

  pub set_strict_one : OneAnswer 𝓤 set-strict.ended (set-strict.clauses 𝓛 mem run)
  set_strict_one κs a g r r' ws ws' = both 𝓤 (λ p q. (refl, ap (λ (d : TagDecoder). (d, ws.1)) (same p q)))

  pub allow_errors_one : OneAnswer 𝓤 allow-errors.ended (allow-errors.clauses 𝓛 mem run)
  allow_errors_one κs a g r r' ws ws' = both 𝓤 (λ p q. (refl, ap (λ (d : TagDecoder). (d, ws.1)) (same p q)))

  pub set-max_one : OneAnswer 𝓤 set-max.ended (set-max.clauses 𝓛 mem run)
  set-max_one κs a g r r' ws ws' = both 𝓤 (λ p q. (refl, ap (λ (d : TagDecoder). (d, ws.1)) (same p q)))

  pub position_one : OneAnswer 𝓤 position.ended (position.clauses 𝓛 mem run)
  position_one κs a g r r' ws ws' = both 𝓤 (λ p q. (same p q, refl))

  pub is_finished_one : OneAnswer 𝓤 is-finished.ended (is-finished.clauses 𝓛 mem run)
  is_finished_one κs a g r r' ws ws' = both 𝓤 (λ p q. (same p q, refl))
