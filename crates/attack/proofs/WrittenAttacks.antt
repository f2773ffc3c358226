-- What was written of an input, by how a call failed.
use Rattle.std.proofs.Common.{◌≡◌, ℕ, List, Result, Err, refl}
use Rattle.std.specs.Result.{IsErrAnd}
use Rattle.std.proofs.lemmas.Result.{err_from_is_err_and}
use Rattle.texts.specs.Growth.{SinkState, Cut}
use Rattle.program_words.specs.Conduct.{FailsAs}
use Rattle.program_words.specs.declared.errors.ProgramError.{ProgramError}
use Rattle.program_words.specs.declared.errors.ProgramError.TheVariants as error
use Rattle.attack.specs.declared.finding.Found.{Found}
use Rattle.attack.specs.declared.reasons.AttackReason.{AttackReason}
use Rattle.attack.specs.declared.requests.Numbers.{Numbers}
use Rattle.attack.specs.Conduct.{Attacks, IsAttackedSome}
use Rattle.attack.specs.PlanInputs.{plan_answer}

module _ (numbers : Numbers) (words : List (List ℕ)) (input : List ℕ) where
  refused_error : (e : ProgramError AttackReason) (s : SinkState) → FailsAs (plan_answer input) e
      → Attacks numbers words input (Err e) s s
  refused_error (error.Refused reason) s fails = (fails, refl)
  refused_error error.NoMemory s fails = refl
  refused_error error.Usage s fails = absurd fails
  refused_error error.ReadFault s fails = absurd fails
  refused_error error.WriteFault s fails = absurd fails
  refused_error error.TooLong s fails = absurd fails

  module _ (result : Result Found (ProgramError AttackReason)) where
    -- after a plan that was not read
    pub refused : (e : ProgramError AttackReason) (s : SinkState) → FailsAs (plan_answer input) e
        → IsErrAnd result (λ given. given ≡ e) → Attacks numbers words input result s s
    refused e s fails given =
        let p = err_from_is_err_and result given in rw (p.1, p.2) (refused_error e s fails)

    -- after a write that failed
    pub faulted : (old new : SinkState) → IsErrAnd result (λ e. e ≡ error.WriteFault)
        → IsAttackedSome numbers words input (λ text. Cut text old new)
        → Attacks numbers words input result old new
    faulted old new given cut =
        let p = err_from_is_err_and result given in rw (p.1, p.2) cut
