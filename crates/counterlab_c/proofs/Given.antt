-- What calls give, by what was answered.
use Rattle.std.proofs.Common.{◌≡◌, ◌⊎◌, ℕ, inl, inr, List, Result, Ok, Err, refl, sym, ap, ◌∙◌}
use Rattle.std.proofs.Common.{subst}
use Rattle.std.specs.Prelude.{MatchResult, OnErr}
use Rattle.node_calls.specs.declared.errors.CallError.{CallError}
use Rattle.node_calls.specs.declared.errors.CallError.TheVariants as error
use Rattle.node_calls.specs.Errors.{FailsAs, Answers}
use Rattle.counterlab_c.specs.declared.answers.Answer.{Answer}
use Rattle.counterlab_c.specs.Codes.{answer_of}
use Rattle.counterlab_c.specs.Exports.{GivesNumber, Gives}

-- an error is the one that is defined, or want of memory
failed : {V : Type 0} (e : CallError) (defined : Result V CallError) → FailsAs e defined
    → (defined ≡ Err e) ⊎ (e ≡ error.NoMemory)
failed error.NoMemory defined is = inr refl
failed (error.Refused refusal) defined is = inl is
failed (error.HalvingRefused refusal) defined is = inl is
failed error.Node defined is = inl is
failed error.Length defined is = inl is
failed (error.Cut packet sender) defined is = inl is
failed error.TooLong defined is = inl is

-- the answer of an error
abbrev answer_of_error : CallError → Answer
answer_of_error e = let r : Result ℕ CallError = Err e in answer_of r

pub gives_number : (defined r : Result ℕ CallError) (answer : Answer) → Answers r defined
    → answer ≡ answer_of r → GivesNumber defined answer
gives_number defined (Ok n) answer is says = inl (says ∙ ap answer_of (sym is))
gives_number defined (Err e) answer is says = elim (failed e defined is) [
  | inl same ↦ inl (says ∙ ap answer_of (sym same))
  | inr none ↦ inr (says ∙ ap answer_of_error none)
]

module _ {V M : Type 0} (number : V → ℕ) (writes : V → M) (defined : Result V CallError)
    (old new : M) (answer : Answer) where
  pub gives_value : (value : V) → defined ≡ Ok value → answer ≡ answer_of (Ok (number value))
      → new ≡ writes value → Gives number writes defined old new answer
  gives_value value is says wrote =
      subst (λ (d : Result V CallError). Gives number writes d old new answer) (sym is)
      (inl (says, wrote))

  pub gives_error : (e : CallError) → FailsAs e defined → answer ≡ answer_of (Err e)
      → new ≡ old → Gives number writes defined old new answer
  gives_error e is says same = elim (failed e defined is) [
    | inl right ↦ subst (λ (d : Result V CallError). Gives number writes d old new answer)
        (sym right) (inl (says, same))
    | inr none ↦ inr (says ∙ ap answer_of_error none, same)
  ]

-- a step
pub gives_step : (defined : Result (ℕ × List ℕ) CallError) (old new : List ℕ)
    (r : Result ℕ CallError) (answer : Answer)
    → MatchResult r (λ n. defined ≡ Ok (n, new)) (λ e. FailsAs e defined) → OnErr r (new ≡ old)
    → answer ≡ answer_of r
    → Gives (λ behind. behind.0) (λ behind. behind.1) defined old new answer
gives_step defined old new (Ok n) answer is same says =
    gives_value (λ behind. behind.0) (λ behind. behind.1) defined old new answer
    (n, new) is says refl
gives_step defined old new (Err e) answer is same says =
    gives_error (λ behind. behind.0) (λ behind. behind.1) defined old new answer e is says same
