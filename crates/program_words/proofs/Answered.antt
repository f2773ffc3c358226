-- What was written of an answer, by what was made of it.
use Rattle.std.proofs.Common.{◌≡◌, ℕ, List, Result, Ok, Err, refl, sym, ap, ◌∙◌, subst}
use Rattle.std.specs.Result.{IsErrAnd}
use Rattle.std.proofs.lemmas.Result.{err_from_is_err_and}
use Rattle.texts.specs.Growth.{SinkState, Cut}
use Rattle.program_words.specs.Conduct.{Answers, FailsAs, WritesText, and_then}
use Rattle.program_words.specs.declared.errors.ProgramError.{ProgramError}
use Rattle.program_words.specs.declared.errors.ProgramError.TheVariants as error

answers_error : {R : Type 0} (T : Type 0) (answer : Result (List ℕ) R) (e : ProgramError R)
    (s : SinkState) → FailsAs answer e → Answers {T = T} answer (Err e) s s
answers_error T answer (error.Refused reason) s fails = (fails, refl)
answers_error T answer error.NoMemory s fails = refl
answers_error T answer error.Usage s fails = absurd fails
answers_error T answer error.ReadFault s fails = absurd fails
answers_error T answer error.WriteFault s fails = absurd fails
answers_error T answer error.TooLong s fails = absurd fails

module _ {T R : Type 0} where
  -- what was written of an answer was written of its equal
  pub answers_as : (result : Result T (ProgramError R)) (a b : Result (List ℕ) R) (s t : SinkState)
      → b ≡ a → Answers a result s t → Answers b result s t
  answers_as result a b s t e =
      subst (λ (x : Result (List ℕ) R). Answers x result s t) (sym e)

  -- of a text that is the answer
  pub answers_text : (result : Result T (ProgramError R)) (answer : Result (List ℕ) R)
      (text : List ℕ) (s t : SinkState) → answer ≡ Ok text → WritesText text result s t
      → Answers answer result s t
  answers_text (Ok value) answer text s t is wrote = record { text = text; is = is; has = wrote }
  answers_text (Err error.WriteFault) answer text s t is cut =
      record { text = text; is = is; has = cut }
  answers_text (Err error.NoMemory) answer text s t is same = same
  answers_text (Err (error.Refused reason)) answer text s t is never = absurd never
  answers_text (Err error.Usage) answer text s t is never = absurd never
  answers_text (Err error.ReadFault) answer text s t is never = absurd never
  answers_text (Err error.TooLong) answer text s t is never = absurd never

  -- of a text that is the answer, after a write that failed
  pub answers_cut : (result : Result T (ProgramError R)) (answer : Result (List ℕ) R)
      (text : List ℕ) (s t : SinkState) → answer ≡ Ok text
      → IsErrAnd result (λ e. e ≡ error.WriteFault) → Cut text s t → Answers answer result s t
  answers_cut result answer text s t is given cut =
      let p = err_from_is_err_and result given in
      rw (p.1, p.2) (record { text = text; is = is; has = cut })

  -- after a write that failed
  pub writes_cut : (result : Result T (ProgramError R)) (text : List ℕ) (s t : SinkState)
      → IsErrAnd result (λ e. e ≡ error.WriteFault) → Cut text s t → WritesText text result s t
  writes_cut result text s t given cut =
      let p = err_from_is_err_and result given in rw (p.1, p.2) cut

  -- after a call that failed as is defined
  pub answers_fails : (result : Result T (ProgramError R)) (answer : Result (List ℕ) R)
      (e : ProgramError R) (s : SinkState) → FailsAs answer e → IsErrAnd result (λ given. given ≡ e)
      → Answers answer result s s
  answers_fails result answer e s fails given =
      let p = err_from_is_err_and result given in rw (p.1, p.2) (answers_error T answer e s fails)

-- what fails as is defined fails as what is made of it
pub fails_then : {V W R : Type 0} (answer : Result W R) (defined : Result V R)
    (made : V → Result W R) (e : ProgramError R) → answer ≡ and_then defined made
    → FailsAs defined e → FailsAs answer e
fails_then {V = V} {R = R} answer defined made (error.Refused reason) is fails =
    is ∙ ap (λ (x : Result V R). and_then x made) fails
fails_then answer defined made error.NoMemory is fails = fails
fails_then answer defined made error.Usage is fails = absurd fails
fails_then answer defined made error.ReadFault is fails = absurd fails
fails_then answer defined made error.WriteFault is fails = absurd fails
fails_then answer defined made error.TooLong is fails = absurd fails
