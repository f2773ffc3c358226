-- What `attack` did to its source and its sink for what its words ask for.
use Rattle.std.specs.Prelude.{◌≡◌, ℕ, List, ◌++◌, Option, Some, None, Result, Ok, Err, IfOk}
use Rattle.texts.specs.Growth.{SinkState, Wrote, Cut}
use Rattle.program_words.specs.Asked.{asked_by}
use Rattle.program_words.specs.Conduct as program
use Rattle.program_words.specs.Conduct.{DoesWhole}
use Rattle.program_words.specs.declared.asked.Asked.{Asked}
use Rattle.program_words.specs.declared.asked.Asked.TheVariants as asked
use Rattle.program_words.specs.declared.errors.ProgramError.{ProgramError}
use Rattle.program_words.specs.declared.errors.ProgramError.TheVariants as error
use Rattle.attack.specs.declared.finding.Found.{Found}
use Rattle.attack.specs.declared.plans.AnyPlan.{AnyPlan}
use Rattle.attack.specs.declared.reasons.AttackReason.{AttackReason}
use Rattle.attack.specs.declared.requests.Numbers.{Numbers}
use Rattle.attack.specs.Found.{Finds}
use Rattle.attack.specs.HelpText.{help_text, version_text}
use Rattle.attack.specs.PlanInputs.{plan_answer}
use Rattle.attack.specs.PlanTexts.{text_of, IsAcceptedPlan}
use Rattle.attack.specs.Requests.{kind_words, named_kinds, request_of}

module _ (numbers : Numbers) (words : List (List ℕ)) (input : List ℕ) where
  -- The input is a plan, the attack that is said was found on it, and the plan's text with that of
  -- the attack after it has this.
  pub record IsAttacked (found : Found) (holds : List ℕ → Type 0) : Type 0 where
    pub plan : AnyPlan
    pub read : plan_answer input ≡ Ok plan
    pub accepted : IsAcceptedPlan plan
    pub attack : List ℕ
    pub finds : Finds plan numbers (named_kinds words) attack found
    pub has : holds (text_of plan ++ attack)

  -- the same of some attack
  pub record IsAttackedSome (holds : List ℕ → Type 0) : Type 0 where
    pub found : Found
    pub attacked : IsAttacked found holds

  -- why there is no attack: the input is refused
  abbrev pub IsRefused : AttackReason → Type 0
  IsRefused reason = plan_answer input ≡ Err reason

  -- What was written of an input: the texts of its plan and of the attack on it; or nothing, if
  -- there is no attack for this reason, or memory was refused; or a prefix of the texts.
  abbrev pub Attacks : Result Found (ProgramError AttackReason) → (old new : SinkState) → Type 0
  Attacks (Ok found) old new = IsAttacked found (λ text. Wrote text old new)
  Attacks (Err error.WriteFault) old new = IsAttackedSome (λ text. Cut text old new)
  Attacks (Err (error.Refused reason)) old new = IsRefused reason × (new ≡ old)
  Attacks (Err error.NoMemory) old new = new ≡ old
  Attacks (Err other) old new = ⊥

-- What a search did that ended so: the bytes that its source has left, the source's count of
-- faults, and what its sink reports, each before and after.
abbrev pub AttacksInput : Result Found (ProgramError AttackReason) → Numbers
    → (words : List (List ℕ))
    → (left left' : Option (List ℕ)) (before now : ℕ) (old new : SinkState) → Type 0
AttacksInput result numbers words left left' before now old new =
    DoesWhole (Attacks numbers words) result left left' before now old new

-- ---- what words ask for

abbrev pub asked_of : (words : List (List ℕ)) → Asked Numbers
asked_of words = asked_by words (request_of words)

-- a search that ends well says something of what it found
abbrev pub Searches : Result (Option Found) (ProgramError AttackReason)
    → (Result Found (ProgramError AttackReason) → Type 0) → Type 0
Searches (Ok (Some found)) does = does (Ok found)
Searches (Ok None) does = ⊥
Searches (Err e) does = does (Err e)

-- what was done for words
abbrev pub DoesAsked : (words : List (List ℕ)) → Result (Option Found) (ProgramError AttackReason)
    → (left left' : Option (List ℕ)) (before now : ℕ) (old new : SinkState) → Type 0
DoesAsked words result left left' before now old new =
    program.DoesAsked help_text version_text
    (λ numbers. Searches result
    (λ ended. AttacksInput ended numbers (kind_words words) left left' before now old new))
    (asked_of words) result old new

-- of words that ask for no search nothing is said
abbrev pub LeavesUnsaid : Asked Numbers → Result (Option Found) (ProgramError AttackReason)
    → Type 0
LeavesUnsaid (asked.Request numbers) result = Unit {0}
LeavesUnsaid other result = IfOk result (λ said. said ≡ None)
