-- What `choose` did to its sink for what its words ask for.
use Rattle.std.specs.Prelude.{◌≡◌, ℕ, List, Option, Some, None, Result, Ok, Err}
use Rattle.texts.specs.Growth.{SinkState, Wrote, Cut}
use Rattle.construction.specs.Plans.{Plan}
use Rattle.plan_finder.specs.declared.wants.Want.{Want}
use Rattle.program_words.specs.Asked.{asked_by}
use Rattle.program_words.specs.Conduct as program
use Rattle.program_words.specs.declared.errors.ProgramError.{ProgramError}
use Rattle.program_words.specs.declared.errors.ProgramError.TheVariants as error
use Rattle.choose.specs.declared.reasons.ChooseReason.{ChooseReason}
use Rattle.choose.specs.declared.any_plans.AnyPlan.{AnyPlan}
use Rattle.choose.specs.declared.requests.Room.{Room}
use Rattle.choose.specs.declared.requests.Scope.{Scope}
use Rattle.choose.specs.declared.requests.Scope.TheVariants as scope
use Rattle.choose.specs.declared.requests.Request.{Request}
use Rattle.choose.specs.declared.requests.Request.TheVariants as request
use Rattle.choose.specs.declared.shortages.Shortage.{Shortage}
use Rattle.choose.specs.Fronts.{IsFront}
use Rattle.choose.specs.FrontsOfBoth.{IsFrontOfBoth}
use Rattle.choose.specs.FrontText.{front_text, last_plan_text}
use Rattle.choose.specs.FrontsOfBothText.{any_line, any_text, both_front_text, both_plan_text}
use Rattle.choose.specs.MostFaults.{IsMost}
use Rattle.choose.specs.Shortages.{IsShortage, shortage_text}
use Rattle.choose.specs.HelpText.{help_text, version_text}
use Rattle.choose.specs.Requests.{request_of}

-- a front of the boosting construction for the wants has this
abbrev pub OfFront : (List Plan → Type 0) → Want → Type 0
OfFront holds want =
    (plans : List Plan) × IsFront want.faults want.modulus want.most plans × holds plans

-- a front of both constructions has this
abbrev pub OfFrontOfBoth : (Option AnyPlan → Type 0) → Want → Type 0
OfFrontOfBoth holds want =
    (plan : Option AnyPlan) × IsFrontOfBoth want.faults want.modulus want.most plan × holds plan

-- a plan of most faults within the room has this
abbrev pub OfMost : (AnyPlan → Type 0) → Room → Type 0
OfMost holds room = (plan : AnyPlan) × IsMost room.nodes room.bound room.modulus plan × holds plan

-- a text that answers the request has this
abbrev pub OfAnswer : (List ℕ → Type 0) → Request → Type 0
OfAnswer holds (request.Front scope.Both want) =
    OfFrontOfBoth (λ plan. holds (both_front_text plan)) want
OfAnswer holds (request.LastPlan scope.Both want) =
    OfFrontOfBoth (λ plan. holds (both_plan_text plan)) want
OfAnswer holds (request.Front scope.Boosting want) =
    OfFront (λ plans. holds (front_text plans)) want
OfAnswer holds (request.LastPlan scope.Boosting want) =
    OfFront (λ plans. holds (last_plan_text plans)) want
OfAnswer holds (request.Most room) = OfMost (λ plan. holds (any_line plan)) room
OfAnswer holds (request.MostPlan room) = OfMost (λ plan. holds (any_text plan)) room

-- What was written for a request: the answer; or nothing, since memory was refused; or a prefix of
-- the answer.
abbrev pub Answers : {T : Type 0} → Request → Result T (ProgramError ChooseReason)
    → (old new : SinkState) → Type 0
Answers asked (Ok value) old new = OfAnswer (λ text. Wrote text old new) asked
Answers asked (Err error.WriteFault) old new = OfAnswer (λ text. Cut text old new) asked
Answers asked (Err error.NoMemory) old new = new ≡ old
Answers asked (Err other) old new = ⊥

-- and for words
abbrev pub DoesAsked : {T : Type 0} → (words : List (List ℕ)) → Result T (ProgramError ChooseReason)
    → (old new : SinkState) → Type 0
DoesAsked words result old new =
    program.DoesAsked help_text version_text (λ asked. Answers asked result old new)
    (asked_by words (request_of words)) result old new

-- a text that says why there is no plan for these wants, and the empty one if there is a plan
abbrev pub OfShortage : (List ℕ → Type 0) → Scope → Want → Type 0
OfShortage holds scope want =
    (short : Option Shortage) × IsShortage scope want short × holds (shortage_text want short)

-- If there is no plan for these wants, the line that says why was written, and else nothing; or
-- memory was refused and nothing was written, or the line was cut.
abbrev pub ExplainsWants : {T : Type 0} → Scope → Want → Result T (ProgramError ChooseReason)
    → (old new : SinkState) → Type 0
ExplainsWants scope want (Ok value) old new = OfShortage (λ text. Wrote text old new) scope want
ExplainsWants scope want (Err error.WriteFault) old new =
    OfShortage (λ text. Cut text old new) scope want
ExplainsWants scope want (Err error.NoMemory) old new = new ≡ old
ExplainsWants scope want (Err other) old new = ⊥

-- Nothing is said, and nothing fails, if no front is asked for, nor its last plan.
abbrev pub SaysNothing : {T : Type 0} → Result T (ProgramError ChooseReason)
    → (old new : SinkState) → Type 0
SaysNothing (Ok value) old new = new ≡ old
SaysNothing (Err e) old new = ⊥

abbrev pub Explains : {T : Type 0} → Option Request → Result T (ProgramError ChooseReason)
    → (old new : SinkState) → Type 0
Explains (Some (request.Front scope want)) result old new =
    ExplainsWants scope want result old new
Explains (Some (request.LastPlan scope want)) result old new =
    ExplainsWants scope want result old new
Explains (Some (request.Most room)) result old new = SaysNothing result old new
Explains (Some (request.MostPlan room)) result old new = SaysNothing result old new
Explains None result old new = SaysNothing result old new
