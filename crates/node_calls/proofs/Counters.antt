-- The counter of a text is that of an accepted plan: so it is sound, and its states are short.
use Rattle.std.proofs.Common.{◌≡◌, ℕ, ◌<◌, ◌≤◌, Bool, true, false, cond, List, Option, Some, None}
use Rattle.std.proofs.Common.{Result, Ok, Err, refl, sym, ap, subst, arith}
use Rattle.std.specs.Prelude.{IfOk}
use Rattle.texts.specs.Lines.{lines_of}
use Rattle.texts.specs.Parts.{At, Found}
use Rattle.sync_types.specs.declared.answers.Premise.{Premise}
use Rattle.construction.specs.Plans.{Plan}
use Rattle.plan_numbers.specs.Premises.{IsAccepted}
use Rattle.plan_numbers.proofs.Accepted.{accepted_depth}
use Rattle.plan_reader.specs.PlanPart.{whole_plan_of}
use Rattle.plan_reader.specs.Skipped.{first_unskipped}
use Rattle.plan_reader.proofs.AcceptedPlans.{whole_plan_accepted}
use Rattle.state_codec.specs.Shapes.{bits_in, bytes_in}
use Rattle.state_codec.proofs.FullNumbers.{fields_short}
use Rattle.plan_machine.specs.PlanMachines.{machine_of_plan}
use Rattle.plan_machine.proofs.Sound.{accepted_are_sound}
use Rattle.machines.specs.Laws.{IsSound}
use Rattle.halving_plan.proofs.Sound.{accepted_are_sound as halving_sound}
use Rattle.halving_plan.specs.Plans.{HalvingNumbers, IsAccepted as IsAcceptedHalving}
use Rattle.halving_plan.proofs.FewBits.{few_bits as halving_few_bits}
use Rattle.halving_texts.specs.declared.premises.LinePremise.{LinePremise}
use Rattle.halving_texts.proofs.Rewritten.{texts_are_rewritten}
use Rattle.halving_texts.specs.HalvingPart.{halving_of, whole_halving_of, alone, unless_followed}
use Rattle.node_calls.specs.declared.any_machines.AnyMachine.{AnyMachine}
use Rattle.node_calls.specs.declared.any_machines.AnyMachine.TheVariants.{Boosting, Halving}
use Rattle.node_calls.specs.Machines.{machine_of}
use Rattle.node_calls.specs.declared.errors.CallError.{CallError}
use Rattle.node_calls.specs.Counters.{and_then, plan_or_refused, plan_answer, plan_counter}
use Rattle.node_calls.specs.Counters.{is_first, counter_by, counter_answer}

-- the plan of a counter is accepted
abbrev pub IsAcceptedCounter : AnyMachine → Type 0
IsAcceptedCounter (Boosting plan) = IsAccepted plan
IsAcceptedCounter (Halving plan) = IsAcceptedHalving plan

accepted_of : (r : Result Plan (At Premise)) (plan : Plan) → plan_or_refused r ≡ Ok plan
    → IfOk r IsAccepted → IsAccepted plan
accepted_of (Ok found) plan is accepted =
    let same : found ≡ plan = cc in subst IsAccepted same accepted
accepted_of (Err at) plan is accepted = absurd cc

-- the counter of a plan is that of a plan
counter_of : (r : Result Plan CallError) (counter : AnyMachine)
    → and_then r (λ plan. let a : Result AnyMachine CallError = Ok (Boosting plan) in a)
    ≡ Ok counter
    → (plan : Plan) × (r ≡ Ok plan) × (counter ≡ Boosting plan)
counter_of (Ok plan) counter is = (plan, refl, cc)
counter_of (Err e) counter is = absurd cc

plan_is : (text : List ℕ) (counter : AnyMachine) → plan_counter text ≡ Ok counter
    → IsAcceptedCounter counter
plan_is text counter is =
    let found = counter_of (plan_answer text) counter is in
    subst IsAcceptedCounter (sym found.2)
    (accepted_of (whole_plan_of text) found.0 found.1 (whole_plan_accepted text))

-- numbers that are read are accepted
whole_is : (first : Option ℕ) (read plan : HalvingNumbers) → unless_followed first read ≡ Ok plan
    → plan ≡ read
whole_is None read plan is = cc
whole_is (Some number) read plan is = absurd cc

accepted_by : (r : Result (Found HalvingNumbers) (At LinePremise)) (plan : HalvingNumbers)
    → alone r ≡ Ok plan
    → ((found : Found HalvingNumbers) → r ≡ Ok found → IsAcceptedHalving found.value)
    → IsAcceptedHalving plan
accepted_by (Ok found) plan is accepted =
    subst IsAcceptedHalving (sym (whole_is _ found.value plan is)) (accepted found refl)
accepted_by (Err at) plan is accepted = absurd cc

halving_accepted : (text : List ℕ) (plan : HalvingNumbers) → whole_halving_of text ≡ Ok plan
    → IsAcceptedHalving plan
halving_accepted text plan is =
    accepted_by (halving_of text) plan is (λ found read. (texts_are_rewritten text found read).0)

-- the counter of a text that is no halving plan is that of a plan
test_is : (test : Bool) (answer : Result AnyMachine CallError) (e : CallError)
    (counter : AnyMachine) → cond test answer (Err e) ≡ Ok counter → answer ≡ Ok counter
test_is true answer e counter is = is
test_is false answer e counter is = absurd cc

read_by : (text : List ℕ) (r : Result HalvingNumbers (At LinePremise)) (counter : AnyMachine)
    → counter_by (first_unskipped 1 (lines_of text)) text r ≡ Ok counter
    → ((plan : HalvingNumbers) → r ≡ Ok plan → IsAcceptedHalving plan)
    → IsAcceptedCounter counter
read_by text (Ok plan) counter is accepted =
    let same : counter ≡ Halving plan = cc in
    subst IsAcceptedCounter (sym same) (accepted plan refl)
read_by text (Err at) counter is accepted =
    plan_is text counter
    (test_is (is_first (first_unskipped 1 (lines_of text)) at.line) (plan_counter text) _ counter
    is)

-- the counter of a text is that of an accepted plan
pub read_is_accepted : (text : List ℕ) (counter : AnyMachine) → counter_answer text ≡ Ok counter
    → IsAcceptedCounter counter
read_is_accepted text counter is =
    read_by text (whole_halving_of text) counter is (halving_accepted text)

accepted_is_sound : (counter : AnyMachine) → IsAcceptedCounter counter
    → IsSound (machine_of counter)
accepted_is_sound (Boosting plan) accepted = accepted_are_sound plan accepted
accepted_is_sound (Halving plan) accepted = halving_sound plan accepted

-- so its machine is sound
pub sound_of : (text : List ℕ) (counter : AnyMachine) → counter_answer text ≡ Ok counter
    → IsSound (machine_of counter)
sound_of text counter is = accepted_is_sound counter (read_is_accepted text counter is)

-- ---- how long its states are

few_bits : (counter : AnyMachine) → IsAcceptedCounter counter → IsSound (machine_of counter)
    → (v : ℕ) → v < (machine_of counter).nodes → bits_in ((machine_of counter).fields v) ≤ 1024
few_bits (Boosting plan) accepted sound v node =
    let fields = (machine_of_plan plan).fields v in
    fields_short fields.base fields.moduli (sound.fields v node)
    (omega (
      arith,
      sound.depth v node,
      accepted_depth plan.base plan.levels accepted.levels,
    ))
few_bits (Halving plan) accepted sound v node =
    let few : bits_in ((machine_of (Halving plan)).fields v) ≤ 464 =
    halving_few_bits plan accepted v in
    omega (arith, few)

-- a state of a node fits into a cell
pub states_fit : (text : List ℕ) (counter : AnyMachine) → counter_answer text ≡ Ok counter
    → (v : ℕ) → v < (machine_of counter).nodes
    → bytes_in ((machine_of counter).fields v) < 65536
states_fit text counter is v node =
    omega (
      arith,
      few_bits counter (read_is_accepted text counter is) (sound_of text counter is) v node,
    )

-- ---- what is answered by how the text is read

pub of_halving : (text : List ℕ) (plan : HalvingNumbers) → whole_halving_of text ≡ Ok plan
    → counter_answer text ≡ Ok (Halving plan)
of_halving text plan is = ap (counter_by (first_unskipped 1 (lines_of text)) text) is
