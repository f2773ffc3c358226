-- What is read of an input of a plan and a script: an accepted plan, and a script for it.
use Rattle.std.proofs.Common.{◌+◌, List, ℕ, Result, Ok, Err}
use Rattle.std.specs.Prelude.{IfOk}
use Rattle.texts.specs.Parts.{Found, At}
use Rattle.sync_types.specs.declared.answers.Premise.{Premise}
use Rattle.sync_types.specs.declared.answers.Rule.{Rule}
use Rattle.construction.specs.Plans.{Plan, plan_nodes, plan_faults}
use Rattle.plan_numbers.specs.Premises.{IsAccepted}
use Rattle.plan_reader.specs.PlanPart.{plan_of}
use Rattle.plan_reader.proofs.AcceptedPlans.{plan_accepted}
use Rattle.state_codec.specs.Shapes.{shape_of}
use Rattle.state_codec.proofs.Plans.{shape_of_accepted}
use Rattle.adversary_script.specs.Scripts.{Script, IsScript}
use Rattle.adversary_script.specs.ScriptPart.{script_of, IsScriptForPlan}
use Rattle.adversary_script.proofs.ReadScripts.{script_is_for, script_is_script, script_has_eras}
use Rattle.round_runner.specs.Laws.{IsReadFor}
use Rattle.run_checker.specs.Recorded.{HasItsEras}
use Rattle.outcomes.specs.Inputs.{Scripted, with_script, behind_plan, scripted_of}

-- the script is one that was read for the plan
pub record IsRead (scripted : Scripted) : Type 0 where
  pub for : IsReadFor scripted.plan scripted.script
  pub eras : HasItsEras scripted.script

script_read : (plan : Plan) (script : Result Script (At Rule)) → IsAccepted plan
    → IfOk script (IsScriptForPlan plan (shape_of plan)) → IfOk script IsScript
    → IfOk script HasItsEras
    → IfOk (with_script plan script) IsRead
script_read plan (Err at) accepted right whole eras = tt
script_read plan (Ok script) accepted right whole eras = record {
  for = record { accepted = accepted; right = right; whole = whole };
  eras = eras;
}

behind_read : (plan : Result (Found Plan) (At Premise))
    → IfOk plan (λ found. IsAccepted found.value) → IfOk (behind_plan plan) IsRead
behind_read (Err at) accepted = tt
behind_read (Ok found) accepted =
    let shape = shape_of found.value in
    let sound = shape_of_accepted found.value accepted in
    script_read found.value (script_of found.value shape (1 + found.taken) found.behind) accepted
    (script_is_for found.value shape sound (1 + found.taken) found.behind)
    (script_is_script (plan_nodes found.value) (plan_faults found.value) shape sound
    (1 + found.taken) found.behind)
    (script_has_eras (plan_nodes found.value) (plan_faults found.value) shape sound
    (1 + found.taken) found.behind)

pub scripted_read : (input : List ℕ) → IfOk (scripted_of input) IsRead
scripted_read input = behind_read (plan_of input) (plan_accepted input)
