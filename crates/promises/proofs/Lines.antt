-- What the lines of slots promise.
use Rattle.std.proofs.Common.{ℕ, inr, [], replicate, arith}
use Rattle.std.proofs.lemmas.List.{length-replicate}
use Rattle.construction.specs.Plans.{plan_nodes, plan_faults}
use Rattle.construction.specs.Runs.{IsState}
use Rattle.plan_laws.specs.PlanMeaning.{plan_meaning}
use Rattle.layer_laws.specs.Played.{IsKeptFor}
use Rattle.layer_laws.proofs.PlanSlots.{quorum_of}
use Rattle.consensus_layer.specs.Agreements.{agree_layer}
use Rattle.consensus_layer.specs.AgreeLaws.{agree_keeps}
use Rattle.firing.specs.Firings.{fire_layer, unfired}
use Rattle.firing.specs.FireLaws.{fire_keeps}
use Rattle.replicated_log.specs.LogLaws.{log_keeps}
use Rattle.replicated_log.specs.Logs.{log_layer}
use Rattle.layer_runner.proofs.LinePromises.{lines_decide_over, lines_fire_together_over}
use Rattle.layer_runner.proofs.LinePromises.{lines_put_one_over}
use Rattle.promises.specs.Promises.{LinesDecide, LinesFireTogether, LinesPutOne}
use Rattle.promises.proofs.EraRuns.{plays_eras}

-- as many things are kept as there are nodes
pub kept_for : {Kept : Type 0} (n : ℕ) (kept : Kept) → IsKeptFor n (replicate n kept)
kept_for n kept = inr (omega (arith, length-replicate n kept))

pub lines_decide : LinesDecide
lines_decide plan script said for is =
    let n : ℕ = plan_nodes plan in
    let keeps = agree_keeps n (plan_faults plan) _ _ said.values said.inputs
    (quorum_of plan is.accepted) for.nodes for.range in
    lines_decide_over (plan_meaning plan) (IsState plan) script said for
    (plays_eras (agree_layer plan said.values said.inputs) plan script keeps is (replicate n 0)
    (kept_for n 0))

pub lines_fire_together : LinesFireTogether
lines_fire_together plan script requests for is =
    let n : ℕ = plan_nodes plan in
    let keeps = fire_keeps n (plan_faults plan) _ _ requests (quorum_of plan is.accepted) in
    lines_fire_together_over (plan_meaning plan) (IsState plan) script requests for
    (plays_eras (fire_layer plan requests) plan script keeps is (replicate n unfired)
    (kept_for n unfired))

pub lines_put_one : LinesPutOne
lines_put_one plan script said for is =
    let n : ℕ = plan_nodes plan in
    let keeps = log_keeps n (plan_faults plan) _ _ said.values said.keep said.commands
    (quorum_of plan is.accepted) for.nodes for.range in
    lines_put_one_over (plan_meaning plan) (IsState plan) script said for
    (plays_eras (log_layer plan said) plan script keeps is (replicate n []) (kept_for n []))
