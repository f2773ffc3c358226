use Rattle.std.proofs.Common.{◌≡◌, ℕ, ◌<◌, Result, Ok, Err, IfOk, subst, sym, ap, ◌∙◌, arith}
use Rattle.sync_types.specs.States.{State, zero_state}
use Rattle.sync_types.specs.declared.answers.NoMemory.{NoMemory}
use Rattle.halving_plan.specs.Trees.{Tree}
use Rattle.halving_plan.specs.Steps.{tree_depth}
use Rattle.halving_plan.specs.Runs.{IsState}
use Rattle.halving_plan.proofs.Ranges.{zero_is_state}
use Rattle.halving_plan.specs.Plans.{tree_of}
use Rattle.halving_plan.proofs.counters.zero.Goals as goal

each_zero : (tree : Tree) (modulus d : ℕ) (made : Result State NoMemory) → 0 < modulus
    → d ≡ tree_depth tree → IfOk made (λ state. state ≡ zero_state d)
    → IfOk made (λ state. (node : ℕ) → IsState tree modulus node state)
each_zero tree modulus d (Ok state) some e is = λ node.
    subst (IsState tree modulus node) (sym (is ∙ ap zero_state e))
    (zero_is_state tree modulus node some)
each_zero tree modulus d (Err error) some e is = tt

pub returns-clause-each : goal.returns-clause-each
returns-clause-each c =
    let plan = c.args.plan.now in
    let least = c.facts.ensures.least_modulus in
    each_zero (tree_of plan) plan.modulus c.depth.result c.zero.result (omega arith) c.depth.ensures
    c.zero.ensures
