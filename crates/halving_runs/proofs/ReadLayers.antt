-- What can be played, and what fails, by what was read after a plan.
use Rattle.std.proofs.Common.{◌≡◌, ℕ, ◌+◌, ◌≤◌, List, Ok, sym, ap₂, ◌∙◌, subst, arith}
use Rattle.state_codec.specs.Shapes.{Shape, IsShape}
use Rattle.adversary_script.specs.Scripts.{Script}
use Rattle.machine_runner.specs.Laws.{IsReadFor}
use Rattle.layer_laws.specs.Numbers.{Numbers, AreNumbers}
use Rattle.halving_plan.specs.Steps.{tree_depth}
use Rattle.halving_plan.specs.Plans.{HalvingNumbers, IsAccepted, tree_of}
use Rattle.halving_plan.proofs.Sound.{nodes_are}
use Rattle.halving_plan.specs.Laws.{machine_in}
use Rattle.halving_texts.specs.HalvingShapes.{shape_of}
use Rattle.halving_texts.proofs.Shaped as shaped
use Rattle.halving_texts.proofs.PlanBits.{few_registers}
use Rattle.halving_runs.specs.RunInputs.{script_behind}
use Rattle.halving_runs.specs.LayerInputs.{numbers_of}
use Rattle.halving_runs.specs.Readings.{IsReadBehind, IsScriptForHalving, CanPlay}
use Rattle.halving_runs.proofs.ReadParts.{holds_at}
use Rattle.halving_runs.proofs.Scripts.{script_is_for, faults_are, read_for}

module _ (plan : HalvingNumbers) (shape : Shape) (number : ℕ) (lines : List (List ℕ))
    (s : HalvingNumbers × Shape × Script) (is : IsReadBehind plan shape number lines s) where
  pub for_shape : IsShape shape → IsScriptForHalving plan shape s.2
  for_shape sound =
      holds_at (IsScriptForHalving plan shape) (script_behind plan shape number lines) s.2 is.is
      (script_is_for plan shape sound number lines)

  -- with the plan's own shape it is one for the plan's machine
  pub plays_own : IsAccepted plan → shape ≡ shape_of plan → CanPlay s
  plays_own accepted own =
      let for : IsScriptForHalving plan shape s.2 =
      for_shape (subst IsShape (sym own) (shaped.is_shape plan accepted)) in
      record {
        for = subst (λ (p : HalvingNumbers). IsReadFor (machine_in p) s.2) (sym is.same)
            (read_for plan accepted s.2 (subst
            (λ (h : Shape). IsScriptForHalving plan h s.2) own for));
        shape = for.right.states ∙ sym is.states;
      }

-- ---- the numbers of a plan's counter

module _ (plan : HalvingNumbers) (accepted : IsAccepted plan) where
  pub same_numbers : numbers_of plan ≡ record {
    nodes = plan.nodes;
    faults = plan.faults;
    modulus = plan.modulus;
    depth = tree_depth (tree_of plan);
  }
  same_numbers =
      ap₂ (λ (n f : ℕ). let numbers : Numbers = record {
        nodes = n;
        faults = f;
        modulus = plan.modulus;
        depth = tree_depth (tree_of plan);
      } in numbers) (nodes_are plan accepted) (faults_are plan accepted)

  pub are_numbers : AreNumbers (numbers_of plan)
  are_numbers =
      let quorum = accepted.quorum in
      let few = accepted.most_nodes in
      record {
        quorum = omega (arith, quorum, nodes_are plan accepted, faults_are plan accepted);
        few = omega (arith, few, nodes_are plan accepted);
        least = accepted.least_modulus;
        most = accepted.most_modulus;
        shallow = let depth : tree_depth (tree_of plan) ≤ 340 = few_registers plan accepted in
            omega (arith, depth);
      }
