-- The text of a trace.
use Rattle.std.specs.Prelude.{ℕ, ◌+◌, ◌-◌, List}
use Rattle.std.specs.List.{flat_map, range_with_len}
use Rattle.sync_types.specs.States.{State}
use Rattle.adversary_script.specs.Scripts.{Script}
use Rattle.machine_runner.specs.Played.{played_at}
use Rattle.halving_plan.specs.Laws.{machine_in}
use Rattle.halving_plan.specs.Plans.{HalvingNumbers}
use Rattle.trace.specs.HalvingNodeTexts.{node_text}

module _ (plan : HalvingNumbers) (script : Script) (nodes : List ℕ) where
  -- what is written of these nodes in a configuration
  abbrev pub moment_text : (t : ℕ) → List State → List ℕ
  moment_text t config = flat_map (node_text plan script t config) nodes

  -- and in the configurations of the script's run on the plan's machine from `first` to `last`
  abbrev pub trace_text : (first last : ℕ) → List ℕ
  trace_text first last =
      flat_map (λ i. moment_text (first + i) (played_at (machine_in plan) script (first + i)))
      (range_with_len 0 (last + 1 - first))
