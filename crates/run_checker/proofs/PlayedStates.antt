-- The states that are played are those of the plan's nodes, and so is what is told.
use Rattle.std.proofs.Common.{ℕ, ◌<◌, [], subst}
use Rattle.std.proofs.Common.{arith}
use Rattle.std.proofs.lemmas.List.Elements.{All-get_or}
use Rattle.std.proofs.lemmas.List.{length-map}
use Rattle.construction.specs.Plans.{Plan, plan_nodes}
use Rattle.construction.specs.Steps.{state_of}
use Rattle.construction.specs.Runs.{IsToleratedBy}
use Rattle.state_codec.specs.Shapes.{Shape, shape_of, fields_at}
use Rattle.state_codec.specs.Ranges.{InRange}
use Rattle.state_codec.proofs.PlanStates.{in_range_of_node}
use Rattle.adversary_script.specs.Scripts.{Era, Script, faulty_sets}
use Rattle.adversary_script.specs.Eras.{era_of, faulty_at}
use Rattle.adversary_script.specs.Lies.{AreStates, lie_of}
use Rattle.adversary_script.proofs.LiesInRange.{lies_in_range}
use Rattle.round_runner.specs.Laws.{IsReadFor}
use Rattle.round_runner.specs.Played.{played_at}
use Rattle.machine_runner.proofs.Firsts.{era_within}
use Rattle.round_runner.proofs.EraRuns.{sound, in_range, played_is}

module _ (plan : Plan) (s : Script) (is : IsReadFor plan s) where
  -- in the words of the fields of the plan's nodes
  pub played_in_range : (t v : ℕ) → v < plan_nodes plan
      → InRange (fields_at (shape_of plan) v) (state_of (played_at plan s t) v)
  played_in_range t v lt =
      in_range_of_node plan is.accepted v lt _ ((played_is plan s is t).states v lt)

  pub told_in_range : (t u v : ℕ) → u < plan_nodes plan
      → InRange (fields_at (shape_of plan) u) (lie_of s t u v (played_at plan s t))
  told_in_range t u v lt =
      let n = is.right.nodes in
      let config = played_at plan s t in
      let range : AreStates s.nodes s.shape config =
      λ w l. in_range plan s is w l _ ((played_is plan s is t).states w (omega (arith, n, l))) in
      subst (λ (shape : Shape). InRange (fields_at shape u) (lie_of s t u v config)) is.right.states
      (lies_in_range s is.whole (sound plan s is) t u v config range (omega (arith, n, lt)))

  pub borne_at : (t : ℕ) → IsToleratedBy plan (faulty_at s t)
  borne_at t =
      let among = era_within s t in
      All-get_or (IsToleratedBy plan) (faulty_sets s) (era_of s t) []
      (omega (arith, among, length-map s.eras (λ (era : Era). era.faulty))) is.right.borne
