-- How far the lines after the head of a certificate were read.
use Rattle.std.specs.Prelude.{◌≡◌, ℕ, ◌≤◌, List, length, Bool, All, ◌<◌, if◌then◌else◌}
use Rattle.sync_types.specs.States.{State, zero_state}
use Rattle.sync_types.specs.FaultSets.{FaultIds}
use Rattle.construction.specs.Plans.{Plan, plan_nodes, plan_depth}
use Rattle.state_codec.specs.Shapes.{shape_of}
use Rattle.state_codec.specs.Packs.{Pack}
use Rattle.run_checker.specs.Grammar.{pairs_of, most_eras}
use Rattle.run_checker.specs.Checking.{Known, Stage, putting, telling}
use Rattle.round_runner.specs.declared.told_steps.StepBuffers.{StepBuffers}
use Rattle.round_runner.specs.Rooms.{IsMadeFor}
use Rattle.run_checker.specs.Rounds.{AreStates}
use Rattle.run_checker.specs.Sets.{no_ids}
use Rattle.run_checker.specs.Tellings.{Telling, most_pairs}
use Rattle.adversary_script.specs.Scripts.{most_rounds}

-- What is known, and whether states are put; if so, of which nodes none is known, and from which on
-- they may follow. What was told stands there too.
pub record BodySeen : Type 0 where
  pub known : Known
  pub is_putting : Bool
  pub unknown : List ℕ
  pub from : ℕ
  pub told : List State

abbrev pub stage_of : BodySeen → Stage
stage_of b = if b.is_putting then putting b.known b.unknown b.from else telling b.known b.told

-- the configuration is one of the plan, the pairs are those of its faulty nodes, and there is room
-- for the rounds of any era, with an empty set for each that may still begin
pub record IsBody (version : ℕ) (plan : Plan) (bad none_known : FaultIds) (pack : Pack)
    (tellings : Telling) (none : State) (needed : StepBuffers) (spare : List FaultIds)
    (behind number : ℕ) : Type 0 where
  pub shape : pack.shape ≡ shape_of plan
  pub faulty : bad.nodes ≡ plan_nodes plan
  pub unknown : none_known.nodes ≡ plan_nodes plan
  pub size : length pack.current ≡ plan_nodes plan
  pub pairs : tellings.pairs ≡ pairs_of (plan_nodes plan) bad.ids
  pub senders : All (λ pair. pair.0 < plan_nodes plan) tellings.pairs
  pub kept : tellings.shape ≡ shape_of plan
  pub told : AreStates plan tellings.states
  pub most : tellings.room ≡ most_pairs plan
  pub zero : none ≡ zero_state (plan_depth plan)
  pub room : IsMadeFor plan (plan_depth plan) needed
  pub sets : All (λ set. set ≡ no_ids (plan_nodes plan)) spare
  pub eras : length spare ≤ most_eras version
  pub from : behind ≤ plan_nodes plan
  pub at : number ≤ most_rounds
