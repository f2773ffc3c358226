-- The script and the layer of a runner are for its plan's counter.
use Rattle.std.proofs.Common.{◌≤◌, List}
use Rattle.construction.specs.Runs.{IsToleratedBy}
use Rattle.plan_numbers.specs.Premises.{IsAccepted}
use Rattle.plan_numbers.proofs.Accepted.{accepted_sized}
use Rattle.counter_core.specs.Overlays.{Layer}
use Rattle.adversary_script.specs.Scripts.{IsScript}
use Rattle.layer_laws.specs.Positions.{IsFitting}
use Rattle.round_runner.specs.Runners.{Running, IsPlayableOn, position_of}

pub is_fitting : {O Kept : Type 0} (layer : O → Layer Kept) (kept : O → List Kept) (r : Running O)
    → IsAccepted r.plan → IsPlayableOn r.plan (layer r.overlay) r.script → IsScript r.script
    → r.at ≤ r.script.rounds → IsFitting (position_of layer kept r)
is_fitting layer kept r accepted right whole within =
    let sized = accepted_sized r.plan.base r.plan.levels accepted.levels in
    record {
      quorum = sized.quorum;
      few = sized.most;
      least = sized.least_modulus;
      nodes = right.nodes;
      borne = λ k d lt.
          let borne : IsToleratedBy r.plan _ = right.borne k d lt in
          record { rising = borne.rising; ids = borne.ids; few = borne.few };
      whole = whole;
      over = right.over;
      within = within;
    }
