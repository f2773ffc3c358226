-- The texts that are written of a runner, by the configurations that are played.
use Rattle.std.proofs.Common.{◌≡◌, ℕ, ◌+◌, List, [], sym, ap, subst}
use Rattle.std.proofs.Common.{◌∙◌}
use Rattle.sync_types.specs.States.{State}
use Rattle.construction.specs.Plans.{Plan, plan_nodes}
use Rattle.state_codec.specs.Shapes.{moduli_of, shape_nodes}
use Rattle.state_codec.proofs.Plans.{nodes_of_shape}
use Rattle.counter_core.specs.declared.overlays.NoOverlay.{NoOverlay}
use Rattle.counter_core.specs.NoLayers.{no_layer}
use Rattle.adversary_script.specs.Scripts.{Script}
use Rattle.adversary_script.specs.Eras.{faulty_at}
use Rattle.round_runner.specs.Played.{played_at}
use Rattle.round_runner.specs.Runners.{Running, Advances}
use Rattle.round_runner.proofs.Playing.{bare_is_played}
use Rattle.run_checker.specs.Recorded.{era_at}
use Rattle.run_checker.specs.RunLines.{first_starts, lies_text, era_lines, row_text}
use Rattle.run_checker.specs.RunLines.{turns_text}
use Rattle.run_checker.specs.Playing.{Plays, IsToRecord, HasPlayedOne}

-- the shape of a runner's states has a low for each node
pub shape_sized : (r : Running NoOverlay) → IsToRecord r
    → shape_nodes r.script.shape ≡ plan_nodes r.plan
shape_sized r h =
    ap shape_nodes h.shape ∙ nodes_of_shape r.plan (moduli_of r.plan.levels)

-- ---- at configuration 0

module _ (plan : Plan) (old now : Running NoOverlay) (same : now ≡ old) (is : old.plan ≡ plan)
    (at : old.at ≡ 0) (h : IsToRecord old) where
  states_at : old.states ≡ played_at plan old.script 0
  states_at =
      bare_is_played old h.plays
      ∙ ap (λ (p : Plan). played_at p old.script old.at) is
      ∙ ap (played_at plan old.script) at

  pub first_starts_is : first_starts old.script (plan_nodes old.plan) old.states
      ≡ first_starts old.script (plan_nodes plan) (played_at plan old.script 0)
  first_starts_is =
      ap (λ (config : List State). first_starts old.script (plan_nodes old.plan) config) states_at
      ∙ ap (λ (p : Plan). first_starts old.script (plan_nodes p) (played_at plan old.script 0)) is

  pub first_row_is : row_text now.plan (faulty_at now.script now.at) now.at now.states
      ≡ row_text plan (faulty_at old.script 0) 0 (played_at plan old.script 0)
  first_row_is =
      ap (λ (r : Running NoOverlay). row_text r.plan (faulty_at r.script r.at) r.at r.states) same
      ∙ ap (λ (config : List State). row_text old.plan (faulty_at old.script old.at) old.at config)
      states_at
      ∙ ap
      (λ (p : Plan). row_text p (faulty_at old.script old.at) old.at
      (played_at plan old.script 0))
      is
      ∙ ap (λ (t : ℕ). row_text plan (faulty_at old.script t) t (played_at plan old.script 0)) at

  pub turns_is : turns_text now.plan now.script ≡ turns_text plan old.script
  turns_is =
      ap (λ (r : Running NoOverlay). turns_text r.plan r.script) same
      ∙ ap (λ (p : Plan). turns_text p old.script) is

-- ---- in a round

-- a round was played
pub has_played_one : (old before new : Running NoOverlay) → before ≡ old → IsToRecord old
    → Advances (λ o. no_layer) (λ o. []) before new → (Plays before → Plays new)
    → HasPlayedOne old new
has_played_one old before new same h advances plays = record {
  plan = advances.plan ∙ ap (λ (r : Running NoOverlay). r.plan) same;
  script = advances.script ∙ ap (λ (r : Running NoOverlay). r.script) same;
  at = advances.at ∙ ap (λ (r : Running NoOverlay). r.at + 1) same;
  plays = plays (subst Plays (sym same) h.plays);
}

pub told_is : (old : Running NoOverlay) → IsToRecord old
    → lies_text old.script (plan_nodes old.plan) old.at old.states
    ≡ lies_text old.script (plan_nodes old.plan) old.at (played_at old.plan old.script old.at)
told_is old h =
    ap (λ (config : List State). lies_text old.script (plan_nodes old.plan) old.at config)
    (bare_is_played old h.plays)

module _ (old new now : Running NoOverlay) (one : HasPlayedOne old new) (same : now ≡ new) where
  states_behind : new.states ≡ played_at old.plan old.script (old.at + 1)
  states_behind =
      bare_is_played new one.plays
      ∙ ap (λ (p : Plan). played_at p new.script new.at) one.plan
      ∙ ap (λ (s : Script). played_at old.plan s new.at) one.script
      ∙ ap (played_at old.plan old.script) one.at

  pub era_is : (t : ℕ) → t ≡ old.at
      → era_lines new.plan new.script t new.states (era_at new.plan new.script (t + 1))
      ≡ era_lines old.plan old.script old.at (played_at old.plan old.script (old.at + 1))
      (era_at old.plan old.script (old.at + 1))
  era_is t is =
      ap
      (λ (config : List State). era_lines new.plan new.script t config
      (era_at new.plan new.script (t + 1)))
      states_behind
      ∙ ap
      (λ (p : Plan). era_lines p new.script t (played_at old.plan old.script (old.at + 1))
      (era_at p new.script (t + 1)))
      one.plan
      ∙ ap
      (λ (s : Script). era_lines old.plan s t (played_at old.plan old.script (old.at + 1))
      (era_at old.plan s (t + 1)))
      one.script
      ∙ ap
      (λ (t : ℕ). era_lines old.plan old.script t (played_at old.plan old.script (old.at + 1))
      (era_at old.plan old.script (t + 1)))
      is

  pub row_behind_is : row_text now.plan (faulty_at now.script now.at) now.at now.states
      ≡ row_text old.plan (faulty_at old.script (old.at + 1)) (old.at + 1)
      (played_at old.plan old.script (old.at + 1))
  row_behind_is =
      ap (λ (r : Running NoOverlay). row_text r.plan (faulty_at r.script r.at) r.at r.states) same
      ∙ ap (λ (config : List State). row_text new.plan (faulty_at new.script new.at) new.at config)
      states_behind
      ∙ ap
      (λ (p : Plan). row_text p (faulty_at new.script new.at) new.at
      (played_at old.plan old.script (old.at + 1)))
      one.plan
      ∙ ap
      (λ (s : Script). row_text old.plan (faulty_at s new.at) new.at
      (played_at old.plan old.script (old.at + 1)))
      one.script
      ∙ ap
      (λ (t : ℕ). row_text old.plan (faulty_at old.script t) t
      (played_at old.plan old.script (old.at + 1)))
      one.at
