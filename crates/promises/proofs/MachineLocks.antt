-- The first locked configurations of a run of a plan are those of its machine.
use Rattle.std.proofs.Common.{◌≡◌, ℕ, zero, suc, ◌&&◌, Bool, eqb, List, [], ◌∷◌, refl, sym, ap, ◌∙◌}
use Rattle.std.proofs.Math.Path.{fun_ext}
use Rattle.sync_types.specs.States.{State}
use Rattle.construction.specs.Plans.{Level, Plan, nodes_of}
use Rattle.adversary_script.specs.Scripts.{Script}
use Rattle.adversary_script.specs.Eras.{era_of, faulty_at}
use Rattle.machines.specs.Machines.{Machine}
use Rattle.plan_machine.specs.PlanMachines.{machine_of_plan, lock_of}
use Rattle.round_runner.specs.Locks as plans
use Rattle.round_runner.specs.Played as played_plans
use Rattle.machine_runner.specs.Locks as machines
use Rattle.machine_runner.specs.Played as played_machines
use Rattle.run_lines.specs.RowTexts as plan_rows
use Rattle.run_lines.proofs.FirstListed.{first_listed}
use Rattle.machine_runner.specs.ShownTexts as machine_rows

-- ---- the test

same_in : (levels : List Level) (faulty : List ℕ) (config : List State)
    → plans.is_locked_in levels faulty config
    ≡ machines.is_locked_by (lock_of levels) (nodes_of levels) faulty config
same_in [] faulty config = refl
same_in (level ∷ below) faulty config = refl

-- ---- what is played

module _ (plan : Plan) (script : Script) where
  abbrev machine : Machine
  machine = machine_of_plan plan

  pub same_played : (t : ℕ)
      → played_plans.played_at plan script t ≡ played_machines.played_at machine script t
  same_played zero = refl
  same_played (suc t) = ap (played_plans.after_round plan script t) (same_played t)

  same_era : (j t : ℕ) → plans.era_locked plan script (played_plans.played_at plan script) j t
      ≡ machines.era_locked machine script (played_machines.played_at machine script) j t
  same_era j t =
      ap (λ (b : Bool). eqb (era_of script t) j && b)
      (same_in plan.levels (faulty_at script t) (played_plans.played_at plan script t)
      ∙ ap (machines.is_locked machine (faulty_at script t)) (same_played t))

  pub same_lock : (j : ℕ)
      → plan_rows.lock_played plan script j ≡ machine_rows.lock_played machine script j
  same_lock j =
      sym (first_listed (plans.era_locked plan script (played_plans.played_at plan script) j)
      script.rounds)
      ∙ ap (λ (passes : ℕ → Bool). plans.first_locked passes script.rounds) (fun_ext (same_era j))
