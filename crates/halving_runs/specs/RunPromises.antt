-- What holds of the run of a plan and a script.
use Rattle.std.specs.Prelude.{◌≡◌, ℕ, ◌+◌, ◌<◌, ◌≤◌, List, length, Ok}
use Rattle.adversary_script.specs.Scripts.{Script}
use Rattle.adversary_script.specs.Eras.{first_of_era, end_of_era, faulty_of_era, faulty_at}
use Rattle.machines.specs.Machines.{Machine, IsToleratedBy, IsLocked}
use Rattle.machine_runner.specs.ShownTexts.{lock_played}
use Rattle.machine_runner.specs.Laws.{IsReadFor, IsUpTo, EraIsRun, EraCountsFrom, EraStaysLocked}
use Rattle.machine_runner.specs.Locks.{IsFirstLocked}
use Rattle.machine_runner.specs.Played.{played_at}
use Rattle.machine_runner.specs.Plays.{PlaysScript}
use Rattle.halving_plan.specs.Plans.{HalvingNumbers, IsAccepted}
use Rattle.halving_plan.specs.Laws.{machine_in}
use Rattle.halving_runs.specs.RunInputs.{Scripted, scripted_of}

-- What is played of an era is a run with few faulty nodes. From T rounds into it to its end the
-- correct nodes count. The first locked configuration that is written of it is the first one, and
-- from each locked one on they stay locked and count.
pub record EraKeepsPromise (machine : Machine) (script : Script) (j : ℕ) : Type 0 where
  pub borne : IsToleratedBy machine (faulty_of_era script j)
  pub run : EraIsRun machine script j
  pub counts : EraCountsFrom machine script j (first_of_era script j + machine.bound)
  pub locked : IsFirstLocked machine script (played_at machine script) j script.rounds
      (lock_played machine script j)
  pub by_bound : first_of_era script j + machine.bound < end_of_era script j
      → IsUpTo (first_of_era script j + machine.bound) (lock_played machine script j)
  pub stays : (t : ℕ) → first_of_era script j ≤ t → t < end_of_era script j
      → IsLocked machine (faulty_at script t) (played_at machine script t)
      → EraStaysLocked machine script j t

-- The plan is accepted, and the script is one for its machine. What is played is the script's.
pub record RunKeepsPromise (plan : HalvingNumbers) (script : Script) : Type 0 where
  pub accepted : IsAccepted plan
  pub read : IsReadFor (machine_in plan) script
  pub plays : PlaysScript (machine_in plan) script
  pub eras : (j : ℕ) → j ≤ length script.eras → EraKeepsPromise (machine_in plan) script j

-- So it is with each input that is read as a plan and a script.
abbrev pub RunsKeepPromise : Type 0
RunsKeepPromise = (input : List ℕ) (scripted : Scripted) → scripted_of input ≡ Ok scripted
    → RunKeepsPromise scripted.plan scripted.script
