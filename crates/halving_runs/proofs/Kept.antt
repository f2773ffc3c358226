-- What holds of each run, by the laws of what is played of a script.
use Rattle.std.proofs.Common.{arith}
use Rattle.adversary_script.specs.Scripts.{Script}
use Rattle.machines.specs.Machines.{Machine}
use Rattle.machines.specs.Laws.{IsSound}
use Rattle.machine_runner.specs.Laws.{ErasAreRuns, ErasCount, ErasLock, ErasStayLocked}
use Rattle.machine_runner.specs.Laws.{FirstsAreLocked}
use Rattle.machine_runner.specs.Played.{played_at}
use Rattle.machine_runner.specs.Plays.{ScriptsArePlayed}
use Rattle.machine_runner.proofs.ReadFor.{borne_in}
use Rattle.halving_plan.specs.Plans.{HalvingNumbers}
use Rattle.halving_plan.specs.Laws.{machine_in}
use Rattle.halving_plan.proofs.Sound.{accepted_are_sound}
use Rattle.halving_runs.specs.RunPromises.{RunKeepsPromise, RunsKeepPromise}
use Rattle.halving_runs.proofs.Scripts.{IsRead, is_read}

module _ (run : ErasAreRuns) (count : ErasCount) (lock : ErasLock) (stay : ErasStayLocked)
    (firsts : FirstsAreLocked) (play : ScriptsArePlayed) where
  -- of a plan and a script that were read
  pub run_keeps : (plan : HalvingNumbers) (script : Script) → IsRead plan script
      → RunKeepsPromise plan script
  run_keeps plan script read =
      let machine : Machine = machine_in plan in
      let sound : IsSound machine = accepted_are_sound plan read.accepted in
      record {
        accepted = read.accepted;
        read = read.for;
        plays = play machine script read.for;
        eras = λ j among. record {
          borne = borne_in machine script read.for j among;
          run = run machine script sound read.for j among;
          counts = count machine script sound read.for j among;
          locked = firsts machine script (played_at machine script) read.for.whole j script.rounds
              among (omega arith);
          by_bound = lock machine script sound read.for j among;
          stays = stay machine script sound read.for j among;
        };
      }

  pub runs_keep : RunsKeepPromise
  runs_keep input scripted is =
      run_keeps scripted.plan scripted.script (is_read input scripted is)
