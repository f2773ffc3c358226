-- What holds of every input, whatever becomes of it.
use Rattle.std.specs.Prelude.{◌≡◌, ℕ, ◌+◌, ◌%◌, ◌<◌, ◌≤◌, List, length, Some, false, IfOk}
use Rattle.sync_types.specs.States.{State}
use Rattle.construction.specs.Plans.{Plan, plan_nodes, plan_bound, plan_modulus, plan_depth}
use Rattle.construction.specs.Runs.{is_in, configuration, IsConfiguration, IsTable, Run}
use Rattle.construction.specs.Runs.{IsToleratedBy}
use Rattle.construction.specs.Runs.{Settles, IsLocked}
use Rattle.plan_numbers.specs.Premises.{IsAccepted}
use Rattle.plan_laws.specs.Laws.{HasOneNext, StaysLockedFrom}
use Rattle.plan_laws.specs.VersionLaws.{in_version, AreSame}
use Rattle.plan_reader.specs.PlanPart.{plan_of}
use Rattle.adversary_script.specs.Scripts.{Script}
use Rattle.adversary_script.specs.Eras.{first_of_era, end_of_era, faulty_of_era, faulty_at}
use Rattle.round_runner.specs.Laws.{IsUpTo, IsOfOneEra, EraIsRun}
use Rattle.round_runner.specs.Locks.{IsFirstLocked}
use Rattle.round_runner.specs.Played.{played_at}
use Rattle.promises.specs.PlainRuns.{PlaysPlain}
use Rattle.promises.specs.WrittenLines.{RowsAreWritten}
use Rattle.run_lines.specs.RunTexts.{number_word}
use Rattle.run_lines.specs.RowTexts.{node_word, lock_played}
use Rattle.outcomes.specs.Inputs.{scripted_of}
use Rattle.promises.specs.ExplainLaws.{WhyIsTrue, BaseIsSaid}
use Rattle.promises.specs.MachineVersions.{VersionsAreOneMachine}

-- All that is known of an accepted plan, in each of its runs and with each faulty set that it
-- tolerates.
pub record IsSelfStabilising (plan : Plan) : Type 0 where
  pub accepted : IsAccepted plan
  -- from the bound on all correct nodes show one number, which grows by one modulo C
  pub settles : Settles plan
  -- no run can come to an end: each configuration and table of lies has one next configuration, up
  -- to the states of faulty nodes, and its states are in range
  pub next : (faulty : List ℕ) (old : List State) (lies : List (List State))
      → IsConfiguration plan old → IsTable plan lies → HasOneNext plan faulty old lies
  -- if a run reaches the bound, the configuration there is locked
  pub locks : (faulty : List ℕ) (run : List (List State)) → IsToleratedBy plan faulty
      → Run plan faulty run → plan_bound plan < length run
      → IsLocked plan faulty (configuration run (plan_bound plan))
  -- from any locked configuration on it stays locked, and counts
  pub stays : (faulty : List ℕ) (run : List (List State)) → IsToleratedBy plan faulty
      → Run plan faulty run → (from : ℕ) → from < length run
      → IsLocked plan faulty (configuration run from) → StaysLockedFrom plan faulty run from
  -- its text of another version is that of the same counter, and of the same machine
  pub versions : (version : ℕ) → AreSame plan (in_version version plan)
  pub machine : VersionsAreOneMachine plan

abbrev pub AcceptedStabilise : Type 0
AcceptedStabilise = (plan : Plan) → IsAccepted plan → IsSelfStabilising plan

-- if the plan part of an input is accepted, the plan settles
abbrev pub AcceptedPlansSettle : Type 0
AcceptedPlansSettle = (input : List ℕ)
    → IfOk (plan_of input) (λ found. IsSelfStabilising found.value)

-- From a configuration to the end of era j, the words of all nodes that are correct in it are one
-- number in each played row, which grows by one modulo C from row to row.
pub record RowsCountFrom (plan : Plan) (script : Script) (j from : ℕ) : Type 0 where
  pub output : ℕ → ℕ
  pub words : (t v : ℕ) → from ≤ t → t < end_of_era script j
      → v < plan_nodes plan → is_in (faulty_at script t) v ≡ false
      → node_word plan (faulty_at script t) (played_at plan script t) v ≡ number_word (output t)
  pub grows : (t : ℕ) → from ≤ t → t + 1 < end_of_era script j
      → output (t + 1) ≡ (output t + 1) % plan_modulus plan

-- What is played of era j is a run of the plan, with few faulty nodes. Its rows count from the
-- bound on, which is counted from its first configuration. The W of its line `locked W` is its
-- first locked configuration, at the bound or before if the era reaches the bound. From W to the
-- era's end each configuration is locked, and the rows count.
pub record EraKeepsPromise (plan : Plan) (script : Script) (j : ℕ) : Type 0 where
  pub borne : IsToleratedBy plan (faulty_of_era script j)
  pub run : EraIsRun plan script j
  pub rows : RowsCountFrom plan script j (first_of_era script j + plan_bound plan)
  pub locked : IsFirstLocked plan script (played_at plan script) j script.rounds
      (lock_played plan script j)
  pub locks : first_of_era script j + plan_bound plan < end_of_era script j
      → IsUpTo (first_of_era script j + plan_bound plan) (lock_played plan script j)
  pub stays : (w t : ℕ) → lock_played plan script j ≡ Some w → w ≤ t → t < end_of_era script j
      → IsLocked plan (faulty_at script t) (played_at plan script t)
  pub locked_rows : (w : ℕ) → lock_played plan script j ≡ Some w → RowsCountFrom plan script j w

-- What is played is the script's: its starts, its faulty sets, its lies. The text of `run` has just
-- a row of each configuration that is shown, between the bound and the first locked configurations.
-- All of these are played, each is of one era, and each era keeps the promise. Of a plan with
-- levels, what is written of why the last era locks is true; of one without it is `explain base`.
pub record KeepsPromise (plan : Plan) (script : Script) : Type 0 where
  pub played : PlaysPlain plan script
  pub written : RowsAreWritten plan script
  pub shown : script.last ≤ script.rounds
  pub all : (t : ℕ) → t ≤ script.rounds → IsOfOneEra script t
  pub eras : (j : ℕ) → j ≤ length script.eras → EraKeepsPromise plan script j
  pub why : 1 ≤ plan_depth plan → WhyIsTrue plan script
  pub base : plan_depth plan ≡ 0 → BaseIsSaid plan script

-- if an input is a plan and a script, the promise is kept
abbrev pub PromiseIsKept : Type 0
PromiseIsKept = (input : List ℕ)
    → IfOk (scripted_of input) (λ scripted. KeepsPromise scripted.plan scripted.script)
