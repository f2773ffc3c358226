-- What the text of a sweep says of runs, on a plan and on any machine.
use Rattle.std.proofs.Common.{◌≡◌, ◌⊎◌, inl, inr, ℕ, ◌+◌, ◌-◌, ◌<◌, ◌≤◌, List, ◌++◌, length, Bool}
use Rattle.std.proofs.Common.{true, false, cond, Option, Some, None, Result, Ok, Err, refl, sym, ap}
use Rattle.std.proofs.Common.{subst, arith}
use Rattle.std.specs.Prelude.{IfOk, IfSome}
use Rattle.std.specs.List.{flat_map, range_with_len}
use Rattle.std.proofs.Math.Path.{fun_ext}
use Rattle.construction.specs.Plans.{Plan, plan_bound}
use Rattle.machines.specs.Machines.{Machine}
use Rattle.adversary_script.specs.Scripts.{Script, IsScript}
use Rattle.adversary_script.specs.Eras.{first_of_era, end_of_era}
use Rattle.adversary_script.specs.NoiseSaid.{says_noise}
use Rattle.machine_runner.specs.Played as machine_runs
use Rattle.machine_runner.specs.ShownTexts.{lock_played}
use Rattle.machine_runner.proofs.FirstLocked.{firsts_are_locked}
use Rattle.machine_runner.proofs.Firsts.{era_some}
use Rattle.machine_runner.proofs.Rekeyed.{whole_still}
use Rattle.round_runner.specs.Played.{played_at}
use Rattle.round_runner.proofs.FirstLocked.{first_is_locked}
use Rattle.outcomes.specs.Inputs.{Scripted, scripted_of}
use Rattle.outcomes.specs.declared.refusals.Refusal.{Refusal}
use Rattle.outcomes.proofs.ScriptedRead.{IsRead, scripted_read}
use Rattle.halving_plan.specs.Laws.{machine_in}
use Rattle.halving_runs.specs.RunInputs as halving
use Rattle.halving_runs.specs.declared.errors.RunRefusal.{RunRefusal}
use Rattle.halving_runs.proofs.Scripts.{is_read}
use Rattle.program_words.specs.Conduct.{and_then}
use Rattle.sweep.specs.Inputs.{is_halving, noise_sweep, swept_on_plan, swept_on_halving}
use Rattle.sweep.specs.Keys.{key_of, keyed}
use Rattle.sweep.specs.Laws.{EraLine, Firsts, CountsRuns, SaysRuns, first_on_plan, first_on_machine}
use Rattle.sweep.specs.Laws.{SaysOfPlan, SaysOfHalving, SweepsCountRuns}
use Rattle.sweep.specs.NumberRanges.{NumberRange}
use Rattle.sweep.specs.declared.reasons.SweepReason.{SweepReason}
use Rattle.sweep.specs.declared.reasons.SweepReason.TheVariants as reason
use Rattle.sweep.specs.Sweeps.{Locks, lock_of, lock_with, on_plan, on_machine}
use Rattle.sweep.specs.SweepTexts.{bound_line, sweep_text}
use Rattle.sweep.specs.Tallies.{IsOfEra}
use Rattle.sweep.proofs.EraLines.{lines_in, text_in, runs_in, all_runs, all_least}
use Rattle.sweep.proofs.FirstLocked.{first_within}
use Rattle.sweep.proofs.OnMachines.{lock_within}
use Rattle.sweep.proofs.RisingLines.{rising_in}

-- ---- of any counter

module _ (IsFirst : Firsts) (locks : Locks) (script : Script) (seeds : List ℕ) where
  abbrev size_of : (j : ℕ) → ℕ
  size_of j = end_of_era script j - first_of_era script j

  abbrev lines_of : (j : ℕ) → List EraLine
  lines_of j = lines_in (lock_with locks script j) seeds (first_of_era script j) (size_of j)

  among : (j : ℕ) (found : Option ℕ) → IfSome found (IsOfEra script j)
      → IfSome found (λ t. (first_of_era script j ≤ t) × (t < first_of_era script j + size_of j))
  among j None is = tt
  among j (Some t) is = (is.0, omega (arith, is.0, is.1))

  era_counts : (j : ℕ) → first_of_era script j ≤ end_of_era script j
      → ((seed : ℕ) → IsFirst (keyed script seed) j (lock_with locks script j seed))
      → ((seed : ℕ) → IfSome (lock_with locks script j seed) (IsOfEra script j))
      → CountsRuns IsFirst script seeds j (lines_of j)
  era_counts j some firsts within =
      let lock : ℕ → Option ℕ = lock_with locks script j in
      let first : ℕ = first_of_era script j in
      record {
        lock = lock;
        firsts = firsts;
        runs = all_runs lock seeds first (size_of j);
        least = all_least lock seeds first (size_of j);
        total = runs_in lock seeds first (size_of j) (λ seed. among j (lock seed) (within seed));
        rising = rising_in (end_of_era script j) lock seeds first (size_of j) (omega (arith, some));
      }

  says_runs : IsScript script → (bound : ℕ)
      → ((j : ℕ) → j ≤ length script.eras → (seed : ℕ)
      → IsFirst (keyed script seed) j (lock_with locks script j seed))
      → ((j : ℕ) → j ≤ length script.eras → (seed : ℕ)
      → IfSome (lock_with locks script j seed) (IsOfEra script j))
      → SaysRuns bound IsFirst script seeds
      (sweep_text (record { bound = bound; locks = locks; script = script }) seeds)
  says_runs whole bound firsts within = record {
    lines = lines_of;
    says = ap (λ (text : ℕ → List ℕ). bound_line bound
        ++ flat_map text (range_with_len 0 (length script.eras + 1)))
        (fun_ext (λ j. sym (text_in (lock_with locks script j) seeds (first_of_era script j)
        (first_of_era script j) (size_of j))));
    each = λ j le.
        let some = era_some script whole j le in
        era_counts j (omega (arith, some)) (firsts j le) (within j le);
  }

-- ---- on a plan, and on a machine

module _ (script : Script) (seeds : List ℕ) (whole : IsScript script) where
  first_of_plan : (plan : Plan) (j : ℕ) → j ≤ length script.eras → (seed : ℕ)
      → first_on_plan plan (keyed script seed) j (lock_of plan (keyed script seed) j)
  first_of_plan plan j le seed =
      first_is_locked plan (keyed script seed) (played_at plan (keyed script seed))
      (whole_still script (key_of seed) whole) j script.rounds le (omega arith)

  plan_counts : (plan : Plan) → SaysRuns (plan_bound plan) (first_on_plan plan) script seeds
      (sweep_text (on_plan plan script) seeds)
  plan_counts plan =
      says_runs (first_on_plan plan) (lock_of plan) script seeds whole (plan_bound plan)
      (first_of_plan plan)
      (λ j le seed. first_within plan (keyed script seed) (played_at plan (keyed script seed)) j
      script.rounds (lock_of plan (keyed script seed) j) (first_of_plan plan j le seed))

  first_of_machine : (machine : Machine) (j : ℕ) → j ≤ length script.eras → (seed : ℕ)
      → first_on_machine machine (keyed script seed) j (lock_played machine (keyed script seed) j)
  first_of_machine machine j le seed =
      firsts_are_locked machine (keyed script seed)
      (machine_runs.played_at machine (keyed script seed))
      (whole_still script (key_of seed) whole) j script.rounds le (omega arith)

  machine_counts : (machine : Machine) → SaysRuns machine.bound (first_on_machine machine) script
      seeds (sweep_text (on_machine machine script) seeds)
  machine_counts machine =
      says_runs (first_on_machine machine) (lock_played machine) script seeds whole machine.bound
      (first_of_machine machine)
      (λ j le seed. lock_within machine (keyed script seed)
      (whole_still script (key_of seed) whole) j le
      (lock_played machine (keyed script seed) j) refl)

-- ---- of an input

-- a text that is defined, if noise is said, is that text
written : (says : Bool) (defined text : List ℕ)
    → (let r : Result (List ℕ) SweepReason = cond says (Ok defined) (Err reason.NoNoise) in r)
    ≡ Ok text → defined ≡ text
written true defined text same = cc
written false defined text same = absurd (cc)

module _ (numbers : NumberRange) (input text : List ℕ) where
  abbrev seeds_of : List ℕ
  seeds_of = range_with_len numbers.first numbers.count

  plan_says : (read : Result Scripted Refusal) → scripted_of input ≡ read → IfOk read IsRead
      → and_then (swept_on_plan read) (noise_sweep numbers) ≡ Ok text
      → SaysOfPlan numbers input text
  plan_says (Err refusal) is for same = absurd (cc)
  plan_says (Ok read) is for same = record {
    read = read;
    is = is;
    says = subst (SaysRuns (plan_bound read.plan) (first_on_plan read.plan) read.script seeds_of)
        (written (says_noise read.script) (sweep_text (on_plan read.plan read.script) seeds_of)
        text same)
        (plan_counts read.script seeds_of for.for.whole read.plan);
  }

  halving_say : (read : Result halving.Scripted RunRefusal) → halving.scripted_of input ≡ read
      → and_then (swept_on_halving read) (noise_sweep numbers) ≡ Ok text
      → SaysOfHalving numbers input text
  halving_say (Err refusal) is same = absurd (cc)
  halving_say (Ok read) is same =
      let machine : Machine = machine_in read.plan in
      record {
        read = read;
        is = is;
        says = subst (SaysRuns machine.bound (first_on_machine machine) read.script seeds_of)
            (written (says_noise read.script) (sweep_text (on_machine machine read.script) seeds_of)
            text same)
            (machine_counts read.script seeds_of (is_read input read is).for.whole machine);
      }

  input_says : (begins : Bool)
      → and_then (cond begins (swept_on_halving (halving.scripted_of input))
      (swept_on_plan (scripted_of input))) (noise_sweep numbers) ≡ Ok text
      → SaysOfPlan numbers input text ⊎ SaysOfHalving numbers input text
  input_says true same = inr (halving_say (halving.scripted_of input) refl same)
  input_says false same = inl (plan_says (scripted_of input) refl (scripted_read input) same)

pub sweeps_count_runs : SweepsCountRuns
sweeps_count_runs = record {
  plans = λ plan script seeds whole. plan_counts script seeds whole plan;
  machines = λ machine script seeds whole. machine_counts script seeds whole machine;
  inputs = λ numbers input text same. input_says numbers input text (is_halving input) same;
}
