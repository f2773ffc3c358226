-- How soon the eras of a script lock, by the number of its key.
use Rattle.std.specs.Prelude.{ℕ, List, Bool, nat_eq, Option, find}
use Rattle.std.specs.List.{count_by}
use Rattle.std.specs.Option.{option_eq}
use Rattle.construction.specs.Plans.{Plan, plan_bound}
use Rattle.machines.specs.Machines.{Machine}
use Rattle.machine_runner.specs.ShownTexts.{lock_played}
use Rattle.adversary_script.specs.Scripts.{Script}
use Rattle.round_runner.specs.Locks.{first_locked, era_locked}
use Rattle.round_runner.specs.Played.{played_at}
use Rattle.sweep.specs.Keys.{keyed}
use Rattle.sweep.specs.declared.tallies.Found.{Found}

-- of each script that is played the first locked configuration of each era
abbrev pub Locks : Type 0
Locks = Script → (j : ℕ) → Option ℕ

-- What is swept: a script, and a counter, of which only its bound counts, and how soon it locks.
pub record Swept : Type 0 where
  pub bound : ℕ
  pub locks : Locks
  pub script : Script

-- the same with the key of a number
abbrev pub with_key : Swept → (seed : ℕ) → Swept
with_key swept seed = record swept { script = keyed swept.script seed }

-- the first locked configuration of era j with the key of a number
abbrev pub lock_with : Locks → Script → (j seed : ℕ) → Option ℕ
lock_with locks script j seed = locks (keyed script seed) j

-- ---- the counters of either construction

-- of what is played of a script on a plan, the first locked configuration of era j
abbrev pub lock_of : Plan → Script → (j : ℕ) → Option ℕ
lock_of plan script j =
    first_locked (era_locked plan script (played_at plan script) j) script.rounds

abbrev pub on_plan : Plan → Script → Swept
on_plan plan script =
    record { bound = plan_bound plan; locks = lock_of plan; script = script }

abbrev pub on_machine : Machine → Script → Swept
on_machine machine script =
    record { bound = machine.bound; locks = lock_played machine; script = script }

-- ---- what is counted

-- How many of these numbers pass, and the first of them: the least, if the numbers rise.
abbrev pub found_of : (passes : ℕ → Bool) → (seeds : List ℕ) → Found
found_of passes seeds = record { runs = count_by passes seeds; seed = find passes seeds }

-- those for which this is the first locked configuration, of a table of these
abbrev pub found_at : (lock : ℕ → Option ℕ) → (seeds : List ℕ) → Option ℕ → Found
found_at lock seeds locked = found_of (λ seed. option_eq nat_eq (lock seed) locked) seeds
