-- What a runner on a machine knows of an era is the first locked configuration of what is played.
use Rattle.std.proofs.Common.{◌≡◌, ℕ, ◌≤◌, List, Option, Some, None, length, subst, sym, arith}
use Rattle.std.specs.Prelude.{IfSome}
use Rattle.sync_types.specs.States.{State}
use Rattle.machines.specs.Machines.{Machine}
use Rattle.machine_runner.specs.ShownTexts.{lock_played}
use Rattle.adversary_script.specs.Scripts.{Script, IsScript}
use Rattle.machine_runner.specs.Locks.{IsFirstLocked}
use Rattle.machine_runner.specs.Played.{played_at}
use Rattle.machine_runner.proofs.FirstLocked.{firsts_are_locked}
use Rattle.sweep.specs.Tallies.{IsOfEra}

first_within : (machine : Machine) (script : Script) (config_at : ℕ → List State) (j at : ℕ)
    (found : Option ℕ) → IsFirstLocked machine script config_at j at found
    → IfSome found (IsOfEra script j)
first_within machine script config_at j at None h = tt
first_within machine script config_at j at (Some t) h = (h.1.from, h.1.before)

pub lock_within : (machine : Machine) (script : Script) → IsScript script → (j : ℕ)
    → j ≤ length script.eras → (found : Option ℕ) → found ≡ lock_played machine script j
    → IfSome found (IsOfEra script j)
lock_within machine script whole j among found is =
    subst (λ (o : Option ℕ). IfSome o (IsOfEra script j)) (sym is)
    (first_within machine script (played_at machine script) j script.rounds
    (lock_played machine script j)
    (firsts_are_locked machine script (played_at machine script) whole j script.rounds among
    (omega (arith))))
