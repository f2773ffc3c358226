-- A runner whose correct nodes count from its configuration on to the end.
use Rattle.std.specs.Prelude.{◌≡◌, ◌≢◌, ◌⊎◌, ℕ, ◌<◌, ◌==◌, ◌&&◌, Bool, true, false, length, is_some}
use Rattle.sync_types.specs.FaultSets.{is_in}
use Rattle.construction.specs.Steps.{state_of}
use Rattle.adversary_script.specs.Eras.{era_of, faulty_at}
use Rattle.machines.specs.Machines.{Machine}
use Rattle.machine_runner.specs.Played.{played_at}
use Rattle.machine_runner.specs.Runners.{Running, lock_of}

module _ {M : Type 0} (machine : M → Machine) where
  -- whether it is in the last era, and knows a locked configuration of that era
  abbrev pub is_counting : Running M → Bool
  is_counting r = era_of r.script r.at == length r.script.eras
      && is_some (lock_of machine r (length r.script.eras))

  -- what correct nodes show in configuration t is known: the runner is at it, or they count
  abbrev pub Knows : Running M → (t : ℕ) → Type 0
  Knows r t = (r.at ≡ t) ⊎ (is_counting r ≡ true)

  -- Who is faulty in configuration t is so in the runner's, and if it is another one, each correct
  -- node shows this number in it.
  pub record Shows (r : Running M) (t output : ℕ) : Type 0 where
    pub same : faulty_at r.script t ≡ faulty_at r.script r.at
    pub shows : (r.at ≢ t) → (v : ℕ) → v < (machine r.machine).nodes
        → is_in (faulty_at r.script t) v ≡ false
        → output
        ≡ (machine r.machine).shows v (state_of (played_at (machine r.machine) r.script t) v)
