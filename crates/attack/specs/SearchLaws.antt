-- What the best attack of a search is.
use Rattle.std.specs.Prelude.{◌≡◌, ℕ, ◌<◌, ◌≤◌, length, Option, Some, None, Ok}
use Rattle.state_codec.specs.Shapes.{Shape}
use Rattle.machines.specs.Machines.{Machine, IsToleratedBy}
use Rattle.adversary_script.specs.Scripts.{Script}
use Rattle.adversary_script.specs.Eras.{faulty_of_era}
use Rattle.machine_runner.specs.Laws.{IsReadFor}
use Rattle.machine_runner.specs.Locks.{IsFirstLocked}
use Rattle.machine_runner.specs.Played.{played_at}
use Rattle.attack.specs.Attacks.{Attack}
use Rattle.attack.specs.AttackTexts.{attack_text}
use Rattle.attack.specs.AttackScripts.{attack_script}
use Rattle.attack.specs.Targets.{IsTarget}
use Rattle.attack.specs.Tried.{script_in, lock_of}
use Rattle.attack.specs.Searches.{searched, attack_at, outcome}
use Rattle.attack.specs.declared.searching.Best.{Best}
use Rattle.attack.specs.declared.trying.Tried.TheVariants as tried

-- A first locked configuration comes no later than another one. If none is locked, that is later
-- than each.
abbrev pub IsNoLater : (lock than : Option ℕ) → Type 0
IsNoLater lock None = Unit {0}
IsNoLater None (Some than) = ⊥
IsNoLater (Some lock) (Some than) = lock ≤ than

module _ (machine : Machine) (shape : Shape) (first_line : ℕ) where
  -- The text of an attack is read as a script for the machine, the one that the attack is: with its
  -- faulty nodes, its key, its starts, its lies and its rounds. In each era few nodes are faulty.
  -- Of what is played of era 0 the first locked configuration is the one that is stated, or none is
  -- locked if none is stated.
  pub record IsPlayed (attack : Attack) (lock : Option ℕ) : Type 0 where
    pub script : Script
    pub read : script_in machine shape first_line (attack_text machine attack) ≡ Ok script
    pub says : script ≡ attack_script shape attack
    pub for : IsReadFor machine script
    pub borne : (j : ℕ) → j ≤ length script.eras → IsToleratedBy machine (faulty_of_era script j)
    pub is : lock ≡ lock_of machine script
    pub first : IsFirstLocked machine script (played_at machine script) 0 script.rounds lock

  module _ (made : (index : ℕ) → (best : Option Attack) → Attack) (runs : ℕ) where
    -- an attack is that of some try
    pub record IsTried (attack : Attack) : Type 0 where
      pub index : ℕ
      pub among : index < runs
      pub is : attack ≡ attack_at machine shape first_line made index

    -- no try that was played locks later
    abbrev pub NoneIsLater : Option ℕ → Type 0
    NoneIsLater lock = (index : ℕ) (other : Option ℕ) → index < runs
        → outcome machine shape first_line (attack_at machine shape first_line made index)
        ≡ tried.Played other
        → IsNoLater other lock

    -- the best of so many tries
    pub record IsBest (best : Best) : Type 0 where
      pub tried : IsTried best.attack
      pub played : IsPlayed best.attack best.lock
      pub latest : NoneIsLater best.lock

    -- the best one, if there is one; else each try was refused
    abbrev pub IsBestOf : Option Best → Type 0
    IsBestOf (Some best) = IsBest best
    IsBestOf None = (index : ℕ) → index < runs
        → outcome machine shape first_line (attack_at machine shape first_line made index)
        ≡ tried.Refused

-- What a search finds is the best of its tries.
abbrev pub SearchesFindBest : Type 0
SearchesFindBest = (machine : Machine) (shape : Shape) (first_line : ℕ)
    (made : (index : ℕ) → (best : Option Attack) → Attack) (runs : ℕ)
    → IsTarget machine shape first_line
    → IsBestOf machine shape first_line made runs (searched machine shape first_line made runs)
