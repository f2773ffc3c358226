-- Worked values of lies and starts: what each kind of them gives, noise too.
use Rattle.std.specs.Prelude.{◌≡◌, List, [], ◌∷◌, replicate, Some, None, true, false}
use Rattle.sync_types.specs.States.{State}
use Rattle.adversary_script.specs.declared.lies.CommonStart.TheVariants as common
use Rattle.adversary_script.specs.declared.lies.What.TheVariants as what
use Rattle.adversary_script.specs.Scripts.{Script}
use Rattle.adversary_script.specs.Lies.{lie_state, common_start, fitted}

-- three nodes, each with a number below 8 and a register of values below 10
abbrev pub three : Script
three = record {
  version = 1;
  nodes = 3;
  shape = record { depth = 1; fields = replicate 3 (record { base = 8; moduli = 10 ∷ [] }) };
  faulty = 1 ∷ [];
  key = replicate 32 0;
  common = common.Noise;
  starts = [];
  eras = [];
  groups = [];
  lies = [];
  rounds = 5;
  first = 0;
  last = 5;
}

abbrev pub states : List State
states =
    record { x = 5; registers = record { a = Some 9; d = true } ∷ [] }
    ∷ record { x = 6; registers = record { a = Some 4; d = false } ∷ [] }
    ∷ record { x = 7; registers = record { a = None; d = true } ∷ [] }
    ∷ []

-- What node 1 tells node 2 in round 3: a state that is copied, a state that is said, its own state
-- with its values moved, and noise, by the key of zeros; noise by another key, and of another
-- round; what is infinite stays so, when it is moved; the states in which nodes start by noise and
-- by zero; and a state that is fitted into fields that are narrower.
pub record LiesAreWorked : Type 0 where
  pub copy : lie_state three 3 1 2 states (what.Copy 0)
      ≡ record { x = 5; registers = record { a = Some 9; d = true } ∷ [] }
  pub said : lie_state three 3 1 2 states
      (what.State (record { x = 2; registers = record { a = Some 3; d = true } ∷ [] }))
      ≡ record { x = 2; registers = record { a = Some 3; d = true } ∷ [] }
  pub shift : lie_state three 3 1 2 states (what.Shift 7)
      ≡ record { x = 5; registers = record { a = Some 1; d = false } ∷ [] }
  pub infinite : lie_state three 3 2 1 states (what.Shift 7)
      ≡ record { x = 6; registers = record { a = None; d = true } ∷ [] }
  pub noise : lie_state three 3 1 2 states what.Noise
      ≡ record { x = 4; registers = record { a = None; d = false } ∷ [] }
  pub keyed : lie_state (record three { key = 1 ∷ replicate 31 0 }) 3 1 2 states what.Noise
      ≡ record { x = 1; registers = record { a = Some 0; d = true } ∷ [] }
  pub later : lie_state three 4 1 2 states what.Noise
      ≡ record { x = 0; registers = record { a = None; d = true } ∷ [] }
  pub start : common_start three common.Noise 1
      ≡ record { x = 7; registers = record { a = Some 9; d = false } ∷ [] }
  pub zero : common_start three common.Zero 1
      ≡ record { x = 0; registers = record { a = Some 0; d = false } ∷ [] }
  pub fits : fitted (record { base = 4; moduli = 5 ∷ 0 ∷ [] }) (record {
    x = 5;
    registers = record { a = Some 9; d = true } ∷ record { a = Some 1; d = true } ∷ [];
  })
      ≡ record {
        x = 0;
        registers = record { a = None; d = true } ∷ record { a = Some 0; d = false } ∷ [];
      }
