-- A configuration so many rounds on, if each field grows by one in each round.
use Rattle.std.specs.Prelude.{◌≡◌, ℕ, List, map}
use Rattle.std.specs.List.{range_with_len}
use Rattle.sync_types.specs.States.{State}
use Rattle.construction.specs.Steps.{state_of}
use Rattle.state_codec.specs.Shapes.{Shape, fields_at}
use Rattle.adversary_script.specs.Lies.{shifted}
use Rattle.round_runner.specs.Runners.{Running}

-- the states of so many nodes, the fields of each by so much larger
abbrev pub grown : Shape → (nodes by : ℕ) → List State → List State
grown shape nodes by config =
    map (λ v. shifted by (fields_at shape v) (state_of config v)) (range_with_len 0 nodes)

-- the same runner at configuration c
pub record IsSkipped {O : Type 0} (old : Running O) (c : ℕ) (new : Running O) : Type 0 where
  pub plan : new.plan ≡ old.plan
  pub script : new.script ≡ old.script
  pub at : new.at ≡ c
