-- What a node hears of the faulty ones, and the list in which what is heard is laid.
use Rattle.std.specs.Prelude.{◌≡◌, ℕ, ◌<◌, List, length, All, false, ◌==◌, if◌then◌else◌}
use Rattle.sync_types.specs.FaultSets.{is_in}
use Rattle.sync_types.specs.States.{State}
use Rattle.construction.specs.Steps.{state_of}
use Rattle.adversary_script.specs.Scripts.{Script}
use Rattle.adversary_script.specs.Eras.{faulty_at}
use Rattle.adversary_script.specs.Lies.{lie_of}

-- what node v hears of a faulty node u in round t: its lie, and of itself its state
abbrev pub heard_from : Script → (t v : ℕ) → List State → (u : ℕ) → State
heard_from script t v config u = if u == v then state_of config u else lie_of script t u v config

-- there is room for a state of each node
pub record HasRoom (script : Script) (heard : List State) : Type 0 where
  pub size : length heard ≡ script.nodes
  pub deep : All (λ s. length s.registers ≡ script.shape.depth) heard

-- the states of the nodes that are correct in round t stand in their places
abbrev pub AreHonest : Script → (t : ℕ) → List State → (heard : List State) → Type 0
AreHonest script t config heard = (u : ℕ) → u < script.nodes → is_in (faulty_at script t) u ≡ false
    → state_of heard u ≡ state_of config u
