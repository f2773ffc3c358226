-- The list in which what a node hears is laid.
use Rattle.std.specs.Prelude.{◌≡◌, ℕ, ◌<◌, length, All, false}
use Rattle.std.specs.List.Sorted.{IsStrictlyIncreasing}
use Rattle.sync_types.specs.FaultSets.{is_in}
use Rattle.construction.specs.Steps.{state_of}
use Rattle.counter_core.specs.Working.{IsWorkFor}
use Rattle.machines.specs.Machines.{Machine, AreFronts}
use Rattle.rounds.specs.declared.plain.Laid.{Laid}
use Rattle.rounds.specs.Rounds.{Sent}

-- there is room for a state of so many registers of each node, and for the steps of nodes
pub record HasRoom (nodes depth : ℕ) (laid : Laid) : Type 0 where
  pub size : length laid.heard.items ≡ nodes
  pub deep : All (λ s. length s.registers ≡ depth) laid.heard.items
  pub work : IsWorkFor nodes laid.work

-- the states of the correct nodes stand in their places
pub record IsLaid (machine : Machine) (sent : Sent) (laid : Laid) : Type 0 where
  pub room : HasRoom machine.nodes sent.depth laid
  pub fronts : AreFronts machine sent.config
  pub rising : IsStrictlyIncreasing sent.faulty
  pub ids : All (λ id. id < machine.nodes) sent.faulty
  pub honest : (u : ℕ) → u < machine.nodes → is_in sent.faulty u ≡ false
      → state_of laid.heard.items u ≡ state_of sent.config u
