-- What a node hears in a step of a counter below a layer.
use Rattle.std.specs.Prelude.{◌≡◌, ◌+◌, ◌≤◌, List, length, All}
use Rattle.sync_types.specs.States.{State}
use Rattle.counter_core.specs.Meanings.{Meaning}
use Rattle.counter_core.specs.Overlays.{Layer, HasValues}

pub record AreHeard (m : Meaning) (in_range : State → Type 0) {Kept : Type 0} (layer : Layer Kept)
    (heard : List State) : Type 0 where
  pub all : length heard ≡ m.nodes
  pub range : All in_range heard
  pub deep : All (λ s. m.depth + layer.extra ≤ length s.registers) heard
  pub values : All (HasValues layer) heard
