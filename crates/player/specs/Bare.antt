-- A player without a layer that plays its script from its beginning.
use Rattle.std.specs.Prelude.{[]}
use Rattle.counter_core.specs.NoLayers.{no_layer}
use Rattle.machines.specs.Machines.{Machine}
use Rattle.layer_laws.specs.Positions.{Position, IsPlayed}
use Rattle.player.specs.Runners.{Running, position_of}

module _ {M O : Type 0} (machine : M → Machine) where
  -- where its play stands
  abbrev pub stands : Running M O → Position (Unit {0})
  stands r = position_of machine (λ o. no_layer) (λ o. []) r

  abbrev pub IsBare : Running M O → Type 0
  IsBare r = IsPlayed [] (stands r)
