-- What is asked of layers without registers holds of a layer with some.
use Rattle.std.specs.Prelude.{◌≡◌, ℕ, suc}
use Rattle.std.proofs.Common.{arith}
use Rattle.counter_core.specs.Overlays.{Layer, IsDeaf}

pub registers_hear : {Kept : Type 0} (layer : Layer Kept) (n : ℕ) → layer.extra ≡ suc n
    → IsDeaf layer
registers_hear layer n some none = absurd (omega (arith, some, none))
