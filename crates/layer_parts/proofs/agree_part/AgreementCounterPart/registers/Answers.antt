use Rattle.std.proofs.Common.{ℕ, Some, ap, ◌∙◌}
use Rattle.counter_core.specs.Overlays.{Layer}
use Rattle.layer_parts.specs.declared.registers.Registers.{Registers}
use Rattle.layer_parts.proofs.agree_part.AgreementCounterPart.registers.Goals as goal

pub returns : goal.returns
returns c = λ numbers said made.
    ap (λ (n : ℕ). let more : Registers = record { values = n; count = 1 } in Some more)
    (c.values.ensures ∙ ap (λ (l : Layer ℕ). l.values) made.layer)
