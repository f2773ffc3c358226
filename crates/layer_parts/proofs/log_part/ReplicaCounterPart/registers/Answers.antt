use Rattle.std.proofs.Common.{ℕ, List, Some, ap, ◌∙◌}
use Rattle.counter_core.specs.Overlays.{Layer}
use Rattle.replicated_log.specs.declared.entries.Entry.{Entry}
use Rattle.layer_parts.specs.declared.registers.Registers.{Registers}
use Rattle.layer_parts.proofs.log_part.ReplicaCounterPart.registers.Goals as goal

pub returns : goal.returns
returns c = λ numbers said made.
    ap (λ (n : ℕ). let more : Registers = record { values = n; count = 2 } in Some more)
    (c.values.ensures ∙ ap (λ (l : Layer (List Entry)). l.values) made.layer)
