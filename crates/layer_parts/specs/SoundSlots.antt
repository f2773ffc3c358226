-- A slot table that is read is for the counter.
use Rattle.slot_table.proofs.FitLines.{tables_fit}
use Rattle.layer_parts.specs.CounterParts.{IsSoundPart}
use Rattle.layer_parts.specs.Slots.{slots_over, no_registers, AreForNumbers}

pub slots_sound : IsSoundPart slots_over no_registers AreForNumbers
slots_sound = record {
  fits = λ numbers. tables_fit numbers.nodes numbers.modulus;
  few = λ numbers table fits. tt;
}
