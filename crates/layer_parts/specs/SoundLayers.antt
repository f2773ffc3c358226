-- What holds of consensus, of firing and of a log as parts: what is read is for the counter, and
-- what is written of the layer is what is defined.
use Rattle.std.proofs.Common.{refl, arith}
use Rattle.consensus_layer.specs.AgreePart as agree
use Rattle.consensus_layer.specs.AgreeLaws.{agree_keeps}
use Rattle.consensus_layer.proofs.FitInputs.{inputs_fit_over}
use Rattle.firing.specs.FirePart as fire
use Rattle.firing.specs.FireLaws.{fire_keeps}
use Rattle.firing.proofs.FitRequests.{requests_fit_over}
use Rattle.replicated_log.specs.LogPart as log
use Rattle.replicated_log.specs.LogLaws.{log_keeps}
use Rattle.replicated_log.proofs.FitLogs.{log_fits_over}
use Rattle.layer_runner.proofs.DecisionLaws.{decisions_as_defined}
use Rattle.layer_runner.proofs.FireLaws.{fires_as_defined}
use Rattle.layer_runner.proofs.EntryLaws.{entries_as_defined}
use Rattle.layer_parts.specs.CounterParts.{IsSoundPart}
use Rattle.layer_parts.specs.LayerWords.{IsSoundLayer}
use Rattle.layer_parts.specs.Layers.{agree_registers, agree_words, fire_registers, fire_words}
use Rattle.layer_parts.specs.Layers.{log_registers, log_words}

-- ---- consensus

pub agree_sound : IsSoundPart agree.part_over agree_registers agree.IsForNumbers
agree_sound = record {
  fits = inputs_fit_over;
  few = λ numbers said fits. record { least = fits.two; most = fits.few; few = omega arith };
}

pub agree_right : IsSoundLayer agree_words agree_registers agree.IsForNumbers
agree_right = record {
  fits = λ counter said lt. record { nodes = refl; modulus = refl; depth = refl };
  registers_are = λ numbers said. refl;
  keeps = λ numbers said quorum fits.
      agree_keeps numbers.nodes numbers.faults numbers.modulus numbers.depth said.values said.inputs
      quorum fits.nodes fits.range;
  as_defined = λ counter locked script said fits.
      decisions_as_defined counter locked script said fits.whole;
}

-- ---- firing

pub fire_sound : IsSoundPart fire.part_over fire_registers fire.AreForNumbers
fire_sound = record {
  fits = requests_fit_over;
  few = λ numbers said fits.
      record { least = omega arith; most = omega arith; few = omega arith };
}

pub fire_right : IsSoundLayer fire_words fire_registers fire.AreForNumbers
fire_right = record {
  fits = λ counter said lt. record { nodes = refl; modulus = refl; depth = refl };
  registers_are = λ numbers said. refl;
  keeps = λ numbers said quorum fits.
      fire_keeps numbers.nodes numbers.faults numbers.modulus numbers.depth said quorum;
  as_defined = λ counter locked script said fits.
      fires_as_defined counter locked script said fits.whole;
}

-- ---- a log

pub log_sound : IsSoundPart log.part_over log_registers log.IsForNumbers
log_sound = record {
  fits = log_fits_over;
  few = λ numbers said fits. record { least = fits.two; most = fits.few; few = omega arith };
}

pub log_right : IsSoundLayer log_words log_registers log.IsForNumbers
log_right = record {
  fits = λ counter said lt. record { nodes = refl; modulus = refl; depth = refl };
  registers_are = λ numbers said. refl;
  keeps = λ numbers said quorum fits.
      log_keeps numbers.nodes numbers.faults numbers.modulus numbers.depth said.values said.keep
      said.commands quorum fits.nodes fits.range;
  as_defined = λ counter locked script said fits.
      entries_as_defined counter locked script said fits.whole;
}
