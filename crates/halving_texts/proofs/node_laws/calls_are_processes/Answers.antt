use Rattle.node_words.proofs.Processes.{are_processes}
use Rattle.halving_texts.specs.HalvingWords.{halving_words}
use Rattle.halving_texts.proofs.Headers.{headers_are_served}
use Rattle.halving_texts.proofs.node_laws.calls_are_processes.Goals as goal

pub returns : goal.returns
returns c = are_processes halving_words headers_are_served
