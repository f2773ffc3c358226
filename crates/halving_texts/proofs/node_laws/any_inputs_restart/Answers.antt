use Rattle.node_words.proofs.RestartInputs.{any_restart}
use Rattle.halving_plan.specs.Plans.{IsAccepted}
use Rattle.halving_texts.specs.HeaderTexts.{header_text}
use Rattle.halving_texts.specs.NodePromises.{header_lines}
use Rattle.halving_texts.specs.HalvingWords.{halving_words}
use Rattle.halving_texts.proofs.Inputs.{is_written}
use Rattle.halving_texts.proofs.node_laws.any_inputs_restart.Goals as goal

pub returns : goal.returns
returns c =
    any_restart halving_words IsAccepted header_lines header_text
    (is_written c.header_texts_read_back.ensures c.accepted_are_sound.ensures)
