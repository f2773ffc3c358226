use Rattle.halving_runs.proofs.ScriptInputs.{script_inputs_read}
use Rattle.halving_runs.proofs.laws.script_inputs_read_back.Goals as goal

pub returns : goal.returns
returns c =
    script_inputs_read c.halving_texts_read_back.ensures.part
    c.script_texts_read_back.ensures.whole c.read_scripts_have_texts.ensures
    c.slot_texts_read_back.ensures.any c.agree_texts_read_back_over.ensures
    c.request_texts_read_back_over.ensures c.log_texts_read_back_over.ensures
