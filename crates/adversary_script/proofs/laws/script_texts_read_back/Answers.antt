use Rattle.adversary_script.proofs.ScriptTexts.{script_text_is_read, script_text_is_whole}
use Rattle.adversary_script.proofs.laws.script_texts_read_back.Goals as goal

pub returns-clause-front : goal.returns-clause-front
returns-clause-front c = script_text_is_read

pub returns-clause-whole : goal.returns-clause-whole
returns-clause-whole c = script_text_is_whole
