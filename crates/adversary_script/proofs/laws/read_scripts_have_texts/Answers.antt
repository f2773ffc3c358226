use Rattle.adversary_script.proofs.ReadWritable.{read_is_writable}
use Rattle.adversary_script.proofs.laws.read_scripts_have_texts.Goals as goal

pub returns : goal.returns
returns c = read_is_writable
