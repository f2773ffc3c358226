use Rattle.read_texts.proofs.TakenWants.{read_is_text, refused_alone}
use Rattle.read_texts.proofs.laws.read_wants_have_texts.Goals as goal

pub returns : goal.returns
returns c = record { read = read_is_text; refused = refused_alone }
