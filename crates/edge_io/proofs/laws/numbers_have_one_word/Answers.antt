use Rattle.texts.proofs.NumberWords.{printed_is_read, read_is_printed}
use Rattle.edge_io.proofs.laws.numbers_have_one_word.Goals as goal

pub returns : goal.returns
returns c = record { printed = printed_is_read; read = read_is_printed }
