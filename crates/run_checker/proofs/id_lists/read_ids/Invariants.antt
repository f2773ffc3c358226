use Rattle.std.proofs.Common.{◌≡◌, true}
use Rattle.texts.proofs.Shapes.{with_front}
use Rattle.texts.specs.Shapes.{all_numbers}
use Rattle.run_checker.specs.Sets.{is_borne_by}
use Rattle.run_checker.proofs.id_lists.read_ids.Given as goal

abbrev pub invariant-loop-word : goal.invariant-loop-word
invariant-loop-word l = record {
  nodes : l.set.nodes ≡ l.fn.set.nodes;
  read : all_numbers l.fn.words ≡ with_front l.set.ids (all_numbers l.word-iterator);
  borne : is_borne_by l.fn.set.nodes l.faults l.set.ids ≡ true;
}
