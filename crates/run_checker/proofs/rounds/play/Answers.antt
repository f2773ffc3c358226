use Rattle.std.proofs.Common.{length, ap, ◌∙◌, arith}
use Rattle.round_runner.specs.Locks.{correct_nodes}
use Rattle.run_checker.proofs.Rooms.{correct_left}
use Rattle.run_checker.proofs.rounds.play.Goals as goal

-- the others are as many as are left
pub invariant_of-round : goal.invariant_of-round
invariant_of-round c = record {
  nodes = c.requires.told.nodes;
  ids = c.facts.ensures;
  whole = c.requires.told.whole;
  shape = c.requires.told.shape;
  zeros = c.requires.zero;
  count = omega (arith, correct_left c.args.faulty.now c.facts.ensures)
      ∙ ap (λ n. length (correct_nodes n c.args.faulty.now.ids)) c.requires.told.nodes;
}
