use Rattle.run_checker.proofs.Recording.{TurnsSoFar}
use Rattle.run_checker.proofs.records.put_turns.Given as goal

abbrev pub invariant-loop : goal.invariant-loop
invariant-loop g l =
    TurnsSoFar g.K.Sink.told l.fn.runner.plan l.fn.runner.script l.counter l.runner l.fn.writer
    l.writer
