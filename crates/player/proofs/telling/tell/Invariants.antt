use Rattle.player.proofs.LiesTold.{ToldBelow}
use Rattle.player.proofs.telling.tell.Given as goal

abbrev pub invariant-loop-j : goal.invariant-loop-j
invariant-loop-j l = ToldBelow l.turn.round.now.script.now l.turn.round.now.t
    l.turn.round.now.faulty.now.ids l.turn.v l.turn.states.now.current l.fn.stretch.0 l.j l.fn.noise
    l.noise l.lies
