use Rattle.player.proofs.LiesTold.{ItselfBelow}
use Rattle.player.proofs.telling.tell_itself.Given as goal

abbrev pub invariant-loop-j : goal.invariant-loop-j
invariant-loop-j l = ItselfBelow l.turn.round.now.script.now l.turn.round.now.faulty.now.ids
    l.turn.v l.turn.states.now.current l.j l.lies
