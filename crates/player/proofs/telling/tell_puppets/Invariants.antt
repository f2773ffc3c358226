use Rattle.adversary_script.specs.Eras.{faulty_of_era}
use Rattle.player.proofs.LiesTold.{PuppetsBelow}
use Rattle.player.proofs.telling.tell_puppets.Given as goal

abbrev pub invariant-loop-j : goal.invariant-loop-j
invariant-loop-j l = PuppetsBelow l.script (faulty_of_era l.script l.era) l.j l.lies
