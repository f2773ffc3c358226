use Rattle.std.proofs.Common.{◌∙◌}
use Rattle.machine_runner.proofs.Counted.{known_at_end}
use Rattle.sweep.proofs.OnMachines.{lock_within}
use Rattle.sweep.proofs.on_machines.lock_of.Goals as goal

pub returns-clause-lock : goal.returns-clause-lock
returns-clause-lock g c =
    c.lock_of.ensures
    ∙ known_at_end g.M.Machine.machine c.args.runner.now c.facts.ensures.read.whole
    c.facts.ensures.within c.requires.known c.args.j

pub returns-clause-within : goal.returns-clause-within
returns-clause-within g c =
    lock_within (g.M.Machine.machine c.args.runner.now.machine) c.args.runner.now.script
    c.facts.ensures.read.whole c.args.j c.requires.among c.lock_of.result
    (returns-clause-lock g c)
