use Rattle.std.proofs.Common.{[]}
use Rattle.counter_core.specs.NoLayers.{no_layer}
use Rattle.round_runner.specs.Runners.{configuration_of}
use Rattle.sweep.proofs.FirstLocked.{lock_is, first_within}
use Rattle.sweep.proofs.playing.lock_of.Goals as goal

pub returns-clause-lock : goal.returns-clause-lock
returns-clause-lock c =
    lock_is c.args.runner.now c.args.j c.locked_in.result
    (c.locked_in.ensures.at_end [] c.requires.plays c.requires.known)

pub returns-clause-within : goal.returns-clause-within
returns-clause-within c =
    let r = c.args.runner.now in
    first_within r.plan r.script (configuration_of (λ o. no_layer) [] r) c.args.j r.script.rounds
    c.locked_in.result (c.locked_in.ensures.last [] c.requires.plays c.requires.known)
