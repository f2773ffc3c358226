use Rattle.node_words.proofs.Engines.{node, state, ok_stands}
use Rattle.node_words.proofs.serving.engine_of.Goals as goal

pub of_machine-requires-clause-id : goal.of_machine-requires-clause-id
of_machine-requires-clause-id g c =
    node g.C.Construction.words g.C.Counter.Machine.machine c.args.read _ c.requires.shape
    c.requires.fits c.in_ok-counter.ensures.machine c.in_ok-counter.ensures.shaped

pub of_machine-requires-clause-state : goal.of_machine-requires-clause-state
of_machine-requires-clause-state g c =
    state g.C.Construction.words g.C.Counter.Machine.machine c.args.read _ c.requires.shape
    c.requires.fits c.in_ok-counter.ensures.machine c.in_ok-counter.ensures.shaped

pub returns : goal.returns
returns g c =
    ok_stands g.C.Construction.words g.C.Counter.Machine.machine c.args.read _ c.requires.shape
    c.requires.fits c.in_ok-counter.ensures.machine c.in_ok-counter.ensures.shaped _ c.of_machine.ensures
