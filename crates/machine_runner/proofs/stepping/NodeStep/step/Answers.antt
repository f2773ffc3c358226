use Rattle.std.proofs.Common.{sym, ◌∙◌, subst}
use Rattle.std.proofs.lemmas.List.{with_items_is}
use Rattle.machines.specs.Machines.{AreFronts}
use Rattle.machines.proofs.Fronts.{whole_fronts}
use Rattle.machine_runner.proofs.HeardAt.{heard_is_one}
use Rattle.machine_runner.specs.Hearing.{AreHonest}
use Rattle.machine_runner.proofs.Keeping.{range_of}
use Rattle.machine_runner.proofs.stepping.NodeStep.step.Goals as goal

pub advance-requires-clause-heard : goal.advance-requires-clause-heard
advance-requires-clause-heard g c =
    let script = c.args.self.now.round.now.script.now in
    let states = c.args.self.now.states.now in
    let is = with_items_is c.args.room.now.heard c.hear.new.heard
    (c.hear.auto.heard ∙ c.deref_mut.ensures.len) in
    let same = c.of-heard.ensures ∙ (c.deref.ensures.value ∙ (is ∙ c.hear.ensures.heard)) in
    subst (AreFronts (g.M.Machine.machine c.args.machine.now)) (sym same)
    (whole_fronts (g.M.Machine.machine c.args.machine.now) c.facts.ensures _
    (heard_is_one script c.args.self.now.round.now.t states.current c.args.self.now.v
    c.args.self.now.node
    (range_of states.shape script.shape script.nodes states.current c.args.self.now.config.shape
    c.args.self.now.config.size c.facts-2.ensures.current)
    (g.M.Machine.machine c.args.machine.now) c.requires.read))

pub returns-clause-honest : goal.returns-clause-honest
returns-clause-honest g c =
    let is = with_items_is c.args.room.now.heard c.hear.new.heard
    (c.hear.auto.heard ∙ c.deref_mut.ensures.len) in
    subst (AreHonest c.args.self.now.round.now.script.now c.args.self.now.round.now.t
    c.args.self.now.states.now.current) (sym is) c.hear.ensures.honest
