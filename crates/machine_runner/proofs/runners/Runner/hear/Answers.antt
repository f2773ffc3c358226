use Rattle.std.proofs.Common.{◌≡◌, List, ap, ◌∙◌, subst}
use Rattle.sync_types.specs.States.{State}
use Rattle.machine_runner.specs.Played.{heard_at}
use Rattle.machine_runner.specs.Runners.{Running, states_of}
use Rattle.machine_runner.proofs.Laid.{room_laid}
use Rattle.machine_runner.proofs.runners.Runner.hear.Goals as goal

pub hear-requires-clause-room : goal.hear-requires-clause-room
hear-requires-clause-room g c =
    let kept = c.self.invariant in
    room_laid c.self.inside.script c.self.inside.states.shape c.self.inside.states.current _
    c.lay.ensures kept.shape kept.size c.facts.ensures.current

pub returns-clause-heard : goal.returns-clause-heard
returns-clause-heard g c =
    let inside = c.self.inside in
    subst (λ (r : Running _). c.hear.new.heard
    ≡ heard_at r.script r.at (states_of g.M.Machine.machine r) c.args.v) c.self.view_is
    (c.hear.ensures.heard
    ∙ ap (λ (xs : List State). heard_at inside.script inside.at xs c.args.v)
    c.self.invariant.played)
