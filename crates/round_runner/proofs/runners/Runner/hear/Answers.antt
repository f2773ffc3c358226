use Rattle.std.proofs.Common.{◌≡◌, length, All, subst}
use Rattle.sync_types.specs.States.{State}
use Rattle.machine_runner.proofs.Laid.{room_laid}
use Rattle.round_runner.specs.Played.{heard_at}
use Rattle.round_runner.specs.Runners.{Running}
use Rattle.round_runner.proofs.runners.Runner.hear.Goals as goal

pub hear-requires-clause-room : goal.hear-requires-clause-room
hear-requires-clause-room g c =
    let kept = c.self.invariant in
    room_laid c.self.inside.script c.self.inside.states.shape c.self.inside.states.current _
    c.lay.ensures kept.shape kept.size c.facts.ensures.current

pub returns-clause-heard : goal.returns-clause-heard
returns-clause-heard g c =
    subst (λ (r : Running _). c.hear.new.heard ≡ heard_at r.script r.at r.states c.args.v)
    c.self.view_is c.hear.ensures.heard

pub returns-clause-deep : goal.returns-clause-deep
returns-clause-deep g c =
    subst (λ (r : Running _).
    All (λ (s : State). length s.registers ≡ r.script.shape.depth) c.hear.new.heard)
    c.self.view_is c.hear.ensures.room.deep
