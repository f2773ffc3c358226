use Rattle.std.proofs.Common.{◌≡◌, length, All, subst}
use Rattle.sync_types.specs.States.{State}
use Rattle.machine_runner.proofs.Laid.{room_laid}
use Rattle.round_runner.specs.Runners.{Running}
use Rattle.round_runner.proofs.runners.Runner.lay_states.Goals as goal

pub returns-clause-deep : goal.returns-clause-deep
returns-clause-deep g c =
    let kept = c.self.invariant in
    let room = room_laid c.self.inside.script c.self.inside.states.shape
    c.self.inside.states.current _ c.lay.ensures kept.shape kept.size c.facts.ensures.current in
    subst (λ (r : Running _).
    All (λ (s : State). length s.registers ≡ r.script.shape.depth) c.lay.new.heard)
    c.self.view_is room.deep
