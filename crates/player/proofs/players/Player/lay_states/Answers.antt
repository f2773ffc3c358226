use Rattle.std.proofs.Common.{subst}
use Rattle.machine_runner.specs.Hearing.{HasRoom}
use Rattle.machine_runner.proofs.Laid.{room_laid}
use Rattle.player.specs.Runners.{Running}
use Rattle.player.proofs.players.Player.lay_states.Goals as goal

pub returns-clause-room : goal.returns-clause-room
returns-clause-room g c =
    let kept = c.self.invariant in
    subst (λ (r : Running _ _). HasRoom r.script c.lay.new.heard) c.self.view_is
    (room_laid c.self.inside.script c.self.inside.states.shape c.self.inside.states.current _
    c.lay.ensures kept.shape kept.size c.facts.ensures.current)
