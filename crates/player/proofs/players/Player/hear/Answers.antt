use Rattle.std.proofs.Common.{◌≡◌, subst}
use Rattle.adversary_script.specs.Rounds.{heard_at}
use Rattle.player.specs.Runners.{Running}
use Rattle.machine_runner.proofs.Laid.{room_laid}
use Rattle.player.proofs.players.Player.hear.Goals as goal

pub hear-requires-clause-room : goal.hear-requires-clause-room
hear-requires-clause-room g c =
    let kept = c.self.invariant in
    room_laid c.self.inside.script c.self.inside.states.shape c.self.inside.states.current _
    c.lay.ensures kept.shape kept.size c.facts.ensures.current

pub returns-clause-heard : goal.returns-clause-heard
returns-clause-heard g c =
    subst (λ (r : Running _ _). c.hear.new.heard ≡ heard_at r.script r.at r.states c.args.v)
    c.self.view_is c.hear.ensures.heard
