use Rattle.std.proofs.Common.{ℕ, ap, ◌∙◌}
use Rattle.layer_runner.specs.SlotTexts.{ends_at}
use Rattle.layer_runner.proofs.logged.LoggedLinesReplica.shows.Goals as goal

pub returns : goal.returns
returns g c =
    let p = g.P.Play.position c.args.play.now in
    c.slot_ends.ensures
    ∙ ap (λ (q : ℕ). ends_at p.counter p.script q p.at p.scene.states) c.entry_length.ensures
