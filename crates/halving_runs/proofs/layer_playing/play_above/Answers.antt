use Rattle.halving_plan.specs.Laws.{machine_in}
use Rattle.machine_runner.specs.Locks.{is_locked}
use Rattle.player.specs.Counters.{machine_counter}
use Rattle.halving_runs.proofs.Written.{begun_on, has_begun, wrote_play, cut_play, faulted}
use Rattle.halving_runs.proofs.layer_playing.play_above.Goals as goal

pub put_played-requires : goal.put_played-requires
put_played-requires g c =
    has_begun (g.L.Lines.wording c.args.lines.now) (machine_counter (machine_in c.args.scripted.0))
    (is_locked (machine_in c.args.scripted.0)) c.args.scripted.2 (g.O.Overlay.layer c.args.overlay)
    (g.O.Overlay.kept c.args.overlay) _
    (begun_on c.of-machine.ensures c.args.scripted.2 (g.O.Overlay.layer c.args.overlay)
    (g.O.Overlay.kept c.args.overlay) _ c.in_ok-player.ensures.begun)

pub returns-in_err-put_played-clause-does : goal.returns-in_err-put_played-clause-does
returns-in_err-put_played-clause-does g c =
    faulted _ _ _ _ c.from_residual-in_err-put_played.ensures.1
    (cut_play (g.L.Lines.wording c.args.lines.now)
    (machine_counter (machine_in c.args.scripted.0)) (is_locked (machine_in c.args.scripted.0))
    c.args.scripted.2 (g.O.Overlay.layer c.args.overlay) (g.O.Overlay.kept c.args.overlay) _
    (begun_on c.of-machine.ensures c.args.scripted.2 (g.O.Overlay.layer c.args.overlay)
    (g.O.Overlay.kept c.args.overlay) _ c.in_ok-player.ensures.begun)
    _ _ c.in_err-put_played.ensures)

pub returns-clause-does : goal.returns-clause-does
returns-clause-does g c =
    wrote_play (g.L.Lines.wording c.args.lines.now)
    (machine_counter (machine_in c.args.scripted.0)) (is_locked (machine_in c.args.scripted.0))
    c.args.scripted.2 (g.O.Overlay.layer c.args.overlay) (g.O.Overlay.kept c.args.overlay) _
    (begun_on c.of-machine.ensures c.args.scripted.2 (g.O.Overlay.layer c.args.overlay)
    (g.O.Overlay.kept c.args.overlay) _ c.in_ok-player.ensures.begun)
    _ _ c.in_ok-put_played.ensures
