use Rattle.std.proofs.Common.{List, [], ℕ, ap, ◌∙◌}
use Rattle.adversary_script.specs.Scripts.{Script}
use Rattle.round_runner.specs.Runners.{Running}
use Rattle.sweep.proofs.FirstLocked.{stops_at}
use Rattle.sweep.proofs.playing.play.Goals as goal

pub returns-clause-plan : goal.returns-clause-plan
returns-clause-plan c =
    c.play_until_known.ensures.skipped.plan
    ∙ ap (λ (r : Running _). r.plan) c.restart.ensures.begun

pub returns-clause-script : goal.returns-clause-script
returns-clause-script c =
    c.play_until_known.ensures.skipped.script
    ∙ (ap (λ (r : Running _). r.script) c.restart.ensures.begun
    ∙ ap (λ (key : List ℕ). let s : Script = record c.args.runner.now.script { key = key } in s)
    c.key_of.ensures)

pub returns-clause-plays : goal.returns-clause-plays
returns-clause-plays c = c.play_until_known.ensures.played [] c.restart.ensures.played

pub returns-clause-stops : goal.returns-clause-stops
returns-clause-stops c =
    stops_at c.restart.new.self c.play_until_known.new.self
    (ap (λ (r : Running _). r.at) c.restart.ensures.begun) c.play_until_known.ensures.skipped
    (c.play_until_known.ensures.stops [] c.restart.ensures.played)
