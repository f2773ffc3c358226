use Rattle.std.proofs.Common.{ℕ, List, ap, ◌∙◌}
use Rattle.machine_runner.specs.Runners.{Running}
use Rattle.sweep.proofs.on_machines.play.Goals as goal

pub returns-clause-same : goal.returns-clause-same
returns-clause-same g c =
    c.play_to.ensures.same
    ∙ ap (λ (r : Running _). let s : Running _ = record r { at = c.play_to.new.runner.at } in s)
    (c.restart.ensures ∙ ap (λ (key : List ℕ). let r : Running _ = record {
      machine = c.args.runner.now.machine;
      script = record c.args.runner.now.script { key = key };
      at = 0;
    } in r) c.key_of.ensures)
