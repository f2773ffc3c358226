use Rattle.std.proofs.Common.{subst, arith}
use Rattle.adversary_script.specs.Scripts.{IsScript}
use Rattle.machine_runner.proofs.Firsts.{era_before}
use Rattle.run_lines.proofs.shortened.known_end.Goals as goal

pub returns-else-is_some-clause-era : goal.returns-else-is_some-clause-era
returns-else-is_some-clause-era c =
    let r = c.args.runner.now in
    let whole = subst IsScript c.script.ensures c.rounds-rounds.ensures.script in
    let before = era_before r.script whole.formed.rising r.at (omega (arith, c.requires)) in
    omega (arith, before, c.at.ensures)
