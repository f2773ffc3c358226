use Rattle.std.proofs.Common.{ℕ, ◌+◌, length, ap, ap₂, ◌∙◌, arith}
use Rattle.std.specs.Prelude.{is_some}
use Rattle.adversary_script.specs.Scripts.{Script}
use Rattle.adversary_script.specs.Eras.{era_of}
use Rattle.machine_runner.proofs.Counted.{counting_not, counting_so}
use Rattle.machine_runner.proofs.leading.is_counting.Goals as goal

pub returns-then-era_of-last : goal.returns-then-era_of-last
returns-then-era_of-last g c =
    let eras = c.eras-last.ensures.value
    ∙ ap (λ (s : Script). length s.eras + 1) c.script-script.ensures in
    let here = c.era_of.ensures.value
    ∙ ap₂ (λ (s : Script) (t : ℕ). era_of s t) c.script-script.ensures c.at.ensures in
    counting_not g.M.Machine.machine c.args.runner.now _ _ here (omega (arith, eras))
    c.if-era_of-last.true

pub returns : goal.returns
returns g c =
    let eras = c.eras-last.ensures.value
    ∙ ap (λ (s : Script). length s.eras + 1) c.script-script.ensures in
    let here = c.era_of.ensures.value
    ∙ ap₂ (λ (s : Script) (t : ℕ). era_of s t) c.script-script.ensures c.at.ensures in
    counting_so g.M.Machine.machine c.args.runner.now _ _ here (omega (arith, eras))
    c.if-era_of-last.false _ (c.is_some.ensures ∙ ap is_some c.lock_of.ensures)
