use Rattle.std.proofs.Common.{ap, ◌∙◌, arith}
use Rattle.adversary_script.specs.Eras.{first_of_era}
use Rattle.machine_runner.proofs.Firsts.{none_begins, era_within}
use Rattle.machine_runner.proofs.stepping.beginning_in.Goals.{
  else-era-gt0-via-then-era-gt0+else-era_start-t,
}
use Rattle.machine_runner.proofs.stepping.beginning_in.Goals.{else-era-gt0-via-else-era-gt0}
use Rattle.machine_runner.proofs.stepping.beginning_in.Goals as goal

pub era_start-requires : goal.era_start-requires
era_start-requires c = omega (arith, c.requires, era_within c.args.script.now c.args.t)

pub returns-else-era-gt0 : goal.returns-else-era-gt0
returns-else-era-gt0 c = none_begins c.args.script.now c.rounds-rounds.ensures.script.formed.rising
    c.args.t
    (λ some is. elim c.else-era-gt0.branch [
      | else-era-gt0-via-then-era-gt0+else-era_start-t w ↦
          w.if-era_start-t.false (w.era_start.ensures
          ∙ ap (first_of_era c.args.script.now) c.requires ∙ is)
      | else-era-gt0-via-else-era-gt0 w ↦ omega (
        arith,
        w.if-era-gt0.false,
        c.requires,
        some,
      )
    ])
