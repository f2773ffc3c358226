use Rattle.std.proofs.Common.{arith}
use Rattle.layer_runner.proofs.Ending.{long_before}
use Rattle.layer_runner.proofs.decisions.DecisionLinesLinesAgreement.put_front.Goals as goal

pub overflow_sub-at : goal.overflow_sub-at
overflow_sub-at g c =
    let p = g.P.Play.position c.args.play.now in
    omega (
      arith,
      c.at.ensures,
      long_before p.counter p.script c.args.self.now.length p.at p.scene.states c.requires.shown,
    )

pub returns : goal.returns
returns g c = rw c.at.ensures at c.labelled.ensures
