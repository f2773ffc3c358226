use Rattle.std.proofs.Common.{arith}
use Rattle.run_checker.specs.Items.{values_said}
use Rattle.run_checker.proofs.BodySteps.{row_marks}
use Rattle.run_checker.proofs.BodyKept.{shape_has_depth}
use Rattle.run_checker.proofs.bodies.Body.mark_row.Goals as goal

pub invariant_of-showing-clause-deep : goal.invariant_of-showing-clause-deep
invariant_of-showing-clause-deep c =
    let deep = shape_has_depth c.self.inside.tower c.self.inside.config.shape
    c.self.invariant.shape in
    omega (arith, deep, c.depth.ensures)

pub returns : goal.returns
returns c =
    let h = rw (c.depth.ensures, c.self.invariant.faulty) at c.in-Some.ensures in
    rw (
      c.first_of-self-inside.ensures,
      c.first_of-self-inside-2.ensures,
      c.is_locked-locked.ensures,
      c.clear.ensures,
      ← c.self.view_is,
    )
    (row_marks _ (values_said c.args.words) c.in-Some.same h)
