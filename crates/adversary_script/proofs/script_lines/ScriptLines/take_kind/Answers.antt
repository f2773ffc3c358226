use Rattle.std.proofs.Common.{Some}
use Rattle.adversary_script.specs.Steps.{line_step}
use Rattle.adversary_script.specs.ScriptPart.{IsClosed}
use Rattle.adversary_script.proofs.Taken.{left}
use Rattle.adversary_script.proofs.ReadScripts.{line_closes}
use Rattle.adversary_script.proofs.script_lines.ScriptLines.take_kind.Goals as goal

pub invariant_of-self : goal.invariant_of-self
invariant_of-self c =
    left (IsClosed (Some c.args.kind))
    (line_step c.self.inside.faults c.args.kind c.self.inside.draft c.args.words)
    c.take_line.new.self tt (rw c.in-Ok.is at c.take_line.ensures.script)
    (line_closes c.self.inside.faults c.self.inside.last c.args.kind c.self.inside.draft
    c.args.words (rw (← c.self.view_is) at c.requires) c.take_line.ensures.formed
    c.self.invariant)
