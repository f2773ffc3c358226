use Rattle.std.proofs.Common.{rules}
use Rattle.adversary_script.proofs.Taken.{taken, refused}
use Rattle.adversary_script.proofs.script_lines.ScriptLines.take_words.Goals as goal

pub returns : goal.returns
returns c =
    taken c.args.self.now _ _ _ _ _ _ _ c.in-Some.ensures (search rules)
    c.in_ok-take_kind.ensures.said c.in_ok-take_kind.ensures.same c.give.ensures

pub returns-in_err-take_kind : goal.returns-in_err-take_kind
returns-in_err-take_kind c =
    refused (Unit {0}) c.args.self.now _ _ _ _ _ _ _ c.in-Some.ensures (search rules)
    c.in_err-take_kind.ensures.said c.from_residual.ensures.1
