use Rattle.std.proofs.Common.{◌+◌, ◌++◌, ℕ, List, take, sym, subst, ap, ◌∙◌}
use Rattle.edge_io.specs.HeldLines.{IsLineOf}
use Rattle.edge_io.proofs.HeldLines.{line_of}
use Rattle.edge_io.proofs.line_buf.LineBuf.copy_line.Goals as goal

pub returns-clause-copied : goal.returns-clause-copied
returns-clause-copied c =
    subst (λ (found : List ℕ). IsLineOf c.args.bytes.now c.args.most found (c.in_ok-end.end + 1))
    (sym (c.extend.ensures
    ∙ ap (λ (xs : List ℕ). xs ++ take c.in_ok-end.end c.args.bytes.now) c.requires.empty))
    (line_of c.args.bytes.now c.in_ok-end.end c.args.most (sym c.newline_in.ensures
    ∙ c.in_ok-end.was)
    c.if-end-most.false)
