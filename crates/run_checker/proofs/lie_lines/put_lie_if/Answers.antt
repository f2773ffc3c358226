use Rattle.std.proofs.Common.{List, ℕ, sym, ap, ◌∙◌}
use Rattle.sync_types.specs.FaultSets.{is_in}
use Rattle.run_checker.proofs.Recording.{faulty_ids, left_out, put_in}
use Rattle.run_checker.proofs.lie_lines.put_lie_if.Goals as goal

pub returns-then-contains-clause-text : goal.returns-then-contains-clause-text
returns-then-contains-clause-text g c =
    let ids = faulty_ids _ _ c.args.runner.now.script _ c.args.runner.now.at c.faulty_at.ensures
    c.script.ensures c.at.ensures in
    left_out _ (ap (λ (l : List ℕ). is_in l c.args.v) (sym ids)
    ∙ (sym c.contains.ensures ∙ c.if-contains.true))

pub returns-clause-text : goal.returns-clause-text
returns-clause-text g c =
    let ids = faulty_ids _ _ c.args.runner.now.script _ c.args.runner.now.at c.faulty_at.ensures
    c.script.ensures c.at.ensures in
    put_in (ap (λ (l : List ℕ). is_in l c.args.v) (sym ids)
    ∙ (sym c.contains.ensures ∙ c.if-contains.false))
    c.put_lie.ensures.text
