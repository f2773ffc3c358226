use Rattle.std.proofs.Common.{List, ℕ, refl, sym, ap, ◌∙◌}
use Rattle.sync_types.specs.FaultSets.{is_in}
use Rattle.run_checker.proofs.Recording.{faulty_ids, left_out, put_in}
use Rattle.run_checker.proofs.start_lines.put_first_start.Goals as goal

pub returns-then-contains-clause-text : goal.returns-then-contains-clause-text
returns-then-contains-clause-text g c =
    let ids = faulty_ids _ _ c.args.runner.now.script 0 0 c.faulty_at.ensures c.script.ensures
    refl in
    left_out _ (ap (λ (l : List ℕ). is_in l c.args.v) (sym ids)
    ∙ (sym c.contains.ensures ∙ c.if-contains.true))

pub returns-clause-text : goal.returns-clause-text
returns-clause-text g c =
    let ids = faulty_ids _ _ c.args.runner.now.script 0 0 c.faulty_at.ensures c.script.ensures
    refl in
    put_in (ap (λ (l : List ℕ). is_in l c.args.v) (sym ids)
    ∙ (sym c.contains.ensures ∙ c.if-contains.false))
    c.put_start.ensures.text
