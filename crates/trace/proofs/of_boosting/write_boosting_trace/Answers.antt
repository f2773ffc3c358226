use Rattle.std.proofs.Common.{◌≡◌, ◌<◌, ◌≤◌, All, map, ap, sym, ◌∙◌, subst, arith}
use Rattle.std.specs.Prelude.{string_bytes}
use Rattle.construction.specs.Plans.{plan_nodes}
use Rattle.trace.specs.Names.{named_nodes}
use Rattle.trace.proofs.NamedNodes.{named_below}
use Rattle.program_words.proofs.Answered.{answers_cut}
use Rattle.trace.proofs.Traced.{traced}
use Rattle.trace.proofs.of_boosting.write_boosting_trace.Goals as goal

pub put_trace-requires-clause-nodes : goal.put_trace-requires-clause-nodes
put_trace-requires-clause-nodes g c =
    let words = map string_bytes c.args.words.now in
    let n = c.nodes.result in
    let same : n ≡ plan_nodes c.in_ok-plan.runner.plan =
    c.nodes.ensures ∙ sym (ap plan_nodes c.in_ok-plan.ensures.read.plan_is) in
    let naming = rw c.in-Some.is at c.in_ok-nodes.ensures in
    let all = subst (λ m. All (λ v. v < m) (named_nodes words n)) same (named_below words n) in
    subst (All (λ v. v < plan_nodes c.in_ok-plan.runner.plan))
    (sym (c.deref.ensures.value ∙ naming.1)) all

pub returns-in_err-put_trace : goal.returns-in_err-put_trace
returns-in_err-put_trace g c =
    let naming = rw c.nodes.ensures at (rw c.in-Some.is at c.in_ok-nodes.ensures) in
    let le : c.args.want.last ≤ c.in_ok-plan.runner.script.rounds =
    omega (
      arith,
      c.if-last-rounds.false,
      c.last.ensures.value,
      c.rounds.ensures.value,
      ap (λ s. s.rounds) c.script.ensures,
    ) in
    answers_cut _ _ _ _ _
    (traced c.args.want (map string_bytes c.args.words.now) c.args.input.now c.in_ok-plan.plan
    c.in_ok-plan.runner c.in_ok-plan.ensures.read le c.deref.result.now
    (naming.0, c.deref.ensures.value ∙ naming.1))
    c.from_residual-in_err-put_trace.ensures.1 c.in_err-put_trace.ensures

pub returns : goal.returns
returns g c =
    let naming = rw c.nodes.ensures at (rw c.in-Some.is at c.in_ok-nodes.ensures) in
    let le : c.args.want.last ≤ c.in_ok-plan.runner.script.rounds =
    omega (
      arith,
      c.if-last-rounds.false,
      c.last.ensures.value,
      c.rounds.ensures.value,
      ap (λ s. s.rounds) c.script.ensures,
    ) in
    record {
      text = _;
      is = traced c.args.want (map string_bytes c.args.words.now) c.args.input.now
          c.in_ok-plan.plan c.in_ok-plan.runner c.in_ok-plan.ensures.read le c.deref.result.now
          (naming.0, c.deref.ensures.value ∙ naming.1);
      has = c.in_ok-put_trace.ensures;
    }
