use Rattle.std.proofs.Common.{◌≡◌, ◌<◌, ◌≤◌, All, map, ap, sym, ◌∙◌, subst, arith}
use Rattle.std.specs.Prelude.{string_bytes}
use Rattle.halving_plan.specs.Plans.{HalvingNumbers}
use Rattle.trace.specs.Names.{named_nodes}
use Rattle.trace.proofs.NamedNodes.{named_below}
use Rattle.program_words.proofs.Answered.{answers_cut}
use Rattle.trace.proofs.HalvingTraced.{traced}
use Rattle.trace.proofs.of_halving.write_halving_trace.Goals as goal

pub put_halving_trace-requires-clause-nodes : goal.put_halving_trace-requires-clause-nodes
put_halving_trace-requires-clause-nodes g c =
    let words = map string_bytes c.args.words.now in
    let n = c.nodes.result in
    let same : n ≡ c.args.runner.now.machine.nodes =
    c.nodes.ensures
    ∙ ap (λ (p : HalvingNumbers). p.nodes) (c.plan.ensures ∙ c.machine.ensures) in
    let naming = rw c.in-Some.is at c.in_ok-nodes.ensures in
    let all = subst (λ m. All (λ v. v < m) (named_nodes words n)) same (named_below words n) in
    subst (All (λ v. v < c.args.runner.now.machine.nodes))
    (sym (c.deref.ensures.value ∙ naming.1)) all

pub returns-in_err-put_halving_trace : goal.returns-in_err-put_halving_trace
returns-in_err-put_halving_trace g c =
    let r = c.args.runner.now in
    let n : c.nodes.result ≡ r.machine.nodes =
    c.nodes.ensures
    ∙ ap (λ (p : HalvingNumbers). p.nodes) (c.plan.ensures ∙ c.machine.ensures) in
    let naming = rw n at (rw c.in-Some.is at c.in_ok-nodes.ensures) in
    let le : c.args.want.last ≤ r.script.rounds =
    omega (
      arith,
      c.if-last-rounds.false,
      c.last.ensures.value,
      c.rounds.ensures.value,
      ap (λ s. s.rounds) c.script.ensures,
    ) in
    answers_cut _ _ _ _ _
    (traced c.args.want (map string_bytes c.args.words.now) r.machine r.script le
    c.deref.result.now (naming.0, c.deref.ensures.value ∙ naming.1))
    c.from_residual-in_err-put_halving_trace.ensures.1 c.in_err-put_halving_trace.ensures

pub returns : goal.returns
returns g c =
    let r = c.args.runner.now in
    let n : c.nodes.result ≡ r.machine.nodes =
    c.nodes.ensures
    ∙ ap (λ (p : HalvingNumbers). p.nodes) (c.plan.ensures ∙ c.machine.ensures) in
    let naming = rw n at (rw c.in-Some.is at c.in_ok-nodes.ensures) in
    let le : c.args.want.last ≤ r.script.rounds =
    omega (
      arith,
      c.if-last-rounds.false,
      c.last.ensures.value,
      c.rounds.ensures.value,
      ap (λ s. s.rounds) c.script.ensures,
    ) in
    record {
      text = _;
      is = traced c.args.want (map string_bytes c.args.words.now) r.machine r.script le
          c.deref.result.now (naming.0, c.deref.ensures.value ∙ naming.1);
      has = c.in_ok-put_halving_trace.ensures;
    }
