use Rattle.std.proofs.Common.{◌≡◌, ℕ, List, length, sym, ap, ◌∙◌, subst, arith}
use Rattle.construction.specs.Plans.{Level}
use Rattle.plan_numbers.specs.declared.numbers.LevelNums.{LevelNums}
use Rattle.plan_numbers.specs.Numbers.{levels_in, numbers_of}
use Rattle.plan_numbers.specs.Premises.{LevelsAccepted}
use Rattle.plan_numbers.specs.Stacked.{AreSomeLevels}
use Rattle.plan_numbers.proofs.LevelLaws.{levels_in-numbers_of, length-numbers_of}
use Rattle.trace.specs.Desks.{HasRoom}
use Rattle.trace.proofs.desks.TraceBuffers.new.Goals as goal

pub returns : goal.returns
returns c =
    let plan = c.args.plan.now in
    let is = c.in_ok-levels.ensures in
    let nodes = c.nodes-nodes.ensures in
    let depth = c.args.depth in
    let levels = ap levels_in is ∙ levels_in-numbers_of plan.base plan.levels in
    let long : length c.in_ok-levels.levels.items ≡ length plan.levels =
    ap (λ (xs : List LevelNums). length xs) is ∙ length-numbers_of plan.base plan.levels in
    let are : AreSomeLevels c.in_ok-levels.levels.items = (
      plan.base,
      record {
        accepted = subst (λ (ls : List Level). LevelsAccepted plan.base ls) (sym levels)
            c.facts.ensures.accepted.levels;
        numbers = is ∙ ap (numbers_of plan.base) (sym levels);
      },
    ) in
    record {
      levels = levels;
      are = are;
      shallow = omega (arith, long, c.facts.ensures.depth);
      deep = omega (arith, long, c.requires);
      few = c.facts.ensures.sized.most;
      config = subst (λ (n : ℕ). HasRoom n depth c.in_ok-config.config.items) nodes
          c.in_ok-config.ensures;
      heard = subst (λ (n : ℕ). HasRoom n depth c.in_ok-heard.heard.items) nodes
          c.in_ok-heard.ensures;
    }
