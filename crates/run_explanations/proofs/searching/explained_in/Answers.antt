use Rattle.std.proofs.Common.{◌∙◌, sym, arith}
use Rattle.construction.specs.Runs.{is_in}
use Rattle.run_explanations.specs.Searching.{begins_phase}
use Rattle.run_explanations.proofs.Firsts.{first_small}
use Rattle.run_explanations.proofs.searching.explained_in.Goals as goal

pub overflow_add-result : goal.overflow_add-result
overflow_add-result c =
    let small = first_small (begins_phase c.args.top.numbers.beat
    (is_in c.args.faulty.now.ids) c.args.last c.args.window.at c.args.window.part)
    c.loop-x.x c.in-Some.x (sym c.loop-x.invariant ∙ c.in-Some.is) in
    let beat = c.args.top.small.most_beat in
    omega (
      arith,
      small,
      c.loop-x.auto.x-end,
      beat,
      c.args.window.early,
      c.args.window.small,
    )

pub overflow_add-result-in-Some : goal.overflow_add-result-in-Some
overflow_add-result-in-Some c =
    let small = first_small (begins_phase c.args.top.numbers.beat
    (is_in c.args.faulty.now.ids) c.args.last c.args.window.at c.args.window.part)
    c.loop-x.x c.in-Some.x (sym c.loop-x.invariant ∙ c.in-Some.is) in
    let beat = c.args.top.small.most_beat in
    omega (
      arith,
      small,
      c.loop-x.auto.x-end,
      beat,
      c.args.window.early,
      c.args.window.small,
    )
