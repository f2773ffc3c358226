use Rattle.std.proofs.Common.{◌/◌, ◌<◌, ◌≤◌, All, length, sym, ◌∙◌, arith}
use Rattle.std.proofs.lemmas.List.Elements.{All-same, All-weaker}
use Rattle.edge_io.specs.Writing.{Writes}
use Rattle.edge_io.proofs.Writing.{writes_is, writes_none, writes_then}
use Rattle.sync_types.specs.States.{State}
use Rattle.construction.specs.Votes.{block}
use Rattle.construction.proofs.Blocks.{All-block}
use Rattle.plan_numbers.specs.Stacked.{AreSomeLevels}
use Rattle.tower.proofs.Descent.{below_levels, top_numbers, top_sized, group_nodes, place_below}
use Rattle.tower.proofs.Descent.{block_size}
use Rattle.trace.proofs.LevelDescent.{no_lines, lines_below, lines_by, lower_in, lower_out}
use Rattle.trace.proofs.LevelDescent.{block_within, place_before}
use Rattle.trace.proofs.level_lines.+put_levels.Goals as goal
use Rattle.trace.proofs.level_lines.+put_levels.Goals.{then-place-nums, else-place-nums}

pub returns-in_default : goal.returns-in_default
returns-in_default g t c =
    let group = c.args.group.now in
    let view = group.view.now in
    writes_is (no_lines view.heading view.faulty.now.ids view.config.now view.hears
    group.levels.now group.place group.heard.now c.in_default.ensures.cases) writes_none

pub block_nodes-n-requires : goal.block_nodes-n-requires
block_nodes-n-requires g t c = top_sized _ _ _ _ c.in-Some.ensures.cases.0 c.requires.1

pub invariant_of-block : goal.invariant_of-block
invariant_of-block g t c =
    let e = c.in-Some.ensures.cases.0 in
    let are = c.requires.1 in
    let group = c.args.group.now in
    let below = c.in-Some.below.now in
    let heard = group.heard.now in
    let place = group.place in
    let n = c.block_nodes-n.result in
    let same = c.block_nodes-n.ensures in
    let lt = c.if-place-nums.true in
    let own = c.block-heard.result in
    let mine = c.block-heard.ensures in
    let config = group.view.now.config.now in
    let node = group.view.now.heading.node in
    let fewer : length below ≤ length group.levels.now =
    omega (arith, c.in-Some.ensures.cases.1) in
    let size = group.size ∙ group_nodes _ _ _ _ e are in
    let HasAll : State → Type 0 = λ s. length group.levels.now ≤ length s.registers in
    let HasBelow : State → Type 0 = λ s. length below ≤ length s.registers in
    let deep : All HasBelow heard =
    All-weaker HasAll HasBelow (λ s h. omega (arith, h, fewer)) heard group.hears in
    record {
      before = place_before _ _ _ _ e are place n node lt group.before;
      inside = place_below _ _ _ _ e are place n heard same lt;
      within = block_within _ _ _ _ e are place n node _ same lt group.before group.within;
      shallow = omega (arith, group.shallow, fewer);
      deep = All-weaker HasAll HasBelow (λ s h. omega (arith, h, fewer)) config group.deep;
      size = block_size _ _ _ _ e are place n heard same lt size own mine;
      hears = All-same HasBelow own (block n (place / n) heard) mine
          (All-block HasBelow n (place / n) heard deep);
    }

pub invariant_of-at : goal.invariant_of-at
invariant_of-at g t c =
    let e = c.in-Some.ensures.cases.0 in
    let are = c.requires.1 in
    let group = c.args.group.now in
    let below = c.in-Some.below.now in
    let heard = group.heard.now in
    let config = group.view.now.config.now in
    let count = c.in-Some.ensures.cases.1 in
    let whole = group_nodes _ _ _ _ e are in
    let HasAll : State → Type 0 = λ s. length group.levels.now ≤ length s.registers in
    let HasTop : State → Type 0 = λ s. length below < length s.registers in
    record {
      numbers = top_numbers _ _ _ _ e are;
      shallow = omega (arith, group.shallow, count);
      within = omega (arith, group.within, group.before, whole);
      deep = All-weaker HasAll HasTop (λ s h. omega (arith, h, count)) config group.deep;
      size = group.size ∙ whole;
      heard = All-weaker HasAll HasTop (λ s h. omega (arith, h, count)) heard group.hears;
    }

-- that the list falls, and the clause
pub put_levels-requires : goal.put_levels-requires
put_levels-requires g t c κs within =
    let e = c.in-Some.ensures.cases.0 in
    let below = c.in-Some.below.now in
    let falls : length below < t = omega (arith, c.decreases, c.in-Some.ensures.cases.1) in
    let stays : AreSomeLevels below = (c.requires.0, below_levels _ _ _ _ e c.requires.1) in
    (falls, (within, stays))

pub returns : goal.returns
returns g t c =
    let e = c.in-Some.ensures.cases.0 in
    let are = c.requires.1 in
    let view = c.args.group.now.view.now in
    let ids = view.faulty.now.ids in
    let config = view.config.now in
    let group = c.args.group.now.heard.now in
    let place = c.args.group.now.place in
    let n = c.block_nodes-n.result in
    let same = c.block_nodes-n.ensures in
    let lower = lines_below _ _ _ _ e are view.heading ids config view.hears place group in
    let below = elim c.if-place-nums.branch as
    (λ _. Writes g.K.Sink.told lower c.args.writer.now c.if-place-nums.writer) [
      | then-place-nums w ↦
          rw w.writer-is (writes_is
          (lower_in _ _ _ _ e are view.heading ids config view.hears place group n _ same
          w.if-place-nums.true w.block-heard.ensures) w.put_levels.ensures)
      | else-place-nums w ↦
          rw w.writer-is (writes_is
          (lower_out _ _ _ _ e are view.heading ids config view.hears place group n same
          (omega (arith, w.if-place-nums.false))) writes_none)
    ] in
    writes_is (sym (lines_by _ _ _ _ e are view.heading ids config view.hears place group))
    (writes_then below c.put_level_line.ensures)
