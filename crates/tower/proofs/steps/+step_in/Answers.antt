use Rattle.std.proofs.Common.{Vec, ◌≡◌, subst, ℕ, All, ◌+◌, ◌*◌, ◌/◌, ◌%◌, ◌<◌, ◌≤◌, length, ap}
use Rattle.std.proofs.Common.{sym, ◌∙◌, arith}
use Rattle.std.proofs.Math.Nat.{mul-le-mul_right}
use Rattle.std.proofs.lemmas.Nat.{div_below}
use Rattle.std.proofs.lemmas.List.{length-replicate}
use Rattle.std.proofs.lemmas.List.Elements.{All-same, All-weaker}
use Rattle.sync_types.specs.States.{State, zero_state, zero_register}
use Rattle.construction.specs.Votes.{block}
use Rattle.construction.specs.Steps.{step_in}
use Rattle.construction.proofs.Blocks.{All-block, block_some, length-block-most}
use Rattle.construction.proofs.Ranges.{length-step_in}
use Rattle.plan_numbers.specs.Numbers.{levels_in}
use Rattle.plan_numbers.proofs.Stacking.{length-levels_in}
use Rattle.counter_core.specs.Meanings.{written}
use Rattle.counter_core.specs.Working.{IsWorkFor}
use Rattle.boost_step.proofs.Stepping.{length_written}
use Rattle.plan_laws.specs.PlanMeaning.{IsWithin}
use Rattle.tower.proofs.Descent.{below_levels, top_numbers, top_sized, group_nodes, top_range}
use Rattle.tower.proofs.Descent.{below_range, size_is, place_below, top_register_is, block_size}
use Rattle.tower.proofs.Descent.{block_written, spare_written}
use Rattle.tower.proofs.steps.+step_in.Goals as goal
use Rattle.tower.proofs.steps.+step_in.Goals.{then-place-nums, else-place-nums}

pub level_step-register-requires-clause-numbers : goal.level_step-register-requires-clause-numbers
level_step-register-requires-clause-numbers t c =
    top_numbers _ _ _ _ c.in-Some.ensures.cases.0 c.requires.levels

pub level_step-register-requires-clause-range : goal.level_step-register-requires-clause-range
level_step-register-requires-clause-range t c =
    top_range _ _ _ _ c.in-Some.ensures.cases.0 c.requires.levels c.args.group.now
    c.requires.group.range

pub nodes_over-n-requires : goal.nodes_over-n-requires
nodes_over-n-requires t c =
    (c.args.base, below_levels _ _ _ _ c.in-Some.ensures.cases.0 c.requires.levels)

pub overflow_mul-nums : goal.overflow_mul-nums
overflow_mul-nums t c =
    let nums = c.in-Some.nums.now in
    let e = c.in-Some.ensures.cases.0 in
    let are = c.requires.levels in
    let sized = top_sized _ _ _ _ e are in
    let same = c.nodes_over-n.ensures ∙ sym (size_is _ _ _ _ e are) in
    let product = ap (λ (m : ℕ). nums.blocks * m) same in
    omega (arith, product, sized.whole, sized.below.most)

pub block-block-requires : goal.block-block-requires
block-block-requires t c =
    let nums = c.in-Some.nums.now in
    let e = c.in-Some.ensures.cases.0 in
    let are = c.requires.levels in
    let sized = top_sized _ _ _ _ e are in
    let place = c.args.place in
    let n = c.nodes_over-n.result in
    let same = c.nodes_over-n.ensures ∙ sym (size_is _ _ _ _ e are) in
    let lt = c.if-place-nums.true in
    let among = div_below place n nums.blocks (block_some nums.blocks n place lt) lt in
    let fits : (place / n + 1) * n ≤ nums.blocks * n = mul-le-mul_right n (omega (arith, among)) in
    let product = ap (λ (m : ℕ). nums.blocks * m) same in
    let whole = c.requires.group.size ∙ group_nodes _ _ _ _ e are in
    omega (arith, fits, product, sized.whole, whole)

-- that the list falls, and the clauses in their order
pub step_in-requires : goal.step_in-requires
step_in-requires t c =
    let e = c.in-Some.ensures.cases.0 in
    let are = c.requires.levels in
    let below = c.in-Some.below.now in
    let group = c.args.group.now in
    let place = c.args.place in
    let n = c.nodes_over-n.result in
    let same = c.nodes_over-n.ensures ∙ sym (size_is _ _ _ _ e are) in
    let lt = c.if-place-nums.true in
    let own = c.block-block.result in
    let mine = c.block-block.ensures in
    let fewer : length below ≤ length c.args.levels.now =
    omega (arith, c.in-Some.ensures.cases.1) in
    let size = c.requires.group.size ∙ group_nodes _ _ _ _ e are in
    let less : length own ≤ length group =
    omega (arith, ap length mine, length-block-most n (place / n) group) in
    let InBelow : State → Type 0 = IsWithin c.args.base (levels_in below) in
    let HasBelow : State → Type 0 = λ s. length (levels_in below) ≤ length s.registers in
    let within : All InBelow group = below_range _ _ _ _ e are group c.requires.group.range in
    let deep : All HasBelow group =
    All-weaker (λ (s : State). length (levels_in c.args.levels.now) ≤ length s.registers) HasBelow
    (λ s h. omega (arith, h, fewer, length-levels_in below, length-levels_in c.args.levels.now))
    group c.requires.group.deep in
    let room = c.requires.work in
    let set = c.set_outputs.ensures.work in
    let kept = c.level_step-register.ensures.work in
    let outputs = ap (λ (os : Vec ℕ _). length os.items) kept.outputs in
    let own_within = All-same InBelow own (block n (place / n) group) mine
    (All-block InBelow n (place / n) group within) in
    let own_deep = All-same HasBelow own (block n (place / n) group) mine
    (All-block HasBelow n (place / n) group deep) in
    let for_work : IsWorkFor (length own) c.level_step-register.new.work = record {
      outputs = omega (arith, room.outputs, set.outputs, outputs, less);
      values = omega (arith, room.values, set.values, kept.values, less);
      votes = omega (arith, room.votes, set.votes, kept.votes, less);
    } in
    let falls : length below < t = omega (arith, c.decreases, c.in-Some.ensures.cases.1) in
    let stays = below_levels _ _ _ _ e are in
    let stands = place_below _ _ _ _ e are place n group same lt in
    let has = block_size _ _ _ _ e are place n group same lt size own mine in (
      falls,
      (
        stays,
        (
          stands,
          (
            record { size = has; range = own_within; deep = own_deep },
            (for_work, omega (arith, c.requires.out, fewer)),
          ),
        ),
      ),
    )

pub set_reg-requires : goal.set_reg-requires
set_reg-requires t c =
    let long = c.in-Some.ensures.cases.1 in
    let room = c.requires.out in
    let below = c.in-Some.below.now in
    let out = c.args.out.now in
    let registers : State → ℕ = λ s. length s.registers in
    elim c.if-place-nums.branch [
      | then-place-nums w ↦
          let place : ℕ = c.args.place % c.nodes_over-n.result in
          let own = w.block-block.result in
          let low : State = step_in c.args.base (levels_in below) place own in
          let is = ap registers (w.out-is ∙ w.step_in.ensures.out) in
          let deep =
          length-step_in c.args.base (levels_in below) place own ∙ length-levels_in below in
          omega (arith, is, length_written (length below) low out deep (omega arith))
      | else-place-nums w ↦
          let low : State = zero_state (length below) in
          let is = ap registers (w.out-is ∙ w.clear.ensures) in
          let deep = length-replicate (length below) zero_register in
          omega (arith, is, length_written (length below) low out deep (omega arith))
    ]

pub returns-clause-out : goal.returns-clause-out
returns-clause-out t c =
    let e = c.in-Some.ensures.cases.0 in
    let are = c.requires.levels in
    let long = c.in-Some.ensures.cases.1 in
    let room = c.requires.out in
    let group = c.args.group.now in
    let place = c.args.place in
    let same = c.nodes_over-n.ensures ∙ sym (size_is _ _ _ _ e are) in
    let out = c.args.out.now in
    let whole : State = step_in c.args.base (levels_in c.args.levels.now) place group in
    subst (λ d. c.set_reg.new.self ≡ written d whole out) long
    (elim c.if-place-nums.branch [
      | then-place-nums w ↦
          block_written _ _ _ _ e are place _ group same w.if-place-nums.true out _ _ _ _
          w.block-block.ensures (omega arith) (w.out-is ∙ w.step_in.ensures.out)
          (top_register_is _ _ _ _ e are place group _ _ c.set_outputs.ensures.outputs
          c.level_step-register.ensures.register) c.set_reg.ensures
      | else-place-nums w ↦
          spare_written _ _ _ _ e are place _ group same out _ _ _ w.if-place-nums.false
          (omega arith)
          (w.out-is ∙ w.clear.ensures)
          (top_register_is _ _ _ _ e are place group _ _ c.set_outputs.ensures.outputs
          c.level_step-register.ensures.register) c.set_reg.ensures
    ])
