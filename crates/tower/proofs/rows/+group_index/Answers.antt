use Rattle.std.proofs.Common.{ℕ, ◌<◌, arith}
use Rattle.tower.proofs.Indices.{few_levels, before_less, sized, block_is, index_step}
use Rattle.tower.proofs.rows.+group_index.Goals as goal

pub block_nodes-n-requires : goal.block_nodes-n-requires
block_nodes-n-requires t c = sized _ _ _ c.in-Some.ensures.cases.0 c.requires.levels

pub nonzero_div-before : goal.nonzero_div-before
nonzero_div-before t c =
    let some = (sized _ _ _ c.in-Some.ensures.cases.0 c.requires.levels).block in
    omega (arith, c.block_nodes-n.ensures, some)

pub overflow_mul-before : goal.overflow_mul-before
overflow_mul-before t c =
    let n : ℕ = c.block_nodes-n.result in
    let block = block_is _ _ _ c.in-Some.ensures.cases.0 c.requires.levels in
    let less : c.group_count.result < n =
    omega (arith, c.group_count.ensures.few, c.block_nodes-n.ensures, block) in
    omega (arith, before_less c.args.place n c.group_count.result less, c.requires.place)

pub overflow_add-result : goal.overflow_add-result
overflow_add-result t c =
    let n : ℕ = c.block_nodes-n.result in
    let block = block_is _ _ _ c.in-Some.ensures.cases.0 c.requires.levels in
    let less : c.group_count.result < n =
    omega (arith, c.group_count.ensures.few, c.block_nodes-n.ensures, block) in
    omega (arith, before_less c.args.place n c.group_count.result less, c.requires.place)

pub overflow_add-result-2 : goal.overflow_add-result-2
overflow_add-result-2 t c =
    let n : ℕ = c.block_nodes-n.result in
    let block = block_is _ _ _ c.in-Some.ensures.cases.0 c.requires.levels in
    let less : c.group_count.result < n =
    omega (arith, c.group_count.ensures.few, c.block_nodes-n.ensures, block) in
    omega (
      arith,
      before_less c.args.place n c.group_count.result less,
      c.group_index.ensures.small,
      c.requires.place,
      few_levels c.args.levels.now c.requires.levels,
      c.in-Some.ensures.cases.1,
    )

pub returns-clause-index : goal.returns-clause-index
returns-clause-index t c =
    index_step _ _ _ c.in-Some.ensures.cases.0 c.requires.levels c.args.place c.block_nodes-n.result
    c.args.height c.group_count.result c.group_index.result
    c.block_nodes-n.ensures c.if-height-below.false c.group_count.ensures.count
    c.group_index.ensures.index

pub returns-clause-small : goal.returns-clause-small
returns-clause-small t c =
    let n : ℕ = c.block_nodes-n.result in
    let block = block_is _ _ _ c.in-Some.ensures.cases.0 c.requires.levels in
    let less : c.group_count.result < n =
    omega (arith, c.group_count.ensures.few, c.block_nodes-n.ensures, block) in
    omega (
      arith,
      before_less c.args.place n c.group_count.result less,
      c.group_index.ensures.small,
      c.in-Some.ensures.cases.1,
    )
