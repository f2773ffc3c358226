use Rattle.std.proofs.Common.{ℕ, ◌++◌, [], ◌∷◌, length, map, sym, ap, ◌∙◌, arith}
use Rattle.std.specs.List.{range_with_len}
use Rattle.std.proofs.lemmas.List.FromFn.{length-map-range_with_len, map-range_with_len_more}
use Rattle.plan_numbers.specs.Numbers.{levels_in}
use Rattle.shared_board.specs.Groups.{index_at}
use Rattle.tower.proofs.rows.row_of.Goals as goal

pub unwrap-requires : goal.unwrap-requires
unwrap-requires c =
    let i = c.loop-height.invariant in
    let f : ℕ → ℕ = index_at (levels_in c.args.levels.now) c.args.node in
    let long = ap length i.indices ∙ length-map-range_with_len f 0 c.loop-height.height in
    c.push.ensures.succeeds
    (omega (arith, long, i.room, c.loop-height-test.true, c.loop-height.places.ok.0))

pub loop-height-preserved : goal.loop-height-preserved
loop-height-preserved c =
    let i = c.loop-height.invariant in
    let h : ℕ = c.loop-height.height in
    let f : ℕ → ℕ = index_at (levels_in c.args.levels.now) c.args.node in
    let pushed = rw c.unwrap.ensures at c.push.ensures.items in
    record {
      indices = pushed
          ∙ (ap (λ xs. xs ++ c.group_index.result ∷ []) i.indices
          ∙ (ap (λ y. map f (range_with_len 0 h) ++ y ∷ []) c.group_index.ensures.index
          ∙ sym (map-range_with_len_more f 0 h h (omega arith))));
      room = omega (arith, i.room, c.push.ensures.capacity);
    }
