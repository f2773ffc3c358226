use Rattle.std.proofs.Common.{◌+◌, length, arith}
use Rattle.counting.proofs.Places.{shorter}
use Rattle.shared_board.specs.Senders.{is_liar}
use Rattle.shared_board.proofs.hearing.Hearing.lies_in.Goals as goal

-- there are as many liars up to the end of a stretch as before it, or more
pub slice_bounds-result-start : goal.slice_bounds-result-start
slice_bounds-result-start c =
    let s = c.args.self.now.senders.now in
    omega (
      arith,
      c.liars_below-from.ensures,
      c.liars_below-to.ensures,
      shorter
          (is_liar s) c.args.first (c.args.first + c.args.count) (omega arith),
    )

-- and no more than there are in all
pub slice_bounds-result-end : goal.slice_bounds-result-end
slice_bounds-result-end c =
    let s = c.args.self.now.senders.now in
    omega (
      arith,
      c.liars_below-to.ensures,
      c.args.self.now.told,
      shorter (is_liar s)
          (c.args.first + c.args.count) (length s.registers) c.requires,
    )

pub slice_bounds-result-count : goal.slice_bounds-result-count
slice_bounds-result-count c = slice_bounds-result-start c

pub offset_bounds-self-from : goal.offset_bounds-self-from
offset_bounds-self-from c =
    omega (arith, slice_bounds-result-start c, slice_bounds-result-end c, c.well_formed)
