use Rattle.std.proofs.Common.{◌≡◌, [], ◌∷◌, ◌+◌, ◌++◌, ◌∙◌, ap, sym, length, map, arith}
use Rattle.std.specs.List.{range_with_len}
use Rattle.std.proofs.lemmas.List.{length_push}
use Rattle.std.proofs.lemmas.List.FromFn.{map-range_with_len_more}
use Rattle.construction.specs.Plans.{interval_of}
use Rattle.shared_board.proofs.Intervals.{interval_more, interval_most}
use Rattle.shared_board.proofs.rooms.intervals.Goals as goal

-- the next interval is within the span
pub overflow_mul-interval-in-loop : goal.overflow_mul-interval-in-loop
overflow_mul-interval-in-loop c =
    let nums = c.args.nums.now in
    let next = interval_more nums.beat nums.leaders c.loop.counter c.loop.interval c.from.result
    c.loop.invariant.0 c.from.ensures in
    omega (
      arith,
      next,
      interval_most nums c.requires (c.loop.counter + 1)
          (omega (arith, c.loop-test.true)),
    )

-- one more interval
pub loop-preserved : goal.loop-preserved
loop-preserved c =
    let nums = c.args.nums.now in
    let i = c.loop.invariant in
    let f = interval_of nums.beat nums.leaders in
    let room = c.push.ensures.succeeds (omega (arith, i.2, i.3, c.loop-test.true)) in
    let pushed : c.push.new.self.items ≡ c.loop.intervals.items ++ c.loop.interval ∷ [] =
    rw (c.push.ensures.items, room) in (
      interval_more nums.beat nums.leaders c.loop.counter c.loop.interval c.from.result i.0
          c.from.ensures,
      pushed ∙ (ap (λ xs. xs ++ c.loop.interval ∷ []) i.1
          ∙ (ap (λ x. map f (range_with_len 0 c.loop.counter) ++ x ∷ []) i.0
          ∙ sym (map-range_with_len_more f 0 c.loop.counter c.loop.counter (omega arith)))),
      ap length pushed ∙ (length_push c.loop.intervals.items c.loop.interval ∙ omega (arith, i.2)),
      omega (arith, i.3, c.push.ensures.capacity),
    )
