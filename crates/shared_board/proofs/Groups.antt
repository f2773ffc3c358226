-- The numbers of a group, as its calls want them.
use Rattle.std.proofs.Common.{◌≡◌, ◌+◌, ◌*◌, ◌<◌, ◌≤◌, All, length, sym, ap, ◌∙◌, subst, arith}
use Rattle.std.specs.List.{range_with_len}
use Rattle.std.proofs.lemmas.Nat.{mul-le}
use Rattle.std.proofs.lemmas.List.{get_or-map, length-map}
use Rattle.std.proofs.lemmas.List.FromFn.{length-map-range_with_len}
use Rattle.construction.specs.Plans.{interval_of}
use Rattle.shared_board.specs.GroupVotes.{IsGroup}
use Rattle.shared_board.specs.declared.group.Group.{Group}
use Rattle.shared_board.proofs.Intervals.{interval_some}

pub record Facts (group : Group) : Type 0 where
  pub some_intervals : All (λ interval. 1 ≤ interval) group.intervals.items
  pub long : length group.intervals.items ≡ group.nums.blocks
  pub size : group.nums.nodes ≡ group.nums.blocks * group.block + group.nums.spares
  pub some_leaders : 2 ≤ group.nums.leaders
  pub few_leaders : group.nums.leaders ≤ group.nums.blocks
  pub leaders_fit : group.nums.leaders * group.block ≤ group.nums.blocks * group.block
  pub beat : 6 ≤ group.nums.beat
  pub quorum : 3 * group.nums.faults < group.nums.nodes

pub facts : (group : Group) → IsGroup group → Facts group
facts group is =
    let numbers = is.numbers in
    let sized = numbers.sized in
    let nums = group.nums in
    let many : nums.leaders ≤ nums.blocks = omega (arith, numbers.leaders, sized.blocks) in
    record {
      some_intervals = subst (All (λ interval. 1 ≤ interval)) (sym is.intervals) (λ k d lt.
          let f = interval_of nums.beat nums.leaders in
          let long = length-map (range_with_len 0 nums.blocks) f in
          subst (λ x. 1 ≤ x) (sym
          (get_or-map f (range_with_len 0 nums.blocks) k 0 d (omega (arith, long, lt))))
          (interval_some nums numbers _));
      long = ap length is.intervals
          ∙ length-map-range_with_len (interval_of nums.beat nums.leaders) 0 nums.blocks;
      size = sized.whole ∙ ap (λ n. nums.blocks * n + nums.spares) (sym is.block);
      some_leaders = sized.leaders;
      few_leaders = many;
      leaders_fit = mul-le nums.leaders group.block nums.blocks group.block many (omega arith);
      beat = sized.beat;
      quorum = sized.below.quorum;
    }
