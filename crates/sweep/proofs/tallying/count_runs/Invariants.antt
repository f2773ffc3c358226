use Rattle.std.proofs.Common.{◌≡◌, ◌-◌}
use Rattle.std.specs.List.{range_with_len}
use Rattle.sweep.specs.Progress.{SaidSoFar}
use Rattle.sweep.specs.Tallies.{AreTallied, HasRoom}
use Rattle.sweep.proofs.tallying.count_runs.Given as goal

abbrev pub invariant-loop-seed : goal.invariant-loop-seed
invariant-loop-seed g l =
    let begun = g.R.Sweepable.swept l.fn.runner in
    let swept = g.R.Sweepable.swept l.runner in
    record {
      locks : swept.locks ≡ begun.locks;
      script : swept.script ≡ record begun.script { key = swept.script.key };
      room : HasRoom begun.script l.tally.items;
      counted : AreTallied begun.locks begun.script
          (range_with_len l.first (l.seed - l.first)) l.tally.items;
      said : SaidSoFar g.E.Sink.told l.count (l.seed - l.first) l.fn.progress l.progress;
    }
