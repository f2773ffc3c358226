use Rattle.std.proofs.Common.{◌<◌, length, get_or, arith}
use Rattle.std.proofs.lemmas.List.{get_or_default}
use Rattle.sweep.specs.Tallies.{no_runs}
use Rattle.sweep.proofs.Tallied.{room_more, one_counted, known_with}
use Rattle.sweep.proofs.tallying.note.Goals as goal

pub loop-j-preserved : goal.loop-j-preserved
loop-j-preserved g c =
    let swept = g.R.Sweepable.swept c.args.runner.now in
    let tally = c.loop-j.tally in
    let here : c.loop-j.j < length tally =
    omega (arith, c.loop-j-test.true, c.loop-j.auto.tally) in
    let old = get_or tally c.loop-j.j c.index-tally-j.result in
    let is = get_or_default tally c.loop-j.j c.index-tally-j.result no_runs here in
    record {
      room = room_more swept.script tally c.loop-j.j old c.note.new.self here is
          c.loop-j.invariant.room c.note.ensures.first c.note.ensures.size;
      runs = λ script seeds same few are.
          one_counted swept.locks script seeds c.args.seed few c.loop-j.j tally
          old c.note.new.self c.lock_of.result here is c.note.ensures.runs
          (known_with swept.locks script swept.script c.loop-j.j c.args.seed c.lock_of.result
          c.lock_of.ensures.lock same)
          (c.loop-j.invariant.runs script seeds same few are);
    }
