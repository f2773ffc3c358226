use Rattle.std.proofs.Common.{◌≡◌, ℕ, ◌+◌, ◌<◌, ◌^◌, List, length}
use Rattle.adversary_script.specs.Scripts.{Script}
use Rattle.sweep.specs.Keys.{keyed}
use Rattle.sweep.specs.Tallies.{AreTallied, HasRoom}
use Rattle.sweep.proofs.Tallied.{CountedBelow}
use Rattle.sweep.proofs.tallying.note.Given as goal

abbrev pub invariant-loop-j : goal.invariant-loop-j
invariant-loop-j g l =
    let swept = g.R.Sweepable.swept l.runner in
    record {
      room : HasRoom swept.script l.tally;
      runs : (script : Script) (seeds : List ℕ) → swept.script ≡ keyed script l.seed
          → length seeds + 1 < 2 ^ 64 → AreTallied swept.locks script seeds l.fn.tally
          → CountedBelow swept.locks script seeds l.seed l.j l.tally;
    }
