use Rattle.std.proofs.Common.{◌≡◌}
use Rattle.states.specs.Puts.{put_after}
use Rattle.states.specs.Turned.{states_turned}
use Rattle.states.proofs.calling.turn_lines.Given as goal

-- what is put already, and what is left to turn
abbrev pub invariant-loop-number : goal.invariant-loop-number
invariant-loop-number l =
    put_after l.out.items (states_turned l.shape l.left l.number-iterator)
    ≡ states_turned l.shape l.before l.fn.lines
