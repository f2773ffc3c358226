-- Bits on their way to bytes, of which some wait in a number after those that are held.
use Rattle.std.specs.Prelude.{ℕ, ◌+◌, ◌*◌, Bool, List, ◌++◌}
use Rattle.state_codec.specs.Bits.{bits}
use Rattle.state_codec.specs.Cursors.{so_far}
use Rattle.state_codec.specs.declared.pieces.Waiting.{Waiting}

-- the bits written so far, those held, and those of the number that waits
abbrev pub said_so_far : List ℕ → Waiting → List Bool
said_so_far out waiting =
    so_far out waiting.pending.at waiting.pending.count waiting.pending.held
    ++ bits waiting.number.size waiting.number.value

-- how many they are
abbrev pub bits_so_far : Waiting → ℕ
bits_so_far waiting = 8 * waiting.pending.at + waiting.pending.count + waiting.number.size
