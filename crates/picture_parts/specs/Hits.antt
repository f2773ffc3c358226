-- What shows that the start of an era put a node into another state.
use Rattle.std.specs.Prelude.{ℕ, ◌+◌, ◌==◌, ◌||◌, ◌&&◌, nat_le, Bool}

-- Whether a count may go on so: by one, or from its largest number to 0. It goes at least up to
-- `most`, which was seen.
abbrev pub may_follow : (most before after : ℕ) → Bool
may_follow most before after = (after == before + 1) || ((after == 0) && nat_le most before)
