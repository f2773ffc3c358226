-- Lies that are drawn: each number of a lot has its own part in one.
use Rattle.std.specs.Prelude.{ℕ, ◌+◌, ◌-◌, ◌^◌, ◌==◌, min, max, if◌then◌else◌}
use Rattle.attack.specs.declared.candidates.Say.{Say}
use Rattle.attack.specs.declared.candidates.Say.TheVariants as say
use Rattle.attack.specs.declared.candidates.LieLine.{LieLine}
use Rattle.attack.specs.declared.drawn_lines.Span.{Span}
use Rattle.attack.specs.declared.drawn_lines.Hearers.{Hearers}
use Rattle.attack.specs.Draws.{drawn, below}

-- how many rounds there are after the first: half of the time none, else fewer than a power of two
-- that is drawn too
abbrev pub drawn_more : (seed : ℕ) → ℕ
drawn_more seed = if below seed 1 2 == 0 then 0 else below seed 2 (2 ^ below seed 11 20)

-- some rounds
abbrev pub drawn_span : (seed rounds : ℕ) → Span
drawn_span seed rounds =
    let first = below seed 0 rounds in
    record { first = first; last = min (first + drawn_more seed) (rounds - 1) }

-- all rounds
abbrev pub whole_span : (rounds : ℕ) → Span
whole_span rounds = record { first = 0; last = rounds - 1 }

-- all nodes
abbrev pub all_hear : (nodes : ℕ) → Hearers
all_hear nodes = record { from = 0; to = nodes - 1 }

-- the nodes between two
abbrev pub between : (one other : ℕ) → Hearers
between one other = record { from = min one other; to = max one other }

-- half of the time all nodes, else one or a stretch of them
abbrev pub drawn_hearers : (seed nodes : ℕ) → Hearers
drawn_hearers seed nodes =
    let one = below seed 4 nodes in
    if below seed 3 4 == 0 then between one one
    else if below seed 3 4 == 1 then between one (below seed 5 nodes)
    else all_hear nodes

-- by how much a state is shifted: a little, or by up to 1000
abbrev pub drawn_shift : (seed : ℕ) → ℕ
drawn_shift seed = if below seed 8 2 == 0 then 1 + below seed 7 3 else 1 + below seed 7 1000

-- noise, a copy, a state of its own, or a shift
abbrev pub drawn_say : (seed nodes : ℕ) → Say
drawn_say seed nodes =
    if below seed 6 4 == 0 then say.Noise
    else if below seed 6 4 == 1 then say.Copy (below seed 7 nodes)
    else if below seed 6 4 == 2 then say.Drawn (drawn seed 7)
    else say.Shift (drawn_shift seed)

-- a lie of these parts
abbrev pub lie_of : Span → (sender : ℕ) → Hearers → Say → LieLine
lie_of span sender hearers says = record {
  first = span.first;
  last = span.last;
  sender = sender;
  from = hearers.from;
  to = hearers.to;
  says = says;
}

-- a lie of a sender
abbrev pub drawn_lie : (seed nodes rounds sender : ℕ) → LieLine
drawn_lie seed nodes rounds sender =
    lie_of (drawn_span seed rounds) sender (drawn_hearers seed nodes) (drawn_say seed nodes)
