-- Small changes of an attack, which are drawn.
use Rattle.std.specs.Prelude.{ℕ, ◌-◌, ◌==◌, nat_lt, Bool, false, List, ◌∷◌}
use Rattle.std.specs.Prelude.{Option, Some, None, if◌then◌else◌, length, map, slice_get}
use Rattle.std.specs.Prelude.{slice_index, slice_set}
use Rattle.std.specs.List.{count_by, insert, remove}
use Rattle.attack.specs.declared.candidates.StartLine.{StartLine}
use Rattle.attack.specs.declared.candidates.LieLine.{LieLine}
use Rattle.attack.specs.declared.drawn_lines.Span.{Span}
use Rattle.attack.specs.declared.drawn_lines.Hearers.{Hearers}
use Rattle.attack.specs.declared.changes.Change.{Change}
use Rattle.attack.specs.declared.changes.Change.TheVariants as change
use Rattle.attack.specs.Draws.{drawn, below}
use Rattle.attack.specs.Attacks.{Attack}
use Rattle.attack.specs.FaultyIds.{others, exchanged}
use Rattle.attack.specs.DrawnLines.{drawn_span, drawn_hearers, drawn_say, drawn_lie}

-- ---- starts

-- whether a start line is that of a node
abbrev pub is_of : (node : ℕ) → Option StartLine → Bool
is_of node None = false
is_of node (Some start) = start.node == node

-- how many start lines stand before that of a node
abbrev pub place_of : (node : ℕ) → List StartLine → ℕ
place_of node starts = count_by (λ start. nat_lt start.node node) starts

-- a start line that is drawn
abbrev pub drawn_start : (seed nodes : ℕ) → StartLine
drawn_start seed nodes = record { node = below seed 1 nodes; seed = drawn seed 2 }

-- the start lines with that of a node, in the place of its old one if there is one
unfoldable pub with_start : StartLine → List StartLine → List StartLine
with_start start starts =
    let place = place_of start.node starts in
    if is_of start.node (slice_get starts place) then slice_set starts place start
    else insert starts place start

-- ---- faulty nodes

-- a lie of a node that has another id now
unfoldable pub renamed : (old new : ℕ) → LieLine → LieLine
renamed old new lie = if lie.sender == old then record lie { sender = new } else lie

-- the correct node at one place takes the place of the faulty one at another, and says what that
-- said
abbrev pub with_exchange : (nodes : ℕ) → (faulty correct : ℕ) → Attack → Attack
with_exchange nodes faulty correct attack =
    let old = slice_index attack.faulty faulty in
    let new = slice_index (others nodes attack.faulty) correct in
    record attack {
      faulty = exchanged nodes attack.faulty correct old;
      lies = map (renamed old new) attack.lies;
    }

-- ---- lies

abbrev pub with_span : Span → LieLine → LieLine
with_span span lie = record lie { first = span.first; last = span.last }

abbrev pub with_hearers : Hearers → LieLine → LieLine
with_hearers hearers lie = record lie { from = hearers.from; to = hearers.to }

-- a lie in other rounds, to others, or with another content
unfoldable pub varied : (seed nodes rounds : ℕ) → LieLine → LieLine
varied seed nodes rounds lie =
    if below seed 12 3 == 0 then with_span (drawn_span seed rounds) lie
    else if below seed 12 3 == 1 then with_hearers (drawn_hearers seed nodes) lie
    else record lie { says = drawn_say seed nodes }

-- the lies, of which the one at a place is varied
abbrev pub with_varied : (seed nodes rounds place : ℕ) → Option LieLine → List LieLine
    → List LieLine
with_varied seed nodes rounds place None lies = lies
with_varied seed nodes rounds place (Some lie) lies =
    slice_set lies place (varied seed nodes rounds lie)

-- the lies with one more before them, while they are fewer than 40
abbrev pub with_lie : LieLine → List LieLine → List LieLine
with_lie lie lies = if nat_lt (length lies) 40 then lie ∷ lies else lies

-- ---- changes

-- of sixteen, three are another key, three another start of a node, one a start line less, two
-- another faulty node, two a lie more, one a lie less, and four vary a lie
abbrev pub change_of : (number : ℕ) → Change
change_of number =
    if nat_lt number 3 then change.Key
    else if nat_lt number 6 then change.Start
    else if number == 6 then change.NoStart
    else if nat_lt number 9 then change.Faulty
    else if nat_lt number 11 then change.More
    else if number == 11 then change.Less
    else change.Vary

-- the attack after a change
unfoldable pub changed_by : Change → (seed nodes rounds : ℕ) → Attack → Attack
changed_by change.Key seed nodes rounds attack = record attack { key = drawn seed 1 }
changed_by change.Faulty seed nodes rounds attack =
    with_exchange nodes (below seed 1 (length attack.faulty))
    (below seed 2 (nodes - length attack.faulty)) attack
changed_by change.Start seed nodes rounds attack =
    record attack { starts = with_start (drawn_start seed nodes) attack.starts }
changed_by change.NoStart seed nodes rounds attack =
    record attack { starts = remove attack.starts (below seed 1 (length attack.starts)) }
changed_by change.More seed nodes rounds attack = record attack {
  lies = with_lie
      (drawn_lie (drawn seed 2) nodes rounds
      (slice_index attack.faulty (below seed 1 (length attack.faulty))))
      attack.lies;
}
changed_by change.Less seed nodes rounds attack =
    record attack { lies = remove attack.lies (below seed 1 (length attack.lies)) }
changed_by change.Vary seed nodes rounds attack =
    let place = below seed 1 (length attack.lies) in
    let lie = slice_get attack.lies place in
    record attack { lies = with_varied (drawn seed 2) nodes rounds place lie attack.lies }

-- the attack after a change that is drawn
abbrev pub changed : (seed nodes rounds : ℕ) → Attack → Attack
changed seed nodes rounds attack =
    changed_by (change_of (below seed 0 16)) seed nodes rounds attack
