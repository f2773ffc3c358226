-- Cells and packets.
use Rattle.std.specs.Prelude.{ℕ, zero, suc, ◌+◌, ◌*◌, List, [], ◌∷◌, length, take, drop, nat_le}
use Rattle.std.specs.Prelude.{if◌then◌else◌, Option, Some, None, Result, Ok, Err}

-- the cell at the beginning, two bytes of length, high byte first, and so many bytes, and what
-- follows
abbrev pub cell_at : List ℕ → Option (List ℕ × List ℕ)
cell_at [] = None
cell_at (high ∷ []) = None
cell_at (high ∷ low ∷ bytes) =
    let size = 256 * high + low in
    if nat_le size (length bytes) then Some (take size bytes, drop size bytes) else None

abbrev pub onto_cell : List ℕ → Result (List (List ℕ) × List ℕ) ℕ
    → Result (List (List ℕ) × List ℕ) ℕ
onto_cell cell (Ok (cells, behind)) = Ok (cell ∷ cells, behind)
onto_cell cell (Err sender) = Err sender

-- so many cells, the first of which is that of `sender`, and what follows them; or the first sender
-- whose cell is not whole
abbrev pub cells_of : ℕ → (sender : ℕ) → List ℕ → Result (List (List ℕ) × List ℕ) ℕ
cells_of zero sender bytes = Ok ([], bytes)
cells_of (suc n) sender bytes = elim (cell_at bytes) [
  | None ↦ Err sender
  | Some cell ↦ onto_cell (cell.0) (cells_of n (sender + 1) (cell.1))
]

-- how packets end: after so many whole ones, inside a packet and the cell of a sender, or with a
-- byte of a packet too many
pub data Ending : Type 0 where
  whole : ℕ → Ending
  cut : ℕ → ℕ → Ending
  beyond : Ending

-- no byte of them is one of a packet too many
abbrev pub IsWithin : Ending → Type 0
IsWithin (whole count) = Unit {0}
IsWithin (cut packet sender) = Unit {0}
IsWithin beyond = ⊥

-- the whole packets at the beginning, and how they end
pub record Packets : Type 0 where
  pub cells : List (List (List ℕ))
  pub ending : Ending

abbrev pub onto_packet : List (List ℕ) → Packets → Packets
onto_packet packet packets = record { cells = packet ∷ packets.cells; ending = packets.ending }

-- how many packets are answered at most
abbrev pub most_packets : ℕ
most_packets = 1000000

-- at most so many packets of so many nodes, the first of which has the number `from`
abbrev pub packets_of : (nodes : ℕ) → (most from : ℕ) → List ℕ → Packets
packets_of nodes most from [] = record { cells = []; ending = whole from }
packets_of nodes zero from (b ∷ bytes) = record { cells = []; ending = beyond }
packets_of nodes (suc most) from (b ∷ bytes) = elim (cells_of nodes 0 (b ∷ bytes)) [
  | Err sender ↦ record { cells = []; ending = cut from sender }
  | Ok packet ↦ onto_packet (packet.0) (packets_of nodes most (from + 1) (packet.1))
]
