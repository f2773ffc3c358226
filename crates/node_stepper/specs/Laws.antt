-- What holds of packets that were written.
use Rattle.std.specs.Prelude.{◌≡◌, ◌<◌, ◌≤◌, ◌+◌, ℕ, List, [], ◌∷◌, length}
use Rattle.std.specs.List.{flat_map}
use Rattle.node_stepper.specs.Packets.{packets_of, whole}
use Rattle.node_stepper.specs.Nodes.{cell_text}

-- the bytes of a packet: its cells, one after the other
abbrev pub packet_text : List (List ℕ) → List ℕ
packet_text packet = flat_map cell_text packet

-- each packet has a cell of each node
abbrev pub AreFull : (nodes : ℕ) → List (List (List ℕ)) → Type 0
AreFull nodes [] = Unit {0}
AreFull nodes (packet ∷ packets) = (length packet ≡ nodes) × AreFull nodes packets

-- packets that are written are the packets that are read
abbrev pub PacketsReadBack : Type 0
PacketsReadBack = (nodes : ℕ) (packets : List (List (List ℕ))) (most from : ℕ)
    → 0 < nodes → AreFull nodes packets → length packets ≤ most
    → packets_of nodes most from (flat_map packet_text packets)
    ≡ record { cells = packets; ending = whole (from + length packets) }
