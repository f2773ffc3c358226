-- Packets that are written are read back.
use Rattle.std.proofs.Common.{◌≡◌, ℕ, zero, suc, ◌+◌, ◌*◌, ◌/◌, ◌%◌, ◌<◌, List, [], ◌∷◌, ◌++◌}
use Rattle.std.proofs.Common.{length, Some, Ok, refl, sym, ap, ◌∙◌, append_assoc, length-append}
use Rattle.std.proofs.Common.{arith}
use Rattle.std.specs.List.{flat_map}
use Rattle.node_stepper.specs.Packets.{cell_at, onto_cell, cells_of, Packets, whole, onto_packet}
use Rattle.node_stepper.specs.Nodes.{cell_text}
use Rattle.node_stepper.specs.Laws.{packet_text, PacketsReadBack}
use Rattle.node_stepper.proofs.CellByCell.{whole_cell}
use Rattle.node_stepper.proofs.PacketByPacket.{cells_next}
use Rattle.node_stepper.proofs.Packets.{packets_next}

cell_back : (cell rest : List ℕ) → cell_at (cell_text cell ++ rest) ≡ Some (cell, rest)
cell_back cell rest =
    let n = length cell in
    let size : n ≡ 256 * (n / 256) + n % 256 = omega arith in
    whole_cell (n / 256) (n % 256) cell rest size

cells_back : (cells : List (List ℕ)) (sender : ℕ) (rest : List ℕ)
    → cells_of (length cells) sender (packet_text cells ++ rest) ≡ Ok (cells, rest)
cells_back [] sender rest = refl
cells_back (cell ∷ cells) sender rest =
    let behind = packet_text cells ++ rest in
    ap (cells_of (suc (length cells)) sender) (append_assoc (cell_text cell) (packet_text cells)
    rest)
    ∙ cells_next (length cells) sender (cell_text cell ++ behind) cell behind
    (cell_back cell behind)
    ∙ ap (onto_cell cell) (cells_back cells (sender + 1) rest)

some_bytes : (packet : List (List ℕ)) → 0 < length packet → 0 < length (packet_text packet)
some_bytes [] some = absurd (omega arith)
some_bytes (cell ∷ cells) some = omega (arith, length-append (cell_text cell) (packet_text cells))

pub packets_back : PacketsReadBack
packets_back nodes [] most from some full few =
    let e : from ≡ from + 0 = omega arith in
    ap (λ n. let p : Packets = record { cells = []; ending = whole n } in p) e
packets_back nodes (packet ∷ packets) zero from some full few = absurd (omega (arith, few))
packets_back nodes (packet ∷ packets) (suc most) from some (size, full) few =
    let rest = flat_map packet_text packets in
    let here : cells_of nodes 0 (packet_text packet ++ rest) ≡ Ok (packet, rest) =
    ap (λ n. cells_of n 0 (packet_text packet ++ rest)) (sym size) ∙ cells_back packet 0 rest in
    let count : from + 1 + length packets ≡ from + length (packet ∷ packets) = omega arith in
    packets_next nodes most from (packet_text packet) rest packet
    (some_bytes packet (omega (arith, some, size))) here
    ∙ ap (onto_packet packet) (packets_back nodes packets most (from + 1) some full
    (omega (arith, few)))
    ∙ ap (λ n. let p : Packets = record { cells = packet ∷ packets; ending = whole n } in p) count
