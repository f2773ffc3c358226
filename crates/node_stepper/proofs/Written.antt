-- A node writes its states, cell by cell.
use Rattle.std.proofs.Common.{◌≡◌, ℕ, zero, suc, ◌+◌, ◌*◌, ◌/◌, ◌%◌, List, [], ◌∷◌, ◌++◌, length}
use Rattle.std.proofs.Common.{Some, refl, ◌∙◌, arith}
use Rattle.state_codec.specs.Writing.{written}
use Rattle.node_stepper.specs.Packets.{cell_at}
use Rattle.node_stepper.specs.Nodes.{cell_text, state_after, node_text}
use Rattle.node_stepper.proofs.CellByCell.{whole_cell}
use Rattle.node_stepper.specs.Cells.{cell_number, NodeWritesStates}

cell_back : (cell rest : List ℕ) → cell_at (cell_text cell ++ rest) ≡ Some (cell, rest)
cell_back cell rest =
    let n = length cell in
    let size : n ≡ 256 * (n / 256) + n % 256 = omega arith in
    whole_cell (n / 256) (n % 256) cell rest size

number_first : (cell rest : List ℕ) → cell_number 0 (cell_text cell ++ rest) ≡ Some cell
number_first cell rest = rw (cell_number, cell_back cell rest) refl

number_next : (t : ℕ) (cell rest : List ℕ)
    → cell_number (suc t) (cell_text cell ++ rest) ≡ cell_number t rest
number_next t cell rest = rw (cell_number, cell_back cell rest) refl

pub node_writes_states : NodeWritesStates
node_writes_states m v s [] zero le = number_first (written (m.fields v) s) []
node_writes_states m v s (packet ∷ packets) zero le =
    number_first (written (m.fields v) s)
    (node_text m v (state_after m v s packet) packets)
node_writes_states m v s [] (suc t) le = absurd (omega arith)
node_writes_states m v s (packet ∷ packets) (suc t) le =
    number_next t (written (m.fields v) s)
    (node_text m v (state_after m v s packet) packets)
    ∙ node_writes_states m v (state_after m v s packet) packets t (omega arith)
