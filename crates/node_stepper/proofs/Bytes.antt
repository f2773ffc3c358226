-- Packets whose cells are bytes that fit are bytes, and so are states that are written.
use Rattle.std.proofs.Common.{ℕ, ◌/◌, ◌%◌, ◌<◌, List, [], ◌∷◌, ◌++◌, length, All}
use Rattle.std.proofs.Common.{arith}
use Rattle.std.proofs.lemmas.List.Elements.{All-nil, All-cons, All-append, All-head, All-tail}
use Rattle.std.proofs.lemmas.List.Elements.{All-from_get_or}
use Rattle.sync_types.specs.States.{State}
use Rattle.state_codec.specs.Shapes.{Fields, bytes_in}
use Rattle.state_codec.specs.Writing.{written, bits_of_state, padding}
use Rattle.state_codec.proofs.Bytes.{bytes_of_bits_below}
use Rattle.node_stepper.specs.Laws.{packet_text}
use Rattle.node_stepper.specs.Nodes.{cell_text}
use Rattle.node_stepper.proofs.CellByCell.{written_size}
use Rattle.node_stepper.specs.Bytes.{AreBytes, FitsCell}

abbrev IsByte : ℕ → Type 0
IsByte byte = byte < 256

cell_bytes : (cell : List ℕ) → FitsCell cell → AreBytes (cell_text cell)
cell_bytes cell fits =
    let short = fits.short in
    All-cons IsByte (length cell / 256) (length cell % 256 ∷ cell) (omega arith)
    (All-cons IsByte (length cell % 256) cell (omega arith) fits.bytes)

pub packet_bytes : (packet : List (List ℕ)) → All FitsCell packet → AreBytes (packet_text packet)
packet_bytes [] fit = All-nil IsByte
packet_bytes (cell ∷ cells) fit =
    All-append IsByte (cell_text cell) (packet_text cells)
    (cell_bytes cell (All-head FitsCell cell cells fit))
    (packet_bytes cells (All-tail FitsCell cell cells fit))

-- no bytes
pub none_fit : FitsCell []
none_fit = record { bytes = All-nil IsByte; short = omega arith }

-- a state that is written
pub written_fits : (fields : Fields) (s : State) → bytes_in fields < 65536
    → FitsCell (written fields s)
written_fits fields s short = record {
  bytes =
      All-from_get_or IsByte (written fields s) 0
      (λ i lt. bytes_of_bits_below (bytes_in fields) (bits_of_state fields s ++ padding fields) i);
  short = let size = written_size fields s in omega (arith, size, short);
}
