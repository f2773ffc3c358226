-- Inputs are bytes, if what is sent fits into cells.
use Rattle.std.proofs.Common.{◌≡◌, ℕ, zero, suc, ◌<◌, List, [], ◌∷◌, ◌++◌, length, get_or, All}
use Rattle.std.proofs.Common.{arith}
use Rattle.std.specs.List.{flat_map}
use Rattle.std.proofs.lemmas.List.Elements.{All-nil, All-append, All-head, All-tail}
use Rattle.std.proofs.lemmas.List.Elements.{All-from_get_or}
use Rattle.sync_types.specs.States.{State}
use Rattle.machines.specs.Machines.{Machine}
use Rattle.node_stepper.specs.Laws.{packet_text, AreFull}
use Rattle.node_stepper.specs.Bytes.{AreBytes, FitsCell, StatesFit, AllFit}
use Rattle.node_stepper.specs.RunLaws.{Connects}
use Rattle.node_stepper.specs.Lossy.{ConnectsMost}
use Rattle.node_stepper.proofs.Bytes.{packet_bytes}
use Rattle.node_stepper.proofs.Fitting.{cells_fit, lossy_cells_fit}

abbrev IsByte : ℕ → Type 0
IsByte byte = byte < 256

abbrev pub PacketsFit : List (List (List ℕ)) → Type 0
PacketsFit packets = All (All FitsCell) packets

-- packets after a header
pub input_bytes : (header : List ℕ) (packets : List (List (List ℕ))) → AreBytes header
    → PacketsFit packets → AreBytes (header ++ flat_map packet_text packets)
input_bytes header packets are fit =
    All-append IsByte header (flat_map packet_text packets) are (all_bytes packets fit) where
      all_bytes : (packets : List (List (List ℕ))) → PacketsFit packets
          → AreBytes (flat_map packet_text packets)
      all_bytes [] fit = All-nil IsByte
      all_bytes (packet ∷ packets) fit =
          All-append IsByte (packet_text packet) (flat_map packet_text packets)
          (packet_bytes packet (All-head (All FitsCell) packet packets fit))
          (all_bytes packets (All-tail (All FitsCell) packet packets fit))

full_at : (nodes : ℕ) (packets : List (List (List ℕ))) → AreFull nodes packets → (t : ℕ)
    → t < length packets → length (get_or packets t []) ≡ nodes
full_at nodes [] full t lt = absurd (omega (arith, lt))
full_at nodes (packet ∷ packets) full zero lt = full.0
full_at nodes (packet ∷ packets) full (suc t) lt =
    full_at nodes packets full.1 t (omega (arith, lt))

-- packets of which each cell fits
packets_fit : (nodes : ℕ) (packets : List (List (List ℕ))) → AreFull nodes packets
    → ((t u : ℕ) → t < length packets → u < nodes → FitsCell (get_or (get_or packets t []) u []))
    → PacketsFit packets
packets_fit nodes packets full fit =
    All-from_get_or (All FitsCell) packets [] (λ t lt.
    All-from_get_or FitsCell (get_or packets t []) [] (λ u ult.
    let size = full_at nodes packets full t lt in fit t u lt (omega (arith, ult, size))))

module _ (m : Machine) (short : StatesFit m) (faulty : List ℕ) (starts : ℕ → State)
    (sent : ℕ → ℕ → ℕ → List ℕ) (begins : ℕ → ℕ) (rounds : ℕ) (fits : AllFit m sent) where
  -- of connected nodes
  pub connected_fit : (c : Connects m faulty starts sent begins rounds) (v : ℕ)
      → PacketsFit (c.nodes.packets v)
  connected_fit c v =
      packets_fit m.nodes (c.nodes.packets v) (c.full v) (λ t u lt ult.
      let long = c.long v in
      cells_fit m short faulty starts sent begins rounds fits c t v u (omega (arith, lt, long)) ult)

  -- and of those to which cells are lost
  pub lossy_fit : (missed : (i v : ℕ) → List ℕ)
      (c : ConnectsMost m faulty starts sent missed begins rounds) (v : ℕ)
      → PacketsFit (c.nodes.packets v)
  lossy_fit missed c v =
      packets_fit m.nodes (c.nodes.packets v) (c.full v) (λ t u lt ult.
      let long = c.long v in
      lossy_cells_fit m short faulty starts sent begins rounds fits missed c t v u
      (omega (arith, lt, long)) ult)
