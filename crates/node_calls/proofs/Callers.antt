-- A node over packets makes such steps as the calls answer, each after one packet.
use Rattle.std.proofs.Common.{◌≡◌, ℕ, zero, suc, ◌+◌, ◌<◌, List, [], ◌∷◌, length, take, get_or}
use Rattle.std.proofs.Common.{Result, Ok, refl, sym, ap, ◌∙◌, append-nil, arith}
use Rattle.std.proofs.lemmas.Bool.{eq-eqb}
use Rattle.std.proofs.lemmas.List.{take_more}
use Rattle.sync_types.specs.States.{State}
use Rattle.state_codec.specs.Shapes.{bytes_in}
use Rattle.state_codec.specs.Writing.{written}
use Rattle.node_stepper.specs.Packets.{Packets, whole, most_packets}
use Rattle.node_stepper.specs.Laws.{packet_text, AreFull}
use Rattle.node_stepper.specs.Nodes.{state_after, state_behind}
use Rattle.node_stepper.proofs.CellByCell.{written_size}
use Rattle.node_stepper.proofs.NodeTexts.{state_push}
use Rattle.node_stepper.proofs.ReadBack.{packets_back}
use Rattle.machines.specs.Machines.{Machine, IsState}
use Rattle.machines.specs.Laws.{IsSound}
use Rattle.node_calls.specs.declared.any_machines.AnyMachine.{AnyMachine}
use Rattle.node_calls.specs.Machines.{machine_of}
use Rattle.node_stepper.proofs.States.{reads_back, behind_is_state}
use Rattle.node_calls.specs.declared.errors.CallError.{CallError}
use Rattle.node_calls.specs.Counters.{counter_answer}
use Rattle.node_calls.specs.Answers.{packets_for, bytes_behind, steps_over, step_in}
use Rattle.node_calls.specs.Answers.{step_answer}
use Rattle.node_calls.specs.Counting.{cell_in}
use Rattle.node_calls.proofs.Counters.{sound_of}
use Rattle.node_calls.proofs.Counting.{step_in_counter}

full_at : (nodes : ℕ) (packets : List (List (List ℕ))) → AreFull nodes packets → (t : ℕ)
    → t < length packets → length (get_or packets t []) ≡ nodes
full_at nodes [] full t lt = absurd (omega arith)
full_at nodes (packet ∷ packets) full zero lt = full.0
full_at nodes (packet ∷ packets) full (suc t) lt = full_at nodes packets full.1 t (omega arith)

module _ (text : List ℕ) (counter : AnyMachine) (is : counter_answer text ≡ Ok counter) where
  abbrev m : Machine
  m = machine_of counter

  sound : IsSound m
  sound = sound_of text counter is

  -- the bytes of one packet
  one_packet : (packet : List (List ℕ)) → length packet ≡ m.nodes → 0 < m.nodes
      → packets_for m (packet_text packet)
      ≡ record { cells = packet ∷ []; ending = whole (0 + 1) }
  one_packet packet full some =
      ap (packets_for m) (sym (append-nil (packet_text packet)))
      ∙ packets_back m.nodes (packet ∷ []) most_packets 0 some (full, tt) (omega arith)

  -- a call with as many bytes as a state has
  tested : (v : ℕ) (state packets : List ℕ) → length state ≡ bytes_in (m.fields v)
      → step_in v state packets m ≡ steps_over v state m (packets_for m packets)
  tested v state packets long = rw (eq-eqb (length state) (bytes_in (m.fields v)) long) refl

  -- a call after one packet
  module _ (v : ℕ) (node : v < m.nodes) (s : State) (begun : IsState m v s)
      (packet : List (List ℕ)) (full : length packet ≡ m.nodes) where
    abbrev bytes_of : State → List ℕ
    bytes_of state = written (m.fields v) state

    long : length (bytes_of s) ≡ bytes_in (m.fields v)
    long = written_size (m.fields v) s

    packets_are : packets_for m (packet_text packet)
        ≡ record { cells = packet ∷ []; ending = whole (0 + 1) }
    packets_are = one_packet packet full (omega (arith, node))

    step_is : step_in v (bytes_of s) (packet_text packet) m
        ≡ Ok (1, bytes_behind m v (bytes_of s) (packet ∷ []))
    step_is =
        tested v (bytes_of s) (packet_text packet) long
        ∙ ap (steps_over v (bytes_of s) m) packets_are

    steps_on : step_answer text v (bytes_of s) (packet_text packet)
        ≡ Ok (1, bytes_of (state_after m v s packet))
    steps_on =
        step_in_counter text counter is v node (bytes_of s) (packet_text packet)
        ∙ step_is
        ∙ ap (λ (state : State). let r : Result (ℕ × List ℕ) CallError =
        Ok (1, bytes_of (state_after m v state packet)) in r)
        (reads_back m sound v node s begun)

  -- a node that is given these packets
  module _ (v : ℕ) (node : v < m.nodes) (packets : List (List (List ℕ)))
      (full : AreFull m.nodes packets) (t : ℕ) (early : t < length packets) where
    abbrev packet : List (List ℕ)
    packet = get_or packets t []

    pub packet_full : length packet ≡ m.nodes
    packet_full = full_at m.nodes packets full t early

    -- a caller is given its cells
    pub cell_is : (u : ℕ) → cell_in m (packet_text packet) u ≡ get_or packet u []
    cell_is u =
        ap (λ (p : Packets). get_or (get_or p.cells 0 []) u [])
        (one_packet packet packet_full (omega (arith, node)))

    -- and steps as it does
    module _ (start : State) (begun : IsState m v start) where
      abbrev state : (i : ℕ) → State
      state i = state_behind m v start (take i packets)

      next : state (t + 1) ≡ state_after m v (state t) packet
      next =
          ap (state_behind m v start) (take_more packets t [] early)
          ∙ state_push m v start (take t packets) packet

      pub caller_steps_on :
          step_answer text v (written (m.fields v) (state t)) (packet_text packet)
          ≡ Ok (1, written (m.fields v) (state (t + 1)))
      caller_steps_on =
          steps_on v node (state t)
          (behind_is_state m sound v node start (take t packets) begun) packet packet_full
          ∙ ap (λ (s : State). let r : Result (ℕ × List ℕ) CallError =
          Ok (1, written (m.fields v) s) in r) (sym next)
