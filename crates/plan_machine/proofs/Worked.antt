-- A worked value: four nodes that count by ten, all of which begin in zero states.
use Rattle.std.proofs.Common.{◌≡◌, ℕ, List, [], ◌∷◌, Some, refl}
use Rattle.sync_types.specs.States.{zero_state}
use Rattle.construction.specs.Plans.{Plan}
use Rattle.construction.specs.Widths.{width}
use Rattle.state_codec.specs.Bits.{bits, number_of, bytes_of_bits}
use Rattle.plan_numbers.specs.Numbers.{line}
use Rattle.state_codec.specs.Shapes.{registers_bits, moduli_of}
use Rattle.state_codec.specs.Reading.{read, registers_from}
use Rattle.state_codec.specs.Writing.{bits_of_registers}
use Rattle.plan_machine.specs.PlanMachines.{machine_of_plan}
use Rattle.node_stepper.specs.Nodes.{node_text}
use Rattle.plan_machine.specs.NodeRuns.{Nodes, cell_given, fields_of, state_at}
use Rattle.node_stepper.specs.Cells.{cell_number}

abbrev four : Plan
four = record { version = 1; base = 2304; levels = line 4 1 10 0 ∷ [] }

-- a packet: the cells of the correct nodes, and that of node 3
abbrev packet : (cell other : List ℕ) → List (List ℕ)
packet cell other = cell ∷ cell ∷ cell ∷ other ∷ []

-- what node 3, which is faulty, sends has another length in each round
abbrev nodes : Nodes
nodes = record {
  starts = λ v. zero_state 1;
  packets = λ v.
      packet (0 ∷ 0 ∷ 0 ∷ []) []
      ∷ packet (0 ∷ 17 ∷ 0 ∷ []) (255 ∷ 255 ∷ 255 ∷ 7 ∷ [])
      ∷ [];
}

-- what each correct node hears of node 1 is its state, after no packet and after one
heard_first : read (fields_of four 1) (cell_given nodes 0 0 1) ≡ state_at four nodes 0 1
unfolding moduli_of registers_bits registers_from bits number_of width
heard_first = refl

heard_second : read (fields_of four 1) (cell_given nodes 1 0 1) ≡ state_at four nodes 1 1
unfolding moduli_of registers_bits registers_from bits number_of width
heard_second = refl

-- and that is what node 0 writes too
wrote : cell_number 1 (node_text (machine_of_plan four) 0 (zero_state 1) (nodes.packets 0))
    ≡ Some (0 ∷ 17 ∷ 0 ∷ [])
unfolding moduli_of registers_bits bits_of_registers registers_from bits number_of bytes_of_bits
    width
wrote = refl
