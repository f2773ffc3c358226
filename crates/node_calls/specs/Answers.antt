-- What calls of a node answer. Each test comes after those before it.
use Rattle.std.specs.Prelude.{ℕ, ◌==◌, nat_lt, if◌then◌else◌, List, length, Result, Ok, Err}
use Rattle.state_codec.specs.Shapes.{bytes_in}
use Rattle.state_codec.specs.Reading.{read}
use Rattle.state_codec.specs.Writing.{written}
use Rattle.node_stepper.specs.Packets.{Packets, Ending, whole, cut, beyond, packets_of}
use Rattle.node_stepper.specs.Packets.{most_packets}
use Rattle.machines.specs.Machines.{Machine}
use Rattle.node_calls.specs.declared.any_machines.AnyMachine.{AnyMachine}
use Rattle.node_calls.specs.Machines.{machine_of}
use Rattle.node_stepper.specs.Nodes.{state_behind}
use Rattle.node_calls.specs.declared.errors.CallError.{CallError}
use Rattle.node_calls.specs.declared.errors.CallError.TheVariants as error
use Rattle.node_calls.specs.Counters.{and_then, counter_answer}

-- the counter, which has that node
abbrev pub node_answer : (text : List ℕ) → (id : ℕ) → Result AnyMachine CallError
node_answer text id = and_then (counter_answer text)
    (λ counter. if nat_lt id (machine_of counter).nodes then Ok counter else Err error.Node)

-- how many bytes a state of the node has
abbrev pub bytes_answer : (text : List ℕ) → (id : ℕ) → Result ℕ CallError
bytes_answer text id =
    and_then (node_answer text id) (λ counter. Ok (bytes_in ((machine_of counter).fields id)))

-- what follows of bytes that are as many as a state of the node has
abbrev pub over_state : {V : Type 0} → (id : ℕ) → (state : List ℕ)
    → (Machine → Result V CallError) → Machine → Result V CallError
over_state id state next m =
    if length state == bytes_in (m.fields id) then next m else Err error.Length

-- what the node shows in a state
abbrev pub output_in : (id : ℕ) → (state : List ℕ) → Machine → Result ℕ CallError
output_in id state = over_state id state (λ m. Ok (m.shows id (read (m.fields id) state)))

abbrev pub output_answer : (text : List ℕ) → (id : ℕ) → (state : List ℕ) → Result ℕ CallError
output_answer text id state =
    and_then (node_answer text id) (λ counter. output_in id state (machine_of counter))

-- the packets of these bytes, at most 1,000,000
abbrev pub packets_for : Machine → List ℕ → Packets
packets_for m bytes = packets_of m.nodes most_packets 0 bytes

-- how many packets there were, and the new bytes; or why there are none
abbrev pub by_ending : (new : List ℕ) → Ending → Result (ℕ × List ℕ) CallError
by_ending new (whole count) = Ok (count, new)
by_ending new (cut packet sender) = Err (error.Cut packet sender)
by_ending new beyond = Err error.TooLong

-- the bytes of the node's state after packets
abbrev pub bytes_behind : Machine → (id : ℕ) → (state : List ℕ) → List (List (List ℕ)) → List ℕ
bytes_behind m id state packets =
    written (m.fields id) (state_behind m id (read (m.fields id) state) packets)

-- the node after each of its packets
abbrev pub steps_over : (id : ℕ) → (state : List ℕ) → Machine → Packets
    → Result (ℕ × List ℕ) CallError
steps_over id state m packets =
    by_ending (bytes_behind m id state packets.cells) packets.ending

abbrev pub step_in : (id : ℕ) → (state packets : List ℕ) → Machine → Result (ℕ × List ℕ) CallError
step_in id state packets =
    over_state id state (λ m. steps_over id state m (packets_for m packets))

abbrev pub step_answer : (text : List ℕ) → (id : ℕ) → (state packets : List ℕ)
    → Result (ℕ × List ℕ) CallError
step_answer text id state packets =
    and_then (node_answer text id) (λ counter. step_in id state packets (machine_of counter))
