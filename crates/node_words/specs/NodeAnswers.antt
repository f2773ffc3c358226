-- What a node makes of an input: a header, and after it packets.
use Rattle.std.specs.Prelude.{ℕ, ◌+◌, ◌≤◌, List, [], length, Option, Some, None, Result, Ok}
use Rattle.std.specs.Prelude.{Err}
use Rattle.texts.specs.Lines.{lines_of, whole_lines}
use Rattle.texts.specs.Limits.{room_in, behind_lines, longest_input}
use Rattle.node_words.specs.declared.headers.HeaderRefusal.{HeaderRefusal}
use Rattle.node_words.specs.HeaderParts.{HeaderOf, header_in}
use Rattle.node_words.specs.FedHeaders.{HeaderPending}
use Rattle.node_stepper.specs.declared.faults.NodeFault.{NodeFault}
use Rattle.node_stepper.specs.declared.faults.NodeFault.TheVariants as fault
use Rattle.node_stepper.specs.Nodes.{node_text}
use Rattle.node_stepper.specs.Packets.{Ending, whole, cut, beyond, IsWithin, Packets, packets_of}
use Rattle.node_stepper.specs.Packets.{most_packets}
use Rattle.node_words.specs.declared.errors.NodeError.{NodeError}
use Rattle.node_words.specs.declared.errors.NodeError.TheVariants as error
use Rattle.node_words.specs.Constructions.{Words}
use Rattle.node_words.specs.Rules.{header_line}

-- how a call ends if no read or write fails, and the text that is written
pub record Outcome (Premise : Type 0) : Type 0 where
  pub ended : Result ℕ (NodeError Premise)
  pub text : List ℕ

-- of a header that is too long nothing is written
abbrev pub too_long : {Premise : Type 0} → Outcome Premise
too_long = record { ended = Err error.TooLong; text = [] }

-- how packets end
abbrev pub ending_of : {Premise : Type 0} → Ending → Result ℕ (NodeError Premise)
ending_of (whole count) = Ok count
ending_of (cut packet sender) = Err (error.Cut packet sender)
ending_of beyond = Err error.TooLong

-- how a service ends
abbrev pub ended_by : {Premise : Type 0} → Result ℕ NodeFault → Result ℕ (NodeError Premise)
ended_by (Ok count) = Ok count
ended_by (Err fault.ReadFault) = Err error.ReadFault
ended_by (Err fault.WriteFault) = Err error.WriteFault
ended_by (Err (fault.Cut packet sender)) = Err (error.Cut packet sender)
ended_by (Err fault.TooLong) = Err error.TooLong

module _ {Reader Plan Premise : Type 0} (words : Words Reader Plan Premise) where
  -- the outcome of a header that is refused, or, at None, too long
  abbrev pub refused_header : Option (HeaderRefusal Premise) → Outcome Premise
  refused_header None = too_long
  refused_header (Some refused) =
      record { ended = Err (error.Refused refused); text = header_line words refused }

  -- the packets that follow
  abbrev pub packets_for : HeaderOf Plan → List ℕ → Packets
  packets_for h bytes = packets_of (words.machine h.plan).nodes most_packets 0 bytes

  -- the node's cells: at the start, and after each whole packet
  abbrev pub cells_for : HeaderOf Plan → Packets → List ℕ
  cells_for h packets =
      node_text (words.machine h.plan) h.node.id h.node.state packets.cells

  abbrev pub served_outcome : HeaderOf Plan → Packets → Outcome Premise
  served_outcome h packets =
      record { ended = ending_of packets.ending; text = cells_for h packets }

  abbrev pub behind_header : List ℕ → Result (HeaderOf Plan) (Option (HeaderRefusal Premise))
      → Outcome Premise
  behind_header input (Err refused) = refused_header refused
  behind_header input (Ok h) = served_outcome h (packets_for h (behind_lines h.lines input))

  -- the header has at most 2^20 bytes; what follows it has no such limit
  abbrev pub node_outcome : List ℕ → Outcome Premise
  node_outcome input =
      behind_header input (header_in words.part (room_in longest_input input) (lines_of input))

  -- these bytes are a whole header, which is not too long, and none of the bytes after it is of a
  -- packet too many
  pub record PacketsPending (seen : List ℕ) (h : HeaderOf Plan) : Type 0 where
    pub header : length seen ≤ longest_input + length (behind_lines h.lines seen)
    pub packets : IsWithin (packets_for h (behind_lines h.lines seen)).ending

  -- Bytes that do not show what decides an input: they do not show what decides its header, or do
  -- not show what decides the packets after it.
  abbrev pub pending_behind : (seen : List ℕ)
      → Result (HeaderOf Plan) (Option (HeaderRefusal Premise)) → Type 0
  pending_behind seen (Err refused) = HeaderPending words.part seen
  pending_behind seen (Ok h) = PacketsPending seen h

  abbrev pub IsNodePending : List ℕ → Type 0
  IsNodePending seen = pending_behind seen (header_in words.part None (whole_lines seen))

  -- what is written if a read fails after these bytes: the cells, once the header is whole
  abbrev pub cells_so_far : List ℕ → Result (HeaderOf Plan) (Option (HeaderRefusal Premise))
      → List ℕ
  cells_so_far seen (Err refused) = []
  cells_so_far seen (Ok h) = cells_for h (packets_for h (behind_lines h.lines seen))

  abbrev pub node_so_far : List ℕ → List ℕ
  node_so_far seen = cells_so_far seen (header_in words.part None (whole_lines seen))
