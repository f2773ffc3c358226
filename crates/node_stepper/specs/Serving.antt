-- What serving packets did, in the packets of the bytes that were read.
use Rattle.std.specs.Prelude.{◌≡◌, ℕ, List, [], ◌∷◌, ◌++◌, Option, ◌⊎◌, Result, Ok, Err}
use Rattle.std.specs.Io.KnownBytes.{Consumes, IsAtEnd}
use Rattle.texts.specs.Causes.{Counted}
use Rattle.texts.specs.Growth.{SinkState, Wrote, Cut}
use Rattle.texts.specs.Pending.{AllButLast}
use Rattle.edge_io.specs.Gathering.{held}
use Rattle.edge_io.specs.Writing.{Writes, Finishes}
use Rattle.edge_io.specs.declared.writer.Writer.{Writer}
use Rattle.machines.specs.Machines.{Machine}
use Rattle.node_stepper.specs.declared.faults.Amount.{Amount}
use Rattle.node_stepper.specs.declared.faults.Amount.TheVariants as amount
use Rattle.node_stepper.specs.declared.faults.NodeFault.{NodeFault}
use Rattle.node_stepper.specs.declared.faults.NodeFault.TheVariants as fault
use Rattle.node_stepper.specs.Packets.{packets_of, Packets, IsWithin, whole, cut, beyond}
use Rattle.node_stepper.specs.Packets.{most_packets}
use Rattle.node_stepper.specs.Nodes.{Standing, own, nobody, state_cell, state_behind, node_text}

-- which machine each counter is
module _ {M : Type 0} (machine : M → Machine) where
  -- the engine is the same node, after these packets, and has heard nobody since
  pub record StandsBehind (before after : Standing M) (packets : List (List (List ℕ))) : Type 0
    where
      pub counter : after.counter ≡ before.counter
      pub id : after.id ≡ before.id
      pub state : own after ≡ state_behind (machine before.counter) before.id (own before) packets
      pub none : after.since ≡ nobody (machine before.counter)

  module _ (before : Standing M) where
    -- the packets of an input
    abbrev pub served : List ℕ → Packets
    served bytes = packets_of ((machine before.counter).nodes) most_packets 0 bytes

    -- these bytes do not show that there are too many: none is of packet 1,000,001
    abbrev pub ServicePending : List ℕ → Type 0
    ServicePending bytes = IsWithin (served bytes).ending

    -- what the node writes
    abbrev pub answer : List (List (List ℕ)) → List ℕ
    answer packets = node_text (machine before.counter) before.id (own before) packets

    -- the node's cell after these packets
    abbrev pub cell_behind : List (List (List ℕ)) → List ℕ
    cell_behind packets =
        state_cell (machine before.counter) before.id
        (state_behind (machine before.counter) before.id (own before) packets)

    -- these bytes were read, and a cell was written at the start and for each whole packet of them
    pub record Served (after : Standing M) (old new : Option (List ℕ))
        (s t : SinkState) : Type 0 where
      pub bytes : List ℕ
      pub read : Consumes old new bytes
      pub wrote : Wrote (answer (served bytes).cells) s t
      pub stands : StandsBehind before after (served bytes).cells

    -- these bytes were read, and what was written is cut, whatever may follow
    pub record ServedCut (after : Standing M) (old new : Option (List ℕ)) (s t : SinkState) : Type 0
      where
        pub bytes : List ℕ
        pub read : Consumes old new bytes
        pub cut : (rest : List ℕ) → Cut (answer (served (bytes ++ rest)).cells) s t
        pub stands : StandsBehind before after (served bytes).cells

    -- What serving did. `TooLong` is answered at the first byte of packet 1,000,001, and a read
    -- fault comes only before it.
    abbrev pub Serves : (after : Standing M) (old new : Option (List ℕ)) (s t : SinkState)
        → Result ℕ NodeFault → Type 0
    Serves after old new s t (Ok n) =
        (d : Served after old new s t) × ((served d.bytes).ending ≡ whole n) × IsAtEnd new
    Serves after old new s t (Err (fault.Cut packet sender)) =
        (d : Served after old new s t) × ((served d.bytes).ending ≡ cut packet sender) × IsAtEnd new
    Serves after old new s t (Err fault.TooLong) =
        (d : Served after old new s t)
        × ((rest : List ℕ)
        → served (d.bytes ++ rest) ≡ record { cells = (served d.bytes).cells; ending = beyond })
        × AllButLast ServicePending d.bytes
    Serves after old new s t (Err fault.ReadFault) =
        (d : Served after old new s t) × ServicePending d.bytes
    Serves after old new s t (Err fault.WriteFault) = ServedCut after old new s t

-- a writer passed on all that it held
abbrev pub EndsWell : {K : Type 0} → (told : K → SinkState) → (old new : Writer K) → Type 0
EndsWell told old new = Finishes told (let r : Result ℕ NodeFault = Ok 0 in r) old new

-- What hearing a packet did to the writer of the cells. Nothing is held back any more if anything
-- was asked of the source (`Still` says that nothing was), and before each answer but a packet.
abbrev pub PassesOn : {K : Type 0} → (told : K → SinkState) → (Still : Type 0)
    → Result Amount NodeFault → (old new : Writer K) → Type 0
PassesOn told Still (Ok amount.Whole) old new =
    Writes told [] old new × (Still ⊎ (held new ≡ []))
PassesOn told Still (Ok (amount.Cut sender)) old new = EndsWell told old new
PassesOn told Still (Ok amount.Nothing) old new = EndsWell told old new
PassesOn told Still (Err fault.ReadFault) old new = EndsWell told old new
PassesOn told Still (Err fault.WriteFault) old new =
    Finishes told (let r : Result ℕ NodeFault = Err fault.WriteFault in r) old new × Still
PassesOn told Still (Err (fault.Cut packet sender)) old new = ⊥
PassesOn told Still (Err fault.TooLong) old new = ⊥

-- only a read fault is counted; `Dry` holds after it
abbrev pub HasServeCause : {V : Type 0} → (before now : ℕ) → (Dry : Type 0) → Result V NodeFault
    → Type 0
HasServeCause before now Dry (Err fault.ReadFault) = Counted before now × Dry
HasServeCause before now Dry other = now ≡ before
