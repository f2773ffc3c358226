-- Where in the bits of a node's states their output stands, bit 0 being the highest bit of the first
-- byte.
use Rattle.std.specs.Prelude.{◌≡◌, ℕ, ◌+◌, ◌<◌, ◌==◌, if◌then◌else◌, List, length, take, drop}
use Rattle.std.specs.Prelude.{unwrap_or}
use Rattle.construction.specs.Widths.{width}
use Rattle.state_codec.specs.Bits.{number_of, bits_of_bytes}
use Rattle.state_codec.specs.Reading.{below, read}
use Rattle.halving_plan.specs.Plans.{HalvingNumbers, IsAccepted}
use Rattle.halving_plan.specs.Fields.{fields_of}
use Rattle.halving_plan.specs.Laws.{machine_in}
use Rattle.halving_plan.specs.Sizes.{node_bytes}

-- from which bit on: after the node's number, which is the output if the node is alone
abbrev pub output_start : HalvingNumbers → (v : ℕ) → ℕ
output_start plan v = if plan.faults == 0 then 0 else width (fields_of plan v).base

-- how many bits: in a register one more number stands for infinity
abbrev pub output_bits : HalvingNumbers → ℕ
output_bits plan = width (if plan.faults == 0 then plan.modulus else plan.modulus + 1)

-- the number of so many bits
abbrev pub number_at : (start bits : ℕ) → (bytes : List ℕ) → ℕ
number_at start bits bytes = number_of (take bits (drop start (bits_of_bytes bytes)))

-- what bytes of a node show: the number there, and 0 if it is not below the modulus
abbrev pub output_in : HalvingNumbers → (v : ℕ) → (bytes : List ℕ) → ℕ
output_in plan v bytes =
    unwrap_or (below plan.modulus (number_at (output_start plan v) (output_bits plan) bytes)) 0

-- That is what the plan's machine shows of the state that it reads from the bytes, whatever they
-- are.
abbrev pub OutputsStandThere : Type 0
OutputsStandThere = (plan : HalvingNumbers) → IsAccepted plan → (v : ℕ) → v < plan.nodes
    → (bytes : List ℕ) → length bytes ≡ node_bytes plan v
    → (machine_in plan).shows v (read ((machine_in plan).fields v) bytes) ≡ output_in plan v bytes
