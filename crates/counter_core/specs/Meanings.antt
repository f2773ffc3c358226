-- What a counter means, however it is held: a machine.
use Rattle.std.specs.Prelude.{ℕ, ◌++◌, take, drop}
use Rattle.sync_types.specs.States.{State}
use Rattle.construction.specs.Machines.{Machine}

-- Its numbers, what a state shows at a place, and at a place the state that follows from those
-- heard of all nodes. A state has as many registers as the depth, and further ones behind.
abbrev pub Meaning : Type 0
Meaning = Machine

-- the state's number and first d registers
abbrev pub cut : (d : ℕ) → State → State
cut d s = record { x = s.x; registers = take d s.registers }

-- `out` with its number and first d registers replaced by those of s, which has d
abbrev pub written : (d : ℕ) (s out : State) → State
written d s out = record { x = s.x; registers = s.registers ++ drop d out.registers }
