-- The scripts of worked values: four nodes on a plan of either construction, with two eras, and
-- more nodes, one round, and groups within groups.
use Rattle.std.specs.Prelude.{ℕ, List, [], ◌∷◌, ◌++◌, Bool, true, false, Option, Some, None}
use Rattle.std.specs.Prelude.{replicate}
use Rattle.sync_types.specs.States.{State, zero_register}
use Rattle.construction.specs.Plans.{Plan}
use Rattle.state_codec.specs.Shapes.{Shape}
use Rattle.adversary_script.specs.Scripts.{Script, empty_script}
use Rattle.adversary_script.specs.declared.lies.Lie.{Lie}
use Rattle.adversary_script.specs.declared.lies.Start.{Start}
use Rattle.adversary_script.specs.declared.lies.What.TheVariants as what
use Rattle.adversary_script.specs.declared.lies.Who.TheVariants as who
use Rattle.halving_plan.specs.LevelStates.{LevelState}
use Rattle.halving_plan.specs.Plans.{HalvingNumbers}
use Rattle.halving_plan.specs.Registers.{registers_of}

-- a node begins with a state
abbrev pub begins : (v : ℕ) → State → Start
begins v state = record { node = v; state = state }

-- in one round a node tells the nodes from one to another that it has a state
abbrev pub tells : (round sender from to : ℕ) → State → Lie
tells round sender from to state = record {
  first = round;
  last = round;
  sender = sender;
  who = who.Ids from to;
  what = what.State state;
}

-- Two rounds, with one faulty node in configuration 0, and another one from configuration 1 on,
-- where one node is put into a state. All nodes have starts, so that the shape decides nothing.
abbrev pub two_eras : Shape → (faulty then : ℕ) → (starts : List Start) → (hit : Start)
    → (lies : List Lie) → Script
two_eras shape faulty then starts hit lies = record (empty_script 4 shape) {
  version = 2;
  faulty = faulty ∷ [];
  starts = starts;
  eras = record { first = 1; faulty = then ∷ []; starts = hit ∷ [] } ∷ [];
  lies = lies;
  rounds = 2;
  last = 2;
}

-- One round, of so many nodes with so many registers. The nodes without a start are in zeros.
abbrev pub one_round : (nodes depth : ℕ) → (faulty : List ℕ) → (starts : List Start) → Script
one_round nodes depth faulty starts =
    record (empty_script nodes (record { depth = depth; fields = [] })) {
      faulty = faulty;
      starts = starts;
      rounds = 1;
      last = 1;
    }

-- ---- on a boosting plan

-- three blocks, and node 3 a spare
abbrev pub boosting_plan : Plan
boosting_plan = record {
  version = 2;
  base = 576;
  levels = record { blocks = 3; faults = 1; modulus = 10; spares = 1 } ∷ [];
}

-- a number, and a register with its mark
abbrev pub holds : (x : ℕ) → (a : Option ℕ) → (d : Bool) → State
holds x a d = record { x = x; registers = record { a = a; d = d } ∷ [] }

-- Node 1 is faulty in configuration 0, where the others are locked, and node 2 from configuration 1
-- on, where node 1 is not marked. By their lies some nodes hear another position or lead.
abbrev pub boosting_script : Shape → Script
boosting_script shape =
    two_eras shape 1 2
    (begins 0 (holds 10 (Some 3) true) ∷ begins 1 (holds 13 None false)
    ∷ begins 2 (holds 146 (Some 3) true) ∷ begins 3 (holds 0 (Some 3) true) ∷ [])
    (begins 2 (holds 0 (Some 4) true))
    (tells 0 1 0 0 (holds 12 (Some 7) false) ∷ tells 1 2 0 1 (holds 144 (Some 9) true) ∷ [])

-- three blocks of four nodes
abbrev pub twelve_plan : Plan
twelve_plan = record {
  version = 1;
  base = 2304;
  levels =
      record { blocks = 3; faults = 3; modulus = 10; spares = 0 }
      ∷ record { blocks = 4; faults = 1; modulus = 960; spares = 0 } ∷ [];
}

-- a number, a register of the lower level and one of the upper
abbrev pub holds_two : (x : ℕ) → (a : ℕ) → (d : Bool) → (b : ℕ) → (e : Bool) → State
holds_two x a d b e = record {
  x = x;
  registers = record { a = Some a; d = d } ∷ record { a = Some b; d = e } ∷ [];
}

-- The nodes 4 to 7 are a block, and the correct ones of them are locked at the lower level. In the
-- first two blocks most nodes point to leader 1.
abbrev pub twelve_script : Script
twelve_script =
    one_round 12 2 (7 ∷ [])
    (begins 0 (holds_two 0 15 false 3 true) ∷ begins 1 (holds_two 0 15 false 3 true)
    ∷ begins 2 (holds_two 0 15 false 3 true) ∷ begins 4 (holds_two 9 65 true 3 true)
    ∷ begins 5 (holds_two 40 65 true 3 true) ∷ begins 6 (holds_two 144 65 true 3 true)
    ∷ begins 7 (holds_two 0 70 false 4 false) ∷ [])

-- ---- on a halving plan

-- node 0 is the left half, node 1 the right one, and the others are spares
abbrev pub halving_plan : HalvingNumbers
halving_plan = record { nodes = 4; faults = 1; modulus = 10 }

-- a number, and a level state in the group
abbrev pub holds_level : (x : ℕ) → LevelState → State
holds_level x own = record { x = x; registers = registers_of own }

-- A level state: a register of the phase king; what was seen of the left half, and whether that is
-- trusted.
abbrev pub level_state : (a : Option ℕ) → (d : Bool) → (seen : ℕ) → (trusted : Bool) → LevelState
level_state a d seen trusted = record {
  register = record { a = a; d = d };
  seen = seen;
  trusted = trusted;
}

-- Node 0 is faulty in configuration 0, where the others are locked, and node 3 from configuration 1
-- on, where node 0 has no value. Each tells one node that it saw another number of the left half.
abbrev pub halving_script : Shape → Script
halving_script shape =
    two_eras shape 0 3
    (begins 0 (holds_level 5 (level_state (Some 7) false 2 false))
    ∷ begins 1 (holds_level 2 (level_state (Some 4) true 6 true))
    ∷ begins 2 (holds_level 0 (level_state (Some 4) true 6 true))
    ∷ begins 3 (holds_level 0 (level_state (Some 4) true 4 true)) ∷ [])
    (begins 0 (holds_level 0 (level_state None false 7 true)))
    (tells 0 0 1 1 (holds_level 0 (level_state None false 6 false))
    ∷ tells 1 3 0 0 (holds_level 0 (level_state None false 7 false)) ∷ [])

-- the nodes 1 to 4 are the right half, in which the nodes 3 and 4 are spares
abbrev pub seven_plan : HalvingNumbers
seven_plan = record { nodes = 7; faults = 2; modulus = 10 }

-- level states in the whole and in the right half
abbrev pub seven_whole : LevelState
seven_whole = level_state (Some 5) true 9 true

abbrev pub seven_right : LevelState
seven_right = level_state (Some 2) true 3 true

abbrev pub in_right : State
in_right = record { x = 0; registers = registers_of seven_whole ++ registers_of seven_right }

-- The right half is locked, though it is not sound, and the whole is not locked, for node 6.
abbrev pub seven_script : Script
seven_script =
    one_round 7 4 (1 ∷ 4 ∷ [])
    (begins 1 in_right ∷ begins 2 in_right ∷ begins 3 in_right ∷ begins 4 in_right
    ∷ begins 5
    (record { x = 0; registers = registers_of seven_whole ++ replicate 2 zero_register }) ∷ [])
