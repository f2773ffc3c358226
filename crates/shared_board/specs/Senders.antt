-- The nodes of a plan as one of its levels sees them, and what is heard of them.
use Rattle.std.specs.Prelude.{◌≡◌, ℕ, ◌+◌, ◌-◌, ◌≤◌, List, length, map, take, drop, slice_index_or}
use Rattle.std.specs.Prelude.{Bool, true, false, not, if◌then◌else◌, Option, Some}
use Rattle.std.specs.List.{filter, range_with_len}
use Rattle.counting.specs.Places.{places}
use Rattle.sync_types.specs.declared.states.Reg.{Reg}
use Rattle.sync_types.specs.States.{State, zero_register, register_at}
use Rattle.construction.specs.Shown.{shown}
use Rattle.construction.specs.Pointers.{part_of}
use Rattle.construction.specs.Steps.{state_of}

-- what stands below the level, and of each node what it shows to the level, its register there, and
-- whether it is a liar
pub record Sent : Type 0 where
  pub height : ℕ
  pub outputs : List ℕ
  pub registers : List Reg
  pub liars : List Bool

-- the lists are of the same nodes; `before` counts the liars below each node, and all of them
pub record AreSent (outputs : List ℕ) (registers : List Reg) (liars : List Bool) (before : List ℕ)
    : Type 0 where
  pub shows : length outputs ≡ length registers
  pub marks : length liars ≡ length registers
  pub sums : length before ≡ length registers + 1
  pub counts : (v : ℕ) → v ≤ length registers
      → slice_index_or before v 0 ≡ places (λ u. slice_index_or liars u false) v

module _ (s : Sent) where
  -- whether node u is a liar
  abbrev pub is_liar : ℕ → Bool
  is_liar u = slice_index_or s.liars u false

  -- what node u shows to the level
  abbrev pub output_of : ℕ → ℕ
  output_of u = slice_index_or s.outputs u 0

  -- the level's register of node u
  abbrev pub register_of : ℕ → Reg
  register_of u = slice_index_or s.registers u zero_register

  -- the correct nodes of a stretch
  abbrev pub correct_in : (first count : ℕ) → List ℕ
  correct_in first count = filter (λ u. not (is_liar u)) (range_with_len first count)

  -- how many liars there are below a node
  abbrev pub liars_below : ℕ → ℕ
  liars_below u = places is_liar u

  -- how many liars there are in a stretch
  abbrev pub liars_in : (first count : ℕ) → ℕ
  liars_in first count = liars_below (first + count) - liars_below first

  -- the values of the correct nodes' registers
  abbrev pub values_of : (first count : ℕ) → List (Option ℕ)
  values_of first count = map (λ u. (register_of u).a) (correct_in first count)

  -- what is read off what the correct nodes show
  abbrev pub numbers_of : (reads : ℕ → ℕ) (first count : ℕ) → List (Option ℕ)
  numbers_of reads first count = map (λ u. Some (reads (output_of u))) (correct_in first count)

  -- the parts of the beat of the correct nodes
  abbrev pub parts_of : (beat first count : ℕ) → List (Option ℕ)
  parts_of beat first count = numbers_of (part_of beat) first count

-- What the liars say to a receiver: a state of each, in their order.
module _ (s : Sent) (lies : List State) where
  -- what liar u says: its place among the lies is how many liars are below it
  abbrev pub told_by : ℕ → State
  told_by u = state_of lies (liars_below s u)

  -- a lie for each liar
  abbrev pub IsTold : Type 0
  IsTold = length lies ≡ liars_below s (length s.registers)

  -- the lies of a stretch of nodes
  abbrev pub lies_in : (first count : ℕ) → List State
  lies_in first count = take (liars_in s first count) (drop (liars_below s first) lies)

  -- what is heard that a node shows
  abbrev pub output_heard : ℕ → ℕ
  output_heard u = if is_liar s u then shown s.height (told_by u) else output_of s u

  -- what is heard of the value of its register
  abbrev pub value_heard : ℕ → Option ℕ
  value_heard u =
      if is_liar s u then (register_at s.height (told_by u)).a else (register_of s u).a

  -- what is heard that the nodes of a stretch show
  abbrev pub outputs_heard : (first count : ℕ) → List ℕ
  outputs_heard first count = map output_heard (range_with_len first count)

  -- what is heard of the values of their registers
  abbrev pub values_heard : (first count : ℕ) → List (Option ℕ)
  values_heard first count = map value_heard (range_with_len first count)

-- a node that lies says to itself the register that it has
abbrev pub TellsItself : (s : Sent) (lies : List State) (node : ℕ) → Type 0
TellsItself s lies node =
    is_liar s node ≡ true → register_at s.height (told_by s lies node) ≡ register_of s node
