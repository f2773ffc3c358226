-- States of a machine's nodes, as states with no further registers.
use Rattle.std.proofs.Common.{◌≡◌, ℕ, ◌<◌, List, ◌++◌, length, sym, ap, ◌∙◌, subst, arith}
use Rattle.std.proofs.lemmas.List.{append-nil, drop_all, take_all}
use Rattle.sync_types.specs.declared.states.Reg.{Reg}
use Rattle.sync_types.specs.States.{State}
use Rattle.construction.specs.Steps.{state_of}
use Rattle.counter_core.specs.Meanings.{cut, written}
use Rattle.machines.specs.Machines.{Machine, IsState, IsConfiguration, IsFront, AreFronts}
use Rattle.machines.specs.Laws.{IsSound}

-- a state of just so many registers is its own front
pub cut_whole : (d : ℕ) (s : State) → length s.registers ≡ d → cut d s ≡ s
cut_whole d s long =
    ap (λ (rs : List Reg). let t : State = record { x = s.x; registers = rs } in t)
    (take_all d s.registers (omega (arith, long)))

-- what is written over a state of just so many registers is what was to be written
pub written_whole : (d : ℕ) (s out : State) → length out.registers ≡ d → written d s out ≡ s
written_whole d s out long =
    ap (λ (rs : List Reg). let t : State = record { x = s.x; registers = s.registers ++ rs } in t)
    (drop_all d out.registers (omega (arith, long)))
    ∙ ap (λ (rs : List Reg). let t : State = record { x = s.x; registers = rs } in t)
    (append-nil s.registers)

module _ (machine : Machine) (sound : IsSound machine) where
  pub whole_front : (v : ℕ) → v < machine.nodes → (s : State) → IsState machine v s
      → IsFront machine v s
  whole_front v lt s is =
      let long : length s.registers ≡ machine.depth = is.depth ∙ sound.depth v lt in
      record {
        deep = omega (arith, long);
        front = subst (IsState machine v) (sym (cut_whole machine.depth s long)) is;
      }

  pub whole_fronts : (states : List State) → IsConfiguration machine states
      → AreFronts machine states
  whole_fronts states is = record {
    size = is.size;
    fronts = λ v lt. whole_front v lt (state_of states v) (is.states v lt);
  }
