-- What a node hears of one register of its group.
use Rattle.std.specs.Prelude.{◌≡◌, ℕ, ◌<◌, List, length, map, All, Option, IfSome}
use Rattle.sync_types.specs.declared.states.Reg.{Reg}
use Rattle.sync_types.specs.States.{State, register_at}
use Rattle.construction.specs.PhaseKing.{incremented, instructed, without_increment}
use Rattle.construction.specs.Steps.{state_of}
use Rattle.counter_core.specs.declared.counted.Counted.{Counted}

-- the states heard of the group's nodes, of which so many may be faulty, and the register's index
pub record RegisterHeard : Type 0 where
  pub states : List State
  pub register : ℕ
  pub faults : ℕ

-- the register of the node at a place
abbrev pub heard_at : RegisterHeard → (place : ℕ) → Reg
heard_at h place = register_at h.register (state_of h.states place)

-- the values of all nodes
abbrev pub values_heard : RegisterHeard → List (Option ℕ)
values_heard h = map (λ s. (register_at h.register s).a) h.states

-- each finite one is below so much
abbrev pub AreHeardBelow : RegisterHeard → (most : ℕ) → Type 0
AreHeardBelow h most = All (λ s. IfSome (register_at h.register s).a (λ a. a < most)) h.states

-- An instruction of the kind by what was counted is the one by all that is heard, whatever the
-- increment.
abbrev pub Suffices : RegisterHeard → (kind : ℕ) (own : Reg) (king : ℕ) → Counted → Type 0
Suffices h kind own king c = (next : ℕ → ℕ)
    → incremented next (without_increment (length h.states) h.faults kind own c.same c.least c.king)
    ≡ instructed (length h.states) h.faults next kind own (values_heard h) king

-- the values that were found are below so much
pub record AreBelow (most : ℕ) (c : Counted) : Type 0 where
  pub least : IfSome c.least (λ a. a < most)
  pub king : IfSome c.king (λ a. a < most)
