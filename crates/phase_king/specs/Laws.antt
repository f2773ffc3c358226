-- The laws of the phase king, in a group of n > 3f nodes of which at most f are faulty. All but the
-- last hold for any increment.
use Rattle.std.specs.Prelude.{ℕ, ◌≡◌, ◌+◌, ◌*◌, ◌/◌, ◌%◌, ◌<◌, ◌≤◌, Bool, false}
use Rattle.sync_types.specs.declared.states.Reg.{Reg}
use Rattle.counting.specs.Places.{places}
use Rattle.phase_king.specs.Hearing.{EachObeys, AllObey, AllHave, AllLocked}

-- Locked registers stay locked: whatever kind and king each correct node takes, all are then locked
-- at the next value.
abbrev pub Persistence : Type 0
Persistence =
    (n f : ℕ) (next : ℕ → ℕ) (faulty : ℕ → Bool) → 3 * f < n → places faulty n ≤ f →
    (old new : ℕ → Reg) (value : ℕ) (kinds kings : ℕ → ℕ) →
    AllLocked n faulty old value → EachObeys n f next faulty kinds kings old new
    → AllLocked n faulty new (next value)

-- One common value is kept: after the kinds 0 and 1, whatever king each correct node takes, all are
-- locked at the value two steps on.
abbrev pub Unanimity : Type 0
Unanimity =
    (n f : ℕ) (next : ℕ → ℕ) (faulty : ℕ → Bool) → 3 * f < n → places faulty n ≤ f →
    (start middle end : ℕ → Reg) (value : ℕ) (kings later_kings : ℕ → ℕ)
    → AllHave n faulty start value →
    EachObeys n f next faulty (λ v. 0) kings start middle
    → EachObeys n f next faulty (λ v. 1) later_kings middle end →
    AllLocked n faulty end (next (next value))

-- One phase, the kinds 0, 1 and 2 in three rounds in a row, under one common king that is correct
-- locks all correct registers at one value.
abbrev pub Convergence : Type 0
Convergence =
    (n f : ℕ) (next : ℕ → ℕ) (faulty : ℕ → Bool) → 3 * f < n → places faulty n ≤ f →
    (king : ℕ) (start after_zero after_one end : ℕ → Reg) → king < n → faulty king ≡ false →
    AllObey n f next faulty 0 king start after_zero
    → AllObey n f next faulty 1 king after_zero after_one →
    AllObey n f next faulty 2 king after_one end →
    (value : ℕ) × AllLocked n faulty end value

-- f + 1 phases in a row, with no increment: round x has kind x % 3 under the king at place x / 3
abbrev pub IsSlot : (n f : ℕ) (faulty : ℕ → Bool) (registers : ℕ → ℕ → Reg) → Type 0
IsSlot n f faulty registers =
    (x : ℕ) → x < 3 * (f + 1)
    → AllObey n f (λ a. a) faulty (x % 3) (x / 3) (registers x) (registers (x + 1))

-- at the end of a slot all correct registers are locked at one value, which is the common one if
-- all began with it
pub record Agrees (n f : ℕ) (faulty : ℕ → Bool) (registers : ℕ → ℕ → Reg) : Type 0 where
  pub value : ℕ
  pub locked : AllLocked n faulty (registers (3 * (f + 1))) value
  pub valid : (common : ℕ) → AllHave n faulty (registers 0) common → value ≡ common

-- Every slot ends in agreement.
abbrev pub Slot : Type 0
Slot =
    (n f : ℕ) (faulty : ℕ → Bool) → 3 * f < n → places faulty n ≤ f →
    (registers : ℕ → ℕ → Reg) → IsSlot n f faulty registers → Agrees n f faulty registers
