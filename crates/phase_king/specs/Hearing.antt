-- Rounds of a group of n nodes that tolerates f faults, as functions of the place: which nodes are
-- faulty, and which register each node has. Each node hears a list of its own.
use Rattle.std.specs.Prelude.{◌≡◌, ℕ, ◌<◌, List, length, Bool, false, Option, Some, None}
use Rattle.std.specs.Prelude.{slice_index_or}
use Rattle.sync_types.specs.declared.states.Reg.{Reg}
use Rattle.construction.specs.PhaseKing.{instructed, locked_at}

-- what a node hears of the registers' values: the true value of each correct node, and anything of
-- a faulty one
pub record Hears (n : ℕ) (faulty : ℕ → Bool) (registers : ℕ → Reg)
    (heard : List (Option ℕ)) : Type 0 where
  pub size : length heard ≡ n
  pub honest : (u : ℕ) → u < n → faulty u ≡ false → slice_index_or heard u None ≡ (registers u).a

-- A node's register goes from own to new by the instruction of a kind under a king, on some list
-- that it hears. The old registers of all nodes are given.
pub record Obeys (n f : ℕ) (next : ℕ → ℕ) (faulty : ℕ → Bool) (old : ℕ → Reg) (kind king : ℕ)
    (own new : Reg) : Type 0 where
  pub heard : List (Option ℕ)
  pub hears : Hears n faulty old heard
  pub step : new ≡ instructed n f next kind own heard king

-- each correct node obeys a kind and a king of its own
abbrev pub EachObeys : (n f : ℕ) (next : ℕ → ℕ) (faulty : ℕ → Bool) (kinds kings : ℕ → ℕ)
    (old new : ℕ → Reg) → Type 0
EachObeys n f next faulty kinds kings old new =
    (v : ℕ) → v < n → faulty v ≡ false
    → Obeys n f next faulty old (kinds v) (kings v) (old v) (new v)

-- all correct nodes obey one kind and one king
abbrev pub AllObey : (n f : ℕ) (next : ℕ → ℕ) (faulty : ℕ → Bool) (kind king : ℕ)
    (old new : ℕ → Reg) → Type 0
AllObey n f next faulty kind king old new =
    EachObeys n f next faulty (λ v. kind) (λ v. king) old new

-- all correct nodes have this finite value, marked or not
abbrev pub AllHave : (n : ℕ) (faulty : ℕ → Bool) (registers : ℕ → Reg) (value : ℕ) → Type 0
AllHave n faulty registers value = (v : ℕ) → v < n → faulty v ≡ false → (registers v).a ≡ Some value

-- the registers of all correct nodes are locked at one value
abbrev pub AllLocked : (n : ℕ) (faulty : ℕ → Bool) (registers : ℕ → Reg) (value : ℕ) → Type 0
AllLocked n faulty registers value =
    (v : ℕ) → v < n → faulty v ≡ false → registers v ≡ locked_at value
