-- A group of nodes from a first one on: what is heard of its registers' values, and when nothing
-- that its liars say matters.
use Rattle.std.specs.Prelude.{◌≡◌, ℕ, ◌+◌, ◌*◌, ◌<◌, ◌≤◌, List, Bool, false, map, if◌then◌else◌}
use Rattle.std.specs.Prelude.{Option}
use Rattle.std.specs.List.{range_with_len}
use Rattle.sync_types.specs.declared.states.Reg.{Reg}
use Rattle.counting.specs.Places.{places}
use Rattle.construction.specs.PhaseKing.{instructed, locked_at}

-- the values heard of n nodes from the first on: the true ones of correct nodes, and of each liar
-- what it says
abbrev pub values_heard : (first n : ℕ) (liars : ℕ → Bool) (registers : ℕ → Reg)
    (told : ℕ → Option ℕ) → List (Option ℕ)
values_heard first n liars registers told =
    map (λ u. if liars u then told u else (registers u).a) (range_with_len first n)

-- the group tolerates its liars, and the registers of its correct nodes are one, finite and marked
pub record IsLockedGroup (first n f : ℕ) (liars : ℕ → Bool) (registers : ℕ → Reg)
    (value : ℕ) : Type 0 where
  pub quorum : 3 * f < n
  pub few : places (λ i. liars (first + i)) n ≤ f
  pub locked : (v : ℕ) → first ≤ v → v < first + n → liars v ≡ false → registers v ≡ locked_at value

-- A register that is locked at the value of its locked group goes on, whatever is said, by each
-- kind under each king. It may be that of a liar.
abbrev pub LockedGoesOn : Type 0
LockedGoesOn =
    (first n f : ℕ) (liars : ℕ → Bool) (registers : ℕ → Reg) (value : ℕ)
    → IsLockedGroup first n f liars registers value
    → (told : ℕ → Option ℕ) (next : ℕ → ℕ) (kind king : ℕ)
    → instructed n f next kind (locked_at value) (values_heard first n liars registers told) king
    ≡ locked_at (next value)
