-- The window in which the pointers of all sound blocks meet. Outputs are given by block and
-- configuration.
use Rattle.std.specs.Prelude.{◌≡◌, ℕ, ◌+◌, ◌%◌, ◌<◌, ◌≤◌, Bool, IsTrue}
use Rattle.construction.specs.Plans.{interval_of}
use Rattle.construction.specs.Pointers.{pointer_of}

-- in so many configurations from t on the output goes to one more, modulo the modulus
pub record CountsFor (modulus t rounds : ℕ) (output : ℕ → ℕ) : Type 0 where
  pub grows : (r : ℕ) → t ≤ r → r + 1 < t + rounds → output (r + 1) ≡ (output r + 1) % modulus

-- within the span from t on, a whole beat in which each sound block points to the leader
pub record Window (beat leaders blocks t leader : ℕ) (sound : ℕ → Bool)
    (output : ℕ → ℕ → ℕ) : Type 0 where
  pub start : ℕ
  pub begins : t ≤ start
  pub ends : start + beat ≤ t + interval_of beat leaders blocks
  pub points : (i r : ℕ) → i < blocks → IsTrue (sound i) → start ≤ r → r < start + beat
      → pointer_of beat leaders i (output i r) ≡ leader

-- If each sound block counts for the span, modulo a multiple of it, each leader has such a window.
-- The other blocks are free.
abbrev pub BlocksMeetAtEachLeader : Type 0
BlocksMeetAtEachLeader =
    (beat leaders blocks modulus t leader : ℕ) (sound : ℕ → Bool) (output : ℕ → ℕ → ℕ)
    → 1 ≤ beat → leader < leaders → modulus % interval_of beat leaders blocks ≡ 0
    → ((i : ℕ) → i < blocks → IsTrue (sound i)
    → CountsFor modulus t (interval_of beat leaders blocks) (output i))
    → Window beat leaders blocks t leader sound output
