-- A locked group, from its liars' number and its correct registers.
use Rattle.std.proofs.Common.{◌≡◌, ℕ, zero, suc, ◌+◌, ◌-◌, ◌*◌, ◌<◌, ◌≤◌, Bool, true, false, not}
use Rattle.std.proofs.Common.{cond, List, [], ◌∷◌, map, length, get_or, IfSome, Option, Some}
use Rattle.std.proofs.Common.{None, ap, refl, arith}
use Rattle.std.specs.List.{filter, range_with_len}
use Rattle.counting.specs.Places.{places}
use Rattle.counting.proofs.Places.{stretches}
use Rattle.sync_types.specs.declared.states.Reg.{Reg}
use Rattle.construction.specs.PhaseKing.{locked_at}
use Rattle.phase_king.specs.Groups.{IsLockedGroup}
use Rattle.shared_board.specs.Senders.{Sent, is_liar, register_of, correct_in, values_of}

pub locked_group : (first n f some : ℕ) (liars : ℕ → Bool) (registers : ℕ → Reg) (value : ℕ)
    → 3 * f < n
    → some ≡ places liars (first + n) - places liars first → some ≤ f
    → ((v : ℕ) → first ≤ v → v < first + n → liars v ≡ false → registers v ≡ locked_at value)
    → IsLockedGroup first n f liars registers value
locked_group first n f some liars registers value quorum is few locked = record {
  quorum = quorum;
  few = omega (arith, is, few, stretches liars first n);
  locked = locked;
}

-- if a value is one of all correct registers, the group is locked there
pub locked_if : (first n f some : ℕ) (liars : ℕ → Bool) (registers : ℕ → Reg) (value : Option ℕ)
    → 3 * f < n
    → some ≡ places liars (first + n) - places liars first → some ≤ f
    → IfSome value (λ x. (v : ℕ) → first ≤ v → v < first + n → liars v ≡ false
    → registers v ≡ locked_at x)
    → IfSome value (IsLockedGroup first n f liars registers)
locked_if first n f some liars registers None quorum is few locked = tt
locked_if first n f some liars registers (Some value) quorum is few locked =
    locked_group first n f some liars registers value quorum is few locked

module _ (s : Sent) where
  -- if all correct registers are locked, the first value is theirs
  pub first_locked : (at count first : ℕ)
      → ((u : ℕ) → first ≤ u → u < first + count → is_liar s u ≡ false
      → register_of s u ≡ locked_at at) → 0 < length (correct_in s first count)
      → get_or (values_of s first count) 0 None ≡ Some at
  first_locked at zero first all some = absurd (omega arith)
  first_locked at (suc n) first all some =
      by (is_liar s first) refl
      (λ h. first_locked at n (first + 1) (λ u le lt. all u (omega arith) (omega arith)) h) some
    where
      rest : List ℕ
      rest = filter (λ u. not (is_liar s u)) (range_with_len (first + 1) n)

      by : (b : Bool) → is_liar s first ≡ b
          → (0 < length rest → get_or (map (λ u. (register_of s u).a) rest) 0 None ≡ Some at)
          → 0 < length (cond (not b) (first ∷ rest) rest)
          → get_or (map (λ u. (register_of s u).a) (cond (not b) (first ∷ rest) rest)) 0 None
          ≡ Some at
      by false e later h = ap (λ (r : Reg). r.a) (all first (omega arith) (omega arith) e)
      by true e later h = later h

  empty_by : (xs : List ℕ) → (0 < length xs → ⊥) → xs ≡ []
  empty_by [] none = refl
  empty_by (x ∷ xs) none = absurd (none (omega arith))

  -- if the first value is another, there is no correct register
  pub none_correct : (at count first : ℕ)
      → ((u : ℕ) → first ≤ u → u < first + count → is_liar s u ≡ false
      → register_of s u ≡ locked_at at) → (get_or (values_of s first count) 0 None ≡ Some at → ⊥)
      → correct_in s first count ≡ []
  none_correct at count first all other =
      empty_by (correct_in s first count) (λ some. other (first_locked at count first all some))
