-- The first locked number that a runner knows is the place of the first that passes in the list of
-- all numbers.
use Rattle.std.proofs.Common.{◌≡◌, ℕ, ◌+◌, Bool, Option, Some, None, sym, arith}
use Rattle.std.specs.Prelude.{position}
use Rattle.std.specs.List.{range_with_len}
use Rattle.machine_runner.specs.FirstLocked.{first_locked}
use Rattle.machine_runner.proofs.FirstPassing.{IsFirst, first_is}
use Rattle.layer_laws.proofs.LowestCorrect.{found, none_found}

module _ (p : ℕ → Bool) (n : ℕ) where
  listed : (known : Option ℕ) → IsFirst p n known → position p (range_with_len 0 (n + 1)) ≡ known
  listed (Some w) h = let le = h.0 in found p (n + 1) w (omega (arith, le)) h.2 h.1
  listed None h = none_found p (n + 1) (λ t lt. h t (omega (arith, lt)))

  -- so the two are one
  pub first_listed : first_locked p n ≡ position p (range_with_len 0 (n + 1))
  first_listed = sym (listed (first_locked p n) (first_is p n))
