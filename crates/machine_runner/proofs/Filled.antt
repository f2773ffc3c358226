-- A list of states that is filled place by place.
use Rattle.std.proofs.Common.{◌≡◌, ℕ, ◌+◌, ◌<◌, ◌≤◌, List, length, map, set, ◌∙◌, arith}
use Rattle.std.specs.List.{range_with_len}
use Rattle.std.proofs.lemmas.List.{length-set}
use Rattle.std.proofs.lemmas.List.FromFn.{fill_by_all}
use Rattle.sync_types.specs.States.{State, zero_state}
use Rattle.construction.specs.Steps.{state_of}
use Rattle.machine_runner.proofs.Places.{set_has}

-- the states of the places below v are these
pub record FilledBelow (f : ℕ → State) (n v : ℕ) (new : List State) : Type 0 where
  pub size : length new ≡ n
  pub each : (u : ℕ) → u < v → state_of new u ≡ f u

module _ (f : ℕ → State) (n : ℕ) where
  pub none_filled : (new : List State) → length new ≡ n → FilledBelow f n 0 new
  none_filled new size = record { size = size; each = λ u lt. absurd (omega (arith, lt)) }

  pub one_filled : (v : ℕ) (new : List State) (out : State) → v < n → FilledBelow f n v new
      → out ≡ f v → FilledBelow f n (v + 1) (set new v out)
  one_filled v new out lt h is = record {
    size = length-set new v out ∙ h.size;
    each = λ u ult. set_has (λ u s. s ≡ f u) new v out (omega (arith, h.size, lt)) is u
        (λ other. h.each u (omega (arith, other)));
  }

  pub all_filled : (v : ℕ) (new : List State) → n ≤ v → FilledBelow f n v new
      → new ≡ map f (range_with_len 0 n)
  all_filled v new end h =
      fill_by_all f new n (zero_state 0) h.size (λ u lt. h.each u (omega arith))
