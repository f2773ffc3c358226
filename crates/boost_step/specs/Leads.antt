-- A number that leads among others, by so many.
use Rattle.std.specs.Prelude.{◌≢◌, ℕ, ◌+◌, ◌*◌, ◌≤◌, List, length, count_by, nat_eq}

-- how many of the numbers are this one
abbrev pub times_of : List ℕ → (number : ℕ) → ℕ
times_of numbers number = count_by (nat_eq number) numbers

-- If pairs of different ones are taken away from the numbers, at least `lead` are left, all of them
-- this one.
pub record Leads (numbers : List ℕ) (number lead : ℕ) : Type 0 where
  pub there : lead ≤ times_of numbers number
  pub itself : 2 * times_of numbers number ≤ length numbers + lead
  pub others : (x : ℕ) → x ≢ number → 2 * times_of numbers x + lead ≤ length numbers
