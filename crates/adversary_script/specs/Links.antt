-- Where the lies of each sender stand among all lies.
use Rattle.std.specs.Prelude.{◌≡◌, ℕ, ◌+◌, ◌<◌, ◌≤◌, ◌==◌, List, length, drop, slice_index}
use Rattle.std.specs.Prelude.{slice_index_or}
use Rattle.std.specs.List.{position_or_len}
use Rattle.adversary_script.specs.declared.lies.Lie.{Lie}

-- the place of the first lie of u from a place on, or the number of lies
abbrev pub place_from : List Lie → (u from : ℕ) → ℕ
place_from lies u from = from + position_or_len (λ lie. lie.sender == u) (drop from lies)

-- the first lie of each of n nodes, from a place on, and after each lie from there on the next one
-- of its sender
pub record IsLinkedFrom (from n : ℕ) (lies : List Lie) (firsts nexts : List ℕ) : Type 0 where
  pub nodes : length firsts ≡ n
  pub count : length nexts ≡ length lies
  pub first : (u : ℕ) → u < n → slice_index firsts u ≡ place_from lies u from
  pub next : (i : ℕ) (d : Lie) → from ≤ i → i < length lies → slice_index nexts i ≡ place_from lies
      (slice_index_or lies i d).sender (i + 1)

-- the same of all lies
abbrev pub IsLinked : (n : ℕ) → List Lie → (firsts nexts : List ℕ) → Type 0
IsLinked n lies firsts nexts = IsLinkedFrom 0 n lies firsts nexts
