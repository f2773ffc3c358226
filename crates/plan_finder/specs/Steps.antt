-- Steps from one pair of nodes and faults to the next: what levels may stand on one another, the
-- moduli left aside.
use Rattle.std.specs.Prelude.{◌≡◌, ℕ, ◌+◌, ◌*◌, ◌^◌, ◌<◌, ◌≤◌, List, [], ◌∷◌}
use Rattle.std.specs.Int.{div_ceil}
use Rattle.construction.specs.Plans.{Level, interval_of, nodes_of, faults_of}

-- the cost of a step to g faults by k blocks: the span of such a level
abbrev pub cost_of : (k g : ℕ) → ℕ
cost_of k g = interval_of (3 * (g + 2)) (div_ceil k 2) k

-- from n nodes and f faults a step by k blocks leads to k n nodes and g faults
pub record IsStep (most n f k g : ℕ) : Type 0 where
  pub least_blocks : 3 ≤ k
  pub most_blocks : k ≤ 16
  pub most_nodes : k * n ≤ most
  pub most_faults : g ≤ 85
  pub quorum : 3 * g < k * n
  pub share : g < (f + 1) * div_ceil k 2
  pub most_cost : cost_of k g ≤ 2 ^ 40

-- Levels, the top one first, each of which is a step from the nodes and faults below it; without
-- levels they are 1 and 0. Their cost is the bound of the levels.
abbrev pub IsPath : (most : ℕ) → List Level → Type 0
IsPath most [] = Unit {0}
IsPath most (level ∷ below) =
    IsPath most below × (level.spares ≡ 0)
    × IsStep most (nodes_of below) (faults_of below) level.blocks level.faults
