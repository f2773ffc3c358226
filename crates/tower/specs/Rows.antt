-- From which level on a node takes part, and where its groups stand.
use Rattle.std.specs.Prelude.{◌≡◌, ℕ, ◌<◌, List, length, map, slice_index_or}
use Rattle.std.specs.List.{range_with_len}
use Rattle.construction.specs.Plans.{Level, low_of}
use Rattle.shared_board.specs.Groups.{index_at}
use Rattle.tower.specs.declared.rows.Row.{Row}

-- the row of a node
pub record IsRow (levels : List Level) (node : ℕ) (row : Row) : Type 0 where
  pub lowest : row.low ≡ low_of levels node
  pub indices : row.places.items ≡ map (index_at levels node) (range_with_len 0 (length levels))

-- one for each node
pub record AreRows (levels : List Level) (nodes : ℕ) (rows : List Row) : Type 0 where
  pub size : length rows ≡ nodes
  pub each : (v : ℕ) (none : Row) → v < nodes → IsRow levels v (slice_index_or rows v none)
