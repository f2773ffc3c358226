-- The correct node of the lowest id.
use Rattle.std.specs.Prelude.{ℕ, List, not, position, unwrap_or}
use Rattle.std.specs.List.{range_with_len}
use Rattle.sync_types.specs.FaultSets.{is_in}

-- the lowest id of a correct node, 0 if there is none
abbrev pub lowest_correct : (n : ℕ) → (faulty : List ℕ) → ℕ
lowest_correct n faulty =
    unwrap_or (position (λ v. not (is_in faulty v)) (range_with_len 0 n)) 0
