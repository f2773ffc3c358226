-- The numbers of the top level of a plan.
use Rattle.std.proofs.Common.{◌≡◌, ℕ, ◌+◌, ◌-◌, ◌<◌, List, [], ◌∷◌, ◌++◌, length, Some, refl, sym}
use Rattle.std.proofs.Common.{◌∙◌, arith, get_or}
use Rattle.std.specs.List.{slice_get}
use Rattle.std.proofs.Math.Seq.{get_or-append_seam}
use Rattle.std.proofs.lemmas.Option.{get_or_from_slice_get}
use Rattle.construction.specs.Plans.{Level}
use Rattle.plan_numbers.specs.declared.numbers.LevelNums.{LevelNums}
use Rattle.plan_numbers.specs.Numbers.{below_of, numbers_over, numbers_of}
use Rattle.plan_numbers.proofs.LevelLaws.{length-numbers_of}
use Rattle.plan_certificate.specs.TableLines.{top_of, level_values}

-- they are the last of the numbers of all levels
pub top_is : (base : ℕ) (levels : List Level) (nums : LevelNums) → 0 < length levels
    → slice_get (numbers_of base levels) (length levels - 1) ≡ Some nums
    → level_values (length levels) nums ≡ top_of base levels
top_is base [] nums some stands = absurd (omega arith)
top_is base (level ∷ below) nums some stands =
    let top = numbers_over (below_of base below) level in
    let size = length-numbers_of base below in
    let place : length (level ∷ below) - 1 ≡ length (numbers_of base below) = omega (arith, size) in
    let same : length (level ∷ below) ≡ length below + 1 = omega arith in
    let is : get_or (numbers_of base below ++ top ∷ []) (length (numbers_of base below)) nums
    ≡ nums =
    get_or_from_slice_get (numbers_of base (level ∷ below)) (length (numbers_of base below)) nums
    nums (rw (← place) stands) in
    let last : nums ≡ top = sym is ∙ get_or-append_seam (numbers_of base below) top [] nums in
    rw (same, last) refl
