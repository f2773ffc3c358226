-- How large the indices of groups are, and how they go down the levels.
use Rattle.std.proofs.Common.{◌≡◌, ℕ, ◌+◌, ◌*◌, ◌/◌, ◌%◌, ◌<◌, ◌≤◌, List, [], ◌∷◌, ◌++◌, length}
use Rattle.std.proofs.Common.{sym, ap, ◌∙◌, arith}
use Rattle.std.proofs.Math.Nat.{div-add-mod'}
use Rattle.std.proofs.lemmas.Nat.{mul-le}
use Rattle.construction.specs.Plans.{nodes_of}
use Rattle.plan_numbers.specs.declared.numbers.LevelNums.{LevelNums}
use Rattle.plan_numbers.specs.Numbers.{level_of, levels_in}
use Rattle.plan_numbers.specs.Sizes.{IsSizedLevel, block_nodes}
use Rattle.plan_numbers.specs.Stacked.{AreSomeLevels}
use Rattle.plan_numbers.proofs.Accepted.{accepted_sized, accepted_depth}
use Rattle.plan_numbers.proofs.Stacking.{top_is, levels_in_push, length-levels_in}
use Rattle.shared_board.specs.Groups.{group_count, index_at}
use Rattle.shared_board.proofs.Places.{index_other}

-- the groups before a block are fewer than the nodes before it
pub before_less : (place n c : ℕ) → c < n → place / n * c + place % n ≤ place
before_less place n c less =
    let product = mul-le (place / n) c (place / n) n (omega arith) (omega arith) in
    omega (arith, div-add-mod' place n, product)

-- levels have at most 256 nodes, and are few
pub most_nodes : (levels : List LevelNums) → AreSomeLevels levels
    → nodes_of (levels_in levels) ≤ 256
most_nodes levels (base, are) =
    (accepted_sized base (levels_in levels) are.accepted).most

pub few_levels : (levels : List LevelNums) → AreSomeLevels levels → length levels ≤ 5
few_levels levels (base, are) = omega (
  arith,
  accepted_depth base (levels_in levels) are.accepted,
  length-levels_in levels,
)

module _ (xs items : List LevelNums) (top : LevelNums) (e : xs ≡ items ++ top ∷ [])
    (are : AreSomeLevels xs) where
  pub sized : IsSizedLevel top
  sized = (top_is xs items top e are).sized

  pub block_is : block_nodes top ≡ nodes_of (levels_in items)
  block_is = (top_is xs items top e are).block

  pub index_step : (place n h c below : ℕ) → n ≡ block_nodes top → (h ≡ length items → ⊥)
      → c ≡ group_count (levels_in items) → below ≡ index_at (levels_in items) (place % n) h
      → 1 + place / n * c + below ≡ index_at (levels_in xs) place h
  index_step place n h c below same other count is =
      let nodes : n ≡ nodes_of (levels_in items) = same ∙ block_is in
      let apart : (h ≡ length (levels_in items) → ⊥) = λ eq. other (eq ∙ length-levels_in items) in
      ap (λ b. 1 + place / n * c + b) is
      ∙ (ap (λ k. 1 + place / n * k + index_at (levels_in items) (place % n) h) count
      ∙ (ap (λ m. 1 + place / m * group_count (levels_in items) + index_at (levels_in items)
      (place % m) h) nodes
      ∙ sym (ap (λ ls. index_at ls place h) (ap levels_in e ∙ levels_in_push items top)
      ∙ index_other (level_of top) (levels_in items) place h apart)))
