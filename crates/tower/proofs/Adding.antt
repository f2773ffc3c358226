-- The groups of levels, as they are added.
use Rattle.std.proofs.Common.{◌≡◌, ℕ, ◌+◌, ◌*◌, ◌<◌, ◌≤◌, List, [], ◌∷◌, ◌++◌, length, sym, ap, ◌∙◌}
use Rattle.std.proofs.Common.{arith, append_assoc}
use Rattle.std.specs.List.{range_with_len, flat_map}
use Rattle.std.proofs.lemmas.List.{flat_map_more}
use Rattle.construction.specs.Plans.{Level, nodes_of}
use Rattle.construction.proofs.Blocks.{block_room}
use Rattle.plan_numbers.specs.declared.numbers.LevelNums.{LevelNums}
use Rattle.plan_numbers.specs.Numbers.{level_of, levels_in}
use Rattle.plan_numbers.specs.Sizes.{block_nodes}
use Rattle.plan_numbers.specs.Stacked.{AreLevels}
use Rattle.plan_numbers.proofs.Stacking.{length-levels_in}
use Rattle.boost_step.proofs.Numbers.{related}
use Rattle.shared_board.specs.GroupVotes.{AreNumbers}
use Rattle.shared_board.specs.Groups.{Group, groups_of}
use Rattle.shared_board.proofs.Passing.{range_two}
use Rattle.tower.proofs.Descent.{top_numbers, top_sized, levels_are, size_is, group_nodes}

-- the groups of one more block
pub blocks_more : (f : ℕ → List Group) (old now new : List Group) (b : ℕ)
    → now ≡ old ++ flat_map f (range_with_len 0 b) → new ≡ now ++ f b
    → new ≡ old ++ flat_map f (range_with_len 0 (b + 1))
blocks_more f old now new b h e =
    let last : 0 + b ≡ b = omega arith in
    e
    ∙ (ap (λ gs. gs ++ f b) h
    ∙ (flat_map_more f old (range_with_len 0 b) b
    ∙ ap (λ bs. old ++ flat_map f bs)
    (sym (range_two 0 b 1 ∙ ap (λ x. range_with_len 0 b ++ x ∷ []) last))))

module _ (base : ℕ) (xs items : List LevelNums) (top : LevelNums) (e : xs ≡ items ++ top ∷ [])
    (are : AreLevels base xs) where
  -- the top level's numbers are in their limits
  pub top_are : AreNumbers top
  top_are =
      let r = related top (top_numbers base xs items top e are) in
      record { sized = r.sized; leaders = r.leaders; beat = r.beat; span = r.span }

  -- a block lies within the nodes
  pub block_within : (first b n : ℕ) → n ≡ block_nodes top → first + nodes_of (levels_in xs) ≤ 256
      → b < top.blocks → first + b * n + nodes_of (levels_in items) ≤ 256
  block_within first b n same small lt =
      let room = block_room top.blocks n b lt in
      let all = group_nodes base xs items top e are in
      let whole = (top_sized base xs items top e are).whole in
      let inner = size_is base xs items top e are in
      let size = ap (λ m. top.blocks * m) same in
      omega (arith, room, all, whole, inner, same, size, small)

  -- after the group at the top those of all blocks are those of the levels
  pub all_added : (first n b : ℕ) (old after now : List Group) → n ≡ block_nodes top
      → after ≡ old ++ record {
        level = level_of top;
        below = length items;
        block = block_nodes top;
        first = first;
      } ∷ []
      → now ≡ after ++ flat_map (λ b. groups_of (levels_in items) (first + b * n))
      (range_with_len 0 b)
      → b ≡ top.blocks → now ≡ old ++ groups_of (levels_in xs) first
  all_added first n b old after now same h all end =
      let lower : List Level = levels_in items in
      let rest : ℕ → ℕ → List Group =
      λ n b. flat_map (λ b. groups_of lower (first + b * n)) (range_with_len 0 b) in
      let group : (d n : ℕ)
      → Group = λ d n. record { level = level_of top; below = d; block = n; first = first } in
      let inner : n ≡ nodes_of lower = same ∙ size_is base xs items top e are in
      let block : block_nodes top ≡ nodes_of lower = size_is base xs items top e are in
      all
      ∙ (ap (λ gs. gs ++ rest n b) h
      ∙ (append_assoc old (group (length items) (block_nodes top) ∷ []) (rest n b)
      ∙ (ap (λ k. old ++ group (length items) (block_nodes top) ∷ rest n k) end
      ∙ (ap (λ k. old ++ group (length items) (block_nodes top) ∷ rest k top.blocks) inner
      ∙ (ap (λ k. old ++ group (length items) k ∷ rest (nodes_of lower) top.blocks) block
      ∙ (ap (λ d. old ++ group d (nodes_of lower) ∷ rest (nodes_of lower) top.blocks)
      (sym (length-levels_in items))
      ∙ ap (λ ls. old ++ groups_of ls first) (sym (levels_are base xs items top e are))))))))
