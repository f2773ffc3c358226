-- The levels below the top one of numbers that stand one on another.
use Rattle.std.proofs.Common.{◌≡◌, ℕ, ◌+◌, ◌-◌, ◌*◌, ◌/◌, ◌%◌, ◌<◌, ◌≤◌, Bool, true, false, cond}
use Rattle.std.proofs.Common.{ltb, reverse, List, [], ◌∷◌, ◌++◌, length, get_or, take, refl, sym}
use Rattle.std.proofs.Common.{ap, ◌∙◌, subst, arith}
use Rattle.std.proofs.lemmas.List.{reverse-append, take_at, get_or_at, length_push, length-map}
use Rattle.std.proofs.lemmas.List.{length-reverse}
use Rattle.std.proofs.lemmas.Bool.{lt-ltb, le-ltb}
use Rattle.construction.specs.Plans.{Level, nodes_of, low_of}
use Rattle.plan_numbers.specs.declared.numbers.Below.{Below}
use Rattle.plan_numbers.specs.declared.numbers.LevelNums.{LevelNums}
use Rattle.plan_numbers.specs.Numbers.{below_of, numbers_over, numbers_of, level_of, levels_in}
use Rattle.plan_numbers.specs.Premises.{LevelsAccepted}
use Rattle.plan_numbers.specs.Stacked.{AreNumbersOver, AreLevels, AreSomeLevels}
use Rattle.plan_numbers.specs.Sizes.{IsSizedLevel, block_nodes}
use Rattle.plan_numbers.proofs.Accepted.{accepted_sized, meets, level_sized, block_is}

pub levels_in_push : (items : List LevelNums) (top : LevelNums)
    → levels_in (items ++ top ∷ []) ≡ level_of top ∷ levels_in items
levels_in_push items top = rw (reverse-append items (top ∷ [])) refl

pub length-levels_in : (items : List LevelNums) → length (levels_in items) ≡ length items
length-levels_in items =
    omega (arith, length-map (reverse items) level_of, length-reverse items)

-- ---- the top level and those below it

-- the top one stands on those below
pub record Parts (base : ℕ) (items : List LevelNums) (top : LevelNums) : Type 0 where
  pub below : AreLevels base items
  pub are : AreNumbersOver (below_of base (levels_in items)) top

pub parts : (base : ℕ) (items : List LevelNums) (top : LevelNums)
    → AreLevels base (items ++ top ∷ []) → Parts base items top
parts base items top are =
    let lower : List Level = levels_in items in
    let below : Below = below_of base lower in
    let first : List LevelNums = numbers_of base lower in
    let last : LevelNums = numbers_over below (level_of top) in
    let accepted : LevelsAccepted base (level_of top ∷ lower) =
    subst (LevelsAccepted base) (levels_in_push items top) are.accepted in
    let same : items ++ top ∷ [] ≡ first ++ last ∷ [] =
    are.numbers ∙ ap (numbers_of base) (levels_in_push items top) in
    let size : length items ≡ length first =
    omega (arith, ap length same, length_push items top, length_push first last) in
    record {
      below = record {
        accepted = accepted.0;
        numbers =
            sym (take_at items (top ∷ []) (length items) refl)
            ∙ (ap (take (length items)) same ∙ take_at first (last ∷ []) (length items) (sym size));
      };
      are = record {
        sized = accepted_sized base lower accepted.0;
        accepted = accepted.1;
        numbers =
            sym (get_or_at items top [] top (length items) refl)
            ∙ (ap (λ xs. get_or xs (length items) top) same
            ∙ get_or_at first last [] top (length items) (sym size));
      };
    }

-- what holds of the top one
pub record Top (items : List LevelNums) (top : LevelNums) : Type 0 where
  pub sized : IsSizedLevel top
  pub block : block_nodes top ≡ nodes_of (levels_in items)

top_of : (base : ℕ) (items : List LevelNums) (top : LevelNums)
    → AreNumbersOver (below_of base (levels_in items)) top → Top items top
top_of base items top are =
    let below = below_of base (levels_in items) in
    let met = meets below (level_of top) are.accepted in
    let three = met.blocks in
    let sized = level_sized below (level_of top) are.sized met in
    record {
      sized = subst IsSizedLevel (sym are.numbers) sized;
      block =
          ap (λ (m : LevelNums). (m.nodes - m.spares) / top.blocks) are.numbers
          ∙ block_is top.blocks below.nodes top.spares (omega arith);
    }

module _ (xs items : List LevelNums) (top : LevelNums) (e : xs ≡ items ++ top ∷ [])
    (are : AreSomeLevels xs) where
  of_base : Parts are.0 items top
  of_base = parts are.0 items top (subst (AreLevels are.0) e are.1)

  -- the levels below are again some
  pub below_are : AreSomeLevels items
  below_are = (are.0, of_base.below)

  pub top_is : Top items top
  top_is = top_of are.0 items top of_base.are

  -- ---- the level from which on a node takes part

  abbrev in_blocks : ℕ → Bool
  in_blocks place = ltb place (top.blocks * block_nodes top)

  -- by the top level
  low_step : (place : ℕ) → low_of (levels_in xs) place
      ≡ cond (in_blocks place) (low_of (levels_in items) (place % block_nodes top)) (length xs)
  low_step place =
      let low : ℕ → ℕ = λ n. low_of (levels_in items) (place % n) in
      let size : length (levels_in items) + 1 ≡ length xs =
      omega (arith, ap length e, length_push items top, length-levels_in items) in
      ap (λ ls. low_of ls place) (ap levels_in e ∙ levels_in_push items top)
      ∙ (ap (λ n. cond (ltb place (top.blocks * n)) (low n) (length (levels_in items) + 1))
      (sym top_is.block)
      ∙ ap (λ d. cond (in_blocks place) (low (block_nodes top)) d) size)

  pub low_of_block : (place n r : ℕ) → n ≡ block_nodes top → place < top.blocks * n
      → r ≡ low_of (levels_in items) (place % n) → r ≡ low_of (levels_in xs) place
  low_of_block place n r same lt is =
      let test : in_blocks place ≡ true =
      lt-ltb place (top.blocks * block_nodes top) (subst (λ m. place < top.blocks * m) same lt) in
      let low : ℕ = low_of (levels_in items) (place % block_nodes top) in
      is ∙ (ap (λ m. low_of (levels_in items) (place % m)) same
      ∙ sym (low_step place ∙ ap (λ b. cond b low (length xs)) test))

  pub low_of_spare : (place n : ℕ) → n ≡ block_nodes top → top.blocks * n ≤ place
      → length xs ≡ low_of (levels_in xs) place
  low_of_spare place n same le =
      let test : in_blocks place ≡ false =
      le-ltb place (top.blocks * block_nodes top) (subst (λ m. top.blocks * m ≤ place) same le) in
      let low : ℕ = low_of (levels_in items) (place % block_nodes top) in
      sym (low_step place ∙ ap (λ b. cond b low (length xs)) test)
