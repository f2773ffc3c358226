-- The step of a group, as the code comes by it: the register at the group's level, and below that
-- the step in a block, or nothing if the node is a spare.
use Rattle.std.proofs.Common.{◌≡◌, ℕ, ◌+◌, ◌-◌, ◌*◌, ◌/◌, ◌%◌, ◌<◌, ◌≤◌, Bool, true, false}
use Rattle.std.proofs.Common.{cond, ltb, List, [], ◌∷◌, ◌++◌, IfSome, All, length, map, take, set}
use Rattle.std.proofs.Common.{refl, sym, ap, ap₂, ◌∙◌, subst, arith}
use Rattle.std.proofs.Math.Nat.{mod-lt}
use Rattle.std.proofs.lemmas.Nat.{div_below}
use Rattle.std.proofs.lemmas.Bool.{lt-ltb, le-ltb}
use Rattle.std.proofs.lemmas.List.{length-replicate}
use Rattle.std.proofs.lemmas.List.Elements.{All-weaker}
use Rattle.sync_types.specs.declared.states.Reg.{Reg}
use Rattle.sync_types.specs.States.{State, zero_state, zero_register, register_at}
use Rattle.construction.specs.Plans.{Level, group_size, nodes_of}
use Rattle.construction.specs.Votes.{block}
use Rattle.construction.specs.Shown.{shown}
use Rattle.construction.specs.Steps.{state_of, register_after, new_register, with_register, step_in}
use Rattle.construction.proofs.Blocks.{block_some, length-block}
use Rattle.construction.proofs.Ranges.{length-step_in}
use Rattle.plan_numbers.specs.declared.numbers.LevelNums.{LevelNums}
use Rattle.plan_numbers.specs.Numbers.{below_of, level_of, levels_in}
use Rattle.plan_numbers.specs.Sizes.{IsSizedLevel, block_nodes}
use Rattle.plan_numbers.specs.Stacked.{AreLevels}
use Rattle.plan_numbers.proofs.Stacking.{levels_in_push, length-levels_in, parts, top_is}
use Rattle.counter_core.specs.Meanings.{written}
use Rattle.boost_step.specs.Numbers.{AreNumbers, in_blocks}
use Rattle.boost_step.proofs.Stepping.{register_written}
use Rattle.plan_laws.specs.PlanMeaning.{InRange, IsWithin}

-- the top level's numbers apart from those of the levels below
module _ (base : ℕ) (xs items : List LevelNums) (top : LevelNums) (e : xs ≡ items ++ top ∷ [])
    (are : AreLevels base xs) where
  abbrev pub lower : List Level
  lower = levels_in items

  abbrev pub size : ℕ
  size = block_nodes top

  abbrev pub depth : ℕ
  depth = length items

  pub levels_are : levels_in xs ≡ level_of top ∷ lower
  levels_are = ap levels_in e ∙ levels_in_push items top

  pub below_levels : AreLevels base items
  below_levels = (parts base items top (subst (AreLevels base) e are)).below

  pub top_numbers : AreNumbers top
  top_numbers = (below_of base lower, (parts base items top (subst (AreLevels base) e are)).are)

  pub top_sized : IsSizedLevel top
  top_sized = (top_is xs items top e (base, are)).sized

  pub size_is : size ≡ nodes_of lower
  size_is = (top_is xs items top e (base, are)).block

  -- the nodes of the group
  pub group_nodes : nodes_of (levels_in xs) ≡ top.nodes
  group_nodes =
      ap nodes_of levels_are
      ∙ (ap (group_size (level_of top)) (sym size_is) ∙ sym top_sized.whole)

  -- ---- ranges

  -- the states of the group are in range at the top level
  pub top_range : (group : List State) → All (IsWithin base (levels_in xs)) group
      → All (λ s. IfSome (register_at depth s).a (λ a. a < top.modulus)) group
  top_range group range =
      All-weaker (IsWithin base (levels_in xs))
      (λ s. IfSome (register_at depth s).a (λ a. a < top.modulus))
      (λ s within.
      let here = subst (λ ls. InRange ls s) levels_are within.values in
      subst (λ d. IfSome (register_at d s).a (λ a. a < top.modulus)) (length-levels_in items)
      here.1)
      group range

  -- and below it
  pub below_range : (group : List State) → All (IsWithin base (levels_in xs)) group
      → All (IsWithin base lower) group
  below_range group range =
      All-weaker (IsWithin base (levels_in xs)) (IsWithin base lower)
      (λ s within.
      let here = subst (λ ls. InRange ls s) levels_are within.values in
      record { x = within.x; values = here.0 })
      group range

  -- ---- the step

  -- what stands below the top register, in a block or not
  abbrev below_top : Bool → (place : ℕ) → (group : List State) → State
  below_top inside place group =
      let own = block size (place / size) group in
      cond inside (step_in base lower (place % size) own) (zero_state depth)

  abbrev top_register : (place : ℕ) → (group : List State) → Reg
  top_register place group = new_register depth size (level_of top) place group

  -- it is the one that is counted from what the nodes of the blocks show
  pub top_register_is : (place : ℕ) (group : List State) (items : List ℕ) (r : Reg)
      → take (top.nodes - top.spares) items
      ≡ map (shown depth) (take (top.nodes - top.spares) group)
      → r ≡ register_after size (level_of top) (register_at depth (state_of group place))
      (take (in_blocks top) items) (map (λ s. (register_at depth s).a) group)
      → r ≡ top_register place group
  top_register_is place group items r outputs is =
      let whole = top_sized.whole in
      let same : top.nodes - top.spares ≡ in_blocks top = omega (arith, whole) in
      is
      ∙ ap (λ (os : List ℕ). register_after size (level_of top)
      (register_at depth (state_of group place)) os (map (λ s. (register_at depth s).a) group))
      (subst (λ (k : ℕ). take k items ≡ map (shown depth) (take k group)) same outputs)

  step_by : (place : ℕ) (group : List State) → step_in base (levels_in xs) place group
      ≡ with_register (below_top (ltb place (top.blocks * size)) place group)
      (top_register place group)
  step_by place group =
      let own : ℕ → List State = λ n. block n (place / n) group in
      let by : (n d : ℕ) → State = λ n d.
      with_register
      (cond (ltb place (top.blocks * n)) (step_in base lower (place % n) (own n)) (zero_state d))
      (new_register d n (level_of top) place group) in
      ap (λ ls. step_in base ls place group) levels_are
      ∙ (ap (λ n. by n (length lower)) (sym size_is) ∙ ap (by size) (length-levels_in items))

  -- the top register, put after what is written below it
  with_top : (place : ℕ) (group : List State) (low out inner new : State) (r : Reg) (inside : Bool)
      → ltb place (top.blocks * size) ≡ inside → low ≡ below_top inside place group
      → length low.registers ≡ depth → depth < length out.registers → inner ≡ written depth low out
      → r ≡ top_register place group
      → new ≡ record inner { registers = set inner.registers depth r }
      → new ≡ written (depth + 1) (step_in base (levels_in xs) place group) out
  with_top place group low out inner new r inside test low_is deep room is reg h =
      let whole : with_register low r ≡ step_in base (levels_in xs) place group =
      ap₂ with_register low_is reg
      ∙ sym (step_by place group
      ∙ ap (λ b. with_register (below_top b place group) (top_register place group)) test) in
      h
      ∙ (ap (λ (s : State). record s { registers = set s.registers depth r }) is
      ∙ (register_written depth low out r deep room
      ∙ ap (λ s. written (depth + 1) s out) whole))

  module _ (place n : ℕ) (group : List State) (same : n ≡ size) where
    -- a node of a block
    module _ (lt : place < top.blocks * n) where
      block_lt : place / n < top.blocks
      block_lt = div_below place n top.blocks (block_some top.blocks n place lt) lt

      pub place_below : place % n < nodes_of lower
      place_below =
          subst (λ m. place % n < m) (same ∙ size_is)
          (mod-lt place (block_some top.blocks n place lt))

      blocks_fit : length group ≡ top.nodes → top.blocks * n ≤ length group
      blocks_fit whole =
          let numbers = top_sized.whole in
          subst (λ m. top.blocks * m ≤ length group) (sym same) (omega arith)

      pub block_size : length group ≡ top.nodes → (own : List State)
          → own ≡ block n (place / n) group → length own ≡ nodes_of lower
      block_size whole own is =
          ap length is
          ∙ (length-block top.blocks n (place / n) group (blocks_fit whole) block_lt
          ∙ (same ∙ size_is))

      pub block_written : (out inner new : State) (own : List State) (r : Reg)
          → own ≡ block n (place / n) group → depth < length out.registers
          → inner ≡ written depth (step_in base lower (place % n) own) out
          → r ≡ top_register place group
          → new ≡ record inner { registers = set inner.registers depth r }
          → new ≡ written (depth + 1) (step_in base (levels_in xs) place group) out
      block_written out inner new own r mine room is reg h =
          let low : State = step_in base lower (place % n) own in
          let deep : length low.registers ≡ depth =
          length-step_in base lower (place % n) own ∙ length-levels_in items in
          let inside : place < top.blocks * size = subst (λ m. place < top.blocks * m) same lt in
          let test = lt-ltb place (top.blocks * size) inside in
          let low_is : low ≡ below_top true place group =
          ap (step_in base lower (place % n)) mine
          ∙ ap (λ m. step_in base lower (place % m) (block m (place / m) group)) same in
          with_top place group low out inner new r true test low_is deep room is reg h

    -- a spare
    pub spare_written : (out inner new : State) (r : Reg) → top.blocks * n ≤ place
        → depth < length out.registers → inner ≡ written depth (zero_state depth) out
        → r ≡ top_register place group
        → new ≡ record inner { registers = set inner.registers depth r }
        → new ≡ written (depth + 1) (step_in base (levels_in xs) place group) out
    spare_written out inner new r le room is reg h =
        let behind : top.blocks * size ≤ place = subst (λ m. top.blocks * m ≤ place) same le in
        let test = le-ltb place (top.blocks * size) behind in
        let deep = length-replicate depth zero_register in
        with_top place group (zero_state depth) out inner new r false test refl deep room is reg h
