-- The lines of the top level and of those below it.
use Rattle.std.proofs.Common.{◌≡◌, ℕ, ◌+◌, ◌-◌, ◌*◌, ◌/◌, ◌%◌, ◌<◌, ◌≤◌, Bool, true, false, cond}
use Rattle.std.proofs.Common.{ltb, List, [], ◌∷◌, ◌++◌, length, refl, sym, ap, ◌∙◌, subst, arith}
use Rattle.std.proofs.lemmas.Nat.{div_below}
use Rattle.std.proofs.lemmas.Bool.{lt-ltb, le-ltb}
use Rattle.sync_types.specs.States.{State}
use Rattle.construction.specs.Plans.{Level, nodes_of}
use Rattle.construction.specs.Votes.{block}
use Rattle.construction.proofs.Blocks.{block_some, block_room}
use Rattle.plan_numbers.specs.declared.numbers.LevelNums.{LevelNums}
use Rattle.plan_numbers.specs.Numbers.{level_of, levels_in}
use Rattle.plan_numbers.specs.Sizes.{block_nodes}
use Rattle.plan_numbers.specs.Stacked.{AreLevels}
use Rattle.plan_numbers.proofs.Stacking.{length-levels_in}
use Rattle.tower.proofs.Descent.{levels_are, size_is, group_nodes, top_sized}
use Rattle.trace.specs.declared.headings.Heading.{Heading}
use Rattle.trace.specs.LevelTexts.{level_line, level_lines}

-- no level has no line
pub no_lines : (h : Heading) (faulty : List ℕ) (config : List State) (hears : Bool)
    (xs : List LevelNums) (place : ℕ) (group : List State) → length xs ≡ 0
    → [] ≡ level_lines h faulty config hears (levels_in xs) place group
no_lines h faulty config hears [] place group none = refl
no_lines h faulty config hears (x ∷ xs) place group none = absurd (omega (arith, none))

module _ (base : ℕ) (xs items : List LevelNums) (top : LevelNums) (e : xs ≡ items ++ top ∷ [])
    (are : AreLevels base xs) where
  abbrev lower : List Level
  lower = levels_in items

  abbrev size : ℕ
  size = block_nodes top

  module _ (h : Heading) (faulty : List ℕ) (config : List State) (hears : Bool) (place : ℕ)
      (group : List State) where
    -- the lines below the top level, in a block or not
    abbrev pub lower_lines : Bool → List ℕ
    lower_lines inside =
        cond inside (level_lines h faulty config hears lower (place % size)
        (block size (place / size) group)) []

    abbrev pub lines_below : List ℕ
    lines_below = lower_lines (ltb place (top.blocks * size))

    abbrev pub top_line : List ℕ
    top_line = level_line h faulty config hears (length items) size (level_of top)
        (h.node - place) group

    pub lines_by : level_lines h faulty config hears (levels_in xs) place group
        ≡ lines_below ++ top_line
    lines_by =
        let by : (n d : ℕ) → List ℕ = λ n d.
        cond (ltb place (top.blocks * n)) (level_lines h faulty config hears lower (place % n)
        (block n (place / n) group)) []
        ++ level_line h faulty config hears d n (level_of top) (h.node - place) group in
        ap (λ (ls : List Level). level_lines h faulty config hears ls place group)
        (levels_are base xs items top e are)
        ∙ (ap (λ (n : ℕ). by n (length lower)) (sym (size_is base xs items top e are))
        ∙ ap (by size) (length-levels_in items))

    -- of a node of a block
    pub lower_in : (n : ℕ) (own : List State) → n ≡ size → place < top.blocks * n
        → own ≡ block n (place / n) group
        → level_lines h faulty config hears lower (place % n) own ≡ lines_below
    lower_in n own same lt mine =
        let test : ltb place (top.blocks * size) ≡ true =
        lt-ltb place (top.blocks * size) (subst (λ m. place < top.blocks * m) same lt) in
        ap (level_lines h faulty config hears lower (place % n)) mine
        ∙ (ap (λ (m : ℕ). level_lines h faulty config hears lower (place % m)
        (block m (place / m) group)) same
        ∙ sym (ap lower_lines test))

    -- and of a spare
    pub lower_out : (n : ℕ) → n ≡ size → top.blocks * n ≤ place → [] ≡ lines_below
    lower_out n same le =
        let test : ltb place (top.blocks * size) ≡ false =
        le-ltb place (top.blocks * size) (subst (λ m. top.blocks * m ≤ place) same le) in
        sym (ap lower_lines test)

  -- a node's block stands within its group
  pub block_within : (place n node many : ℕ) → n ≡ size → place < top.blocks * n → place ≤ node
      → node - place + nodes_of (levels_in xs) ≤ many
      → node - place % n + nodes_of lower ≤ many
  block_within place n node many same lt before within =
      let some : 0 < n = block_some top.blocks n place lt in
      let inside : place / n < top.blocks = div_below place n top.blocks some lt in
      let room = block_room top.blocks n (place / n) inside in
      let below = size_is base xs items top e are in
      let whole = group_nodes base xs items top e are in
      let sized = (top_sized base xs items top e are).whole in
      let blocks : top.blocks * n ≡ top.blocks * size = ap (λ (m : ℕ). top.blocks * m) same in
      omega (arith, some, room, below, whole, sized, blocks, same, before, within)

  pub place_before : (place n node : ℕ) → place < top.blocks * n → place ≤ node → place % n ≤ node
  place_before place n node lt before =
      let some : 0 < n = block_some top.blocks n place lt in
      omega (arith, some, before)
