-- The numbers of the top level of an accepted plan.
use Rattle.std.proofs.Common.{◌≡◌, ℕ, ◌+◌, ◌-◌, ◌*◌, ◌≤◌, List, [], ◌∷◌, ◌++◌, length, Some, get_or}
use Rattle.std.proofs.Common.{refl, sym, ap, ap₂, ◌∙◌, arith}
use Rattle.std.specs.List.{slice_get}
use Rattle.std.proofs.lemmas.List.{append_assoc, get_or_at, length_push}
use Rattle.std.proofs.lemmas.Option.{get_or_from_slice_get}
use Rattle.construction.specs.Plans.{Level, Plan, plan_nodes, plan_depth, leaders_of, beat_of}
use Rattle.construction.specs.Plans.{nodes_of, faults_of}
use Rattle.leader_pointers.proofs.Intervals.{interval_le}
use Rattle.plan_numbers.specs.declared.numbers.LevelNums.{LevelNums}
use Rattle.plan_numbers.specs.Numbers.{below_of, numbers_over, numbers_of, level_numbers}
use Rattle.plan_numbers.specs.Premises.{LevelsAccepted, IsAccepted}
use Rattle.plan_numbers.specs.Sizes.{block_nodes}
use Rattle.plan_numbers.proofs.Accepted.{accepted_sized, meets, level_sized, block_is}
use Rattle.run_explanations.specs.declared.tops.Top.{Top}
use Rattle.run_explanations.specs.Tops.{IsTop, top_over, top_in, top_of}

-- how large the numbers are
over_is_top : (base : ℕ) (level : Level) (below : List Level) → LevelsAccepted base (level ∷ below)
    → IsTop (top_over level below)
over_is_top base level below accepted =
    let met = meets (below_of base below) level accepted.1 in
    let low = accepted_sized base below accepted.0 in
    let sized = level_sized (below_of base below) level low met in
    let leaders = sized.leaders in
    let span = sized.most_span in
    record {
      blocks = met.most_blocks;
      leaders = sized.leaders;
      few_leaders = omega (arith, met.blocks);
      beat = sized.beat;
      most_beat = sized.most_beat;
      nodes = omega (arith, met.most_nodes);
      quorum = low.quorum;
      intervals = λ i lt.
          let le = interval_le (beat_of level) (leaders_of level) i level.blocks (omega arith)
          (omega arith) in
          omega (arith, le, span);
    }

in_is_top : (base : ℕ) (levels : List Level) → LevelsAccepted base levels → 1 ≤ length levels
    → IsTop (top_in levels)
in_is_top base [] accepted some = absurd (omega (arith, some))
in_is_top base (level ∷ below) accepted some = over_is_top base level below accepted

pub is_top : (plan : Plan) → IsAccepted plan → 1 ≤ plan_depth plan → IsTop (top_of plan)
is_top plan accepted some = in_is_top plan.base plan.levels accepted.levels some

-- the nodes of the blocks are nodes of the plan
in_nodes : (levels : List Level) → (top_in levels).blocks * (top_in levels).nodes ≤ nodes_of levels
in_nodes [] = omega arith
in_nodes (level ∷ below) = omega arith

pub top_nodes : (plan : Plan) → (top_of plan).blocks * (top_of plan).nodes ≤ plan_nodes plan
top_nodes plan = in_nodes plan.levels

-- ---- as they are read

count : (base : ℕ) (levels : List Level) → length (numbers_of base levels) ≡ length levels
count base [] = refl
count base (level ∷ below) =
    omega (
      arith,
      length_push (numbers_of base below) (numbers_over (below_of base below) level),
      count base below,
    )

-- the last of these numbers are those of the top level
last_numbers : (base : ℕ) (level : Level) (below : List Level) (i : ℕ) (nums : LevelNums)
    → i ≡ length below → slice_get (numbers_of base (level ∷ below)) i ≡ Some nums
    → nums ≡ numbers_over (below_of base below) level
last_numbers base level below i nums at here =
    let first : List LevelNums = numbers_of base below in
    let last : LevelNums = numbers_over (below_of base below) level in
    sym (get_or_from_slice_get (first ++ last ∷ []) i nums nums here)
    ∙ get_or_at first last [] nums i (count base below ∙ sym at)

-- and those before them are those of the level below
lower_faults : (base : ℕ) (level : Level) (levels : List Level) (i : ℕ) (nums : LevelNums)
    → 1 ≤ length levels → i + 1 ≡ length levels
    → slice_get (numbers_of base (level ∷ levels)) i ≡ Some nums → nums.faults ≡ faults_of levels
lower_faults base level [] i nums some at here = absurd (omega (arith, some))
lower_faults base level (second ∷ below) i nums some at here =
    let first : List LevelNums = numbers_of base below in
    let low : LevelNums = numbers_over (below_of base below) second in
    let last : LevelNums = numbers_over (below_of base (second ∷ below)) level in
    let place : i ≡ length below = omega (arith, at) in
    ap (λ (m : LevelNums). m.faults)
    (sym (get_or_from_slice_get ((first ++ low ∷ []) ++ last ∷ []) i nums nums here)
    ∙ (ap (λ xs. get_or xs i nums) (append_assoc first (low ∷ []) (last ∷ []))
    ∙ get_or_at first low (last ∷ []) nums i (count base below ∙ sym place)))

none_in : (levels : List Level) → length levels ≤ 1 → 0 ≡ (top_in levels).faults
none_in [] one = refl
none_in (level ∷ []) one = refl
none_in (level ∷ second ∷ below) one = absurd (omega (arith, one))

pub faults_none : (plan : Plan) → plan_depth plan ≤ 1 → 0 ≡ (top_of plan).faults
faults_none plan one = none_in plan.levels one

faults_in : (base : ℕ) (levels : List Level) (i : ℕ) (nums : LevelNums) → 2 ≤ length levels
    → i ≡ length levels - 2 → slice_get (numbers_of base levels) i ≡ Some nums
    → nums.faults ≡ (top_in levels).faults
faults_in base [] i nums two at here = absurd (omega (arith, two))
faults_in base (level ∷ levels) i nums two at here =
    lower_faults base level levels i nums (omega (arith, two)) (omega (arith, two, at)) here

pub faults_read : (plan : Plan) (i : ℕ) (nums : LevelNums) → 2 ≤ plan_depth plan
    → i ≡ plan_depth plan - 2 → slice_get (level_numbers plan) i ≡ Some nums
    → nums.faults ≡ (top_of plan).faults
faults_read plan i nums two at here = faults_in plan.base plan.levels i nums two at here

top_from : (base : ℕ) (levels : List Level) (i n f : ℕ) (nums : LevelNums)
    → LevelsAccepted base levels → 1 ≤ length levels → i ≡ length levels - 1
    → slice_get (numbers_of base levels) i ≡ Some nums → n ≡ block_nodes nums
    → f ≡ (top_in levels).faults
    → ◌≡◌ {A = Top}
    (record
    { blocks = nums.blocks; leaders = nums.leaders; beat = nums.beat; nodes = n; faults = f })
    (top_in levels)
top_from base [] i n f nums accepted some at here nodes faults = absurd (omega (arith, some))
top_from base (level ∷ below) i n f nums accepted some at here nodes faults =
    let met = meets (below_of base below) level accepted.1 in
    let three = met.blocks in
    let is : nums ≡ numbers_over (below_of base below) level =
    last_numbers base level below i nums (omega (arith, at)) here in
    let size : n ≡ nodes_of below =
    nodes ∙ (ap (λ (m : LevelNums). block_nodes m) is
    ∙ block_is level.blocks (nodes_of below) level.spares (omega arith)) in
    ap
    (λ (m : LevelNums). record
    { blocks = m.blocks; leaders = m.leaders; beat = m.beat; nodes = n; faults = f })
    is
    ∙ ap₂
    (λ (n f : ℕ). record {
      blocks = level.blocks;
      leaders = leaders_of level;
      beat = beat_of level;
      nodes = n;
      faults = f;
    })
    size faults

pub top_read : (plan : Plan) (i n f : ℕ) (nums : LevelNums) → IsAccepted plan → 1 ≤ plan_depth plan
    → i ≡ plan_depth plan - 1 → slice_get (level_numbers plan) i ≡ Some nums → n ≡ block_nodes nums
    → f ≡ (top_of plan).faults
    → ◌≡◌ {A = Top}
    (record
    { blocks = nums.blocks; leaders = nums.leaders; beat = nums.beat; nodes = n; faults = f })
    (top_of plan)
top_read plan i n f nums accepted some at here nodes faults =
    top_from plan.base plan.levels i n f nums accepted.levels some at here nodes faults
