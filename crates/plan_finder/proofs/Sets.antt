-- The sets of levels that a search goes through.
use Rattle.std.proofs.Common.{◌≡◌, ℕ, ◌+◌, ◌*◌, ◌/◌, ◌%◌, ◌^◌, ◌<◌, ◌≤◌, List, [], ◌∷◌, ◌++◌}
use Rattle.std.proofs.Common.{length, get_or, sym, ap, ◌∙◌, subst, inl, inr, arith}
use Rattle.std.specs.Prelude.{◌⊎◌, Option, None}
use Rattle.std.proofs.lemmas.Bool.{cases_lt}
use Rattle.std.proofs.lemmas.List.{get_or_at, get_or_append_left, length_push}
use Rattle.std.proofs.lemmas.Nat.{div-mul-add, mod-mul-add}
use Rattle.plan_numbers.proofs.Spans.{room_left}
use Rattle.std.proofs.Math.Nat.{mul-le-mul_right, mul-div_cancel_left, mul-mod_right, pow-succ'}
use Rattle.construction.specs.Plans.{Level, nodes_of, faults_of, bound_of}
use Rattle.plan_finder.specs.declared.best.Best.{Best}
use Rattle.plan_finder.specs.Steps.{IsPath, IsStep}
use Rattle.plan_finder.specs.Costs.{Reaches}
use Rattle.plan_finder.specs.Best.{levels_in, IsValidBest, IsBest, IsBestOf}
use Rattle.plan_finder.specs.Best.{IsLesser, IsTried, HasFaults, AreOver, AreBest}
use Rattle.plan_finder.proofs.Bests.{same_set, together, rank_is}

-- ---- what every path has

pub path_sized : (most : ℕ) (levels : List Level) → IsPath most levels
    → (1 ≤ nodes_of levels) × (3 * faults_of levels < nodes_of levels)
path_sized most [] path = (omega arith, omega arith)
path_sized most (level ∷ below) (path, spares, step) =
    let lower = path_sized most below path in
    let one : 1 ≤ level.blocks = omega (arith, step.least_blocks) in
    let more : 1 * nodes_of below
    ≤ level.blocks * nodes_of below = mul-le-mul_right (nodes_of below) one in
    (omega (arith, lower.0, more), omega (arith, step.quorum))

pub path_few : (most : ℕ) (levels : List Level) → 1 ≤ most → IsPath most levels
    → nodes_of levels ≤ most
path_few most [] some path = some
path_few most (level ∷ below) some (path, spares, step) = omega (arith, step.most_nodes, spares)

-- ---- by faults

module _ (most f n : ℕ) where
  faults_parts : (levels : List Level) → HasFaults most f (n + 1) levels
      → HasFaults most f n levels ⊎ Reaches most n f levels
  faults_parts levels has = elim (cases_lt (nodes_of levels) n) [
    | inl lt ↦ inl (record { path = has.path; faults = has.faults; nodes = lt })
    | inr le ↦ inr
        (record { path = has.path; nodes = omega (arith, le, has.nodes); faults = has.faults })
  ]

  faults_left : (levels : List Level) → HasFaults most f n levels → HasFaults most f (n + 1) levels
  faults_left levels has =
      record { path = has.path; faults = has.faults; nodes = omega (arith, has.nodes) }

  faults_right : (levels : List Level) → Reaches most n f levels → HasFaults most f (n + 1) levels
  faults_right levels has =
      record { path = has.path; faults = has.faults; nodes = omega (arith, has.nodes) }

  pub faults_more : (known other result : Option Best) → IsBestOf (HasFaults most f n) known
      → IsBestOf (Reaches most n f) other → IsLesser known other result
      → IsBestOf (HasFaults most f (n + 1)) result
  faults_more =
      together (HasFaults most f n) (Reaches most n f) (HasFaults most f (n + 1)) faults_left
      faults_right faults_parts

-- a cell
pub cell_is : (most width n f : ℕ) (cells : List (Option Best)) → AreBest most width cells
    → f < width
    → n * width + f < length cells → IsBestOf (Reaches most n f) (get_or cells (n * width + f) None)
cell_is most width n f cells are narrow inside = are.best n f narrow inside

-- the place of a pair in the rows
pub in_rows : (n f width rows : ℕ) → f < width → n < rows → n * width + f < rows * width
in_rows n f width rows narrow lt =
    let next : n + 1 ≤ rows = omega (arith, lt) in
    let up : (n + 1) * width ≤ rows * width = mul-le-mul_right width next in
    omega (arith, up, narrow)

-- ---- by the top level

pub path_deep : (most : ℕ) (levels : List Level) → IsPath most levels
    → 3 ^ length levels ≤ nodes_of levels
path_deep most [] path = omega arith
path_deep most (level ∷ below) (path, spares, step) =
    let three : 3 * nodes_of below
    ≤ level.blocks * nodes_of below = mul-le-mul_right (nodes_of below) step.least_blocks in
    rw (pow-succ' 3 (length below)) (omega (arith, path_deep most below path, three))

pub path_cost : (most : ℕ) (levels : List Level) → IsPath most levels
    → bound_of levels ≤ nodes_of levels * 2 ^ 40
path_cost most [] path = omega arith
path_cost most (level ∷ below) (path, spares, step) =
    let three : 3 * nodes_of below
    ≤ level.blocks * nodes_of below = mul-le-mul_right (nodes_of below) step.least_blocks in
    omega (arith, path_cost most below path, three, step.most_cost, path_sized most below path)

mul_same : (k a b : ℕ) → 0 < k → k * a ≡ k * b → a ≡ b
mul_same k a b some e =
    sym (mul-div_cancel_left a some) ∙ (ap (λ x. x / k) e ∙ mul-div_cancel_left b some)

-- a step, with other names of its numbers
moved : (most n f k g n' f' k' g' : ℕ) → n ≡ n' → f ≡ f' → k ≡ k' → g ≡ g' → IsStep most n f k g
    → IsStep most n' f' k' g'
moved most n f k g n' f' k' g' en ef ek eg step =
    subst (λ x. IsStep most n' f' k' x) eg
    (subst (λ x. IsStep most n' f' x g) ek
    (subst (λ x. IsStep most n' x k g) ef
    (subst (λ x. IsStep most x f k g) en step)))

module _ (most n k g : ℕ) (some : 3 ≤ k) where
  -- what lies below a top level of k blocks
  below_is : (level : Level) (below : List Level) → Reaches most (k * n) g (level ∷ below)
      → level.blocks ≡ k
      → nodes_of below ≡ n
  below_is level below reaches blocks =
      let spares = reaches.path.1 in
      let e : k * nodes_of below ≡ k * n =
      omega (arith, ap (λ b. b * nodes_of below) (sym blocks), reaches.nodes, spares) in
      mul_same k (nodes_of below) n (omega (arith, some)) e

  tried_left : (f : ℕ) (levels : List Level) → IsTried most (k * n) g k f levels
      → IsTried most (k * n) g k (f + 1) levels
  tried_left f [] is = absurd is.tried
  tried_left f (level ∷ below) is = record {
    reaches = is.reaches;
    tried = elim is.tried [ inl lt ↦ inl lt | inr at ↦ inr (at.0, omega (arith, at.1)) ];
  }

  tried_right : (f : ℕ) (levels : List Level) → AreOver most n f k g levels
      → IsTried most (k * n) g k (f + 1) levels
  tried_right f [] are = absurd are
  tried_right f (level ∷ below) (reaches, blocks, faults, spares, step) = record {
    reaches = record {
      path = (
        reaches.path,
        spares,
        moved most n f k g (nodes_of below) (faults_of below) level.blocks level.faults
            (sym reaches.nodes) (sym reaches.faults) (sym blocks) (sym faults) step,
      );
      nodes =
          omega (arith, spares, ap (λ b. b * nodes_of below) blocks, ap (λ m. k * m) reaches.nodes);
      faults = faults;
    };
    tried = inr (blocks, omega (arith, reaches.faults));
  }

  tried_at : (f : ℕ) (level : Level) (below : List Level) → Reaches most (k * n) g (level ∷ below)
      → level.blocks ≡ k → faults_of below ≡ f → AreOver most n f k g (level ∷ below)
  tried_at f level below reaches blocks faults =
      let nodes = below_is level below reaches blocks in (
        record { path = reaches.path.0; nodes = nodes; faults = faults },
        blocks,
        reaches.faults,
        reaches.path.1,
        moved most (nodes_of below) (faults_of below) level.blocks level.faults n f k g nodes faults
            blocks reaches.faults reaches.path.2,
      )

  tried_parts : (f : ℕ) (levels : List Level) → IsTried most (k * n) g k (f + 1) levels
      → IsTried most (k * n) g k f levels ⊎ AreOver most n f k g levels
  tried_parts f [] is = absurd is.tried
  tried_parts f (level ∷ below) is = elim is.tried [
    | inl lt ↦ inl (record { reaches = is.reaches; tried = inl lt })
    | inr at ↦ elim (cases_lt (faults_of below) f) [
      | inl lt ↦ inl (record { reaches = is.reaches; tried = inr (at.0, lt) })
      | inr le ↦ inr (tried_at f level below is.reaches at.0 (omega (arith, le, at.1)))
    ]
  ]

  pub tried_more : (f : ℕ) (known other result : Option Best)
      → IsBestOf (IsTried most (k * n) g k f) known
      → IsBestOf (AreOver most n f k g) other → IsLesser known other result
      → IsBestOf (IsTried most (k * n) g k (f + 1)) result
  tried_more f =
      together (IsTried most (k * n) g k f) (AreOver most n f k g)
      (IsTried most (k * n) g k (f + 1)) (tried_left f) (tried_right f) (tried_parts f)

module _ (most n k g : ℕ) where
  next_left : (f : ℕ) (levels : List Level) → IsTried most n g k f levels
      → IsTried most n g (k + 1) 0 levels
  next_left f [] is = absurd is.tried
  next_left f (level ∷ below) is = record {
    reaches = is.reaches;
    tried = elim is.tried [ inl lt ↦ inl (omega (arith, lt)) | inr at ↦ inl (omega (arith, at.0)) ];
  }

  module _ (f : ℕ)
      (fewer : (level : Level) (below : List Level) → Reaches most n g (level ∷ below)
      → level.blocks ≡ k → faults_of below < f)
    where
      next_back : (levels : List Level) → IsTried most n g (k + 1) 0 levels
          → IsTried most n g k f levels
      next_back [] is = absurd is.tried
      next_back (level ∷ below) is = elim is.tried [
        | inl lt ↦ elim (cases_lt level.blocks k) [
          | inl less ↦ record { reaches = is.reaches; tried = inl less }
          | inr le ↦
              let same : level.blocks ≡ k = omega (arith, le, lt) in
              record { reaches = is.reaches; tried = inr (same, fewer level below is.reaches same) }
        ]
        | inr at ↦ absurd (omega (arith, at.1))
      ]

      -- if levels of k blocks are over fewer than f faults, all by k blocks are tried
      pub next_known : (known : Option Best) → IsBestOf (IsTried most n g k f) known
          → IsBestOf (IsTried most n g (k + 1) 0) known
      next_known =
          same_set (IsTried most n g k f) (IsTried most n g (k + 1) 0) (next_left f) next_back

-- all faults below are fewer than the width
pub all_narrow : (most n k g width : ℕ) → most < 3 * width → 1 ≤ most
    → (level : Level) (below : List Level)
    → Reaches most n g (level ∷ below) → level.blocks ≡ k → faults_of below < width
all_narrow most n k g width wide some level below reaches blocks =
    omega
    (arith, path_sized most below reaches.path.0, path_few most below some reaches.path.0, wide)

-- the blocks do not divide the nodes
pub not_parted : (most n k g : ℕ) → 3 ≤ k → ¬ (n % k ≡ 0) → (level : Level) (below : List Level)
    → Reaches most n g (level ∷ below) → level.blocks ≡ k → faults_of below < 0
not_parted most n k g some not_zero level below reaches blocks =
    let e : n
    ≡ k
    * nodes_of below = omega
    (arith, sym reaches.nodes, reaches.path.1, ap (λ b. b * nodes_of below) blocks) in
    absurd (not_zero (ap (λ m. m % k) e ∙ mul-mod_right k (nodes_of below)))

-- no levels have a top one of fewer than three blocks
pub tried_none : (most n g : ℕ) (levels : List Level) → ¬ IsTried most n g 3 0 levels
tried_none most n g [] is = is.tried
tried_none most n g (level ∷ below) is = elim is.tried [
  | inl lt ↦ absurd (omega (arith, lt, is.reaches.path.2.least_blocks))
  | inr at ↦ absurd (omega (arith, at.1))
]

-- all levels are tried at seventeen blocks
module _ (most n g : ℕ) (two : 2 ≤ n) where
  reached_tried : (levels : List Level) → IsTried most n g 17 0 levels → Reaches most n g levels
  reached_tried levels is = is.reaches

  tried_reached : (levels : List Level) → Reaches most n g levels → IsTried most n g 17 0 levels
  tried_reached [] reaches = absurd (omega (arith, reaches.nodes, two))
  tried_reached (level ∷ below) reaches =
      record { reaches = reaches; tried = inl (omega (arith, reaches.path.2.most_blocks)) }

  pub all_tried : (known : Option Best) → IsBestOf (IsTried most n g 17 0) known
      → IsBestOf (Reaches most n g) known
  all_tried = same_set (IsTried most n g 17 0) (Reaches most n g) reached_tried tried_reached

-- ---- one more step fits

depth_is : (best : Best) → IsValidBest best → length (levels_in best) ≡ best.depth
depth_is best kept = let e = ap (λ ranks. get_or ranks 2 0) (rank_is best kept) in sym e

module _ (most n f k : ℕ) (best : Best) (is : IsBest (Reaches most n f) best) (some : 3 ≤ k)
    (few : k * n ≤ most)
    (limit : most ≤ 256) where
  pub front_room : best.depth < 5
  front_room =
      let deep : 3 ^ length (levels_in best)
      ≤ nodes_of (levels_in best) = path_deep most (levels_in best) is.member.path in
      let deep' : 3 ^ best.depth
      ≤ n = subst (λ d. 3 ^ d ≤ n) (depth_is best is.kept)
      (subst (λ m. 3 ^ length (levels_in best) ≤ m) is.member.nodes deep) in
      let three : 3 * n ≤ k * n = mul-le-mul_right n some in
      room_left best.depth n (k * n) deep' three (omega (arith, few, limit))

-- ---- the cells, with one more

module _ (most width n g : ℕ) (cells : List (Option Best)) (best : Option Best) (narrow : g < width)
    (size : length cells ≡ n * width + g) (are : AreBest most width cells)
    (is : IsBestOf (Reaches most n g) best) where
  pub cells_more : AreBest most width (cells ++ best ∷ [])
  cells_more = record {
    best = λ m f lt inside. elim (cases_lt (m * width + f) (length cells)) [
      | inl old ↦
          subst (IsBestOf (Reaches most m f))
          (sym (get_or_append_left cells (best ∷ []) None (m * width + f) old))
          (are.best m f lt old)
      | inr le ↦
          let at : m * width + f
          ≡ n * width + g = omega (arith, le, inside, size, length_push cells best) in
          let row : m ≡ n = sym (div-mul-add m width f lt)
          ∙ (ap (λ x. x / width) at ∙ div-mul-add n width g narrow) in
          let place : f ≡ g = sym (mod-mul-add m width f lt)
          ∙ (ap (λ x. x % width) at ∙ mod-mul-add n width g narrow) in
          let last : get_or (cells ++ best ∷ []) (m * width + f) None ≡ best =
          get_or_at cells best [] None (m * width + f) (size ∙ sym at) in
          subst (IsBestOf (Reaches most m f)) (sym last)
          (subst (λ x. IsBestOf (Reaches most x f) best) (sym row)
          (subst (λ x. IsBestOf (Reaches most n x) best) (sym place) is))
    ];
  }
