-- A node's group of a lower level lies inside that of a higher one.
use Rattle.std.proofs.Common.{ℕ, ◌+◌, ◌*◌, ◌/◌, ◌%◌, ◌<◌, ◌≤◌, List, [], ◌∷◌, length, sym, subst}
use Rattle.std.proofs.Common.{⊎_elim, arith}
use Rattle.std.proofs.lemmas.Bool.{cases_eq}
use Rattle.construction.specs.Plans.{Level, group_size, nodes_of, low_of}
use Rattle.construction.proofs.Blocks.{block_room}
use Rattle.shared_board.specs.Groups.{Group, group_at, nodes_in}
use Rattle.shared_board.proofs.Descent.{InBlock, in_block, place_inner, block_below, group_top}
use Rattle.shared_board.proofs.Descent.{group_under}

-- the nodes of a group are some of those from a first one to before a last one
pub record IsWithin (g : Group) (from to : ℕ) : Type 0 where
  pub first : from ≤ g.first
  pub last : g.first + nodes_in g ≤ to

-- each group of the levels is one of their nodes
pub group_within : (levels : List Level) (first place l : ℕ) → place < nodes_of levels
    → l < length levels → low_of levels place ≤ l + 1
    → IsWithin (group_at levels first place l) first (first + nodes_of levels)
group_within [] first place l within lt low = absurd (omega arith)
group_within (level ∷ below) first place l within lt low =
    let n : ℕ = nodes_of below in
    let all : ℕ = group_size level n in
    let again : (b : InBlock level below place l) → l < length below →
    IsWithin (group_at below (first + place / n * n) (place % n) l) (first + place / n * n)
    (first + place / n * n + n) =
    λ b less. group_within below (first + place / n * n) (place % n) l
    (place_inner level below place b.test) less b.low in
    ⊎_elim
    (λ e. subst (λ g. IsWithin g first (first + all)) (sym (group_top level below first place l e))
    (record { first = omega arith; last = omega arith }))
    (λ ne.
    let less : l < length below = omega (arith, lt, ne) in
    let b = in_block level below place l less low in
    let room = block_room level.blocks n (place / n) (block_below level below place b.test) in
    let block = again b less in
    subst (λ g. IsWithin g first (first + all)) (sym (group_under level below first place l less))
    (record { first = omega (arith, block.first); last = omega (arith, block.last, room) }))
    (cases_eq l (length below))

-- that of a lower level is one of the nodes of that of a higher one
pub groups_nest : (levels : List Level) (first place k l : ℕ) → place < nodes_of levels
    → k ≤ l → l < length levels → low_of levels place ≤ k + 1
    → let wide = group_at levels first place l in
    IsWithin (group_at levels first place k) wide.first (wide.first + nodes_in wide)
groups_nest [] first place k l within le lt low = absurd (omega arith)
groups_nest (level ∷ below) first place k l within le lt low =
    let n : ℕ = nodes_of below in
    let Nests : Group → Group
    → Type 0 = λ g wide. IsWithin g wide.first (wide.first + nodes_in wide) in
    let again : (b : InBlock level below place k) → l < length below →
    Nests (group_at below (first + place / n * n) (place % n) k)
    (group_at below (first + place / n * n) (place % n) l) =
    λ b less. groups_nest below (first + place / n * n) (place % n) k l
    (place_inner level below place b.test) le less b.low in
    ⊎_elim
    (λ e. subst (Nests (group_at (level ∷ below) first place k))
    (sym (group_top level below first place l e))
    (group_within (level ∷ below) first place k within (omega (arith, le, lt)) low))
    (λ ne.
    let less : l < length below = omega (arith, lt, ne) in
    let lower : k < length below = omega (arith, le, less) in
    let b = in_block level below place k lower low in
    subst (Nests (group_at (level ∷ below) first place k))
    (sym (group_under level below first place l less))
    (subst (λ g. Nests g (group_at below (first + place / n * n) (place % n) l))
    (sym (group_under level below first place k lower)) (again b less)))
    (cases_eq l (length below))
