-- How much is counted in all groups together, if each group counts so much of each of its nodes.
use Rattle.std.proofs.Common.{◌≡◌, ℕ, zero, suc, ◌+◌, ◌-◌, ◌*◌, ◌≤◌, List, [], ◌∷◌, Bool, true}
use Rattle.std.proofs.Common.{false, not, cond, if◌then◌else◌, length, refl, sym, ap, ◌∙◌, arith}
use Rattle.std.specs.List.{range_with_len, flat_map, sum_by}
use Rattle.std.proofs.lemmas.Nat.{mul-le}
use Rattle.std.proofs.lemmas.List.Sums.{sum_by-append, sum_by-cons}
use Rattle.construction.specs.Plans.{Level, group_size, nodes_of}
use Rattle.sync_types.specs.FaultSets.{is_in}
use Rattle.shared_board.specs.Sharing.{place_among, honest_in}
use Rattle.shared_board.specs.Groups.{Group, groups_of, nodes_in}

-- a weight of stretches of nodes that adds up
module _ (weight : (first count : ℕ) → ℕ)
    (adds : (first count more : ℕ)
    → weight first (count + more) ≡ weight first count + weight (first + count) more) where
  abbrev pub group_weight : Group → ℕ
  group_weight g = weight g.first (nodes_in g)

  less_weighs : (first count more : ℕ) → count ≤ more → weight first count ≤ weight first more
  less_weighs first count more le =
      let rest : count + (more - count) ≡ more = omega arith in
      omega (arith, adds first count (more - count), ap (weight first) rest)

  -- the groups of blocks, each of which weighs at most so many times its nodes
  blocks_weigh : (f : ℕ → List Group) (n times first : ℕ)
      → ((b : ℕ) → sum_by group_weight (f b) ≤ times * weight (first + b * n) n) → (k a : ℕ)
      → sum_by group_weight (flat_map f (range_with_len a k)) ≤ times * weight (first + a * n)
      (k * n)
  blocks_weigh f n times first each zero a = omega arith
  blocks_weigh f n times first each (suc k) a =
      let next : first + a * n + n ≡ first + (a + 1) * n = omega arith in
      let all : n + k * n ≡ suc k * n = omega arith in
      let sum = sum_by-append group_weight (f a) (flat_map f (range_with_len (a + 1) k)) in
      let again = blocks_weigh f n times first each k (a + 1) in
      let parts : weight (first + a * n) (suc k * n)
      ≡ weight (first + a * n) n + weight (first + (a + 1) * n) (k * n) =
      ap (weight (first + a * n)) (sym all)
      ∙ (adds (first + a * n) n (k * n)
      ∙ ap (λ s. weight (first + a * n) n + weight s (k * n)) next) in
      let product = ap (λ w. times * w) parts in
      omega (arith, sum, each a, again, product)

  -- all groups together weigh at most the nodes, once for each level
  pub groups_weigh : (levels : List Level) (first : ℕ)
      → sum_by group_weight (groups_of levels first) ≤ length levels * weight first
      (nodes_of levels)
  groups_weigh [] first = omega arith
  groups_weigh (level ∷ below) first =
      let n : ℕ = nodes_of below in
      let f : ℕ → List Group = λ b. groups_of below (first + b * n) in
      let top : Group = record { level = level; below = length below; block = n; first = first } in
      let sum = sum_by-cons group_weight top (flat_map f (range_with_len 0 level.blocks)) in
      let blocks = blocks_weigh f n (length below) first
      (λ b. groups_weigh below (first + b * n)) level.blocks 0 in
      let at : first + 0 * n ≡ first = omega arith in
      let moved = ap (λ s. length below * weight s (level.blocks * n)) at in
      let less = less_weighs first (level.blocks * n) (group_size level n) (omega arith) in
      let more : length below * weight first (level.blocks * n) ≤ length below * weight first
      (group_size level n) =
      omega (
        arith,
        mul-le (length below) (weight first (level.blocks * n)) (length below)
            (weight first (group_size level n)) (omega arith) less,
      ) in
      omega (arith, sum, blocks, moved, more)

-- the correct nodes of a stretch and its liars are all of it
pub honest_count : (faulty : List ℕ) (count first : ℕ)
    → length (honest_in faulty first count) + place_among faulty (first + count)
    ≡ count + place_among faulty first
honest_count faulty zero first =
    let e : first + 0 ≡ first = omega arith in omega (arith, ap (place_among faulty) e)
honest_count faulty (suc count) first =
    let next : first + 1 ≡ suc first = omega arith in
    let at : first + suc count ≡ first + 1 + count = omega arith in
    by (is_in faulty first) refl (ap (place_among faulty) next) (ap (place_among faulty) at)
    (honest_count faulty count (first + 1))
  where
    by : (b : Bool) → is_in faulty first ≡ b
        → place_among faulty (first + 1) ≡ place_among faulty (suc first)
        → place_among faulty (first + suc count) ≡ place_among faulty (first + 1 + count)
        → length (honest_in faulty (first + 1) count) + place_among faulty (first + 1 + count)
        ≡ count + place_among faulty (first + 1)
        → length (honest_in faulty first (suc count)) + place_among faulty (first + suc count)
        ≡ suc count + place_among faulty first
    by true e next at again =
        let here = ap (λ b. length
        (cond (not b) (first ∷ honest_in faulty (first + 1) count)
        (honest_in faulty (first + 1) count))) e in
        let more = ap (λ b. place_among faulty first + (if b then 1 else 0)) e in
        omega (arith, here, more, next, at, again)
    by false e next at again =
        let here = ap (λ b. length
        (cond (not b) (first ∷ honest_in faulty (first + 1) count)
        (honest_in faulty (first + 1) count))) e in
        let more = ap (λ b. place_among faulty first + (if b then 1 else 0)) e in
        omega (arith, here, more, next, at, again)

-- the correct nodes of two stretches, one after the other
pub honest_adds : (faulty : List ℕ) (first count more : ℕ)
    → length (honest_in faulty first (count + more))
    ≡ length (honest_in faulty first count) + length (honest_in faulty (first + count) more)
honest_adds faulty first count more =
    let at : first + (count + more) ≡ first + count + more = omega arith in
    omega (
      arith,
      honest_count faulty
          (count + more) first,
      honest_count faulty count first,
      honest_count faulty more
          (first + count),
      ap (place_among faulty) at,
    )
