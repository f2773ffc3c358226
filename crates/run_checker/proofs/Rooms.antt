-- The room that what faulty nodes tell in one round needs.
use Rattle.std.proofs.Common.{◌≡◌, ℕ, zero, suc, ◌+◌, ◌-◌, ◌*◌, ◌<◌, ◌≤◌, Bool, true, false}
use Rattle.std.proofs.Common.{if◌then◌else◌, List, length, take, get_or, refl, sym, ap, ap₂, subst}
use Rattle.std.proofs.Common.{add-one, arith}
use Rattle.std.specs.Int.{div_ceil}
use Rattle.std.specs.List.{flat_map}
use Rattle.std.proofs.Math.Nat.{mul-add, add-mul, mul_comm}
use Rattle.std.proofs.lemmas.List.{length-map}
use Rattle.std.proofs.lemmas.List.Folds.{length-flat_map-take}
use Rattle.sync_types.specs.FaultSets.{FaultIds, AreFaulty, is_in}
use Rattle.construction.specs.Plans.{Plan, plan_nodes, plan_faults}
use Rattle.plan_numbers.specs.Premises.{IsAccepted}
use Rattle.plan_laws.proofs.PlanCounter.{plan_sizes}
use Rattle.shared_board.specs.Sharing.{place_among}
use Rattle.shared_board.proofs.Ids.{places_of_all}
use Rattle.state_codec.specs.Shapes.{Shape, shape_of, fields_at, bits_in, bytes_in}
use Rattle.round_runner.specs.Locks.{correct_nodes}
use Rattle.run_checker.specs.Grammar.{pairs_of}
use Rattle.run_checker.proofs.LiveLines.{few_bits}
use Rattle.run_checker.specs.Tellings.{most_pairs}
use Rattle.run_checker.proofs.Ranges.{count_one, count_faulty}
use Rattle.run_checker.proofs.ToldPlaces.{row_of, length-pairs_of}

eighth : (n : ℕ) → n ≤ 251 → div_ceil n 8 ≤ 32
eighth n le = omega arith

-- no state of a plan has more than 64 digits
pub few_bytes : (plan : Plan) → IsAccepted plan → (shape : Shape) → shape ≡ shape_of plan
    → (v : ℕ) → bytes_in (fields_at shape v) ≤ 32
few_bytes plan accepted shape is v =
    subst (λ (s : Shape). bytes_in (fields_at s v) ≤ 32) (sym is)
    (eighth (bits_in (fields_at (shape_of plan) v)) (few_bits plan v accepted))

-- each node is faulty or correct
nodes_counted : (ids : List ℕ) (n : ℕ) → length (correct_nodes n ids) + place_among ids n ≡ n
nodes_counted ids zero = refl
nodes_counted ids (suc n) = by (is_in ids n) refl (nodes_counted ids n) where
  next : length (correct_nodes (n + 1) ids) ≡ length (correct_nodes (suc n) ids)
  next = ap (λ (m : ℕ). length (correct_nodes m ids)) (add-one n)

  by : (b : Bool) → is_in ids n ≡ b → length (correct_nodes n ids) + place_among ids n ≡ n
      → length (correct_nodes (suc n) ids) + place_among ids (suc n) ≡ suc n
  by true e before =
      let here : place_among ids (suc n) ≡ place_among ids n + 1 =
      ap (λ (b : Bool). place_among ids n + (if b then 1 else 0)) e in
      omega (arith, next, here, count_faulty ids n e, before)
  by false e before =
      let here : place_among ids (suc n) ≡ place_among ids n + 0 =
      ap (λ (b : Bool). place_among ids n + (if b then 1 else 0)) e in
      omega (arith, next, here, count_one ids n e, before)

-- so the others are as many as are left
pub correct_left : (set : FaultIds) → AreFaulty set
    → length (correct_nodes set.nodes set.ids) ≡ set.nodes - length set.ids
correct_left set faulty =
    let count = nodes_counted set.ids set.nodes in
    let bad = places_of_all set.ids set.nodes faulty.rising faulty.below in
    omega (arith, count, bad)

more_product : (q d a : ℕ) → q * (q + a + d) ≤ (q + d) * (q + a)
more_product q d a =
    omega (arith, mul-add q (q + a) d, add-mul q d (q + a), mul-add d q a, mul_comm d q)

-- the more faulty nodes there are, up to a third, the more pairs
more_pairs : (q f n : ℕ) → q ≤ f → 3 * f < n → q * (n - q) ≤ f * (n - f)
more_pairs q f n few third =
    let d = f - q in
    let a = n - f - q in
    let faults : f ≡ q + d = omega (arith, few) in
    let least : n - q ≡ q + a + d = omega (arith, few, third) in
    let most : n - f ≡ q + a = omega (arith, few, third) in
    omega (
      arith,
      ap (λ (m : ℕ). q * m) least,
      ap₂ (λ (k m : ℕ). k * m) faults most,
      more_product q d a,
    )

-- no faulty set that a plan tolerates has more pairs than there is room for
pub pairs_few : (plan : Plan) → IsAccepted plan → (set : FaultIds) → set.nodes ≡ plan_nodes plan
    → AreFaulty set → length set.ids ≤ plan_faults plan
    → length (pairs_of set.nodes set.ids) ≤ most_pairs plan
pairs_few plan accepted set nodes faulty few =
    let q = length set.ids in
    let f = plan_faults plan in
    let third = (plan_sizes plan accepted).few in
    let good = correct_left set faulty in
    omega (
      arith,
      length-pairs_of set.nodes set.ids,
      ap (λ (m : ℕ). q * m) good,
      more_pairs q f set.nodes few (omega (arith, third, nodes)),
      ap (λ (m : ℕ). f * (m - f)) nodes,
    )

-- the pairs of the ids before a place, and those of the one there, are among all
pub room_for_row : (n : ℕ) (ids : List ℕ) (i : ℕ) (now : List (ℕ × ℕ)) → i < length ids
    → now ≡ flat_map (row_of (correct_nodes n ids)) (take i ids)
    → length now + length (correct_nodes n ids) ≤ length (pairs_of n ids)
room_for_row n ids i now lt is =
    let vs = correct_nodes n ids in
    let long = ap (λ (l : List (ℕ × ℕ)). length l) is in
    let pair : ℕ → ℕ × ℕ = λ w. (get_or ids i 0, w) in
    let row = length-map vs pair in
    let all = length-flat_map-take (row_of vs) ids i 0 lt in
    omega (arith, long, row, all)
