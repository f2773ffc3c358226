-- What a shared round keeps of a new board, and what counting it costs.
use Rattle.std.proofs.Common.{◌≡◌, ℕ, ◌+◌, ◌-◌, ◌*◌, ◌≤◌, List, length, map, All, sym, ap, ◌∙◌}
use Rattle.std.proofs.Common.{subst, arith}
use Rattle.std.specs.List.{sum_by}
use Rattle.counting.proofs.Places.{at_most}
use Rattle.sync_types.specs.FaultSets.{is_in}
use Rattle.std.proofs.lemmas.List.Elements.{All-map, All-weaker}
use Rattle.sync_types.specs.States.{State}
use Rattle.construction.specs.Plans.{Level, Plan, nodes_of, plan_depth}
use Rattle.counter_core.specs.Meanings.{cut}
use Rattle.plan_numbers.specs.Premises.{IsAccepted}
use Rattle.plan_laws.specs.PlanMeaning.{IsInRange}
use Rattle.plan_laws.proofs.PlanCounter.{plan_ignores}
use Rattle.shared_board.specs.Sharing.{place_among, honest_in}
use Rattle.shared_board.specs.Groups.{Group, groups_of, nodes_in}
use Rattle.shared_board.proofs.Costs.{groups_weigh, honest_adds, honest_count}
use Rattle.shared_board.proofs.Ids.{places_of_all}
use Rattle.shared_board.specs.Boards.{Board, AreLiars}
use Rattle.tower.specs.Placings.{Placing, key_of, cost_of, IsReady}
use Rattle.tower.proofs.Sums.{sum_mapped}

-- states in range stay so without their further registers
pub cut_range : (plan : Plan) (d : ℕ) (states : List State) → IsAccepted plan → d ≡ plan_depth plan
    → All (IsInRange plan) states → All (IsInRange plan) (map (cut d) states)
cut_range plan d states accepted same range =
    subst (λ d. All (IsInRange plan) (map (cut d) states)) (sym same)
    (All-map (IsInRange plan) (cut (plan_depth plan)) states
    (All-weaker (IsInRange plan) (λ s. IsInRange plan (cut (plan_depth plan) s))
    (λ s h. (plan_ignores plan accepted).into_cut s h) states range))

-- all groups together have each correct node at most once a level
pub all_cost : (levels : List Level) (b : Board) (groups : List Placing)
    → map key_of groups ≡ groups_of levels 0 → All IsReady groups
    → AreLiars (nodes_of levels) b.faulty
    → sum_by (cost_of b) groups ≤ length levels * (nodes_of levels - length b.faulty)
all_cost levels b groups keys ready liars =
    let n : ℕ = nodes_of levels in
    let weight : ℕ → ℕ → ℕ = λ first count. length (honest_in b.faulty first count) in
    let weigh : Group → ℕ = λ g. weight g.first (nodes_in g) in
    let each : All (λ p. cost_of b p ≡ weigh (key_of p)) groups = λ i none lt.
    ap (weight _) (ready i none lt).numbers.sized.whole in
    let sums = sum_mapped (cost_of b) weigh key_of groups each ∙ ap (sum_by weigh) keys in
    let most = groups_weigh weight
    (λ first count more. honest_adds b.faulty first count more) levels 0 in
    let all : 0 + n ≡ n = omega arith in
    let honest : weight 0 n ≡ n - length b.faulty =
    omega (
      arith,
      honest_count b.faulty n 0,
      ap
          (place_among b.faulty) all,
      places_of_all b.faulty n liars.rising liars.below,
      at_most
          (is_in b.faulty) n,
    ) in
    omega (arith, sums, most, ap (λ w. length levels * w) honest)
