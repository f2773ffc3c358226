use Rattle.std.proofs.Common.{◌≡◌, ◌-◌, ◌*◌, ◌<◌, true, List, length, map, All, sym, ap, ◌∙◌, subst}
use Rattle.std.proofs.Common.{arith}
use Rattle.std.specs.List.{sum_by}
use Rattle.std.proofs.lemmas.List.{length-map, with_items_is}
use Rattle.construction.specs.Plans.{Level, Plan, nodes_of, plan_nodes, plan_depth}
use Rattle.counter_core.specs.Meanings.{cut}
use Rattle.plan_numbers.specs.Numbers.{levels_in}
use Rattle.plan_laws.specs.PlanMeaning.{IsInRange}
use Rattle.shared_board.specs.Sharing.{Shares}
use Rattle.shared_board.specs.Boards.{Board, AreLiars}
use Rattle.tower.specs.Placings.{Placing, key_of, cost_of, IsPlacedOn}
use Rattle.tower.specs.Sharing.{IsShared, plan_of}
use Rattle.tower.proofs.Stepped.{groups_fit, groups_low}
use Rattle.tower.proofs.Taken.{cut_range, all_cost}
use Rattle.tower.proofs.towers.Tower.gather.Goals as goal

pub gather_groups-shared-inside-requires : goal.gather_groups-shared-inside-requires
gather_groups-shared-inside-requires g c =
    let inside = c.shared.inside in
    let i = c.shared.invariant in
    let levels : List Level = levels_in inside.levels.items in
    let board : Board = c.take.new.self in
    let nodes = ap (λ (s : Shares). plan_nodes s.plan) c.shared.view_is
    ∙ ap plan_nodes c.requires.plan in
    let size : length board.states ≡ nodes_of levels =
    ap (λ (b : Board). length b.states) c.take.ensures
    ∙ (length-map c.args.config.now.current (cut inside.board.depth)
    ∙ (c.requires.size ∙ sym nodes)) in
    let depth : board.depth ≡ length levels = ap (λ (b : Board). b.depth) c.take.ensures
    ∙ i.depth in
    let low = groups_low levels board inside.groups.items size depth i.keys i.ready in
    let fit = groups_fit levels board inside.groups.items size depth i.keys i.ready in
    subst (All (IsPlacedOn board)) (sym c.deref_mut.ensures.value)
    (λ k none lt. record {
      ready = i.ready k none lt;
      height = low k none lt;
      within = fit k none lt;
    })

pub invariant_of-shared : goal.invariant_of-shared
invariant_of-shared g c =
    let inside = c.shared.inside in
    let i = c.shared.invariant in
    let levels : List Level = levels_in inside.levels.items in
    let plan : Plan = plan_of inside.version inside.base inside.levels.items in
    let board : Board = c.take.new.self in
    let new : List Placing = c.gather_groups-shared-inside.new.groups in
    let plan_is : plan ≡ c.args.self.now = ap (λ (s : Shares). s.plan) c.shared.view_is
    ∙ c.requires.plan in
    let nodes = ap plan_nodes plan_is in
    let size : length board.states ≡ nodes_of levels =
    ap (λ (b : Board). length b.states) c.take.ensures
    ∙ (length-map c.args.config.now.current (cut inside.board.depth)
    ∙ (c.requires.size ∙ sym nodes)) in
    let depth : board.depth ≡ length levels = ap (λ (b : Board). b.depth) c.take.ensures
    ∙ i.depth in
    let keys = c.gather_groups-shared-inside.ensures.keys
    ∙ (ap (map key_of) c.deref_mut.ensures.value ∙ i.keys) in
    let long : length new ≡ inside.groups.len =
    omega (
      arith,
      ap length c.gather_groups-shared-inside.ensures.keys,
      length-map new key_of,
      length-map c.deref_mut.result.now key_of,
      c.deref_mut.ensures.len,
    ) in
    let range : All (IsInRange plan) board.states =
    subst (All (IsInRange plan)) (sym (ap (λ (b : Board). b.states) c.take.ensures))
    (cut_range plan inside.board.depth c.args.config.now.current i.accepted i.depth
    (subst (λ (p : Plan). All (IsInRange p) c.args.config.now.current)
    (sym plan_is) c.requires.range)) in
    let kept : IsShared inside.version inside.base inside.levels.items inside.rows.items true board
    new c.gather_groups-shared-inside.result = record {
      accepted = i.accepted;
      numbers = i.numbers;
      are_rows = i.are_rows;
      size = size;
      depth = depth;
      keys = keys;
      ready = λ k none lt. let stands = c.gather_groups-shared-inside.ensures.stand k none lt in
          stands.room;
      stand = λ made. c.gather_groups-shared-inside.ensures.stand;
      range = λ made. range;
      settled = c.gather_groups-shared-inside.ensures.settled;
    } in
    subst (λ gs. IsShared inside.version inside.base inside.levels.items inside.rows.items true
    board gs c.gather_groups-shared-inside.result)
    (sym (with_items_is inside.groups new long)) kept

pub returns-clause-cost : goal.returns-clause-cost
returns-clause-cost g c =
    let inside = c.shared.inside in
    let i = c.shared.invariant in
    let levels : List Level = levels_in inside.levels.items in
    let plan : Plan = plan_of inside.version inside.base inside.levels.items in
    let board : Board = c.take.new.self in
    let plan_is : plan ≡ c.args.self.now = ap (λ (s : Shares). s.plan) c.shared.view_is
    ∙ c.requires.plan in
    let nodes : nodes_of levels ≡ plan_nodes c.args.self.now = ap plan_nodes plan_is in
    let faulty : board.faulty ≡ c.args.faulty.now.ids =
    ap (λ (b : Board). b.faulty) c.take.ensures in
    let rising = subst (λ ids. AreLiars (nodes_of levels) ids) (sym faulty)
    (record {
      rising = c.facts.ensures.rising;
      below =
          subst (λ n. All (λ id. id < n) c.args.faulty.now.ids) (sym nodes) c.requires.ids;
    }) in
    let cost = all_cost levels board inside.groups.items i.keys i.ready rising in
    let sum = ap (sum_by (cost_of board)) c.deref_mut.ensures.value in
    let few : 3 * length levels * (nodes_of levels - length board.faulty)
    ≡ 3 * plan_depth c.args.self.now *
    (plan_nodes c.args.self.now - length c.args.faulty.now.ids) =
    ap (λ ids. 3 * length levels * (nodes_of levels - length ids)) faulty
    ∙ ap (λ (p : Plan). 3 * plan_depth p * (plan_nodes p - length c.args.faulty.now.ids)) plan_is in
    omega (arith, c.gather_groups-shared-inside.ensures.steps, sum, cost, few)
