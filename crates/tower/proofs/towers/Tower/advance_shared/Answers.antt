use Rattle.std.proofs.Common.{◌≡◌, ℕ, ◌*◌, ◌<◌, ◌≤◌, ◌++◌}
use Rattle.std.proofs.Common.{if◌then◌else◌, List, length, map, drop, All}
use Rattle.std.proofs.Common.{sym, ap, ◌∙◌, subst, arith}
use Rattle.std.specs.Prelude.{◌==◌}
use Rattle.std.specs.List.{range_with_len}
use Rattle.std.proofs.lemmas.Bool.{eq-eqb, ne_eqb}
use Rattle.std.proofs.lemmas.List.{length-map, with_items_is}
use Rattle.sync_types.specs.declared.states.Reg.{Reg}
use Rattle.sync_types.specs.States.{State}
use Rattle.construction.specs.Plans.{Level, Plan, plan_depth, plan_nodes}
use Rattle.construction.specs.PhaseKing.{up}
use Rattle.construction.specs.Steps.{state_of, step_of}
use Rattle.counter_core.specs.Meanings.{cut, written}
use Rattle.plan_numbers.specs.Numbers.{levels_in}
use Rattle.plan_laws.specs.PlanMeaning.{IsInRange}
use Rattle.shared_board.specs.Sharing.{Shares, heard_with, stands_for}
use Rattle.shared_board.specs.Boards.{Board}
use Rattle.tower.specs.declared.rows.Row.{Row}
use Rattle.tower.specs.Placings.{Placing, Leads, row_register}
use Rattle.tower.specs.Sharing.{IsShared, plan_of}
use Rattle.tower.proofs.Further.{step_cut}
use Rattle.tower.proofs.Standing.{has_node}
use Rattle.tower.proofs.Stepped.{place_less, can_step, step_is}
use Rattle.tower.proofs.towers.Tower.advance_shared.Goals as goal
use Rattle.tower.proofs.towers.Tower.advance_shared.Goals.{then-row-eq0, else-row-eq0}

-- what stands for a configuration has as many states
shared_size : (plan : Plan) (config : List State) (shares : Shares)
    → shares ≡ stands_for plan config shares.faulty → length config ≡ plan_nodes plan
    → length shares.states ≡ plan_nodes plan
shared_size plan config shares stands size =
    ap (λ (s : Shares). length s.states) stands ∙ (length-map config (cut (plan_depth plan)) ∙ size)

pub write_registers-requires-clause-leads : goal.write_registers-requires-clause-leads
write_registers-requires-clause-leads g c = λ l lt low.
    let inside = c.shared.inside in
    let i = c.shared.invariant in
    let node : ℕ = c.args.node in
    let lies : List State = c.args.lies.now in
    let levels : List Level = levels_in inside.levels.items in
    let board : Board = inside.board in
    let row : Row = c.index-row.result.now in
    let has = has_node i c.shared.view_is (ap (λ (s : Shares). s.plan) c.requires.stands)
    (shared_size _ _ _ c.requires.stands c.requires.size) c.requires.node
    c.index-row.ensures in
    let less : l < length levels = omega (arith, lt, has.deep) in
    let long : length lies ≡ length board.faulty =
    c.requires.tells.size ∙ sym (ap length has.faulty_are) in
    let range = subst (λ (p : Plan). All (IsInRange p) lies) (sym has.plan_is)
    c.requires.told.range in
    let deep = subst (λ (p : Plan). All (λ s. plan_depth p ≤ length s.registers) lies)
    (sym has.plan_is) c.requires.told.deep in
    subst (λ gs. Leads board row node lies gs l) (sym c.deref_mut.ensures.value) (
      place_less levels board inside.groups.items i.size i.depth i.keys i.ready row node has.is_row
          has.within l less low,
      can_step levels board inside.groups.items i.size i.depth i.keys i.ready row node has.is_row
          has.within l less low lies inside.base (i.stand has.was_made) (i.range has.was_made) long
          range deep,
    )

pub write_registers-requires-clause-out : goal.write_registers-requires-clause-out
write_registers-requires-clause-out g c =
    let has = has_node c.shared.invariant c.shared.view_is
    (ap (λ (s : Shares). s.plan) c.requires.stands)
    (shared_size _ _ _ c.requires.stands c.requires.size) c.requires.node c.index-row.ensures in
    let out = ap (λ (s : State). length s.registers) c.set_x.ensures in
    let depth = ap plan_depth has.plan_is in
    omega (arith, has.deep, out, depth, c.requires.out)

pub invariant_of-shared : goal.invariant_of-shared
invariant_of-shared g c =
    let inside = c.shared.inside in
    let i = c.shared.invariant in
    let new : List Placing = c.write_registers.new.groups in
    let same : new ≡ inside.groups.items = c.write_registers.ensures.same
    ∙ c.deref_mut.ensures.value in
    let long : length new ≡ inside.groups.len = ap length c.write_registers.ensures.same
    ∙ c.deref_mut.ensures.len in
    subst (λ gs. IsShared inside.version inside.base inside.levels.items inside.rows.items
    inside.is_made inside.board gs inside.all_settled)
    (sym (with_items_is inside.groups new long ∙ same)) i

pub returns-clause-out : goal.returns-clause-out
returns-clause-out g c =
    let config = c.args.config.now.current in
    let faulty = c.args.shared.now.faulty in
    let stands = c.requires.stands in
    let inside = c.shared.inside in
    let i = c.shared.invariant in
    let plan : Plan = c.args.self.now in
    let node : ℕ = c.args.node in
    let lies : List State = c.args.lies.now in
    let levels : List Level = levels_in inside.levels.items in
    let board : Board = inside.board in
    let row : Row = c.index-row.result.now in
    let has = has_node i c.shared.view_is (ap (λ (s : Shares). s.plan) c.requires.stands)
    (shared_size _ _ _ c.requires.stands c.requires.size) c.requires.node
    c.index-row.ensures in
    let out : State = c.args.out.now in
    let number : ℕ = (state_of board.states node).x in
    let next : c.if-row-eq0.next ≡ (if row.low == 0 then up inside.base number else 0) =
    elim c.if-row-eq0.branch [
      | then-row-eq0 w ↦ w.next-is ∙ (w.after-next.ensures ∙ (ap (up inside.base) w.number.ensures
          ∙ sym (ap (λ t. if t then up inside.base number else 0)
          (eq-eqb row.low 0 w.if-row-eq0.true))))
      | else-row-eq0 w ↦ w.next-is
          ∙ sym (ap (λ t. if t then up inside.base number else 0)
          (ne_eqb row.low 0 w.if-row-eq0.false))
    ] in
    let f : List Placing → ℕ → Reg = row_register board row node lies in
    let stepped : (x : ℕ) → List Placing → (d : ℕ) → List Reg → State =
    λ x gs d registers. record {
      x = x;
      registers = map (f gs) (range_with_len 0 d) ++ drop d registers;
    } in
    let depth : ℕ = length row.places.items in
    let groups : List Placing = c.deref_mut.result.now in
    let x : ℕ = if row.low == 0 then up inside.base number else 0 in
    let law = step_is levels board inside.groups.items i.size i.depth i.keys i.ready row node
    has.is_row has.within inside.base lies (has.own lies c.requires.tells) inside.version out in
    c.write_registers.ensures.out
    ∙ ap (λ (s : State). stepped s.x groups depth s.registers) c.set_x.ensures
    ∙ ap (λ x. stepped x groups depth out.registers) next
    ∙ ap (λ gs. stepped x gs depth out.registers) c.deref_mut.ensures.value
    ∙ ap (λ d. stepped x inside.groups.items d out.registers) has.deep
    ∙ sym law
    ∙ ap (λ d. written d (step_of (plan_of inside.version inside.base inside.levels.items) node
    (heard_with board.faulty lies board.states)) out)
    (ap plan_depth has.plan_is)
    ∙ ap (λ (s : State). written (plan_depth plan) s out) (has.step lies
    ∙ ap (λ (s : Shares). step_of plan node (heard_with s.faulty lies s.states)) stands
    ∙ step_cut plan node faulty lies config)

pub returns-clause-cost : goal.returns-clause-cost
returns-clause-cost g c =
    let has = has_node c.shared.invariant c.shared.view_is
    (ap (λ (s : Shares). s.plan) c.requires.stands)
    (shared_size _ _ _ c.requires.stands c.requires.size) c.requires.node c.index-row.ensures in
    let faulty : List ℕ = c.shared.inside.board.faulty in
    let all : 3 * length c.index-row.result.now.places.items * length faulty
    ≡ 3 * plan_depth c.args.self.now * length c.args.shared.now.faulty =
    ap (λ d. 3 * d * length faulty) has.deep
    ∙ (ap (λ (p : Plan). 3 * plan_depth p * length faulty) has.plan_is
    ∙ ap (λ ids. 3 * plan_depth c.args.self.now * length ids) has.faulty_are) in
    omega (arith, c.write_registers.ensures.steps, all)
