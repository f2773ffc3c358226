use Rattle.std.proofs.Common.{◌≤◌, ◌∙◌, length, sym, ap, arith, subst}
use Rattle.sync_types.specs.States.{State}
use Rattle.plan_laws.specs.PlanMeaning.{IsInRange}
use Rattle.adversary_script.proofs.LiesInRange.{depth_of_node}
use Rattle.round_runner.proofs.Own.{own_stands, none_stands}
use Rattle.round_runner.proofs.ToldBelow.{lie_laid}
use Rattle.round_runner.proofs.telling.tell_itself.Goals as goal

pub old-requires-clause-node : goal.old-requires-clause-node
old-requires-clause-node c = omega (arith, c.args.hearer.now.node, c.args.hearer.now.size)

pub old-requires-clause-depth : goal.old-requires-clause-depth
old-requires-clause-depth c =
    c.requires.deep c.place_of-own.result c.index-told-own.result
    (omega (
      arith,
      c.place_of-own.ensures.within,
      c.len-few.ensures.exact,
      c.len-few.ensures.within,
      c.args.hearer.now.nodes,
      c.requires.size,
    ))

pub returns-then-contains-clause-own : goal.returns-then-contains-clause-own
returns-then-contains-clause-own c =
    let ids = c.args.hearer.now.faulty.now.ids in
    let room : length ids ≤ length c.args.told.now =
    omega (
      arith,
      c.len-few.ensures.exact,
      c.len-few.ensures.within,
      c.args.hearer.now.nodes,
      c.requires.size,
    ) in
    own_stands ids c.args.hearer.now.v c.args.hearer.now.states.now.current c.args.told.now
    c.place_of-own.result c.old.new.out c.facts.ensures.rising c.place_of-own.ensures.within
    room c.place_of-own.ensures.id c.old.ensures

pub returns-then-contains-clause-told : goal.returns-then-contains-clause-told
returns-then-contains-clause-told c =
    let hearer = c.args.hearer.now in
    let range = c.facts-2.ensures.current hearer.v (omega (arith, hearer.node, hearer.size)) in
    lie_laid hearer.tower.now hearer.states.now.shape.depth c.place_of-own.result c.args.told.now
    c.old.new.out c.requires
    (ap (λ (s : State). length s.registers) c.old.ensures
    ∙ depth_of_node hearer.states.now.shape hearer.v _ range)
    (subst (IsInRange hearer.tower.now) (sym c.old.ensures)
    (hearer.takes.counts hearer.v hearer.node _ range))

pub returns-else-contains-clause-own : goal.returns-else-contains-clause-own
returns-else-contains-clause-own c =
    none_stands c.args.hearer.now.faulty.now.ids c.args.hearer.now.v
    c.args.hearer.now.states.now.current c.args.told.now
    (sym c.contains.ensures ∙ c.if-contains.false)
