use Rattle.std.proofs.Common.{◌<◌, ◌≤◌, length, sym, subst, arith}
use Rattle.construction.specs.Plans.{plan_nodes}
use Rattle.shared_board.specs.Sharing.{place_among}
use Rattle.round_runner.proofs.Told.{stands_at}
use Rattle.round_runner.proofs.ToldBelow.{one_told, none_told}
use Rattle.round_runner.proofs.telling.fill_lies.Goals.{then-u-hearer, else-u-hearer}
use Rattle.round_runner.proofs.telling.fill_lies.Goals as goal

pub loop-j-preserved : goal.loop-j-preserved
loop-j-preserved g c =
    let hearer = c.args.hearer.now in
    let says = g.L.Lies.says c.args.lies.now in
    let ids = hearer.faulty.now.ids in
    let u = c.at-u.result in
    let few : length ids ≤ plan_nodes hearer.tower.now =
    omega (arith, c.len-few.ensures.exact, c.len-few.ensures.within, hearer.nodes) in
    let among : c.loop-j.j < length ids = omega (arith, c.loop-j-test.true, c.requires.stretch) in
    elim c.if-u-hearer.branch [
      | then-u-hearer w ↦
          rw (w.noise-is, w.told-is) (one_told hearer says c.args.stretch.0 c.args.noise.now
          c.loop-j.j u c.loop-j.told c.loop-j.noise w.tell.new.noise w.tell.new.out among few
          (sym c.at-u.ensures.id) w.if-u-hearer.true c.loop-j.invariant w.tell.ensures.value
          w.tell.ensures.deep w.tell.ensures.range w.tell.ensures.noise)
      | else-u-hearer w ↦
          rw (w.noise-is, w.told-is) (none_told hearer says c.args.stretch.0 c.args.noise.now
          c.loop-j.j u c.loop-j.told c.loop-j.noise among (sym c.at-u.ensures.id)
          w.if-u-hearer.false c.loop-j.invariant)
    ]

pub tell-requires-clause-tells : goal.tell-requires-clause-tells
tell-requires-clause-tells g c =
    subst (g.L.Lies.tells c.args.lies.now c.args.hearer.now) (sym c.loop-j.invariant.noise)
    c.requires.tells

pub tell-requires-clause-depth : goal.tell-requires-clause-depth
tell-requires-clause-depth g c =
    c.loop-j.invariant.lies.deep c.loop-j.j c.index-told-j.result
    (omega (
      arith,
      c.loop-j-test.true,
      c.requires.stretch,
      c.len-few.ensures.exact,
      c.len-few.ensures.within,
      c.args.hearer.now.nodes,
      c.loop-j.invariant.lies.size,
    ))

pub returns-clause-own : goal.returns-clause-own
returns-clause-own g c = λ is.
    let hearer = c.args.hearer.now in
    let ids = hearer.faulty.now.ids in
    let at = stands_at ids hearer.v c.facts.ensures.rising is in
    c.loop-j.invariant.own (place_among ids hearer.v) at.lt at.is
