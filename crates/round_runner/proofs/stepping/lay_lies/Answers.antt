use Rattle.std.proofs.Common.{◌<◌, length, inl, refl, sym, ap, ◌∙◌, arith}
use Rattle.sync_types.specs.FaultSets.{FaultIds}
use Rattle.sync_types.specs.States.{State}
use Rattle.machine_runner.proofs.Places.{read_at}
use Rattle.round_runner.proofs.LiesLaid.{one_laid, all_laid}
use Rattle.round_runner.proofs.stepping.lay_lies.Goals as goal

pub loop-j-init : goal.loop-j-init
loop-j-init c = record {
  low = omega arith;
  high = λ some. absurd (omega (arith, some));
  size = refl;
  deep = c.requires.room.deep;
  told = λ k low lt. absurd (omega (arith, low, lt));
  each = λ u. inl refl;
}

pub loop-j-preserved : goal.loop-j-preserved
loop-j-preserved c =
    let script = c.args.round.now.script.now in
    let size = c.requires.room.size in
    let lt : c.loop-j.j < c.args.stretch.1 = omega (arith, c.loop-j-test.true) in
    let few = c.len-few.ensures in
    let nodes = ap (λ (s : FaultIds). s.nodes) c.args.round.now.liars in
    let ids : c.loop-j.j < length c.args.round.now.faulty.now.ids =
    omega (arith, lt, c.requires.stretch) in
    let lies : c.loop-j.j < length c.args.lies.now =
    omega (arith, ids, few.exact, few.within, nodes, c.args.round.now.nodes, c.requires.lies.size)
    in
    one_laid script.shape.depth c.args.round.now.faulty.now.ids c.args.stretch.0
    c.args.stretch.1
    c.args.lies.now c.args.heard.now
    c.facts.ensures.rising c.loop-j.j c.at.result c.loop-j.heard c.copy_from.new.self
    lt ids (omega (arith, c.at.ensures.node, nodes, size))
    (sym c.at.ensures.id) c.loop-j.invariant (c.copy_from.ensures
    ∙ read_at c.args.lies.now c.loop-j.j c.index-lies-j.result lies c.index-lies-j.is)
    (ap (λ (s : State). length s.registers) c.copy_from.ensures
    ∙ (ap (λ (s : State). length s.registers) c.index-lies-j.is
    ∙ c.requires.lies.deep c.loop-j.j c.index-lies-j.result lies))

pub returns-clause-room : goal.returns-clause-room
returns-clause-room c = record {
  size = c.loop-j.invariant.size ∙ c.requires.room.size;
  deep = c.loop-j.invariant.deep;
}

pub returns-clause-told : goal.returns-clause-told
returns-clause-told c = λ j low lt.
    c.loop-j.invariant.told j low (omega (arith, lt, c.loop-j-test.false))

pub returns-clause-each : goal.returns-clause-each
returns-clause-each c =
    all_laid c.args.round.now.script.now.shape.depth c.args.round.now.faulty.now.ids
    c.args.stretch.0
    c.args.stretch.1 c.args.lies.now c.args.heard.now c.loop-j.j c.loop-j.heard c.loop-j.invariant

pub copy_from-requires : goal.copy_from-requires
copy_from-requires c =
    let few = c.len-few.ensures in
    let nodes = ap (λ (s : FaultIds). s.nodes) c.args.round.now.liars in
    let lies : c.loop-j.j < length c.args.lies.now =
    omega (
      arith,
      c.loop-j-test.true,
      c.requires.stretch,
      few.exact,
      few.within,
      nodes,
      c.args.round.now.nodes,
      c.requires.lies.size,
    ) in
    let long = c.requires.room.size in
    let size = c.loop-j.invariant.size in
    ap (λ (s : State). length s.registers) c.index-lies-j.is
    ∙ c.requires.lies.deep c.loop-j.j c.index-lies-j.result lies
    ∙ sym (c.loop-j.invariant.deep c.at.result c.index-heard-at.result
    (omega (arith, c.at.ensures.node, nodes, long, size)))
