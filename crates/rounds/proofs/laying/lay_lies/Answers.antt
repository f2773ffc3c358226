use Rattle.std.proofs.Common.{◌<◌, length, inl, refl, sym, ap, ◌∙◌, arith}
use Rattle.sync_types.specs.States.{State}
use Rattle.rounds.proofs.Places.{read_at}
use Rattle.rounds.proofs.LiesLaid.{one_laid, all_laid}
use Rattle.rounds.proofs.laying.lay_lies.Goals as goal

pub loop-j-init : goal.loop-j-init
loop-j-init c = record {
  low = omega arith;
  high = λ some. absurd (omega (arith, some));
  size = refl;
  deep = c.requires.deep;
  told = λ k low lt. absurd (omega (arith, low, lt));
  each = λ u. inl refl;
}

pub loop-j-preserved : goal.loop-j-preserved
loop-j-preserved c =
    let lt : c.loop-j.j < c.args.stretch.1 = omega (arith, c.loop-j-test.true) in
    let ids : c.loop-j.j < length c.args.faulty.now.ids =
    omega (arith, lt, c.requires.stretch) in
    let lies : c.loop-j.j < length c.args.lies.now = omega (arith, ids, c.requires.lies) in
    one_laid c.args.depth c.args.faulty.now.ids c.args.stretch.0 c.args.stretch.1
    c.args.lies.now c.args.heard.now
    c.facts.ensures.rising c.loop-j.j c.at.result c.loop-j.heard c.copy_from.new.self
    lt ids (omega (arith, c.at.ensures.node, c.requires.size))
    (sym c.at.ensures.id) c.loop-j.invariant (c.copy_from.ensures
    ∙ read_at c.args.lies.now c.loop-j.j c.index-lies-j.result lies c.index-lies-j.is)
    (ap (λ (s : State). length s.registers) c.copy_from.ensures
    ∙ (ap (λ (s : State). length s.registers) c.index-lies-j.is
    ∙ c.requires.told c.loop-j.j c.index-lies-j.result lies))

pub returns-clause-size : goal.returns-clause-size
returns-clause-size c = c.loop-j.invariant.size

pub returns-clause-deep : goal.returns-clause-deep
returns-clause-deep c = c.loop-j.invariant.deep

pub returns-clause-told : goal.returns-clause-told
returns-clause-told c = λ j low lt.
    c.loop-j.invariant.told j low (omega (arith, lt, c.loop-j-test.false))

pub returns-clause-each : goal.returns-clause-each
returns-clause-each c =
    all_laid c.args.depth c.args.faulty.now.ids c.args.stretch.0
    c.args.stretch.1 c.args.lies.now c.args.heard.now c.loop-j.j c.loop-j.heard c.loop-j.invariant

pub copy_from-requires : goal.copy_from-requires
copy_from-requires c =
    let lies : c.loop-j.j < length c.args.lies.now =
    omega (arith, c.loop-j-test.true, c.requires.stretch, c.requires.lies) in
    let size = c.loop-j.invariant.size in
    ap (λ (s : State). length s.registers) c.index-lies-j.is
    ∙ c.requires.told c.loop-j.j c.index-lies-j.result lies
    ∙ sym (c.loop-j.invariant.deep c.at.result c.index-heard-at.result
    (omega (arith, c.at.ensures.node, c.requires.size, size)))
