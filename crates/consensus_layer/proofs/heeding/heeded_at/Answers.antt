use Rattle.std.proofs.Common.{◌≡◌, ◌-◌, ◌+◌, ◌⊎◌, ◌<◌, ◌≤◌, ℕ, None, length, sym, subst, arith}
use Rattle.sync_types.specs.declared.states.Reg.{Reg}
use Rattle.construction.specs.PhaseKing.{locked_at}
use Rattle.counter_core.specs.Heeding.{DependsOnlyOn}
use Rattle.counter_core.proofs.Heeded.{heeds_all}
use Rattle.layer_laws.specs.CounterSlots.{agreed}
use Rattle.consensus_layer.specs.Heeding.{true_count}
use Rattle.consensus_layer.proofs.TrueCounts.{counts_shut, king_shut, no_other}
use Rattle.consensus_layer.proofs.heeding.heeded_at.Goals as goal

pub returns-then-is_count_open-clause-enough : goal.returns-then-is_count_open-clause-enough
returns-then-is_count_open-clause-enough c =
    let h = c.args.values.now in
    let ids = c.args.faulty.now.ids in
    let find = agreed (length h.states) h.faults h.register c.args.node c.args.kind c.args.king in
    subst (λ (to : ℕ). DependsOnlyOn find ids c.args.node h.states 0 to) (sym c.len.ensures.exact)
    (heeds_all find ids c.args.node h.states)

pub returns-else-is_count_open-clause-enough : goal.returns-else-is_count_open-clause-enough
returns-else-is_count_open-clause-enough c =
    let h = c.args.values.now in
    let ids = c.args.faulty.now.ids in
    let some = c.if-kind-eq2.false in
    let le = c.requires.kind in
    counts_shut h ids c.args.node c.requires.quorum c.args.king 0 0 c.args.kind
    (omega (arith, some, le))
    (subst (λ (own : Reg). (length h.states - h.faults ≤ true_count ids h own.a)
    ⊎ ((c.args.kind ≡ 0) × ((own.a ≡ None)
    ⊎ (true_count ids h own.a + length ids < length h.states - h.faults)))) c.at-own.ensures
    (c.is_count_open.ensures c.if-is_count_open.false))

pub returns-then-takes_other-clause-enough : goal.returns-then-takes_other-clause-enough
returns-then-takes_other-clause-enough c =
    let h = c.args.values.now in
    let ids = c.args.faulty.now.ids in
    subst (λ (kind : ℕ). DependsOnlyOn
    (agreed (length h.states) h.faults h.register c.args.node kind c.args.king) ids c.args.node
    h.states c.liar_at.result.0 c.liar_at.result.1) (sym c.if-kind-eq2.true)
    (king_shut h ids c.args.node c.requires.quorum c.args.king c.liar_at.result.0
    c.liar_at.result.1 c.requires.king
    (c.liar_at.ensures.enough c.args.node h.states c.requires.king))

pub returns-else-takes_other-clause-enough : goal.returns-else-takes_other-clause-enough
returns-else-takes_other-clause-enough c =
    let h = c.args.values.now in
    let ids = c.args.faulty.now.ids in
    subst (λ (kind : ℕ). DependsOnlyOn
    (agreed (length h.states) h.faults h.register c.args.node kind c.args.king) ids c.args.node
    h.states 0 0) (sym c.if-kind-eq2.true)
    (no_other h ids c.args.node c.requires.quorum c.args.king 0 0 c.requires.king
    (subst (λ (own : Reg). ((z : ℕ) × (own ≡ locked_at z)) ⊎ (c.args.king ≡ c.args.node))
    c.at-own.ensures (c.takes_other.ensures c.if-takes_other.false)))
