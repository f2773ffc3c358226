use Rattle.std.proofs.Common.{ℕ, ◌+◌, ◌%◌, ◌∷◌, [], length, get_or, unwrap_or, ap, subst, arith}
use Rattle.std.specs.Prelude.{◌==◌, slice_index}
use Rattle.sync_types.specs.declared.states.Reg.{Reg}
use Rattle.counter_core.specs.HeardRegisters.{RegisterHeard}
use Rattle.counter_core.specs.Heeding.{DependsOnlyOn}
use Rattle.counter_core.specs.Overlays.{LayerStep}
use Rattle.layer_laws.specs.CounterSlots.{agreed_in_turn, slot_length}
use Rattle.consensus_layer.specs.Agreeing.{turned}
use Rattle.consensus_layer.specs.AgreementsSeen.{decisions_seen}
use Rattle.consensus_layer.proofs.agreement.AgreementOverlay.relevant_liars.Goals as goal

-- the step follows from the register that the round gives
pub returns-clause-enough : goal.returns-clause-enough
returns-clause-enough c =
    let a = c.args.self.now in
    let v = c.args.node in
    let ids = c.args.faulty.now.ids in
    let config = c.args.heard.now in
    let turn : ℕ = c.args.output % slot_length a.faults in
    let from = c.relevant_liars.result.0 in
    let to = c.relevant_liars.result.1 in
    let step = c.requires.step (omega arith) in
    let after : Reg → LayerStep ℕ = λ r.
    let s = turned (turn + 1 == slot_length a.faults) (slice_index a.inputs.items v) r in
    record {
      registers = s.register ∷ [];
      kept = unwrap_or s.decided (get_or (decisions_seen a) v 0);
    } in
    let enough = subst (λ (n : ℕ). DependsOnlyOn (agreed_in_turn n a.faults a.depth v turn) ids v
    config
    from to) step.size
    (subst (λ (h : RegisterHeard). DependsOnlyOn (agreed_in_turn
    (length h.states) h.faults h.register v
    (c.args.output % slot_length h.faults)) ids v h.states from to) c.of-values.ensures
    c.relevant_liars.ensures.enough) in
    λ heard told first second alike. ap after (enough heard told first second alike)
