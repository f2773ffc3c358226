use Rattle.std.proofs.Common.{ℕ, ◌+◌, ◌%◌, ◌∷◌, [], length, get_or, Some, ap, subst, arith}
use Rattle.std.specs.Prelude.{◌==◌, nat_eq}
use Rattle.std.specs.Option.{option_eq}
use Rattle.sync_types.specs.declared.states.Reg.{Reg}
use Rattle.counter_core.specs.HeardRegisters.{RegisterHeard}
use Rattle.counter_core.specs.Heeding.{DependsOnlyOn}
use Rattle.counter_core.specs.Overlays.{LayerStep}
use Rattle.layer_laws.specs.Slots.{agreed_in_turn, slot_length}
use Rattle.consensus_layer.specs.Agreeing.{turned}
use Rattle.firing.specs.declared.fires.Fire.{Fire}
use Rattle.firing.specs.Firings.{bit, requests_in, unfired}
use Rattle.firing.specs.FiringsSeen.{fires_seen}
use Rattle.firing.proofs.firing.FiringOverlay.relevant_liars.Goals as goal

-- the step follows from the register that the round gives
pub returns-clause-enough : goal.returns-clause-enough
returns-clause-enough c =
    let f = c.args.self.now in
    let v = c.args.node in
    let ids = c.args.faulty.now.ids in
    let config = c.args.heard.now in
    let turn : ℕ = c.args.output % slot_length f.faults in
    let from = c.relevant_liars.result.0 in
    let to = c.relevant_liars.result.1 in
    let step = c.requires.step (omega arith) in
    let kept : Fire = get_or (fires_seen f) v unfired in
    let after : Reg → LayerStep Fire = λ r.
    let s = turned (turn + 1 == slot_length f.faults)
    (bit (requests_in f.requests v kept.round)) r in
    record {
      registers = s.register ∷ [];
      kept = record {
        round = kept.round;
        fired = option_eq nat_eq s.decided (Some 1);
      };
    } in
    let enough = subst (λ (n : ℕ). DependsOnlyOn (agreed_in_turn n f.faults f.depth v turn) ids v
    config
    from to) step.size
    (subst (λ (h : RegisterHeard). DependsOnlyOn (agreed_in_turn
    (length h.states) h.faults h.register v
    (c.args.output % slot_length h.faults)) ids v h.states from to) c.of-values.ensures
    c.relevant_liars.ensures.enough) in
    λ heard told first second alike. ap after (enough heard told first second alike)
