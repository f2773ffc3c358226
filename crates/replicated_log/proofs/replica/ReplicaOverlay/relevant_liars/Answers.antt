use Rattle.std.proofs.Common.{◌≡◌, ◌≢◌, ℕ, ◌+◌, ◌-◌, ◌/◌, ◌%◌, ◌<◌, ◌∷◌, [], List, length}
use Rattle.std.proofs.Common.{get_or, unwrap_or, sym, ap, ◌∙◌, subst, arith}
use Rattle.std.proofs.Math.Nat.{mod-lt}
use Rattle.sync_types.specs.declared.states.Reg.{Reg}
use Rattle.sync_types.specs.States.{State, register_at}
use Rattle.construction.specs.Steps.{state_of}
use Rattle.counter_core.specs.HeardRegisters.{RegisterHeard}
use Rattle.counter_core.specs.Heeding.{DependsOnlyOn}
use Rattle.counter_core.specs.Overlays.{LayerStep}
use Rattle.layer_laws.specs.Slots.{agreed}
use Rattle.consensus_layer.specs.Agreeing.{loaded}
use Rattle.replicated_log.specs.declared.entries.Entry.{Entry}
use Rattle.replicated_log.specs.declared.replica.Replica.{Replica}
use Rattle.replicated_log.specs.EntryLength.{entry_length, owner_at, command_at}
use Rattle.replicated_log.specs.Logs.{log_after}
use Rattle.replicated_log.specs.LogsSeen.{logs_seen}
use Rattle.replicated_log.proofs.Turns.{begins, goes_on}
use Rattle.replicated_log.proofs.replica.ReplicaOverlay.relevant_liars.Goals as goal

-- the step follows from the register of agreement
abbrev stepped : Replica → (v output : ℕ) → Reg → LayerStep (List Entry)
stepped r v output agreement = record {
  registers = agreement
      ∷ loaded (command_at r.nodes r.faults r.commands.items v ((output + 1) % r.modulus)) ∷ [];
  kept = log_after r.faults r.keep output agreement (get_or (logs_seen r) v []);
}

pub overflow_cast-slot_turn : goal.overflow_cast-slot_turn
overflow_cast-slot_turn c =
    let quorum = c.args.self.now.quorum in
    let e = c.entry_length.ensures in
    let below : c.args.output % c.entry_length.result < c.entry_length.result =
    mod-lt c.args.output (omega (arith, e)) in
    let few = c.args.self.now.few in
    omega (arith, below, quorum, e, few)

-- what is heard of the owner is the same
pub returns-then-turn-eq0-clause-enough : goal.returns-then-turn-eq0-clause-enough
returns-then-turn-eq0-clause-enough c =
    let r = c.args.self.now in
    let v = c.args.node in
    let o = c.args.output in
    let ids = c.args.faulty.now.ids in
    let config = c.args.heard.now in
    let from = c.liar_at.result.0 in
    let to = c.liar_at.result.1 in
    let step = c.requires.step (omega arith) in
    let begun : o % entry_length r.faults ≡ 0 =
    ap (λ (e : ℕ). o % e) (sym c.entry_length.ensures) ∙ c.if-turn-eq0.true in
    let owners = subst (λ (u : ℕ). u < length config
    → DependsOnlyOn (λ heard. state_of heard u) ids v config from to) c.owner_at.ensures.owner
    (c.liar_at.ensures.enough v config) in
    let owner : owner_at r.nodes r.faults o < length config =
    omega (arith, c.owner_at.ensures.owner, c.owner_at.ensures.below, step.size) in
    λ heard told first second alike. ap (stepped r v o)
    (begins r.nodes r.faults r.depth v o heard begun
    ∙ (ap (λ (s : State). loaded (unwrap_or (register_at (r.depth + 1) s).a 0))
    (owners owner heard told first second alike)
    ∙ sym (begins r.nodes r.faults r.depth v o told begun)))

-- the register takes the same round of the slot
pub returns-else-turn-eq0-clause-enough : goal.returns-else-turn-eq0-clause-enough
returns-else-turn-eq0-clause-enough c =
    let r = c.args.self.now in
    let v = c.args.node in
    let o = c.args.output in
    let ids = c.args.faulty.now.ids in
    let config = c.args.heard.now in
    let from = c.heeded_at.result.0 in
    let to = c.heeded_at.result.1 in
    let step = c.requires.step (omega arith) in
    let later : o % entry_length r.faults ≢ 0 = λ is.
    c.if-turn-eq0.false (ap (λ (e : ℕ). o % e) c.entry_length.ensures ∙ is) in
    let enough = subst (λ (e : ℕ). DependsOnlyOn (agreed r.nodes r.faults r.depth v
    ((o % e - 1) % 3)
    ((o % e - 1) / 3)) ids v config from to) c.entry_length.ensures
    (subst (λ (n : ℕ). DependsOnlyOn (agreed n r.faults r.depth v
    ((o % c.entry_length.result - 1) % 3)
    ((o % c.entry_length.result - 1) / 3)) ids v config from to) step.size
    (subst (λ (h : RegisterHeard). DependsOnlyOn (agreed (length h.states) h.faults h.register v
    ((o % c.entry_length.result - 1) % 3) ((o % c.entry_length.result - 1) / 3)) ids v h.states
    from to) c.of-values.ensures c.heeded_at.ensures.enough)) in
    λ heard told first second alike. ap (stepped r v o)
    (goes_on r.nodes r.faults r.depth v o heard later
    ∙ (enough heard told first second alike
    ∙ sym (goes_on r.nodes r.faults r.depth v o told later)))
