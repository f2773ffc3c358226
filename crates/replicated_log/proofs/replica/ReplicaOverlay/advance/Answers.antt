use Rattle.std.proofs.Common.{ℕ, ◌+◌, ◌-◌, ◌%◌, Bool, List, ◌∷◌, [], map, set, get_or, take}
use Rattle.std.proofs.Common.{unwrap_or, refl, sym, ap, ap₂, ◌∙◌, arith}
use Rattle.std.specs.Prelude.{if◌then◌else◌}
use Rattle.std.proofs.lemmas.Bool.{ne_eqb}
use Rattle.std.proofs.lemmas.List.{set-get_or}
use Rattle.sync_types.specs.declared.states.Reg.{Reg}
use Rattle.sync_types.specs.States.{State}
use Rattle.counter_core.specs.Overlays.{layered}
use Rattle.counter_core.proofs.Layers.{layered_two}
use Rattle.layer_laws.specs.Slots.{slot_length}
use Rattle.consensus_layer.specs.Agreeing.{loaded}
use Rattle.replicated_log.specs.declared.entries.Entry.{Entry}
use Rattle.replicated_log.specs.EntryLength.{entry_length}
use Rattle.replicated_log.specs.Rings.{log_seen}
use Rattle.replicated_log.specs.Logs.{agreement_after, log_layer_of}
use Rattle.replicated_log.proofs.replica.ReplicaOverlay.advance.Goals as goal

pub returns-then-output-entry_length-clause-out : goal.returns-then-output-entry_length-clause-out
returns-then-output-entry_length-clause-out c =
    let r = c.args.self.now in
    let out = c.args.out.now in
    let layer = log_layer_of r.nodes r.faults r.modulus r.depth r.values r.keep r.commands.items in
    let step = c.requires.step (omega arith) in
    let room = step.room in
    let second : Reg = loaded c.command-command.result in
    c.set_reg-2.ensures
    ∙ (ap
    (λ (st : State). let s : State = record
    { x = st.x; registers = set st.registers (r.depth + 1) second } in
    s)
    c.set_reg.ensures
    ∙ (layered_two layer out c.agreement-agreement.result second refl (omega arith)
    ∙ ap₂ (λ (a : Reg) (b : ℕ). layered layer (a ∷ loaded b ∷ []) out)
    c.agreement-agreement.ensures.register c.command-command.ensures))

pub returns-else-output-entry_length-clause-out : goal.returns-else-output-entry_length-clause-out
returns-else-output-entry_length-clause-out c =
    let r = c.args.self.now in
    let out = c.args.out.now in
    let layer = log_layer_of r.nodes r.faults r.modulus r.depth r.values r.keep r.commands.items in
    let step = c.requires.step (omega arith) in
    let room = step.room in
    let second : Reg = loaded c.command-command.result in
    c.set_reg-2.ensures
    ∙ (ap
    (λ (st : State). let s : State = record
    { x = st.x; registers = set st.registers (r.depth + 1) second } in
    s)
    c.set_reg.ensures
    ∙ (layered_two layer out c.agreement-agreement.result second refl (omega arith)
    ∙ ap₂ (λ (a : Reg) (b : ℕ). layered layer (a ∷ loaded b ∷ []) out)
    c.agreement-agreement.ensures.register c.command-command.ensures))

pub returns-else-output-entry_length-clause-kept : goal.returns-else-output-entry_length-clause-kept
returns-else-output-entry_length-clause-kept c =
    let r = c.args.self.now in
    let o = c.args.output in
    let logs : List (List Entry) = map log_seen r.logs.items in
    let own : List Entry = get_or logs c.args.node [] in
    let agreement : Reg = agreement_after r.nodes r.faults r.depth c.args.node o c.args.heard.now in
    sym (ap (set logs c.args.node)
    (ap
    (λ (b : Bool). if b
    then take r.keep
    (record { slot = o - slot_length r.faults; value = unwrap_or agreement.a 0 } ∷ own)
    else own)
    (ne_eqb (o % entry_length r.faults + 1) (entry_length r.faults)
    (λ e. c.if-output-entry_length.false
    (ap (λ y. o % y + 1) c.entry_length.ensures ∙ (e ∙ sym c.entry_length-2.ensures)))))
    ∙ set-get_or logs c.args.node [])
