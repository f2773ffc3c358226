use Rattle.std.proofs.Common.{ℕ, ◌%◌, Bool, ◌&&◌, nat_eq, sym, ap, ◌∙◌}
use Rattle.layer_runner.specs.SlotTexts.{lead_output}
use Rattle.layer_runner.proofs.SlotEnds.{may_end_is}
use Rattle.layer_runner.proofs.slots.slot_ends.Goals as goal

pub returns-then-may_end : goal.returns-then-may_end
returns-then-may_end g c =
    let p = g.P.Play.position c.args.play.now in
    let q : ℕ = c.args.length in
    let may = may_end_is p.counter p.script _ q p.at _ _ _ c.may_end.ensures c.bound.ensures
    c.script.ensures c.at.ensures in
    ap (λ (l : ℕ). nat_eq (l % q) 0) c.lead_output.ensures
    ∙ sym
    (ap (λ (b : Bool). b
    && nat_eq (lead_output p.counter p.script p.at p.scene.states % q) 0)
    (may ∙ c.if-may_end.true))

pub returns-else-may_end : goal.returns-else-may_end
returns-else-may_end g c =
    let p = g.P.Play.position c.args.play.now in
    let q : ℕ = c.args.length in
    let may = may_end_is p.counter p.script _ q p.at _ _ _ c.may_end.ensures c.bound.ensures
    c.script.ensures c.at.ensures in
    c.if-may_end.false
    ∙ sym
    (ap (λ (b : Bool). b
    && nat_eq (lead_output p.counter p.script p.at p.scene.states % q) 0)
    (may ∙ c.if-may_end.false))
