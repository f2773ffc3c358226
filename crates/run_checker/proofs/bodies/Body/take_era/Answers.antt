use Rattle.std.proofs.Common.{ℕ, sym, ap, ap₂, ◌∙◌}
use Rattle.sync_types.specs.FaultSets.{FaultIds}
use Rattle.construction.specs.Plans.{plan_faults}
use Rattle.texts.specs.Shapes.{all_numbers}
use Rattle.run_checker.specs.Bodies.{BodySeen}
use Rattle.run_checker.specs.Changes.{played_into}
use Rattle.run_checker.specs.Sets.{borne_ids}
use Rattle.run_checker.proofs.BodySteps.{era_taken}
use Rattle.run_checker.proofs.bodies.Body.take_era.Goals as goal

pub returns : goal.returns
returns c =
    let ids = c.read_ids.new.set.ids in
    let new = c.play_into.ensures
    ∙ ap (λ (b : BodySeen). played_into b ids) c.next_set-faulty.ensures.counted in
    let nodes = ap (λ (s : FaultIds). s.nodes) c.next_set-faulty.ensures.set in
    let plan : BodySeen → ℕ = λ b. plan_faults b.known.plan in
    let faults = c.faults.ensures ∙ ap plan c.self.view_is
    ∙ ap plan c.next_set-faulty.ensures.counted in
    era_taken c.args.self.now c.args.t (all_numbers c.args.words) ids c.play_into.new.self
    (sym c.is_putting.ensures ∙ c.if-is_putting.false)
    (sym c.may_begin.ensures ∙ c.if-not-may_begin.false)
    (sym (ap₂ (λ (n f : ℕ). borne_ids n f (all_numbers c.args.words)) nodes faults)
    ∙ c.if-not-read_ids.ensures.ids) new
