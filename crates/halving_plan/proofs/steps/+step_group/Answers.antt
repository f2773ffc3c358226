use Rattle.std.proofs.Common.{◌<◌, ◌+◌, ◌∙◌, ap, subst, sym, Option, arith}
use Rattle.sync_types.specs.States.{State}
use Rattle.halving_plan.specs.Registers.{with_level_state}
use Rattle.halving_plan.specs.Groups.{HalvingGroup}
use Rattle.halving_plan.specs.GroupStates.{HasGroup, overlaid}
use Rattle.halving_plan.specs.GroupHearing.{level_state_heard}
use Rattle.halving_plan.specs.WrittenLevelStates.{with_level_state_at}
use Rattle.halving_plan.proofs.Depths.{two_deep}
use Rattle.halving_plan.proofs.Stretches.{steps_by_stretches, step_by, step_in_half}
use Rattle.halving_plan.proofs.WrittenStates.{length_with_level_state_at, overlaid_after}
use Rattle.halving_plan.proofs.steps.+step_group.Goals as goal

pub write-requires : goal.write-requires
write-requires t c =
    let some : 0 < c.args.group.now.faults = omega arith in
    two_deep c.args.group.now c.args.out.now some c.requires.out

pub step_group-requires : goal.step_group-requires
step_group-requires t c =
    let g = c.args.group.now in
    let some : 0 < g.faults = omega arith in
    let fits = c.in-Some.ensures.half c.requires.first in
    let out = c.args.out.now in
    let two = two_deep g out some c.requires.out in
    let size =
    length_with_level_state_at g.register c.new_level_state-level_state.result out two
    in
    let inner = fits.registers in
    let deep : HasGroup c.in-Some.half c.write.new.state =
    subst (HasGroup c.in-Some.half) (sym c.write.ensures)
    (omega (arith, size, inner, c.requires.out)) in
    let inside = fits.within in
    let smaller = fits.smaller in
    let within = c.requires.within in
    let room = c.requires.room in (
      omega (arith, fits.fewer),
      (
        omega arith,
        (
          fits.first,
          (
            fits.last,
            (
              λ k d lt. omega (arith, inner, c.requires.deep k d lt),
              (omega (arith, c.new_level_state-level_state.ensures.capacity), deep),
            ),
          ),
        ),
      ),
    )

pub returns-in-Some-clause-out : goal.returns-in-Some-clause-out
returns-in-Some-clause-out t c =
    let g = c.args.group.now in
    let v = c.args.node in
    let heard = c.args.heard.now in
    let out = c.args.out.now in
    let half = c.in-Some.half in
    let some : 0 < g.faults = omega arith in
    let two = two_deep g out some c.requires.out in
    let fits = c.in-Some.ensures.half c.requires.first in
    let level_state = level_state_heard g v heard in
    c.step_group.ensures.out
    ∙ (ap (λ r. overlaid r (step_by half v heard) c.write.new.state) fits.register
    ∙ (ap (overlaid (g.register + 2) (step_by half v heard)) (c.write.ensures
    ∙ ap (λ p. with_level_state_at g.register p out)
    c.new_level_state-level_state.ensures.level_state)
    ∙ (overlaid_after g.register level_state (step_by half v heard) out two
    ∙ (ap (λ (o : Option HalvingGroup). overlaid g.register
    (with_level_state level_state (step_in_half o v heard))
    out) c.in-Some.ensures.value
    ∙ ap (λ s. overlaid g.register s out) (sym (steps_by_stretches g v heard c.facts.ensures some
    c.requires.first c.requires.last c.requires.within))))))

pub returns-in-None-clause-out : goal.returns-in-None-clause-out
returns-in-None-clause-out t c =
    let g = c.args.group.now in
    let v = c.args.node in
    let heard = c.args.heard.now in
    let out = c.args.out.now in
    let some : 0 < g.faults = omega arith in
    let level_state = level_state_heard g v heard in
    c.set_x-in-None.ensures
    ∙ (ap (λ (s : State). record s { x = 0 }) (c.write.ensures
    ∙ ap (λ p. with_level_state_at g.register p out)
    c.new_level_state-level_state.ensures.level_state)
    ∙ (ap (λ (o : Option HalvingGroup). overlaid g.register
    (with_level_state level_state (step_in_half o v heard))
    out) c.in-None.ensures.value
    ∙ ap (λ s. overlaid g.register s out) (sym (steps_by_stretches g v heard c.facts.ensures some
    c.requires.first c.requires.last c.requires.within))))
