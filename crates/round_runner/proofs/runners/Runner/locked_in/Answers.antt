use Rattle.std.proofs.Common.{◌≡◌, ◌+◌, ◌≤◌, length, None, sym, ◌∙◌, subst, arith}
use Rattle.std.specs.Prelude.{slice_index_or}
use Rattle.std.proofs.lemmas.List.{get_or_default}
use Rattle.plan_numbers.specs.Premises.{IsAccepted}
use Rattle.state_codec.specs.Shapes.{IsShape}
use Rattle.adversary_script.specs.Scripts.{IsScript}
use Rattle.adversary_script.specs.Eras.{first_of_era}
use Rattle.construction.specs.Plans.{plan_bound}
use Rattle.round_runner.specs.Laws.{IsUpTo}
use Rattle.round_runner.specs.Locks.{IsFirstLocked}
use Rattle.round_runner.specs.Runners.{Running, IsPlayableOn, configuration_of}
use Rattle.round_runner.proofs.LocksKnown.{known_at_end, first_at_end}
use Rattle.round_runner.proofs.ScenesLock.{known_first, known_by_bound}
use Rattle.round_runner.proofs.runners.Runner.locked_in.Goals as goal

pub returns-clause-value : goal.returns-clause-value
returns-clause-value g c =
    let among : c.args.j ≤ length c.self.inside.script.eras =
    subst (λ (r : Running _). c.args.j ≤ length r.script.eras)
    (sym c.self.view_is) c.requires in
    let read : c.index.result.now ≡ slice_index_or c.self.inside.locks.items c.args.j None =
    c.index.ensures ∙ get_or_default c.self.inside.locks.items c.args.j c.index.result.now None
    (omega (arith, among, c.self.invariant.eras)) in
    subst (λ (r : Running _). c.index.result.now ≡ slice_index_or r.locks c.args.j None)
    c.self.view_is read

pub returns-clause-first : goal.returns-clause-first
returns-clause-first g c = λ began plays.
    let whole = subst (λ (r : Running _). IsScript r.script) c.self.view_is
    c.self.invariant.whole in
    let within = subst (λ (r : Running _). r.at ≤ r.script.rounds) c.self.view_is
    c.self.invariant.within in
    subst (IsFirstLocked c.args.self.now.plan c.args.self.now.script
    (configuration_of g.O.Overlay.layer began c.args.self.now) c.args.j c.args.self.now.at)
    (sym (returns-clause-value g c))
    (known_first g.O.Overlay.layer g.O.Overlay.kept c.args.self.now whole within c.args.j c.requires
    began plays)

pub returns-clause-by_bound : goal.returns-clause-by_bound
returns-clause-by_bound g c = λ began plays reaches reached.
    let whole = subst (λ (r : Running _). IsScript r.script) c.self.view_is
    c.self.invariant.whole in
    let within = subst (λ (r : Running _). r.at ≤ r.script.rounds) c.self.view_is
    c.self.invariant.within in
    let accepted = subst (λ (r : Running _). IsAccepted r.plan) c.self.view_is
    c.self.invariant.accepted in
    let right = subst (λ (r : Running _). IsPlayableOn r.plan
    (g.O.Overlay.layer r.overlay) r.script)
    c.self.view_is c.self.invariant.right in
    let sound = subst (λ (r : Running _). IsShape r.script.shape) c.self.view_is
    c.self.invariant.sound in
    subst (IsUpTo (first_of_era c.args.self.now.script c.args.j + plan_bound c.args.self.now.plan))
    (sym (returns-clause-value g c))
    (known_by_bound g.O.Overlay.layer g.O.Overlay.kept c.args.self.now whole within c.args.j
    c.requires accepted right sound began plays reaches reached)

pub returns-clause-at_end : goal.returns-clause-at_end
returns-clause-at_end g c = λ began plays knows.
    let whole = subst (λ (r : Running _). IsScript r.script) c.self.view_is
    c.self.invariant.whole in
    let within = subst (λ (r : Running _). r.at ≤ r.script.rounds) c.self.view_is
    c.self.invariant.within in
    returns-clause-value g c
    ∙ known_at_end g.O.Overlay.layer g.O.Overlay.kept c.args.self.now whole within c.args.j
    c.requires began plays knows

pub returns-clause-last : goal.returns-clause-last
returns-clause-last g c = λ began plays knows.
    let whole = subst (λ (r : Running _). IsScript r.script) c.self.view_is
    c.self.invariant.whole in
    let within = subst (λ (r : Running _). r.at ≤ r.script.rounds) c.self.view_is
    c.self.invariant.within in
    subst (IsFirstLocked c.args.self.now.plan c.args.self.now.script
    (configuration_of g.O.Overlay.layer began c.args.self.now) c.args.j
    c.args.self.now.script.rounds) (sym (returns-clause-value g c))
    (first_at_end g.O.Overlay.layer g.O.Overlay.kept c.args.self.now whole within c.args.j
    c.requires began plays knows)
