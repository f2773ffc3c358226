use Rattle.std.proofs.Common.{◌≡◌, Some, None, sym, ap, subst, ◌∙◌}
use Rattle.state_codec.specs.Shapes.{Shape}
use Rattle.machines.specs.Machines.{Machine}
use Rattle.node_calls.specs.Machines.{machine_of}
use Rattle.node_calls.specs.declared.any_machines.AnyMachine.{AnyMachine}
use Rattle.attack.specs.AttackTexts.{attack_text}
use Rattle.attack.specs.Drawings.{made_by}
use Rattle.attack.specs.Lean.{finished}
use Rattle.attack.specs.Searches.{searched}
use Rattle.attack.specs.Targets.{Aim, IsTarget}
use Rattle.attack.specs.declared.searching.Best.{Best}
use Rattle.attack.proofs.FoundAttacks.{found_by, not_none}
use Rattle.attack.proofs.finding.find.Goals as goal

pub unreachable-requires : goal.unreachable-requires
unreachable-requires c =
    let machine : Machine = machine_of c.in_ok-machine.machine in
    let shape : Shape = c.in_ok-shape.shape in
    let line = c.first_line.result in
    let none : searched machine shape line (made_by c.in_ok-maker.maker) c.args.numbers.runs
    ≡ None =
    subst
    (λ (t : Aim AnyMachine).
    searched (machine_of t.machine) t.shape t.first_line (made_by c.in_ok-maker.maker)
    c.args.numbers.runs
    ≡ None)
    c.new-target.ensures (sym c.in_ok-best.ensures ∙ c.in-None.is) in
    not_none c.args.plan.now c.args.numbers c.args.kinds.now machine shape line
    c.in_ok-maker.maker (ap machine_of c.in_ok-machine.ensures) c.in_ok-shape.ensures.value
    c.first_line.ensures.value c.in_ok-maker.ensures c.requires.accepted c.requires.some none

pub returns : goal.returns
returns c =
    let machine : Machine = machine_of c.in_ok-machine.machine in
    let shape : Shape = c.in_ok-shape.shape in
    let line = c.first_line.result in
    let best : Best = c.in-Some.best in
    let target : IsTarget machine shape line =
    subst
    (λ (t : Aim AnyMachine). IsTarget (machine_of t.machine) t.shape t.first_line)
    c.new-target.ensures c.facts.ensures in
    let is : searched machine shape line (made_by c.in_ok-maker.maker) c.args.numbers.runs
    ≡ Some best =
    subst
    (λ (t : Aim AnyMachine).
    searched (machine_of t.machine) t.shape t.first_line (made_by c.in_ok-maker.maker)
    c.args.numbers.runs
    ≡ Some best)
    c.new-target.ensures (sym c.in_ok-best.ensures ∙ c.in-Some.is) in
    let lean : c.in_ok-written-in-Some.written ≡ finished machine shape line best =
    c.in_ok-written-in-Some.ensures
    ∙ ap (λ (t : Aim AnyMachine). finished (machine_of t.machine) t.shape t.first_line best)
    c.new-target.ensures in
    found_by c.args.plan.now c.args.numbers c.args.kinds.now machine shape line
    c.in_ok-maker.maker (ap machine_of c.in_ok-machine.ensures) c.in_ok-shape.ensures.value
    c.first_line.ensures.value c.in_ok-maker.ensures best c.in_ok-text-in-Some.text.items _
    target is
    (c.in_ok-text-in-Some.ensures ∙ ap (λ (b : Best). attack_text machine b.attack) lean)
    (ap (λ (b : Best). b.lock) lean) c.bound.ensures
