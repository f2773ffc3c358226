use Rattle.std.proofs.Common.{◌≡◌, ◌-◌, ◌+◌, length, drop, take, get_or, refl, ap, ◌∙◌, arith}
use Rattle.std.specs.Prelude.{Some, None}
use Rattle.std.proofs.lemmas.List.{take_all, length-drop}
use Rattle.plan_numbers.specs.Numbers.{numbers_below}
use Rattle.plan_numbers.specs.Premises.{base_premise, first_premise}
use Rattle.plan_finder.specs.declared.best.Step.{Step}
use Rattle.plan_finder.specs.Best.{levels_by}
use Rattle.std.proofs.lemmas.List.Elements.{All-take, All-drop}
use Rattle.plan_finder.specs.Building.{IsUsable, plan_with, modulus_under}
use Rattle.plan_finder.proofs.Moduli.{path_usable, base_fits, push_fits, level_with, ok_by}
use Rattle.plan_finder.proofs.building.plan_of.Goals as goal

pub modulus_under-requires : goal.modulus_under-requires
modulus_under-requires c = path_usable c.args.most c.args.steps.now c.requires.path

pub modulus_under-modulus-requires : goal.modulus_under-modulus-requires
modulus_under-modulus-requires c =
    let steps = c.args.steps.now in
    let next = c.loop-i.i + 1 in
    All-take IsUsable (length steps - next) (drop next steps)
    (All-drop IsUsable next steps (path_usable c.args.most steps c.requires.path))

pub unreachable-requires : goal.unreachable-requires
unreachable-requires c =
    let none : base_premise c.modulus_under.result ≡ None =
    ap base_premise c.modulus_under.ensures
    ∙ base_fits c.args.most c.requires.most c.args.c c.requires.modulus.0 c.requires.modulus.1
    c.args.steps.now c.requires.path in
    let refused : base_premise c.modulus_under.result ≡ Some c.in-Err-Refused.field-0-0 =
    rw c.in-Err-Refused.field-0-is at c.in-Err-Refused.ensures in
    absurd (cc)

pub unwrap-requires : goal.unwrap-requires
unwrap-requires c =
    let steps = c.args.steps.now in
    let i = c.loop-i.i in
    let none : Step = record { blocks = 0; faults = 0 } in
    let step : Step = get_or steps i none in
    let rest : take (length steps - (i + 1)) (drop (i + 1) steps) ≡ drop (i + 1) steps =
    take_all (length steps - (i + 1)) (drop (i + 1) steps)
    (omega (arith, length-drop (i + 1) steps)) in
    let modulus : c.modulus_under-modulus.result ≡ modulus_under c.args.c (drop (i + 1) steps) =
    c.modulus_under-modulus.ensures ∙ ap (modulus_under c.args.c) rest in
    let fits = push_fits c.args.most c.requires.most c.args.c c.requires.modulus.0
    c.requires.modulus.1 steps c.requires.path i none step c.loop-i-test.true refl in
    let fits' : first_premise (numbers_below c.loop-i.plan)
    (level_with step c.modulus_under-modulus.result)
    ≡ None =
    ap (λ p. first_premise (numbers_below p) (level_with step c.modulus_under-modulus.result))
    c.loop-i.invariant
    ∙
    (ap
    (λ m. first_premise
    (numbers_below
    (plan_with (modulus_under c.args.c (drop i steps)) (levels_by (take i steps))))
    (level_with step m))
    modulus
    ∙ fits) in
    ok_by c.push.result
    (first_premise (numbers_below c.loop-i.plan)
    (level_with step c.modulus_under-modulus.result))
    c.push.ensures.refused fits'
