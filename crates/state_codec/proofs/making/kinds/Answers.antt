use Rattle.std.proofs.Common.{◌==◌, ◌≤◌, ℕ, cond, length, ap, ◌∙◌, arith}
use Rattle.state_codec.specs.Shapes.{all_over, moduli_from}
use Rattle.state_codec.proofs.FullNumbers.{fields_short}
use Rattle.state_codec.proofs.Lows.{length-moduli_from, own_limited}
use Rattle.state_codec.proofs.Plans.{all_of_accepted}
use Rattle.state_codec.proofs.making.kinds.Goals as goal

pub new-requires-clause-limits : goal.new-requires-clause-limits
new-requires-clause-limits c =
    let plans = all_of_accepted c.args.plan.now c.facts.ensures.accepted in
    own_limited (all_over c.args.plan.now c.args.moduli.now.items.items) c.loop-low.low _ _
    (record { least = plans.least; most = plans.most; moduli = c.args.moduli.now.limits })
    (c.base_from-own.ensures
    ∙ ap (λ (b : ℕ). cond (c.loop-low.low == 0) b 1) c.base_modulus-base.ensures)
    (c.in_ok-moduli_from.ensures ∙ ap (moduli_from c.loop-low.low) c.deref.ensures.value)

pub new-requires-clause-few : goal.new-requires-clause-few
new-requires-clause-few c =
    let few : length c.in_ok-moduli_from.field-0.items ≤ 16 = omega (
      arith,
      ap length c.in_ok-moduli_from.ensures,
      ap (λ ms. length (moduli_from c.loop-low.low ms)) c.deref.ensures.value,
      length-moduli_from c.loop-low.low c.args.moduli.now.items.items,
      c.args.moduli.now.few,
    ) in
    fields_short _ _ (new-requires-clause-limits c) few
