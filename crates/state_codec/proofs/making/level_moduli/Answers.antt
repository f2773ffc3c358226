use Rattle.std.proofs.Common.{arith, ◌<◌, ◌≤◌, ◌^◌, length, refl, sym, subst, ◌∙◌}
use Rattle.std.specs.Prelude.{All}
use Rattle.std.proofs.lemmas.List.{length-set}
use Rattle.state_codec.proofs.Plans.{all_of_accepted}
use Rattle.state_codec.proofs.LevelModuli.{moduli_step, moduli_end}
use Rattle.state_codec.proofs.making.level_moduli.Goals as goal

pub loop-i-preserved : goal.loop-i-preserved
loop-i-preserved c =
    let inside : c.loop-i.i < length c.loop-i.moduli.items = omega arith in
    record {
      depth = length-set c.loop-i.moduli.items c.loop-i.i _ ∙ c.loop-i.invariant.depth;
      begun = moduli_step c.loop-i.moduli.items c.args.plan.now.base c.args.plan.now.levels
          c.loop-i.i _ c.level.result.now inside c.loop-i.invariant.depth c.level.ensures.value refl
          c.loop-i.invariant.begun;
    }

pub returns-clause-value : goal.returns-clause-value
returns-clause-value c = moduli_end c.loop-i.moduli.items c.args.plan.now.levels c.loop-i.i
    c.loop-i.invariant.depth (omega arith) c.loop-i.invariant.begun

pub returns-clause-limits : goal.returns-clause-limits
returns-clause-limits c =
    subst (λ ms. All (λ m. (2 ≤ m) × (m ≤ 2 ^ 40)) ms)
    (sym (moduli_end c.loop-i.moduli.items c.args.plan.now.levels c.loop-i.i
    c.loop-i.invariant.depth (omega arith) c.loop-i.invariant.begun))
    (all_of_accepted c.args.plan.now c.facts.ensures.accepted).moduli

pub returns-clause-few : goal.returns-clause-few
returns-clause-few c = omega (arith, c.loop-i.invariant.depth, c.facts.ensures.depth)
