use Rattle.std.proofs.Common.{refl, arith, ap, rules, []}
use Rattle.plan_numbers.specs.Numbers.{below_of}
use Rattle.plan_numbers.proofs.plans.Plan.base_of.Goals as goal

pub invariant_of-result : goal.invariant_of-result
invariant_of-result c =
    let few = c.width.ensures.least 40 (omega arith) in
    rw c.in_ok-levels.ensures.items (record {
      accepted = search rules;
      numbers = refl;
      last = ap (λ bits. record (below_of c.args.c0 []) { bits = bits }) c.width.ensures.value;
      sized = record {
        some = omega arith;
        most = omega arith;
        quorum = omega arith;
        least_modulus = omega arith;
        most_modulus = omega arith;
        bound = omega arith;
        bits = omega (arith, few);
      };
      deep = omega arith;
      room = omega (arith, c.in_ok-levels.ensures.exact);
    })
