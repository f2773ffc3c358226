-- A plan is accepted exactly if it fails no premise.
use Rattle.std.proofs.Common.{◌≡◌, None, arith}
use Rattle.std.proofs.lemmas.Bool.Decides.{nat_tests}
use Rattle.halving_plan.specs.Plans.{HalvingNumbers, first_premise, IsAccepted}

pub accepted_none : (plan : HalvingNumbers) → IsAccepted plan → first_premise plan ≡ None
accepted_none plan accepted =
    let a = accepted.most_nodes in
    let b = accepted.least_modulus in
    let c = accepted.most_modulus in
    let d = accepted.quorum in
    let e = accepted.single in
    grind (arith, nat_tests)

pub none_accepted : (plan : HalvingNumbers) → first_premise plan ≡ None → IsAccepted plan
none_accepted plan none = record {
  most_nodes = grind (arith, nat_tests);
  least_modulus = grind (arith, nat_tests);
  most_modulus = grind (arith, nat_tests);
  quorum = grind (arith, nat_tests);
  single = λ zero. grind (arith, nat_tests);
}
