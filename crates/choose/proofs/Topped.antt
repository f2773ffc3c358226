-- A plan with a level more on top, which has the spare nodes that it needs.
use Rattle.std.proofs.Common.{◌≡◌, ℕ, ◌+◌, ◌-◌, ◌*◌, ◌/◌, ◌%◌, ◌<◌, ◌≤◌, ◌^◌, refl, ap, ◌∙◌, arith}
use Rattle.std.specs.Prelude.{None}
use Rattle.std.specs.Int.{div_ceil}
use Rattle.std.proofs.lemmas.List.Elements.{All-cons}
use Rattle.std.proofs.Math.Nat.{mul-le-mul_left, div-lt_iff_lt-mul, mul-div-le}
use Rattle.construction.specs.Plans.{Level, Plan, plan_nodes, plan_faults, plan_modulus, plan_bound}
use Rattle.plan_numbers.specs.Numbers.{numbers_below, line, with_level}
use Rattle.plan_numbers.specs.Premises.{first_premise, IsAccepted, FitsVersion}
use Rattle.plan_numbers.proofs.Accepted.{meets_none}
use Rattle.plan_finder.specs.Steps.{cost_of}
use Rattle.plan_finder.proofs.Moduli.{divided}
use Rattle.choose.specs.Fronts.{Bears}
use Rattle.choose.specs.Least.{HasTop, IsLeast}
use Rattle.choose.proofs.Lower.{bound_over}

-- the top level
abbrev pub top_over : (below : Plan) (k f c : ℕ) → Level
top_over below k f c = line k f c (3 * f + 1 - k * plan_nodes below)

module _ (below : Plan) (k f c : ℕ) (some : 3 ≤ k) (few : k ≤ 16) (faults : f ≤ 85)
    (least_c : 2 ≤ c) (most_c : c ≤ 2 ^ 40) (counts : plan_modulus below ≡ cost_of k f)
    (nodes : k * plan_nodes below ≤ 256)
    (share : f < (plan_faults below + 1) * div_ceil k 2) where
  pub top_fits : first_premise (numbers_below below) (top_over below k f c) ≡ None
  top_fits = meets_none (numbers_below below) (top_over below k f c) (record {
    most_blocks = few;
    most_faults = faults;
    most_modulus = most_c;
    most_nodes = omega (arith, nodes, faults);
    blocks = some;
    modulus = least_c;
    quorum = omega arith;
    share = share;
    multiple = ap (λ m. m % cost_of k f) counts ∙ divided (cost_of k f);
  })

-- the best block
module _ (n f k : ℕ) (below : Plan) (some : 3 ≤ k)
    (is : IsLeast (cost_of k f) (Bears (n / k) (f / div_ceil k 2)) below) where
  pub blocks_fit : k * plan_nodes below ≤ n
  blocks_fit =
      let up : k * plan_nodes below ≤ k * (n / k) = mul-le-mul_left k is.member.nodes in
      omega (arith, up, mul-div-le n k)

  pub share_fits : f < (plan_faults below + 1) * div_ceil k 2
  share_fits =
      let half : 0 < div_ceil k 2 = omega (arith, some) in
      let less : f / div_ceil k 2 < plan_faults below + 1 = omega (arith, is.member.faults) in
      (div-lt_iff_lt-mul half).0 less

-- and a level on top of it
module _ (n f k c : ℕ) (below : Plan) (some : 3 ≤ k) (few : k ≤ 16) (least_c : 2 ≤ c)
    (most_c : c ≤ 2 ^ 40) (quorum : 3 * f < n) (limit : n ≤ 256)
    (is : IsLeast (cost_of k f) (Bears (n / k) (f / div_ceil k 2)) below) where
  size : k * plan_nodes below ≤ n
  size = blocks_fit n f k below some is

  abbrev over : Plan
  over = with_level below (top_over below k f c)

  version_fits : FitsVersion below.version (top_over below k f c)
  version_fits one = absurd (omega (arith, is.version, one))

  over_accepted : IsAccepted over
  over_accepted = record {
    oldest = is.member.accepted.oldest;
    newest = is.member.accepted.newest;
    fits = All-cons (FitsVersion below.version) (top_over below k f c) below.levels version_fits
        is.member.accepted.fits;
    levels = (
      is.member.accepted.levels,
      top_fits below k f c some few (omega (arith, quorum, limit)) least_c most_c is.modulus
          (omega (arith, size, limit)) (share_fits n f k below some is),
    );
  }

  pub over_least : IsLeast c (HasTop n f (λ blocks. blocks ≡ k)) over
  over_least = record {
    member = record {
      bears = record {
        accepted = over_accepted;
        nodes = omega (arith, size, quorum);
        faults = omega arith;
      };
      top = refl;
    };
    modulus = refl;
    version = is.version;
    least = λ other has. bound_over n f k some (plan_bound below) is.least other has;
  }
