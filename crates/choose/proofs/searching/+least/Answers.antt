use Rattle.std.proofs.Common.{◌≡◌, ℕ, ◌/◌, ◌<◌, ◌≤◌, sym, subst, arith}
use Rattle.std.specs.Prelude.{Option, Some}
use Rattle.std.specs.Int.{div_ceil}
use Rattle.std.proofs.Math.Nat.{div-le_self, div-lt_self}
use Rattle.plan_finder.specs.Steps.{cost_of}
use Rattle.plan_finder.proofs.Moduli.{cost_some}
use Rattle.construction.specs.Plans.{Plan}
use Rattle.choose.specs.Fronts.{Bears}
use Rattle.choose.specs.Least.{HasTop, IsLeast, IsLeastOf}
use Rattle.choose.proofs.Lower.{none_dear, none_over}
use Rattle.choose.proofs.Topped.{blocks_fit, share_fits, over_least}
use Rattle.choose.proofs.Least.{tried_more}
use Rattle.choose.proofs.searching.+least.Goals as goal

pub least_with-returns-in_default : goal.least_with-returns-in_default
least_with-returns-in_default t c =
    none_dear c.args.n c.args.f c.args.k c.requires.blocks.0 c.in_default.ensures

pub least_with-least_plan-requires : goal.least_with-least_plan-requires
least_with-least_plan-requires t c =
    let n : ℕ = c.args.n in
    let k : ℕ = c.args.k in
    let smaller : n / k < n =
    div-lt_self (omega (arith, c.requires.faults)) (omega (arith, c.requires.blocks)) in
    let fewer : c.args.f / c.div_ceil.result ≤ c.args.f = div-le_self c.args.f c.div_ceil.result in
    let some : 6 ≤ cost_of k c.args.f = cost_some k c.args.f c.requires.blocks.0 in (
      omega (arith, smaller, c.decreases),
      (
        omega (arith, smaller, c.requires.nodes),
        (
          omega (arith, fewer, c.requires.faults, c.requires.nodes),
          (omega (arith, some, c.in-Some.ensures.0), c.in-Some.ensures.1),
        ),
      ),
    )

-- what the search found below is the least of the plans that can be blocks
block_found : (n f k span half : ℕ) (found : Option Plan) (below : Plan) → found ≡ Some below
    → span ≡ cost_of k f → half ≡ div_ceil k 2 → IsLeastOf span (Bears (n / k) (f / half)) found
    → IsLeast (cost_of k f) (Bears (n / k) (f / div_ceil k 2)) below
block_found n f k span half found below is cost rounded least =
    subst (λ s. IsLeast s (Bears (n / k) (f / div_ceil k 2)) below) cost
    (subst (λ m. IsLeast span (Bears (n / k) (f / m)) below) rounded
    (subst (IsLeastOf span (Bears (n / k) (f / half))) is least))

pub least_with-topped-requires-clause-below : goal.least_with-topped-requires-clause-below
least_with-topped-requires-clause-below t c =
    let block = block_found c.args.n c.args.f c.args.k c.in-Some.span c.div_ceil.result _
    c.in-Some-2.below c.in-Some-2.is c.in-Some.ensures.0 c.div_ceil.ensures
    c.in_ok-least_plan.ensures in
    let some = c.requires.blocks.0 in
    record {
      version = block.version;
      counts = block.modulus;
      nodes = omega (
        arith,
        blocks_fit c.args.n c.args.f c.args.k c.in-Some-2.below some block,
        c.requires.nodes,
      );
      share = share_fits c.args.n c.args.f c.args.k c.in-Some-2.below some block;
    }

pub least_with-returns-in-None : goal.least_with-returns-in-None
least_with-returns-in-None t c =
    let n : ℕ = c.args.n in
    let f : ℕ = c.args.f in
    let k : ℕ = c.args.k in
    let found = subst (IsLeastOf c.in-Some.span (Bears (n / k) (f / c.div_ceil.result)))
    c.in-None.is c.in_ok-least_plan.ensures in
    none_over n f k c.requires.blocks.0
    (λ other bears. found other
    (subst (λ m. Bears (n / k) (f / m) other) (sym c.div_ceil.ensures) bears))

pub least_with-returns-in-Some-2 : goal.least_with-returns-in-Some-2
least_with-returns-in-Some-2 t c =
    let block = block_found c.args.n c.args.f c.args.k c.in-Some.span c.div_ceil.result _
    c.in-Some-2.below c.in-Some-2.is c.in-Some.ensures.0 c.div_ceil.ensures
    c.in_ok-least_plan.ensures in
    subst (IsLeast c.args.c (HasTop c.args.n c.args.f (λ blocks. blocks ≡ c.args.k)))
    (sym c.topped.ensures)
    (over_least c.args.n c.args.f c.args.k c.args.c c.in-Some-2.below c.requires.blocks.0
    c.requires.blocks.1 c.requires.modulus.0 c.requires.modulus.1 c.requires.faults.1
    c.requires.nodes block)

pub least_plan-loop-k-preserved : goal.least_plan-loop-k-preserved
least_plan-loop-k-preserved t c =
    tried_more c.args.n c.args.f c.loop-k.k c.args.c c.loop-k.best _ c.lesser-best.result
    c.loop-k.invariant c.in_ok-least_with.ensures c.lesser-best.ensures
