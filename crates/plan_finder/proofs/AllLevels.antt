-- The lists of levels that the search goes through are all plain ones.
use Rattle.std.proofs.Common.{◌≡◌, ℕ, zero, suc, ◌+◌, ◌*◌, ◌<◌, ◌≤◌, ◌^◌, List, [], ◌∷◌}
use Rattle.std.proofs.Common.{length, map, true, refl, sym, ap, ◌∙◌}
use Rattle.std.proofs.Common.{subst, inl, inr, arith}
use Rattle.std.specs.Prelude.{nat_lt, nat_le}
use Rattle.std.specs.Int.{div_ceil}
use Rattle.std.specs.List.{range_with_len}
use Rattle.std.proofs.lemmas.Bool.{and_parts, and_from, ltb-true, lt-ltb, leb-true, le-leb}
use Rattle.construction.specs.Plans.{Level, nodes_of, faults_of}
use Rattle.plan_numbers.specs.Numbers.{line}
use Rattle.plan_finder.specs.declared.best.Step.{Step}
use Rattle.plan_finder.specs.Steps.{IsPath, IsStep, cost_of}
use Rattle.plan_finder.specs.Orders.{IsLess, rank_of, steps_of}
use Rattle.plan_finder.specs.Best.{level_by}
use Rattle.plan_finder.specs.Least.{is_step, is_path, levels_over, all_levels}
use Rattle.plan_finder.proofs.Orders.{less_or_not}
use Rattle.plan_finder.proofs.Paths.{length-steps_of}
use Rattle.plan_finder.proofs.Moduli.{last_same}
use Rattle.plan_finder.proofs.Members.{IsIn, in_flat_map, from_flat_map}
use Rattle.plan_finder.proofs.Members.{in_map, from_map, in_range}

-- ---- plain levels: their moduli are left aside

abbrev pub IsPlain : List Level → Type 0
IsPlain [] = Unit {0}
IsPlain (level ∷ below) = (line level.blocks level.faults 0 0 ≡ level) × IsPlain below

pub plain_down : (steps : List Step) → IsPlain (map level_by steps)
plain_down [] = tt
plain_down (step ∷ steps) = (refl, plain_down steps)

-- plain levels with the same steps are the same
plain_same : (levels others : List Level) → IsPlain levels → IsPlain others
    → length levels ≡ length others
    → steps_of levels ≡ steps_of others → levels ≡ others
plain_same [] [] plain plain' deep same = refl
plain_same [] (other ∷ others) plain plain' deep same = absurd (omega (arith, deep))
plain_same (level ∷ below) [] plain plain' deep same = absurd (omega (arith, deep))
plain_same (level ∷ below) (other ∷ others) (is, plain) (is', plain') deep same =
    let long : length (steps_of below)
    ≡ length (steps_of others) = omega
    (arith, length-steps_of below, length-steps_of others, deep) in
    let parts = last_same (steps_of below) (steps_of others) level.blocks level.faults other.blocks
    other.faults same long in
    let rest = plain_same below others plain plain' (omega (arith, deep)) parts.0 in
    let top : level ≡ other =
    sym is
    ∙ (ap (λ k. line k level.faults 0 0) parts.1
    ∙ (ap (λ g. line other.blocks g 0 0) parts.2 ∙ is')) in
    ap (λ l. l ∷ below) top ∙ ap (λ ls. other ∷ ls) rest

-- plain levels neither of which is before the other are the same
pub plain_tie : (levels others : List Level) → IsPlain levels → IsPlain others
    → ¬ IsLess (rank_of levels) (rank_of others) → ¬ IsLess (rank_of others) (rank_of levels)
    → levels ≡ others
plain_tie levels others plain plain' first second =
    elim (less_or_not (rank_of levels) (rank_of others)) [
      | inl less ↦ absurd (first less)
      | inr (inr less) ↦ absurd (second less)
      | inr (inl same) ↦
          let deep : length levels ≡ length others = cc in
          let steps : steps_of levels ≡ steps_of others = cc in
          plain_same levels others plain plain' deep steps
    ]

-- ---- the tests

step_true : (most n f k g : ℕ) → IsStep most n f k g → is_step most n f k g ≡ true
step_true most n f k g step =
    and_from (nat_le 3 k) _ (le-leb 3 k step.least_blocks)
    (and_from (nat_le (k * n) most) _ (le-leb (k * n) most step.most_nodes)
    (and_from (nat_lt (3 * g) (k * n)) _ (lt-ltb (3 * g) (k * n) step.quorum)
    (and_from (nat_lt g ((f + 1) * div_ceil k 2)) _ (lt-ltb g ((f + 1) * div_ceil k 2) step.share)
    (le-leb (cost_of k g) (2 ^ 40) step.most_cost))))

step_from : (most n f k g : ℕ) → k < 17 → g < 86 → is_step most n f k g ≡ true → IsStep most n f k g
step_from most n f k g blocks faults holds =
    let one = and_parts (nat_le 3 k) _ holds in
    let two = and_parts (nat_le (k * n) most) _ one.1 in
    let three = and_parts (nat_lt (3 * g) (k * n)) _ two.1 in
    let four = and_parts (nat_lt g ((f + 1) * div_ceil k 2)) _ three.1 in
    record {
      least_blocks = leb-true 3 k one.0;
      most_blocks = omega (arith, blocks);
      most_nodes = leb-true (k * n) most two.0;
      most_faults = omega (arith, faults);
      quorum = ltb-true (3 * g) (k * n) three.0;
      share = ltb-true g ((f + 1) * div_ceil k 2) four.0;
      most_cost = leb-true (cost_of k g) (2 ^ 40) four.1;
    }

pub path_true : (most : ℕ) (levels : List Level) → IsPath most levels → is_path most levels ≡ true
path_true most [] path = refl
path_true most (level ∷ below) (path, spares, step) =
    and_from (is_path most below)
    (is_step most (nodes_of below) (faults_of below) level.blocks level.faults)
    (path_true most below path)
    (step_true most (nodes_of below) (faults_of below) level.blocks level.faults step)

-- few blocks and faults
abbrev pub AreFew : List Level → Type 0
AreFew [] = Unit {0}
AreFew (level ∷ below) = (level.blocks < 17) × (level.faults < 86) × AreFew below

pub few_path : (most : ℕ) (levels : List Level) → IsPath most levels → AreFew levels
few_path most [] path = tt
few_path most (level ∷ below) (path, spares, step) =
    (omega (arith, step.most_blocks), omega (arith, step.most_faults), few_path most below path)

pub path_from : (most : ℕ) (levels : List Level) → IsPlain levels → AreFew levels
    → is_path most levels ≡ true → IsPath most levels
path_from most [] plain few holds = tt
path_from most (level ∷ below) (is, plain) (blocks, faults, few) holds =
    let parts = and_parts (is_path most below)
    (is_step most (nodes_of below) (faults_of below) level.blocks level.faults) holds in (
      path_from most below plain few parts.0,
      sym (ap (λ l. l.spares) is),
      step_from most (nodes_of below) (faults_of below) level.blocks level.faults blocks faults
          parts.1,
    )

-- ---- all levels

in_over : (level : Level) (below : List Level) → line level.blocks level.faults 0 0 ≡ level
    → level.blocks < 17 → level.faults < 86
    → IsIn (level ∷ below) (levels_over below)
in_over level below is blocks faults =
    let here : IsIn (line level.blocks level.faults 0 0 ∷ below)
    (map (λ g. line level.blocks g 0 0 ∷ below) (range_with_len 0 86)) =
    in_map (λ g. line level.blocks g 0 0 ∷ below) level.faults (range_with_len 0 86)
    (in_range level.faults 0 86 (omega arith) (omega (arith, faults))) in
    subst (λ l. IsIn (l ∷ below) (levels_over below)) is
    (in_flat_map (λ k. map (λ g. line k g 0 0 ∷ below) (range_with_len 0 86)) level.blocks
    (line level.blocks level.faults 0 0 ∷ below) (range_with_len 0 17)
    (in_range level.blocks 0 17 (omega arith) (omega (arith, blocks))) here)

pub in_all : (depth : ℕ) (levels : List Level) → IsPlain levels → AreFew levels
    → length levels ≤ depth → IsIn levels (all_levels depth)
unfolding all_levels
in_all zero [] plain few deep = inl refl
in_all zero (level ∷ below) plain few deep = absurd (omega (arith, deep))
in_all (suc depth) [] plain few deep = inl refl
in_all (suc depth) (level ∷ below) (is, plain) (blocks, faults, few) deep =
    inr (in_flat_map levels_over below (level ∷ below) (all_levels depth)
    (in_all depth below plain few (omega (arith, deep)))
    (in_over level below is blocks faults))

-- ranges end
below_range : (k a n : ℕ) → IsIn k (range_with_len a n) → k < a + n
below_range k a zero is = absurd is
below_range k a (suc n) (inl same) = omega (arith, same)
below_range k a (suc n) (inr is) = let lt = below_range k (a + 1) n is in omega (arith, lt)

from_over : (levels below : List Level) → IsPlain below → AreFew below
    → IsIn levels (levels_over below) → IsPlain levels × AreFew levels
from_over levels below plain few is =
    let outer = from_flat_map (λ k. map (λ g. line k g 0 0 ∷ below) (range_with_len 0 86)) levels
    (range_with_len 0 17) is in
    let k : ℕ = outer.0 in
    let inner = from_map (λ g. line k g 0 0 ∷ below) levels (range_with_len 0 86) outer.2 in
    let g : ℕ = inner.0 in
    let blocks = below_range k 0 17 outer.1 in
    let faults = below_range g 0 86 inner.1 in
    subst (λ ls. IsPlain ls × AreFew ls) inner.2
    ((refl, plain), (omega (arith, blocks), omega (arith, faults), few))

pub from_all : (depth : ℕ) (levels : List Level) → IsIn levels (all_levels depth)
    → IsPlain levels × AreFew levels
unfolding all_levels
from_all zero levels (inl same) = subst (λ ls. IsPlain ls × AreFew ls) same (tt, tt)
from_all zero levels (inr is) = absurd is
from_all (suc depth) levels (inl same) = subst (λ ls. IsPlain ls × AreFew ls) same (tt, tt)
from_all (suc depth) levels (inr is) =
    let over = from_flat_map levels_over levels (all_levels depth) is in
    let lower = from_all depth over.0 over.1 in
    from_over levels over.0 lower.0 lower.1 over.2
