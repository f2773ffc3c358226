-- The least moduli that levels may count by, and what a plan with them has.
use Rattle.std.proofs.Common.{◌≡◌, ℕ, suc, ◌+◌, ◌*◌, ◌%◌, ◌<◌, ◌≤◌, ◌^◌, List, [], ◌∷◌, ◌++◌}
use Rattle.std.proofs.Common.{length, get_or, take, drop, map, reverse, refl, sym, ap, ◌∙◌, subst}
use Rattle.std.proofs.Common.{inl, inr, arith}
use Rattle.std.specs.Prelude.{Option, Some, None, Result, Ok, Err, IfErr, IsOk}
use Rattle.sync_types.specs.declared.answers.Premise.{Premise}
use Rattle.std.proofs.lemmas.List.{reverse-append, reverse-reverse, drop_more, take_more}
use Rattle.std.proofs.lemmas.List.{take-append-drop, map-append}
use Rattle.std.proofs.lemmas.List.Elements.{All-nil, All-cons, All-push, All-head, All-tail}
use Rattle.std.proofs.lemmas.List.Elements.{All-drop}
use Rattle.std.specs.List.{All}
use Rattle.plan_finder.specs.declared.best.Step.{Step}
use Rattle.plan_finder.specs.Best.{level_by, levels_by}
use Rattle.plan_finder.proofs.Bests.{levels_by_push}
use Rattle.construction.specs.Plans.{Level, nodes_of, faults_of, bound_of, span_of, modulus_of}
use Rattle.plan_numbers.specs.Numbers.{below_of, numbers_below, line, with_level}
use Rattle.plan_numbers.specs.Premises.{base_premise, first_premise, LevelsAccepted, IsAccepted}
use Rattle.plan_numbers.proofs.Accepted.{divisor_most, meets, meets_none, accepted_sized}
use Rattle.plan_numbers.proofs.Spans.{turns_some}
use Rattle.std.specs.Int.{div_ceil}
use Rattle.std.proofs.lemmas.Nat.{mul-le}
use Rattle.std.proofs.Math.Nat.{mul-mod_right, mul-one}
use Rattle.plan_finder.specs.Steps.{IsPath, cost_of}
use Rattle.plan_finder.specs.Orders.{IsLess, steps_of, moduli_of, rank_of}
use Rattle.plan_finder.specs.Building.{base_under, counting_by, plan_with, modulus_under, IsUsable}
use Rattle.plan_finder.specs.Wanted.{MeetsWants, IsLeastPlan}
use Rattle.plan_finder.proofs.Orders.{less_split, AreAtMost, at_most_push, at_most_not_less}
use Rattle.plan_finder.proofs.Paths.{plan_path, length-steps_of}

-- ---- moduli matter to no other number

pub nodes_counting : (c : ℕ) (levels : List Level)
    → nodes_of (counting_by c levels) ≡ nodes_of levels
nodes_counting c [] = refl
nodes_counting c (level ∷ below) =
    ap (λ n. level.blocks * n + level.spares) (nodes_counting (span_of level) below)

pub bound_counting : (c : ℕ) (levels : List Level)
    → bound_of (counting_by c levels) ≡ bound_of levels
bound_counting c [] = refl
bound_counting c (level ∷ below) =
    ap (λ b. b + span_of level) (bound_counting (span_of level) below)

pub faults_counting : (c : ℕ) (levels : List Level)
    → faults_of (counting_by c levels) ≡ faults_of levels
faults_counting c [] = refl
faults_counting c (level ∷ below) = refl

pub steps_counting : (c : ℕ) (levels : List Level)
    → steps_of (counting_by c levels) ≡ steps_of levels
steps_counting c [] = refl
steps_counting c (level ∷ below) =
    ap (λ xs. xs ++ (level.blocks ∷ level.faults ∷ [])) (steps_counting (span_of level) below)

pub length-counting_by : (c : ℕ) (levels : List Level)
    → length (counting_by c levels) ≡ length levels
length-counting_by c [] = refl
length-counting_by c (level ∷ below) = ap (λ n. suc n) (length-counting_by (span_of level) below)

pub modulus_counting : (c : ℕ) (levels : List Level)
    → modulus_of (base_under c levels) (counting_by c levels) ≡ c
modulus_counting c [] = refl
modulus_counting c (level ∷ below) = refl

pub rank_counting : (c : ℕ) (levels : List Level) → rank_of (counting_by c levels) ≡ rank_of levels
rank_counting c levels =
    ap
    (λ x. x ∷ nodes_of (counting_by c levels) ∷ length (counting_by c levels)
    ∷ steps_of (counting_by c levels))
    (bound_counting c levels)
    ∙
    (ap
    (λ x. bound_of levels ∷ x ∷ length (counting_by c levels)
    ∷ steps_of (counting_by c levels))
    (nodes_counting c levels)
    ∙
    (ap (λ x. bound_of levels ∷ nodes_of levels ∷ x ∷ steps_of (counting_by c levels))
    (length-counting_by c levels)
    ∙ ap (λ xs. bound_of levels ∷ nodes_of levels ∷ length levels ∷ xs) (steps_counting c levels)))

-- ---- no accepted levels of the same steps have lesser moduli

-- the top steps of equal lists, and the rest
pub last_same : (xs ys : List ℕ) (a b c d : ℕ) → xs ++ (a ∷ b ∷ []) ≡ ys ++ (c ∷ d ∷ [])
    → length xs ≡ length ys → (xs ≡ ys) × (a ≡ c) × (b ≡ d)
last_same [] [] a b c d e long = (refl, cc, cc)
last_same [] (y ∷ ys) a b c d e long = absurd (omega (arith, long))
last_same (x ∷ xs) [] a b c d e long = absurd (omega (arith, long))
last_same (x ∷ xs) (y ∷ ys) a b c d e long =
    let head : x ≡ y = cc in
    let tail : xs ++ (a ∷ b ∷ []) ≡ ys ++ (c ∷ d ∷ []) = cc in
    let rest = last_same xs ys a b c d tail (omega (arith, long)) in
    (ap (λ z. z ∷ xs) head ∙ ap (λ zs. y ∷ zs) rest.0, rest.1, rest.2)

span_same : (other level : Level) → other.blocks ≡ level.blocks → other.faults ≡ level.faults
    → span_of other ≡ span_of level
span_same other level blocks faults =
    ap (λ k. cost_of k other.faults) blocks ∙ ap (λ g. cost_of level.blocks g) faults

least_moduli : (c base : ℕ) (levels others : List Level) → LevelsAccepted base others
    → length others ≡ length levels → steps_of others ≡ steps_of levels → c ≤ modulus_of base others
    → AreAtMost (moduli_of (base_under c levels) (counting_by c levels)) (moduli_of base others)
least_moduli c base [] [] accepted deep same le = (le, tt)
least_moduli c base [] (other ∷ others) accepted deep same le = absurd (omega (arith, deep))
least_moduli c base (level ∷ below) [] accepted deep same le = absurd (omega (arith, deep))
least_moduli c base (level ∷ below) (other ∷ others) (accepted, none) deep same le =
    let long : length (steps_of others) ≡ length (steps_of below) =
    omega (arith, length-steps_of others, length-steps_of below, deep) in
    let parts = last_same (steps_of others) (steps_of below) other.blocks other.faults level.blocks
    level.faults same long in
    let met = meets (below_of base others) other none in
    let sized = accepted_sized base others accepted in
    let most : span_of other ≤ modulus_of base others =
    divisor_most (modulus_of base others) (span_of other) (omega (arith, sized.least_modulus))
    met.multiple in
    let span : span_of other ≡ span_of level = span_same other level parts.1 parts.2 in
    at_most_push (moduli_of (base_under (span_of level) below) (counting_by (span_of level) below))
    (moduli_of base others) c other.modulus
    (least_moduli (span_of level) base below others accepted (omega (arith, deep)) parts.0
    (subst (λ s. s ≤ modulus_of base others) span most))
    le

-- ---- the plan of the best levels is the least

-- lists whose ranks are followed by moduli
module _ (c most f : ℕ) (levels : List Level) (path : IsPath most levels)
    (faults : faults_of levels ≡ f)
    (few : nodes_of levels ≤ most) (accepted : IsAccepted (plan_with c levels))
    (least : (other : List Level) → IsPath most other → faults_of other ≡ f → nodes_of other ≤ most
    → ¬ IsLess (rank_of other) (rank_of levels))
  where
    plan_meets : MeetsWants f c most (plan_with c levels)
    plan_meets = record {
      accepted = accepted;
      version = refl;
      faults = faults_counting c levels ∙ faults;
      modulus = modulus_counting c levels;
      nodes = omega (arith, nodes_counting c levels, few);
    }

    -- a plan whose levels have a rank that is not less is not before this one
    moduli_after : (base : ℕ) (others : List Level) → LevelsAccepted base others
        → modulus_of base others ≡ c
        → ¬ IsLess (rank_of others) (rank_of levels)
        → ¬ IsLess (rank_of others ++ moduli_of base others)
        (rank_of levels ++ moduli_of (base_under c levels) (counting_by c levels))
    moduli_after base others are counts not_less (inl lt) = not_less (inl lt)
    moduli_after base others are counts not_less (inr (e, inl lt)) = not_less (inr (e, inl lt))
    moduli_after base others are counts not_less (inr (e, inr (e', inl lt))) =
        not_less (inr (e, inr (e', inl lt)))
    moduli_after base others are counts not_less (inr (e, inr (e', inr (deep, less)))) =
        elim
        (less_split (steps_of others) (steps_of levels) (moduli_of base others)
        (moduli_of (base_under c levels) (counting_by c levels))
        (omega (arith, length-steps_of others, length-steps_of levels, deep)) less) [
          | inl front ↦ not_less (inr (e, inr (e', inr (deep, front))))
          | inr (same, rest) ↦
              at_most_not_less (moduli_of (base_under c levels) (counting_by c levels))
              (moduli_of base others)
              (least_moduli c base levels others are deep same (omega (arith, counts))) rest
        ]

    pub least_plan : IsLeastPlan f c most (plan_with c levels)
    least_plan = record {
      meets = plan_meets;
      least = λ other meets before.
          let not_less : ¬ IsLess (rank_of other.levels) (rank_of levels) =
          least other.levels (plan_path most other meets.accepted meets.version meets.nodes)
          meets.faults meets.nodes in
          moduli_after other.base other.levels meets.accepted.levels meets.modulus not_less
          (subst
          (λ r. IsLess (rank_of other.levels ++ moduli_of other.base other.levels)
          (r ++ moduli_of (base_under c levels) (counting_by c levels)))
          (rank_counting c levels) before);
    }

-- ---- the plan grows level by level

pub pushed : (c : ℕ) (steps : List Step) (i : ℕ) (step : Step) → i < length steps
    → step ≡ get_or steps i step
    → with_level (plan_with (modulus_under c (drop i steps)) (levels_by (take i steps)))
    (line step.blocks step.faults (modulus_under c (drop (i + 1) steps)) 0)
    ≡ plan_with (modulus_under c (drop (i + 1) steps)) (levels_by (take (i + 1) steps))
pushed c steps i step lt is =
    let next : ℕ = modulus_under c (drop (i + 1) steps) in
    let here : modulus_under c (drop i steps) ≡ cost_of step.blocks step.faults =
    ap (modulus_under c) (drop_more steps i step lt)
    ∙ ap (λ s. cost_of s.blocks s.faults) (sym is) in
    let more : take (i + 1) steps ≡ take i steps ++ step ∷ [] =
    take_more steps i step lt ∙ ap (λ s. take i steps ++ s ∷ []) (sym is) in
    ap
    (λ m. with_level (plan_with m (levels_by (take i steps)))
    (line step.blocks step.faults next 0))
    here
    ∙ sym (ap (λ ls. plan_with next ls) (ap levels_by more ∙ levels_by_push (take i steps) step))

-- ---- the steps of a path are usable

usable_down : (most : ℕ) (steps : List Step) → IsPath most (map level_by steps) → All IsUsable steps
usable_down most [] path = All-nil IsUsable
usable_down most (step ∷ steps) (path, spares, is) =
    All-cons IsUsable step steps
    (record {
      least_blocks = is.least_blocks;
      most_blocks = is.most_blocks;
      most_faults = is.most_faults;
      most_cost = is.most_cost;
    })
    (usable_down most steps path)

all_reverse : (steps : List Step) → All IsUsable steps → All IsUsable (reverse steps)
all_reverse [] all = all
all_reverse (step ∷ steps) all =
    let turned : reverse (step ∷ steps)
    ≡ reverse steps ++ step ∷ [] = reverse-append (step ∷ []) steps in
    subst (All IsUsable) (sym turned)
    (All-push IsUsable (reverse steps) step
    (all_reverse steps (All-tail IsUsable step steps all)) (All-head IsUsable step steps all))

pub path_usable : (most : ℕ) (steps : List Step) → IsPath most (levels_by steps)
    → All IsUsable steps
path_usable most steps path =
    subst (All IsUsable) (reverse-reverse steps)
    (all_reverse (reverse steps) (usable_down most (reverse steps) path))

-- ---- each push is accepted

-- a number divides itself
pub divided : (n : ℕ) → n % n ≡ 0
divided n = ap (λ m. m % n) (sym (mul-one n)) ∙ mul-mod_right n 1

module _ (most : ℕ) (limit : most ≤ 256) (c : ℕ) (least_c : 2 ≤ c) (most_c : c ≤ 2 ^ 40)
    (level : Level) (below : List Level)
    (path : IsPath most (level ∷ below)) where
  -- a level of a path may stand on the plan of those below it
  pub accepts : first_premise
      (below_of (base_under (span_of level) below) (counting_by (span_of level) below))
      (line level.blocks level.faults c 0)
      ≡ None
  accepts =
      let span : ℕ = span_of level in
      let step = path.2 in
      let nodes = nodes_counting span below in
      let faults = faults_counting span below in
      let counts = modulus_counting span below in
      let size : level.blocks * nodes_of (counting_by span below)
      ≡ level.blocks * nodes_of below = ap (λ n. level.blocks * n) nodes in
      meets_none (below_of (base_under span below) (counting_by span below))
      (line level.blocks level.faults c 0)
      (record {
        most_blocks = step.most_blocks;
        most_faults = step.most_faults;
        most_modulus = most_c;
        most_nodes = omega (arith, size, step.most_nodes, limit);
        blocks = step.least_blocks;
        modulus = least_c;
        quorum = omega (arith, size, step.quorum);
        share =
            subst (λ f. level.faults < (f + 1) * div_ceil level.blocks 2) (sym faults) step.share;
        multiple = ap (λ m. m % span) counts ∙ divided span;
      })

-- levels below others of a path are a path
path_below : (most : ℕ) (xs ys : List Level) → IsPath most (xs ++ ys) → IsPath most ys
path_below most [] ys path = path
path_below most (x ∷ xs) ys path = path_below most xs ys path.0

path_front : (most n : ℕ) (steps : List Step) → IsPath most (levels_by steps)
    → IsPath most (levels_by (take n steps))
path_front most n steps path =
    let parts : levels_by steps
    ≡ map level_by (reverse (drop n steps)) ++ levels_by (take n steps) =
    ap levels_by (sym (take-append-drop n steps))
    ∙ (ap (map level_by) (reverse-append (take n steps) (drop n steps))
    ∙ map-append level_by (reverse (drop n steps)) (reverse (take n steps))) in
    path_below most (map level_by (reverse (drop n steps))) (levels_by (take n steps))
    (subst (IsPath most) parts path)

-- a cost is six at least
pub cost_some : (k g : ℕ) → 3 ≤ k → 6 ≤ cost_of k g
cost_some k g some =
    let least : 6 * 1 ≤ 3 * (g + 2) * (2 * div_ceil k 2) ^ k =
    mul-le 6 1 (3 * (g + 2)) ((2 * div_ceil k 2) ^ k) (omega arith) (turns_some k some) in
    omega (arith, least)

-- the moduli below steps fit
pub modulus_fits : (c : ℕ) (steps : List Step) → All IsUsable steps → 2 ≤ c → c ≤ 2 ^ 40
    → (2 ≤ modulus_under c steps) × (modulus_under c steps ≤ 2 ^ 40)
modulus_fits c [] all least most = (least, most)
modulus_fits c (step ∷ steps) all least most =
    let usable = All-head IsUsable step steps all in
    let some = cost_some step.blocks step.faults usable.least_blocks in
    (omega (arith, some), usable.most_cost)

module _ (most : ℕ) (limit : most ≤ 256) (c : ℕ) (least_c : 2 ≤ c) (most_c : c ≤ 2 ^ 40)
    (steps : List Step)
    (path : IsPath most (levels_by steps)) where
  pub base_fits : base_premise (modulus_under c steps) ≡ None
  base_fits =
      let fits = modulus_fits c steps (path_usable most steps path) least_c most_c in
      let least = fits.0 in
      let greatest = fits.1 in
      grind arith

  pub push_fits : (i : ℕ) (d step : Step) → i < length steps → step ≡ get_or steps i d
      → first_premise
      (numbers_below (plan_with (modulus_under c (drop i steps)) (levels_by (take i steps))))
      (line step.blocks step.faults (modulus_under c (drop (i + 1) steps)) 0) ≡ None
  push_fits i d step lt is =
      let next : ℕ = modulus_under c (drop (i + 1) steps) in
      let lower : List Level = levels_by (take i steps) in
      let here : modulus_under c (drop i steps) ≡ cost_of step.blocks step.faults =
      ap (modulus_under c) (drop_more steps i d lt)
      ∙ ap (λ s. cost_of s.blocks s.faults) (sym is) in
      let more : take (i + 1) steps ≡ take i steps ++ step ∷ [] =
      take_more steps i d lt ∙ ap (λ s. take i steps ++ s ∷ []) (sym is) in
      let front : IsPath most (level_by step ∷ lower) =
      subst (IsPath most) (ap levels_by more ∙ levels_by_push (take i steps) step)
      (path_front most (i + 1) steps path) in
      let fits = modulus_fits c (drop (i + 1) steps)
      (All-drop IsUsable (i + 1) steps (path_usable most steps path)) least_c most_c in
      ap
      (λ m. first_premise (numbers_below (plan_with m lower))
      (line step.blocks step.faults next 0))
      here
      ∙ accepts most limit next fits.0 fits.1 (level_by step) lower front

-- the level of a step, with a modulus
abbrev pub level_with : Step → ℕ → Level
level_with step modulus = line step.blocks step.faults modulus 0

-- what is refused for its first premise that fails is Ok if none fails
pub ok_by : {X : Type 0} (r : Result X Premise) (fails : Option Premise)
    → IfErr r (λ premise. fails ≡ Some premise)
    → fails ≡ None → IsOk r
ok_by (Ok x) fails refused none = refl
ok_by (Err premise) fails refused none = absurd (cc)
