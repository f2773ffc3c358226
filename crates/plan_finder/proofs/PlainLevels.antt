-- Levels whose moduli are left aside, and the best levels that are made of them.
use Rattle.std.proofs.Common.{◌≡◌, ℕ, ◌+◌, ◌*◌, ◌-◌, ◌^◌, ◌≤◌, List, [], ◌∷◌, ◌++◌, length, map}
use Rattle.std.proofs.Common.{take, reverse, replicate, refl, sym, ap, ◌∙◌, subst, arith}
use Rattle.std.specs.List.{All}
use Rattle.std.specs.Int.{div_ceil}
use Rattle.std.proofs.Math.Seq.{take-append_seam}
use Rattle.std.proofs.lemmas.Nat.{mul-le}
use Rattle.std.proofs.lemmas.List.{length-map, length-reverse, length-append, length-replicate}
use Rattle.std.proofs.lemmas.List.{reverse-reverse}
use Rattle.std.proofs.lemmas.List.Elements.{All-nil, All-cons}
use Rattle.construction.specs.Plans.{Level, nodes_of, faults_of, bound_of, span_of}
use Rattle.plan_numbers.specs.Numbers.{line, below_of}
use Rattle.plan_numbers.specs.Premises.{first_premise, LevelsAccepted, FitsVersion, IsAccepted}
use Rattle.plan_numbers.proofs.Spans.{turns_some}
use Rattle.plan_finder.specs.declared.best.Step.{Step}
use Rattle.plan_finder.specs.declared.best.Best.{Best}
use Rattle.plan_finder.specs.Steps.{IsPath, IsStep}
use Rattle.plan_finder.specs.Orders.{steps_of, rank_of}
use Rattle.plan_finder.specs.Best.{level_by, levels_by, levels_in, IsValidBest}
use Rattle.plan_finder.specs.Building.{base_under, counting_by, plan_with}
use Rattle.plan_finder.proofs.AllLevels.{IsPlain}
use Rattle.plan_finder.proofs.Moduli.{accepts}

-- ---- moduli left aside

abbrev pub plain_of : List Level → List Level
plain_of [] = []
plain_of (level ∷ below) = line level.blocks level.faults 0 0 ∷ plain_of below

pub is_plain : (levels : List Level) → IsPlain (plain_of levels)
is_plain [] = tt
is_plain (level ∷ below) = (refl, is_plain below)

pub nodes_plain : (most : ℕ) (levels : List Level) → IsPath most levels
    → nodes_of (plain_of levels) ≡ nodes_of levels
nodes_plain most [] path = refl
nodes_plain most (level ∷ below) (path, spares, step) =
    ap (λ n. level.blocks * n + 0) (nodes_plain most below path)
    ∙ ap (λ s. level.blocks * nodes_of below + s) (sym spares)

pub faults_plain : (levels : List Level) → faults_of (plain_of levels) ≡ faults_of levels
faults_plain [] = refl
faults_plain (level ∷ below) = refl

bound_plain : (levels : List Level) → bound_of (plain_of levels) ≡ bound_of levels
bound_plain [] = refl
bound_plain (level ∷ below) = ap (λ b. b + span_of level) (bound_plain below)

length_plain : (levels : List Level) → length (plain_of levels) ≡ length levels
length_plain [] = refl
length_plain (level ∷ below) = omega (arith, length_plain below)

steps_plain : (levels : List Level) → steps_of (plain_of levels) ≡ steps_of levels
steps_plain [] = refl
steps_plain (level ∷ below) =
    ap (λ xs. xs ++ (level.blocks ∷ level.faults ∷ [])) (steps_plain below)

pub rank_plain : (most : ℕ) (levels : List Level) → IsPath most levels
    → rank_of (plain_of levels) ≡ rank_of levels
rank_plain most levels path =
    ap (λ x. x ∷ nodes_of (plain_of levels) ∷ length (plain_of levels) ∷ steps_of (plain_of levels))
    (bound_plain levels)
    ∙ (ap (λ x. bound_of levels ∷ x ∷ length (plain_of levels) ∷ steps_of (plain_of levels))
    (nodes_plain most levels path)
    ∙
    (ap (λ x. bound_of levels ∷ nodes_of levels ∷ x ∷ steps_of (plain_of levels))
    (length_plain levels)
    ∙ ap (λ xs. bound_of levels ∷ nodes_of levels ∷ length levels ∷ xs) (steps_plain levels)))

pub path_plain : (most : ℕ) (levels : List Level) → IsPath most levels
    → IsPath most (plain_of levels)
path_plain most [] path = tt
path_plain most (level ∷ below) (path, spares, step) = (
  path_plain most below path,
  refl,
  subst (λ n. IsStep most n (faults_of (plain_of below)) level.blocks level.faults)
      (sym (nodes_plain most below path))
      (subst (λ f. IsStep most (nodes_of below) f level.blocks level.faults)
      (sym (faults_plain below)) step),
)

-- ---- as a search keeps them

abbrev step_by : Level → Step
step_by level = record { blocks = level.blocks; faults = level.faults }

abbrev steps_from : List Level → List Step
steps_from levels = reverse (map step_by levels)

abbrev padding : List Level → List Step
padding levels = replicate (5 - length levels) (record { blocks = 0; faults = 0 })

abbrev pub best_from : List Level → Best
best_from levels = record {
  value = bound_of levels;
  nodes = nodes_of levels;
  depth = length levels;
  steps = steps_from levels ++ padding levels;
}

levels_again : (levels : List Level) → IsPlain levels → map level_by (map step_by levels) ≡ levels
levels_again [] plain = refl
levels_again (level ∷ below) (is, plain) =
    ap (λ l. l ∷ map level_by (map step_by below)) is
    ∙ ap (λ ls. level ∷ ls) (levels_again below plain)

steps_long : (levels : List Level) → length levels ≡ length (steps_from levels)
steps_long levels = omega (arith, length-reverse (map step_by levels), length-map levels step_by)

pub levels_from : (levels : List Level) → IsPlain levels → levels_in (best_from levels) ≡ levels
levels_from levels plain =
    ap (λ n. levels_by (take n (steps_from levels ++ padding levels))) (steps_long levels)
    ∙ (ap levels_by (take-append_seam (steps_from levels) (padding levels))
    ∙ (ap (map level_by) (reverse-reverse (map step_by levels)) ∙ levels_again levels plain))

pub kept_from : (levels : List Level) → IsPlain levels → length levels ≤ 5
    → IsValidBest (best_from levels)
kept_from levels plain few = record {
  value = ap bound_of (sym (levels_from levels plain));
  nodes = ap nodes_of (sym (levels_from levels plain));
  few = few;
  room =
      let blank : Step = record { blocks = 0; faults = 0 } in
      omega (
        arith,
        length-append (steps_from levels) (padding levels),
        length-replicate (5 - length levels) blank,
        steps_long levels,
        few,
      );
}

-- ---- a path has a plan

module _ (most : ℕ) (limit : most ≤ 256) where
  levels_accepted : (c : ℕ) (levels : List Level) → 2 ≤ c → c ≤ 2 ^ 40 → IsPath most levels
      → LevelsAccepted (base_under c levels) (counting_by c levels)
  levels_accepted c [] least_c most_c path = grind arith
  levels_accepted c (level ∷ below) least_c most_c (path, spares, step) =
      let some : 6 * 1 ≤ 3 * (level.faults + 2) * (2 * div_ceil level.blocks 2) ^ level.blocks =
      mul-le 6 1 (3 * (level.faults + 2)) ((2 * div_ceil level.blocks 2) ^ level.blocks)
      (omega arith) (turns_some level.blocks step.least_blocks) in
      let lower = below_of (base_under (span_of level) below)
      (counting_by (span_of level) below) in (
        levels_accepted (span_of level) below (omega (arith, some)) step.most_cost path,
        ap (λ s. first_premise lower (line level.blocks level.faults c s)) spares
            ∙ accepts most limit c least_c most_c level below (path, spares, step),
      )

  no_spares : (c : ℕ) (levels : List Level) → IsPath most levels
      → All (FitsVersion 1) (counting_by c levels)
  no_spares c [] path = All-nil (FitsVersion 1)
  no_spares c (level ∷ below) (path, spares, step) =
      All-cons (FitsVersion 1) (record level { modulus = c }) (counting_by (span_of level) below)
      (λ first. spares) (no_spares (span_of level) below path)

  pub path_accepted : (c : ℕ) (levels : List Level) → 2 ≤ c → c ≤ 2 ^ 40 → IsPath most levels
      → IsAccepted (plan_with c levels)
  path_accepted c levels least_c most_c path = record {
    oldest = omega arith;
    newest = omega arith;
    fits = no_spares c levels path;
    levels = levels_accepted c levels least_c most_c path;
  }
