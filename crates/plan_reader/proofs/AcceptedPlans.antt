-- Each plan that an input is defined to give is accepted.
use Rattle.std.proofs.Common.{◌≡◌, ℕ, ◌+◌, ◌≤◌, arith, Bool, true, false, cond, List, [], ◌∷◌}
use Rattle.std.proofs.Common.{Option, Some, None, Result, Ok, Err, refl}
use Rattle.std.specs.Prelude.{⊤, IfOk, IfSome, slice_index, ◌==◌, codes}
use Rattle.std.specs.Str.{bytes_eq}
use Rattle.std.proofs.lemmas.List.Elements.{All-cons}
use Rattle.std.proofs.lemmas.Bool.{eqb-false}
use Rattle.texts.specs.Lines.{lines_of, words_of}
use Rattle.texts.specs.Shapes.{numbers_after}
use Rattle.texts.specs.Parts.{ends, Found, At, with_skips}
use Rattle.texts.proofs.Parts.{After, after_if, skips_keep, part_keeps}
use Rattle.sync_types.specs.declared.answers.Premise.{Premise}
use Rattle.sync_types.specs.declared.answers.Premise.TheVariants.{Form}
use Rattle.construction.specs.Plans.{Level, Plan}
use Rattle.plan_numbers.specs.Numbers.{line, with_level, numbers_below}
use Rattle.plan_numbers.specs.Premises.{base_premise, first_premise, unless, FitsVersion}
use Rattle.plan_numbers.specs.Premises.{IsAccepted}
use Rattle.plan_reader.specs.declared.stages.PlanStage.{PlanStage}
use Rattle.plan_reader.specs.declared.stages.PlanStage.TheVariants.{Unread, Begun, Built}
use Rattle.plan_reader.specs.PlanPart.{plan_of, whole_plan_of, alone, unless_followed, plan_step}
use Rattle.plan_reader.specs.PlanPart.{begins, base_by, level_by, without_spares, with_spares}
use Rattle.plan_reader.specs.PlanPart.{level_quadruple, after_level, goes_with}
use Rattle.plan_reader.specs.Skipped.{first_unskipped}

-- the plan so far is accepted
abbrev IsSound : PlanStage → Type 0
IsSound Unread = ⊤
IsSound (Begun version) = (1 ≤ version) × (version ≤ 2)
IsSound (Built plan) = IsAccepted plan

based : (plan : Plan) (premise : Option Premise) → (premise ≡ None → IsAccepted plan)
    → After IsSound IsAccepted (goes_with (unless premise plan))
based plan None accepted = accepted refl
based plan (Some premise) accepted = tt

begun : (one two : Bool)
    → After IsSound IsAccepted (begins (cond one (Some 1) (cond two (Some 2) None)))
begun true two = (omega arith, omega arith)
begun false true = (omega arith, omega arith)
begun false false = tt

base_kept : (version : ℕ) (numbers : Option (List ℕ)) → (1 ≤ version) × (version ≤ 2)
    → After IsSound IsAccepted (goes_with (base_by version numbers))
base_kept version None p = tt
base_kept version (Some []) p = tt
base_kept version (Some (base ∷ [])) p =
    based (record { version = version; base = base; levels = [] }) (base_premise base)
    (λ none. record {
      oldest = p.0;
      newest = p.1;
      fits = λ k d lt. absurd (omega arith);
      levels = none;
    })
base_kept version (Some (base ∷ n ∷ numbers)) p = tt

-- one more level fits the version
fits_more : (plan : Plan) (level : Level) → IsAccepted plan → FitsVersion plan.version level
    → first_premise (numbers_below plan) level ≡ None → IsAccepted (with_level plan level)
fits_more plan level p fits none = record {
  oldest = p.oldest;
  newest = p.newest;
  fits = All-cons (FitsVersion plan.version) level plan.levels fits p.fits;
  levels = (p.levels, none);
}

-- in version 1, the last of a level's four numbers is 0
abbrev FitsNumbers : (version : ℕ) → List ℕ → Type 0
FitsNumbers version numbers = version ≡ 1 → slice_index numbers 3 ≡ 0

level_kept : (plan : Plan) (numbers : Option (List ℕ)) → IsAccepted plan
    → IfSome numbers (FitsNumbers plan.version)
    → After IsSound IsAccepted (goes_with (level_by plan numbers))
level_kept plan None p fits = tt
level_kept plan (Some []) p fits = tt
level_kept plan (Some (k ∷ [])) p fits = tt
level_kept plan (Some (k ∷ f ∷ [])) p fits = tt
level_kept plan (Some (k ∷ f ∷ c ∷ [])) p fits = tt
level_kept plan (Some (k ∷ f ∷ c ∷ s ∷ [])) p fits =
    let level = line k f c s in
    based (with_level plan level) (first_premise (numbers_below plan) level)
    (λ none. fits_more plan level p fits none)
level_kept plan (Some (k ∷ f ∷ c ∷ s ∷ n ∷ numbers)) p fits = tt

no_spares : (numbers : Option (List ℕ))
    → IfSome (without_spares numbers) (λ ns. slice_index ns 3 ≡ 0)
no_spares None = tt
no_spares (Some []) = tt
no_spares (Some (k ∷ [])) = tt
no_spares (Some (k ∷ f ∷ [])) = tt
no_spares (Some (k ∷ f ∷ c ∷ [])) = refl
no_spares (Some (k ∷ f ∷ c ∷ s ∷ numbers)) = tt

some_weaker : (o : Option (List ℕ)) (P Q : List ℕ → Type 0) → ((ns : List ℕ) → P ns → Q ns)
    → IfSome o P → IfSome o Q
some_weaker None P Q f is = tt
some_weaker (Some ns) P Q f is = f ns is

all_some : (o : Option (List ℕ)) (P : List ℕ → Type 0) → ((ns : List ℕ) → P ns) → IfSome o P
all_some None P f = tt
all_some (Some ns) P f = f ns

fits_by : (version : ℕ) (one two : Option (List ℕ)) (b : Bool) → (version == 1) ≡ b
    → IfSome (cond b (without_spares one) two) (FitsNumbers version)
fits_by version one two true e =
    some_weaker (without_spares one) (λ ns. slice_index ns 3 ≡ 0) (FitsNumbers version)
    (λ ns none first. none) (no_spares one)
fits_by version one two false e =
    all_some two (FitsNumbers version) (λ ns first. absurd (eqb-false version 1 e first))

level_fits : (version : ℕ) (words : List (List ℕ))
    → IfSome (level_quadruple version words) (FitsNumbers version)
level_fits version words =
    fits_by version (numbers_after (codes "level") 3 words) (with_spares words) (version == 1) refl

line_kept : (stage : PlanStage) (line : List ℕ) → IsSound stage
    → After IsSound IsAccepted (plan_step stage line)
line_kept Unread line p =
    begun (bytes_eq line (codes "plan 1")) (bytes_eq line (codes "plan 2"))
line_kept (Begun version) line p =
    base_kept version (numbers_after (codes "base") 1 (words_of line)) p
line_kept (Built plan) line p =
    let words = words_of line in
    after_if IsSound IsAccepted (bytes_eq line (codes "end")) (ends plan)
    (goes_with (after_level plan line)) p
    (level_kept plan (level_quadruple plan.version words) p (level_fits plan.version words))

kept : (stage : PlanStage) (line : List ℕ) → IsSound stage
    → After IsSound IsAccepted (with_skips plan_step Form stage line)
kept stage line p =
    skips_keep plan_step Form IsSound IsAccepted stage line p (line_kept stage line p)

-- the plan of a part is accepted
pub plan_accepted : (input : List ℕ) → IfOk (plan_of input) (λ found. IsAccepted found.value)
plan_accepted input =
    part_keeps (with_skips plan_step Form) Form IsSound IsAccepted kept (lines_of input)
    Unread 0 1 tt

followed : (number : Option ℕ) (plan : Plan) → IsAccepted plan
    → IfOk (unless_followed number plan) IsAccepted
followed None plan p = p
followed (Some number) plan p = tt

whole : (read : Result (Found Plan) (At Premise)) → IfOk read (λ found. IsAccepted found.value)
    → IfOk (alone read) IsAccepted
whole (Ok found) p = followed (first_unskipped (1 + found.taken) found.behind) found.value p
whole (Err refusal) p = tt

-- the plan of a whole input is accepted
pub whole_plan_accepted : (input : List ℕ) → IfOk (whole_plan_of input) IsAccepted
whole_plan_accepted input = whole (plan_of input) (plan_accepted input)
