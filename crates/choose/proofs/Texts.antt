-- What is written of a plan is read as that plan.
use Rattle.std.proofs.Common.{◌≡◌, ℕ, ◌<◌, ◌≤◌, ◌^◌, true, false, List, [], ◌∷◌, ◌++◌, reverse}
use Rattle.std.proofs.Common.{refl, sym, ap, ◌∙◌, subst, arith}
use Rattle.std.specs.Prelude.{decimal, codes, ◌==◌, if◌then◌else◌, Ok}
use Rattle.std.specs.List.{All, list_all, flat_map}
use Rattle.std.specs.Char.{is_ascii_digit}
use Rattle.std.proofs.lemmas.Bool.{and_parts}
use Rattle.std.proofs.lemmas.Bool.Decides.{nat_tests}
use Rattle.std.proofs.lemmas.List.{map-append, append_assoc, append-nil}
use Rattle.std.proofs.lemmas.List.Elements.{All-nil, All-push, All-head, All-tail}
use Rattle.std.proofs.lemmas.Grind.{reverse_onto}
use Rattle.std.proofs.lemmas.Fmt.{digits_decimal, decimal_digit}
use Rattle.texts.proofs.Numbers.{own}
use Rattle.construction.specs.Plans.{Level, Plan}
use Rattle.plan_numbers.specs.Numbers.{below_of}
use Rattle.plan_numbers.specs.Premises.{LevelsAccepted, IsAccepted}
use Rattle.plan_numbers.proofs.Accepted.{meets}
use Rattle.plan_reader.specs.TextLines.{version_line, base_line}
use Rattle.plan_reader.specs.PlanTexts.{level_text, level_texts, plan_text, in_version}
use Rattle.plan_reader.proofs.ReadBack.{text_is_whole}
use Rattle.choose.specs.FrontText.{base_part, level_part, levels_part, plan_part, in_lines}
use Rattle.choose.specs.FrontText.{TextsArePlans}

-- no digit is a semicolon
digit_stays : (b : ℕ) → is_ascii_digit b ≡ true → (b == 59) ≡ false
digit_stays b h = grind (arith, nat_tests)

digits_stay : (ds : List ℕ) → list_all is_ascii_digit ds ≡ true → in_lines ds ≡ ds
digits_stay [] all = refl
digits_stay (b ∷ ds) all =
    let parts = and_parts (is_ascii_digit b) (list_all is_ascii_digit ds) all in
    rw (digit_stays b parts.0, digits_stay ds parts.1) refl

pub number_stays : (n : ℕ) (rest : List ℕ) → n < 2 ^ 64 → in_lines (decimal n ++ rest)
    ≡ decimal n ++ in_lines rest
number_stays n rest fits =
    map-append (λ byte. if byte == 59 then 10 else byte) (decimal n) rest
    ∙ ap (λ ds. ds ++ in_lines rest) (digits_stay (decimal n) (digits_decimal own n fits))

pub record IsShort (level : Level) : Type 0 where
  pub blocks : level.blocks < 2 ^ 64
  pub faults : level.faults < 2 ^ 64
  pub modulus : level.modulus < 2 ^ 64
  pub spares : level.spares < 2 ^ 64

level_lines : (level : Level) → IsShort level → in_lines (level_part level) ≡ level_text 2 level
level_lines level short =
    let b = short.blocks in
    let f = short.faults in
    let c = short.modulus in
    let s = short.spares in
    rw (
      number_stays level.blocks _ b,
      number_stays level.faults _ f,
      number_stays level.modulus _ c,
      number_stays level.spares _ s,
    )
    (simp (append_assoc, append-nil) refl)

levels_lines : (levels : List Level) → All IsShort levels → in_lines (flat_map level_part levels)
    ≡ flat_map (level_text 2) levels
levels_lines [] all = refl
levels_lines (level ∷ levels) all =
    map-append (λ byte. if byte == 59 then 10 else byte) (level_part level)
    (flat_map level_part levels)
    ∙ (ap (λ t. t ++ in_lines (flat_map level_part levels))
    (level_lines level (All-head IsShort level levels all))
    ∙ ap (λ t. level_text 2 level ++ t) (levels_lines levels (All-tail IsShort level levels all)))

all_short : (base : ℕ) (levels : List Level) → LevelsAccepted base levels
    → All IsShort (reverse levels)
all_short base [] accepted = All-nil IsShort
all_short base (level ∷ below) (accepted, none) =
    let met = meets (below_of base below) level none in
    subst (All IsShort) (sym (reverse_onto below level []))
    (All-push IsShort (reverse below) level (all_short base below accepted) (record {
      blocks = omega (arith, met.most_blocks);
      faults = omega (arith, met.most_faults);
      modulus = omega (arith, met.most_modulus);
      spares = omega (arith, met.most_nodes);
    }))

base_short : (base : ℕ) (levels : List Level) → LevelsAccepted base levels → base < 2 ^ 64
base_short base [] accepted = let most : base ≤ 2 ^ 40 = grind arith in omega (arith, most)
base_short base (level ∷ below) (accepted, none) = base_short base below accepted

base_lines : (plan : Plan) → plan.base < 2 ^ 64
    → in_lines (base_part plan) ≡ version_line (codes "plan ") 2 ++ base_line plan.base
base_lines plan short = rw (number_stays plan.base _ short, decimal_digit 2 (omega arith)) refl

-- with newlines for its semicolons a plan's part of a line is the plan's text
line_is_text : (plan : Plan) → IsAccepted plan → in_lines (plan_part plan) ≡ plan_text 2 plan
line_is_text plan accepted =
    let start = base_part plan in
    let middle = levels_part plan in
    let version = version_line (codes "plan ") 2 in
    let turn : ℕ → ℕ = λ byte. if byte == 59 then 10 else byte in
    map-append turn start (middle ++ codes "end\n")
    ∙ (ap (λ t. in_lines start ++ t) (map-append turn middle (codes "end\n"))
    ∙ (ap (λ t. t ++ (in_lines middle ++ codes "end\n"))
    (base_lines plan (base_short plan.base plan.levels accepted.levels))
    ∙ (ap (λ t. (version ++ base_line plan.base) ++ (t ++ codes "end\n"))
    (levels_lines (reverse plan.levels) (all_short plan.base plan.levels accepted.levels))
    ∙ append_assoc version (base_line plan.base) (level_texts 2 plan ++ codes "end\n"))))

pub texts_are_plans : TextsArePlans
texts_are_plans plan accepted two = (
  text_is_whole plan 2 accepted (omega (arith, two)) (omega arith)
      ∙ ap (λ v. Ok (in_version v plan)) (sym two),
  line_is_text plan accepted,
)
