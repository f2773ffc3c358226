-- What the text of any plan is answered.
use Rattle.std.proofs.Common.{◌≡◌, ℕ, suc, ◌+◌, ◌^◌, ◌<◌, ◌≤◌, inl, inr, Bool, true, false, List}
use Rattle.std.proofs.Common.{[]}
use Rattle.std.proofs.Common.{◌∷◌, ◌++◌, length, reverse, All, Option, Some, None, Result, Ok, Err}
use Rattle.std.proofs.Common.{refl, sym}
use Rattle.std.proofs.Common.{ap, subst, ◌∙◌, arith}
use Rattle.std.specs.Prelude.{codes, nat_lt, if◌then◌else◌}
use Rattle.std.specs.Str.{bytes_eq}
use Rattle.std.specs.List.{flat_map}
use Rattle.std.proofs.lemmas.Bool.{le-ltb}
use Rattle.texts.specs.Lines.{lines_of, words_of, is_well_parted}
use Rattle.texts.specs.Parts.{Next, goes, ends, refuses, is_skipped, Found, At, with_skips}
use Rattle.texts.specs.Parts.{part_from}
use Rattle.texts.specs.Words.{joined}
use Rattle.texts.proofs.NumberLines.{number_short}
use Rattle.texts.proofs.Printed.{ArePlain, spaced_length, counts, goes_behind, line_joined}
use Rattle.texts.proofs.Printed.{joined_well_parted, length_joined}
use Rattle.sync_types.specs.declared.answers.Premise.{Premise}
use Rattle.sync_types.specs.declared.answers.Premise.TheVariants.{Form}
use Rattle.construction.specs.Plans.{Level, Plan, plan_depth}
use Rattle.plan_numbers.specs.Numbers.{with_level, below_of, numbers_below}
use Rattle.plan_numbers.specs.Premises.{base_premise, first_premise, unless}
use Rattle.plan_reader.specs.declared.stages.PlanStage.{PlanStage}
use Rattle.plan_reader.specs.declared.stages.PlanStage.TheVariants.{Unread, Begun, Built}
use Rattle.plan_reader.specs.PlanPart.{plan_step, after_level, level_quadruple, level_by}
use Rattle.plan_reader.specs.PlanPart.{base_by, goes_with}
use Rattle.plan_reader.specs.PlanTexts.{level_text, level_texts, in_version}
use Rattle.read_texts.specs.StatedPlans.{CanBeSaid, at_line, or_next, first_level, first_failing}
use Rattle.read_texts.specs.StatedPlans.{unless_failing, PlanTextIsAnswered}
use Rattle.plan_reader.specs.TextLines.{version_line, base_line}
use Rattle.read_texts.proofs.AnsweredLines.{read_on, built, IsVersion, version_read, top_text}
use Rattle.read_texts.proofs.AnsweredLines.{four, later_version}
use Rattle.read_texts.proofs.ShortLines.{IsShortLevel, base_plain, plain_1, plain_2, room_1}
use Rattle.read_texts.proofs.ShortLines.{room_2, quadruple_1, quadruple_2, base_numbers}
use Rattle.plan_reader.proofs.StatedLines.{after_base, after_level_1, after_level_2, base_text}
use Rattle.plan_reader.proofs.StatedLines.{text_1, text_2}

-- what is answered, unless a line failed before
abbrev or_failing : Option (At Premise) → Result (Found Plan) (At Premise)
    → Result (Found Plan) (At Premise)
or_failing None read = read
or_failing (Some at) read = Err at

-- ---- a line of joined words that is refused

chosen : {X : Type 0} (long skipped parted : Bool) (a b c : X)
    → long ≡ false → skipped ≡ false → parted ≡ true
    → (if long then a else if skipped then b else if parted then c else a) ≡ c
chosen long skipped parted a b c p q r = rw (p, q, r) refl

module _ (word : List ℕ) (words : List (List ℕ)) (rest : List ℕ)
    (plain : ArePlain (word ∷ words)) (short : spaced_length (word ∷ words) ≤ 4096)
    (unskipped : is_skipped (joined (word ∷ words)) ≡ false)
    (s : PlanStage) (taken number : ℕ) where
  abbrev line : List ℕ
  line = joined (word ∷ words)

  steps_there : with_skips plan_step Form s line ≡ plan_step s line
  steps_there =
      chosen (nat_lt 4096 (length line)) (is_skipped line) (is_well_parted line) (refuses Form)
      (goes s) (plan_step s line)
      (le-ltb 4096 (length line) (omega (arith, short, length_joined (word ∷ words)))) unskipped
      (joined_well_parted word words plain)

  refused_there : (premise : Premise) → plan_step s line ≡ refuses premise
      → read_on s taken number (line ++ 10 ∷ rest)
      ≡ Err (record { line = number; rule = premise })
  refused_there premise is =
      ap (part_from (with_skips plan_step Form) Form s taken number)
      (line_joined (word ∷ words) rest plain)
      ∙ ap (λ (next : Next PlanStage Plan Premise).
      elim next as (λ _. Result (Found Plan) (At Premise)) [
        | goes t ↦ read_on t (taken + 1) (number + 1) rest
        | ends v ↦ Ok (record { value = v; taken = taken + 1; behind = lines_of rest })
        | refuses r ↦ Err (record { line = number; rule = r })
      ]) (steps_there ∙ is)

  -- what a line says is built, unless a premise fails
  answered : (plan : Plan) (premise : Option Premise)
      → plan_step s line ≡ goes_with (unless premise plan)
      → read_on s taken number (line ++ 10 ∷ rest)
      ≡ or_failing (at_line number premise) (read_on (Built plan) (taken + 1) (number + 1) rest)
  answered plan None is =
      goes_behind plan_step Form word words rest plain short unskipped s taken number
      (Built plan) is
  answered plan (Some premise) is = refused_there premise is

-- ---- the base and the levels

base_answered : (version base : ℕ) (rest : List ℕ) → base < 10 ^ 15
    → read_on (Begun version) 1 2 (base_line base ++ rest)
    ≡ or_failing (at_line 2 (base_premise base)) (read_on (built version base []) 2 3 rest)
base_answered version base rest small =
    let plan : Plan = record { version = version; base = base; levels = [] } in
    let line = joined (codes "base" ∷ after_base base) in
    ap (read_on (Begun version) 1 2) (base_text base rest)
    ∙ answered (codes "base") (after_base base) rest (base_plain base small)
    (omega (arith, number_short base small)) (counts line (omega arith) refl) (Begun version) 1 2
    plan (base_premise base)
    (ap (λ (ns : Option (List ℕ)). goes_with (base_by version ns)) (base_numbers base small))

level_stands : (plan : Plan) (level : Level) (line : List ℕ) → bytes_eq line (codes "end") ≡ false
    → level_quadruple plan.version (words_of line)
    ≡ Some (level.blocks ∷ level.faults ∷ level.modulus ∷ level.spares ∷ [])
    → plan_step (Built plan) line
    ≡ goes_with (unless (first_premise (numbers_below plan) level) (with_level plan level))
level_stands plan level line more states =
    ap (λ (b : Bool). if b then ends plan else goes_with (after_level plan line)) more
    ∙ ap (λ (ns : Option (List ℕ)). goes_with (level_by plan ns)) states

module _ (base : ℕ) (below : List Level) (level : Level) (taken number : ℕ) (rest : List ℕ)
    (small : IsShortLevel level) where
  abbrev Answers : (version : ℕ) → Type 0
  Answers version =
      read_on (built version base below) taken number (level_text version level ++ rest)
      ≡ or_failing (at_line number (first_premise (below_of base below) level))
      (read_on (built version base (level ∷ below)) (taken + 1) (number + 1) rest)

  level_answered_1 : level.spares ≡ 0 → Answers 1
  level_answered_1 no_spares =
      let plan : Plan = record { version = 1; base = base; levels = below } in
      let line = joined (codes "level" ∷ after_level_1 level) in
      ap (read_on (Built plan) taken number) (text_1 level rest)
      ∙ answered (codes "level") (after_level_1 level) rest (plain_1 level small)
      (room_1 level small) (counts line (omega arith) refl) (Built plan) taken number
      (with_level plan level) (first_premise (numbers_below plan) level)
      (level_stands plan level line refl (quadruple_1 level small no_spares))

  level_answered_2 : Answers 2
  level_answered_2 =
      let plan : Plan = record { version = 2; base = base; levels = below } in
      let line = joined (codes "level" ∷ after_level_2 level) in
      ap (read_on (Built plan) taken number) (text_2 level rest)
      ∙ answered (codes "level") (after_level_2 level) rest (plain_2 level small)
      (room_2 level small) (counts line (omega arith) refl) (Built plan) taken number
      (with_level plan level) (first_premise (numbers_below plan) level)
      (level_stands plan level line refl (quadruple_2 level small))

  level_answered : (version : ℕ) → IsVersion version → (version ≡ 1 → level.spares ≡ 0)
      → Answers version
  level_answered version (inl one) fits =
      let no_spares = fits one in rw one (level_answered_1 no_spares)
  level_answered version (inr two) fits = rw two level_answered_2

said_small : (version : ℕ) (level : Level) → CanBeSaid version level → IsShortLevel level
said_small version level said = record {
  blocks = said.blocks;
  faults = said.faults;
  modulus = said.modulus;
  spares = said.spares;
}

either_failing : (first second : Option (At Premise)) (read : Result (Found Plan) (At Premise))
    → or_failing first (or_failing second read) ≡ or_failing (or_next first second) read
either_failing None second read = refl
either_failing (Some at) second read = refl

levels_answered : (version base : ℕ) (levels : List Level) (rest : List ℕ) → IsVersion version
    → All (CanBeSaid version) levels
    → read_on (built version base []) 2 3 (flat_map (level_text version) (reverse levels) ++ rest)
    ≡ or_failing (first_level base levels)
    (read_on (built version base levels) (2 + length levels) (3 + length levels) rest)
levels_answered version base [] rest known said = refl
levels_answered version base (level ∷ below) rest known said =
    let n = length below in
    let top = said 0 level (omega arith) in
    let two : 2 + n + 1 ≡ 2 + length (level ∷ below) = omega arith in
    let three : 3 + n + 1 ≡ 3 + length (level ∷ below) = omega arith in
    let here = at_line (3 + n) (first_premise (below_of base below) level) in
    let read : ℕ → ℕ → Result (Found Plan) (At Premise) =
    λ taken number. read_on (built version base (level ∷ below)) taken number rest in
    ap (read_on (built version base []) 2 3) (top_text version level below rest)
    ∙ levels_answered version base below (level_text version level ++ rest) known
    (λ k d lt. said (suc k) d (omega (arith, lt)))
    ∙ ap (or_failing (first_level base below))
    (level_answered base below level (2 + n) (3 + n) rest (said_small version level top) version
    known top.fits)
    ∙ either_failing (first_level base below) here (read (2 + n + 1) (3 + n + 1))
    ∙ ap (λ t. or_failing (or_next (first_level base below) here) (read t (3 + n + 1))) two
    ∙ ap (λ m. or_failing (or_next (first_level base below) here)
    (read (2 + length (level ∷ below)) m)) three

found_unless : (at : Option (At Premise)) (found : Found Plan)
    → or_failing at (Ok found) ≡ unless_failing at found
found_unless None found = refl
found_unless (Some at) found = refl

pub text_is_answered : PlanTextIsAnswered
text_is_answered plan version rest has =
    let known = later_version version version has.oldest (omega arith) has.newest in
    let first = version_line (codes "plan ") version in
    let second = base_line plan.base in
    let levels = level_texts version plan in
    let behind_levels = codes "end\n" ++ rest in
    let based = at_line 2 (base_premise plan.base) in
    let levelled = first_level plan.base plan.levels in
    let lines : 2 + length plan.levels + 1 ≡ plan_depth plan + 3 = omega arith in
    let found : ℕ → Found Plan = λ taken. record {
      value = in_version version plan;
      taken = taken;
      behind = lines_of rest;
    } in
    ap (read_on Unread 0 1) (four first second levels (codes "end\n") rest)
    ∙ version_read version (second ++ (levels ++ behind_levels)) known
    ∙ base_answered version plan.base (levels ++ behind_levels) has.base
    ∙ ap (or_failing based)
    (levels_answered version plan.base plan.levels behind_levels known has.levels)
    ∙ either_failing based levelled (Ok (found (2 + length plan.levels + 1)))
    ∙ found_unless (first_failing plan) (found (2 + length plan.levels + 1))
    ∙ ap (λ n. unless_failing (first_failing plan) (found n)) lines
