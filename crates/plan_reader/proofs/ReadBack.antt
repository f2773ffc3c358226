-- The text of a plan is read as that plan.
use Rattle.std.proofs.Common.{◌≡◌, ℕ, suc, ◌+◌, ◌^◌, ◌≤◌, Bool, false, List, [], ◌∷◌, ◌++◌, length}
use Rattle.std.proofs.Common.{reverse, Option, None, Result, refl, sym, ap, ◌∙◌, append_assoc}
use Rattle.std.proofs.Common.{arith, ◌⊎◌, inl, inr}
use Rattle.std.specs.Prelude.{codes, if◌then◌else◌, All, Some}
use Rattle.std.specs.Str.{bytes_eq}
use Rattle.std.specs.List.{flat_map}
use Rattle.std.proofs.lemmas.Bool.{cases_lt}
use Rattle.std.proofs.lemmas.List.{append-nil}
use Rattle.std.proofs.lemmas.Grind.{flat_map-append, reverse_onto}
use Rattle.std.proofs.lemmas.Fmt.{decimal_digit}
use Rattle.texts.specs.Lines.{lines_of, words_of}
use Rattle.texts.specs.Parts.{goes, ends, Found, At, with_skips, part_from}
use Rattle.texts.proofs.Printed.{joined, counts, goes_behind}
use Rattle.sync_types.specs.declared.answers.Premise.{Premise}
use Rattle.sync_types.specs.declared.answers.Premise.TheVariants.{Form}
use Rattle.construction.specs.Plans.{Level, Plan, plan_depth}
use Rattle.plan_numbers.specs.Numbers.{with_level, below_of, numbers_below}
use Rattle.plan_numbers.specs.Premises.{base_premise, first_premise, unless, FitsVersion}
use Rattle.plan_numbers.specs.Premises.{LevelsAccepted}
use Rattle.plan_reader.specs.declared.stages.PlanStage.{PlanStage}
use Rattle.plan_reader.specs.declared.stages.PlanStage.TheVariants.{Unread, Begun, Built}
use Rattle.plan_reader.specs.PlanPart.{whole_plan_of, alone, plan_step, after_level}
use Rattle.plan_reader.specs.PlanPart.{level_quadruple, level_by, base_by, goes_with}
use Rattle.plan_reader.specs.TextLines.{version_line, base_line}
use Rattle.plan_reader.specs.PlanTexts.{level_text, level_texts, plan_text, PlanTextIsRead}
use Rattle.plan_reader.specs.PlanTexts.{PlanTextIsWhole}
use Rattle.plan_reader.proofs.StatedLines.{small_short, IsSmall, level_small, after_plan}
use Rattle.plan_reader.proofs.StatedLines.{after_base, after_level_1, after_level_2}
use Rattle.plan_reader.proofs.StatedLines.{version_text, base_text, text_1, text_2, plan_plain}
use Rattle.plan_reader.proofs.StatedLines.{base_plain, plain_1, plain_2, room_1, room_2}
use Rattle.plan_reader.proofs.StatedLines.{quadruple_1, quadruple_2, base_numbers}

-- how a part is read on
abbrev read_on : PlanStage → (taken number : ℕ) → List ℕ → Result (Found Plan) (At Premise)
read_on stage taken number text =
    part_from (with_skips plan_step Form) Form stage taken number (lines_of text)

-- a plan of which so much was read
abbrev built : (version base : ℕ) → List Level → PlanStage
built version base levels = Built (record { version = version; base = base; levels = levels })

-- a version that a text can have
abbrev IsVersion : ℕ → Type 0
IsVersion version = (version ≡ 1) ⊎ (version ≡ 2)

version_small : (version : ℕ) → IsVersion version → version ≤ 2 ^ 40
version_small version (inl one) = omega (arith, one)
version_small version (inr two) = omega (arith, two)

begun : (version : ℕ) → IsVersion version
    → plan_step Unread (joined (codes "plan" ∷ after_plan version)) ≡ goes (Begun version)
begun version (inl one) = rw (one, decimal_digit 1 (omega arith)) refl
begun version (inr two) = rw (two, decimal_digit 2 (omega arith)) refl

-- the first line is read
version_read : (version : ℕ) (rest : List ℕ) → IsVersion version
    → read_on Unread 0 1 (version_line (codes "plan ") version ++ rest)
    ≡ read_on (Begun version) 1 2 rest
version_read version rest known =
    let small = version_small version known in
    let line = joined (codes "plan" ∷ after_plan version) in
    ap (read_on Unread 0 1) (version_text version rest)
    ∙ goes_behind plan_step Form (codes "plan") (after_plan version) rest (plan_plain version small)
    (omega (arith, small_short version small)) (counts line (omega arith) refl)
    Unread 0 1 (Begun version) (begun version known)

base_small : (base : ℕ) → base_premise base ≡ None → base ≤ 2 ^ 40
base_small base none = grind arith

based : (version base : ℕ) → base_premise base ≡ None
    → plan_step (Begun version) (joined (codes "base" ∷ after_base base))
    ≡ goes (built version base [])
based version base none =
    let plan : Plan = record { version = version; base = base; levels = [] } in
    let small = base_small base none in
    ap (λ (ns : Option (List ℕ)). goes_with (base_by version ns)) (base_numbers base small)
    ∙ ap (λ (p : Option Premise). goes_with (unless p plan)) none

-- the line of the base is read
base_read : (version base taken number : ℕ) (rest : List ℕ) → base_premise base ≡ None
    → read_on (Begun version) taken number (base_line base ++ rest)
    ≡ read_on (built version base []) (taken + 1) (number + 1) rest
base_read version base taken number rest none =
    let small = base_small base none in
    let line = joined (codes "base" ∷ after_base base) in
    ap (read_on (Begun version) taken number) (base_text base rest)
    ∙ goes_behind plan_step Form (codes "base") (after_base base) rest (base_plain base small)
    (omega (arith, small_short base small)) (counts line (omega arith) refl)
    (Begun version) taken number (built version base []) (based version base none)

-- a line that states a level puts it on the plan
level_goes : (plan : Plan) (level : Level) (line : List ℕ) → bytes_eq line (codes "end") ≡ false
    → level_quadruple plan.version (words_of line)
    ≡ Some (level.blocks ∷ level.faults ∷ level.modulus ∷ level.spares ∷ [])
    → first_premise (numbers_below plan) level ≡ None
    → plan_step (Built plan) line ≡ goes (Built (with_level plan level))
level_goes plan level line more states none =
    ap (λ (b : Bool). if b then ends plan else goes_with (after_level plan line)) more
    ∙ ap (λ (ns : Option (List ℕ)). goes_with (level_by plan ns)) states
    ∙ ap (λ (p : Option Premise). goes_with (unless p (with_level plan level))) none

-- the line of a level is read
module _ (base : ℕ) (below : List Level) (level : Level) (taken number : ℕ) (rest : List ℕ)
    (none : first_premise (below_of base below) level ≡ None) where
  small : IsSmall level
  small = level_small base below level none

  abbrev Reads : (version : ℕ) → Type 0
  Reads version =
      read_on (built version base below) taken number (level_text version level ++ rest)
      ≡ read_on (built version base (level ∷ below)) (taken + 1) (number + 1) rest

  level_read_1 : level.spares ≡ 0 → Reads 1
  level_read_1 no_spares =
      let plan : Plan = record { version = 1; base = base; levels = below } in
      let line = joined (codes "level" ∷ after_level_1 level) in
      ap (read_on (Built plan) taken number) (text_1 level rest)
      ∙ goes_behind plan_step Form (codes "level") (after_level_1 level) rest (plain_1 level small)
      (room_1 level small) (counts line (omega arith) refl)
      (Built plan) taken number (built 1 base (level ∷ below))
      (level_goes plan level line refl (quadruple_1 level small no_spares) none)

  level_read_2 : Reads 2
  level_read_2 =
      let plan : Plan = record { version = 2; base = base; levels = below } in
      let line = joined (codes "level" ∷ after_level_2 level) in
      ap (read_on (Built plan) taken number) (text_2 level rest)
      ∙ goes_behind plan_step Form (codes "level") (after_level_2 level) rest (plain_2 level small)
      (room_2 level small) (counts line (omega arith) refl)
      (Built plan) taken number (built 2 base (level ∷ below))
      (level_goes plan level line refl (quadruple_2 level small) none)

  level_read : (version : ℕ) → IsVersion version → FitsVersion version level → Reads version
  level_read version (inl one) fits =
      let no_spares = fits one in rw one (level_read_1 no_spares)
  level_read version (inr two) fits = rw two level_read_2

-- the top level's line stands after those of the levels below it
top_text : (version : ℕ) (level : Level) (below : List Level) (rest : List ℕ)
    → flat_map (level_text version) (reverse (level ∷ below)) ++ rest
    ≡ flat_map (level_text version) (reverse below) ++ (level_text version level ++ rest)
top_text version level below rest =
    let text = level_text version in
    let lower = flat_map text (reverse below) in
    ap (λ (ls : List Level). flat_map text ls ++ rest) (reverse_onto below level [])
    ∙ ap (λ (t : List ℕ). t ++ rest) (flat_map-append text (reverse below) (level ∷ []))
    ∙ append_assoc lower (text level ++ []) rest
    ∙ ap (λ (t : List ℕ). lower ++ (t ++ rest)) (append-nil (text level))

-- the lines of all levels are read
levels_read : (version base : ℕ) (levels : List Level) (taken number : ℕ) (rest : List ℕ)
    → IsVersion version → LevelsAccepted base levels → All (FitsVersion version) levels
    → read_on (built version base []) taken number
    (flat_map (level_text version) (reverse levels) ++ rest)
    ≡ read_on (built version base levels) (taken + length levels) (number + length levels) rest
levels_read version base [] taken number rest known accepted fit =
    let same : (n : ℕ) → n + 0 ≡ n = λ n. omega arith in rw (same taken, same number) refl
levels_read version base (level ∷ below) taken number rest known accepted fit =
    let n = length below in
    let more : (m : ℕ) → m + n + 1 ≡ m + length (level ∷ below) = λ m. omega arith in
    ap (read_on (built version base []) taken number) (top_text version level below rest)
    ∙ levels_read version base below taken number (level_text version level ++ rest) known
    accepted.0 (λ k d lt. fit (suc k) d (omega (arith, lt)))
    ∙ level_read base below level (taken + n) (number + n) rest accepted.1 version known
    (fit 0 level (omega arith))
    ∙ rw (more taken, more number) refl

four : (a b c d rest : List ℕ) → (a ++ (b ++ (c ++ d))) ++ rest ≡ a ++ (b ++ (c ++ (d ++ rest)))
four a b c d rest = simp append_assoc

later_version : (old version : ℕ) → 1 ≤ old → old ≤ version → version ≤ 2 → IsVersion version
later_version old version some later most = elim (cases_lt version 2) [
  | inl lt ↦ inl (omega arith)
  | inr le ↦ inr (omega arith)
]

-- levels that fit a version fit a later one
fit_later : (old version : ℕ) (levels : List Level) → 1 ≤ old → old ≤ version
    → All (FitsVersion old) levels → All (FitsVersion version) levels
fit_later old version levels some later fit k d lt one = fit k d lt (omega (arith, one))

accepted_base : (base : ℕ) (levels : List Level) → LevelsAccepted base levels
    → base_premise base ≡ None
accepted_base base [] accepted = accepted
accepted_base base (level ∷ below) accepted = accepted_base base below accepted.0

-- the text is read at the beginning of any text
pub text_is_read : PlanTextIsRead
text_is_read plan version rest accepted later most =
    let known = later_version plan.version version accepted.oldest later most in
    let fit = fit_later plan.version version plan.levels accepted.oldest later accepted.fits in
    let none = accepted_base plan.base plan.levels accepted.levels in
    let first = version_line (codes "plan ") version in
    let behind_levels = codes "end\n" ++ rest in
    let behind_base = level_texts version plan ++ behind_levels in
    let lines : 2 + length plan.levels + 1 ≡ plan_depth plan + 3 = omega arith in
    let second = base_line plan.base in
    ap (read_on Unread 0 1) (four first second (level_texts version plan) (codes "end\n") rest)
    ∙ version_read version (base_line plan.base ++ behind_base) known
    ∙ base_read version plan.base 1 2 behind_base none
    ∙ levels_read version plan.base plan.levels 2 3 behind_levels known accepted.levels fit
    ∙ rw lines refl

-- and alone
pub text_is_whole : PlanTextIsWhole
text_is_whole plan version accepted later most =
    ap whole_plan_of (sym (append-nil (plan_text version plan)))
    ∙ ap alone (text_is_read plan version [] accepted later most)
