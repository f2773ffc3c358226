-- How the text of a plan is read on, behind its first line and its levels.
use Rattle.std.proofs.Common.{◌≡◌, ℕ, ◌+◌, ◌^◌, ◌<◌, ◌≤◌, List, [], ◌∷◌, ◌++◌, reverse, Result}
use Rattle.std.proofs.Common.{refl}
use Rattle.std.proofs.Common.{ap, ◌∙◌, append_assoc, arith, ◌⊎◌, inl, inr}
use Rattle.std.specs.Prelude.{codes}
use Rattle.std.specs.List.{flat_map}
use Rattle.std.proofs.lemmas.Bool.{cases_lt}
use Rattle.std.proofs.lemmas.List.{append-nil}
use Rattle.std.proofs.lemmas.Grind.{flat_map-append, reverse_onto}
use Rattle.std.proofs.lemmas.Fmt.{decimal_digit}
use Rattle.texts.specs.Lines.{lines_of}
use Rattle.texts.specs.Parts.{goes, Found, At, with_skips, part_from}
use Rattle.texts.proofs.NumberLines.{number_short}
use Rattle.texts.proofs.Printed.{joined, counts, goes_behind}
use Rattle.sync_types.specs.declared.answers.Premise.{Premise}
use Rattle.sync_types.specs.declared.answers.Premise.TheVariants.{Form}
use Rattle.construction.specs.Plans.{Level, Plan}
use Rattle.plan_reader.specs.declared.stages.PlanStage.{PlanStage}
use Rattle.plan_reader.specs.declared.stages.PlanStage.TheVariants.{Unread, Begun, Built}
use Rattle.plan_reader.specs.PlanPart.{plan_step}
use Rattle.plan_reader.specs.TextLines.{version_line}
use Rattle.plan_reader.specs.PlanTexts.{level_text}
use Rattle.read_texts.proofs.ShortLines.{plan_plain}
use Rattle.plan_reader.proofs.StatedLines.{after_plan, version_text}

-- how a part is read on
abbrev pub read_on : PlanStage → (taken number : ℕ) → List ℕ → Result (Found Plan) (At Premise)
read_on stage taken number text =
    part_from (with_skips plan_step Form) Form stage taken number (lines_of text)

-- a plan of which so much was read
abbrev pub built : (version base : ℕ) → List Level → PlanStage
built version base levels = Built (record { version = version; base = base; levels = levels })

-- a version that a text can have
abbrev pub IsVersion : ℕ → Type 0
IsVersion version = (version ≡ 1) ⊎ (version ≡ 2)

version_small : (version : ℕ) → IsVersion version → version < 10 ^ 15
version_small version (inl one) = omega (arith, one)
version_small version (inr two) = omega (arith, two)

begun : (version : ℕ) → IsVersion version
    → plan_step Unread (joined (codes "plan" ∷ after_plan version)) ≡ goes (Begun version)
begun version (inl one) = rw (one, decimal_digit 1 (omega arith)) refl
begun version (inr two) = rw (two, decimal_digit 2 (omega arith)) refl

-- the first line is read
pub version_read : (version : ℕ) (rest : List ℕ) → IsVersion version
    → read_on Unread 0 1 (version_line (codes "plan ") version ++ rest)
    ≡ read_on (Begun version) 1 2 rest
version_read version rest known =
    let small = version_small version known in
    let line = joined (codes "plan" ∷ after_plan version) in
    ap (read_on Unread 0 1) (version_text version rest)
    ∙ goes_behind plan_step Form (codes "plan") (after_plan version) rest (plan_plain version small)
    (omega (arith, number_short version small)) (counts line (omega arith) refl)
    Unread 0 1 (Begun version) (begun version known)

-- the top level's line stands after those of the levels below it
pub top_text : (version : ℕ) (level : Level) (below : List Level) (rest : List ℕ)
    → flat_map (level_text version) (reverse (level ∷ below)) ++ rest
    ≡ flat_map (level_text version) (reverse below) ++ (level_text version level ++ rest)
top_text version level below rest =
    let text = level_text version in
    let lower = flat_map text (reverse below) in
    ap (λ (ls : List Level). flat_map text ls ++ rest) (reverse_onto below level [])
    ∙ ap (λ (t : List ℕ). t ++ rest) (flat_map-append text (reverse below) (level ∷ []))
    ∙ append_assoc lower (text level ++ []) rest
    ∙ ap (λ (t : List ℕ). lower ++ (t ++ rest)) (append-nil (text level))

pub four : (a b c d rest : List ℕ) → (a ++ (b ++ (c ++ d))) ++ rest ≡ a ++ (b ++ (c ++ (d ++ rest)))
four a b c d rest = simp append_assoc

pub later_version : (old version : ℕ) → 1 ≤ old → old ≤ version → version ≤ 2 → IsVersion version
later_version old version some later most = elim (cases_lt version 2) [
  | inl lt ↦ inl (omega arith)
  | inr le ↦ inr (omega arith)
]
