-- The lines of a table text, one for each stage of its reader.
use Rattle.std.proofs.Common.{◌≡◌, ℕ, ◌+◌, ◌⊎◌, inl, inr, List, [], ◌∷◌, ◌++◌, length, decimal}
use Rattle.std.proofs.Common.{codes, refl, sym, ap, ◌∙◌, append_assoc, arith}
use Rattle.std.specs.List.{concat, flat_map, enumerate_from}
use Rattle.std.proofs.lemmas.List.{append-nil}
use Rattle.std.proofs.lemmas.Grind.{flat_map-append}
use Rattle.texts.specs.Words.{joined, ended, text_of}
use Rattle.construction.specs.Plans.{Level, Plan}
use Rattle.plan_numbers.specs.declared.numbers.LevelNums.{LevelNums}
use Rattle.plan_numbers.specs.Numbers.{below_of, numbers_over, numbers_of}
use Rattle.plan_numbers.proofs.LevelLaws.{length-numbers_of}
use Rattle.plan_certificate.specs.declared.table_stages.TableStage.{TableStage}
use Rattle.plan_certificate.specs.declared.table_stages.TableStage.TheVariants.{Unread, Begun}
use Rattle.plan_certificate.specs.declared.table_stages.TableStage.TheVariants.{Built, Stated}
use Rattle.plan_reader.specs.TextLines.{version_line, base_line}
use Rattle.plan_certificate.specs.Tables.{level_line, level_lines}
use Rattle.plan_certificate.specs.Tables.{plan_line, table_text}
use Rattle.plan_certificate.specs.TableLines.{level_values, plan_values}
use Rattle.plan_certificate.proofs.TableWords.{named_words, words_by, level_words, plan_words}

-- the lines without their newlines
abbrev pub first_of : (version : ℕ) → List ℕ
first_of version = concat (codes "table " ∷ decimal version ∷ [])

abbrev pub base_of : (base : ℕ) → List ℕ
base_of base = joined (codes "base" ∷ decimal base ∷ [])

abbrev pub level_of_table : (version index : ℕ) → LevelNums → List ℕ
level_of_table version index nums = joined (level_words version (level_values index nums))

abbrev pub whole_of : Plan → List ℕ
whole_of plan = joined (plan_words (plan_values plan))

unfoldable pub built_lines : (version base : ℕ) → List Level → List (List ℕ)
built_lines version base [] = first_of version ∷ base_of base ∷ []
built_lines version base (level ∷ below) =
    built_lines version base below
    ++ level_of_table version (length below + 1) (numbers_over (below_of base below) level) ∷ []

-- the lines that lead to a stage
unfoldable pub stage_lines : TableStage → List (List ℕ)
stage_lines Unread = []
stage_lines (Begun version) = first_of version ∷ []
stage_lines (Built plan) = built_lines plan.version plan.base plan.levels
stage_lines (Stated plan) = built_lines plan.version plan.base plan.levels ++ whole_of plan ∷ []

-- all lines of a table
unfoldable pub table_lines : Plan → List (List ℕ)
table_lines plan =
    (built_lines plan.version plan.base plan.levels ++ whole_of plan ∷ []) ++ codes "end" ∷ []

-- ---- their text

first_text : (version : ℕ) → ended (first_of version) ≡ version_line (codes "table ") version
first_text version = simp (append_assoc, append-nil)

base_text : (base : ℕ) → ended (base_of base) ≡ base_line base
base_text base = simp (append_assoc, append-nil)

level_text_1 : (index : ℕ) (nums : LevelNums)
    → ended (level_of_table 1 index nums) ≡ level_line 1 (index, nums)
unfolding named_words words_by level_words
level_text_1 index nums = simp (append_assoc, append-nil)

level_text_2 : (index : ℕ) (nums : LevelNums)
    → ended (level_of_table 2 index nums) ≡ level_line 2 (index, nums)
unfolding named_words words_by level_words
level_text_2 index nums = simp (append_assoc, append-nil)

whole_text_is : (plan : Plan) → ended (whole_of plan) ≡ plan_line plan
unfolding named_words
whole_text_is plan = simp (append_assoc, append-nil)

-- the version of a text is 1 or 2
abbrev pub IsVersion : ℕ → Type 0
IsVersion version = (version ≡ 1) ⊎ (version ≡ 2)

level_text_is : (version index : ℕ) (nums : LevelNums) → IsVersion version
    → ended (level_of_table version index nums) ≡ level_line version (index, nums)
level_text_is version index nums (inl one) = rw one (level_text_1 index nums)
level_text_is version index nums (inr two) = rw two (level_text_2 index nums)

enumerate_push : {X : Type 0} (n : ℕ) (xs : List X) (x : X)
    → enumerate_from n (xs ++ x ∷ []) ≡ enumerate_from n xs ++ (n + length xs, x) ∷ []
enumerate_push n [] x = let same : n + 0 ≡ n = omega arith in rw same refl
enumerate_push n (y ∷ xs) x =
    let same : n + 1 + length xs ≡ n + length (y ∷ xs) = omega arith in
    ap (λ l. (n, y) ∷ l) (enumerate_push (n + 1) xs x) ∙ rw same refl

text_push : (lines : List (List ℕ)) (line : List ℕ)
    → text_of (lines ++ line ∷ []) ≡ text_of lines ++ ended line
text_push lines line =
    flat_map-append ended lines (line ∷ []) ∙ ap (λ t. text_of lines ++ t) (append-nil (ended line))

-- the text of the lines that lead to levels
built_text : (version base : ℕ) (levels : List Level) → IsVersion version
    → text_of (built_lines version base levels)
    ≡ version_line (codes "table ") version
    ++ (base_line base ++ flat_map (level_line version) (enumerate_from 1 (numbers_of base levels)))
unfolding built_lines
built_text version base [] known =
    ap (λ t. t ++ (ended (base_of base) ++ [])) (first_text version)
    ∙ ap (λ t. version_line (codes "table ") version ++ (t ++ [])) (base_text base)
built_text version base (level ∷ below) known =
    let nums = numbers_over (below_of base below) level in
    let lower = flat_map (level_line version) (enumerate_from 1 (numbers_of base below)) in
    let size = length-numbers_of base below in
    let index : 1 + length (numbers_of base below) ≡ length below + 1 = omega (arith, size) in
    let line : flat_map (level_line version) (enumerate_from 1 (numbers_of base below ++ nums ∷ []))
    ≡ lower ++ level_line version (length below + 1, nums) =
    ap (flat_map (level_line version)) (enumerate_push 1 (numbers_of base below) nums)
    ∙ flat_map-append (level_line version) (enumerate_from 1 (numbers_of base below)) _
    ∙ rw index (ap (λ t. lower ++ t) (append-nil _)) in
    let first = version_line (codes "table ") version in
    text_push (built_lines version base below) (level_of_table version (length below + 1) nums)
    ∙ ap (λ t. t ++ ended (level_of_table version (length below + 1) nums))
    (built_text version base below known)
    ∙ append_assoc first (base_line base ++ lower)
    (ended (level_of_table version (length below + 1) nums))
    ∙ ap (λ t. first ++ t)
    (append_assoc (base_line base) lower
    (ended (level_of_table version (length below + 1) nums)))
    ∙ ap (λ t. first ++ (base_line base ++ (lower ++ t)))
    (level_text_is version (length below + 1) nums known)
    ∙ ap (λ t. first ++ (base_line base ++ t)) (sym line)

-- the text of all lines is the table text
pub table_text_is : (plan : Plan) → IsVersion plan.version
    → text_of (table_lines plan) ≡ table_text plan
unfolding table_lines
table_text_is plan known =
    let built = built_lines plan.version plan.base plan.levels in
    let first = version_line (codes "table ") plan.version in
    text_push (built ++ whole_of plan ∷ []) (codes "end")
    ∙ ap (λ t. t ++ codes "end\n") (text_push built (whole_of plan))
    ∙ ap (λ t. (t ++ ended (whole_of plan)) ++ codes "end\n")
    (built_text plan.version plan.base plan.levels known)
    ∙ ap (λ t. ((first ++ (base_line plan.base ++ level_lines plan)) ++ t) ++ codes "end\n")
    (whole_text_is plan)
    ∙ simp (append_assoc, append-nil)
