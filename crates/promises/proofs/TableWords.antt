-- The table of a plan has just the lines that are said of it.
use Rattle.std.proofs.Common.{◌≡◌, ℕ, ◌+◌, Bool, true, false, List, [], ◌∷◌, ◌++◌, length, map}
use Rattle.std.proofs.Common.{refl, sym, ap, ap₂, ◌∙◌, append_assoc, append-nil, codes, decimal}
use Rattle.std.proofs.Common.{arith}
use Rattle.std.specs.Prelude.{◌==◌, if◌then◌else◌}
use Rattle.std.specs.List.{concat, flat_map, enumerate_from}
use Rattle.std.proofs.lemmas.Grind.{flat_map-append}
use Rattle.std.proofs.lemmas.List.{map-append}
use Rattle.texts.specs.Words.{joined, ended, text_of}
use Rattle.construction.specs.Plans.{Level, Plan}
use Rattle.plan_numbers.specs.declared.numbers.LevelNums.{LevelNums}
use Rattle.plan_numbers.specs.Numbers.{below_of, numbers_over, numbers_of}
use Rattle.plan_numbers.proofs.LevelLaws.{length-numbers_of}
use Rattle.plan_reader.specs.TextLines.{version_line, base_line}
use Rattle.plan_certificate.specs.Tables.{level_front, level_line}
use Rattle.plan_certificate.specs.Tables.{plan_line, table_text}
use Rattle.promises.specs.WrittenLines.{text_of_words}
use Rattle.promises.specs.TableWords.{plan_up_to, top_words, levels_said, whole_words, table_words}

-- the text of two lists of lines
both : (one other : List (List (List ℕ)))
    → text_of_words (one ++ other) ≡ text_of_words one ++ text_of_words other
both one other =
    ap text_of (map-append joined one other)
    ∙ flat_map-append ended (map joined one) (map joined other)

-- ---- single lines

version_is : (version : ℕ)
    → version_line (codes "table ") version ≡ ended (joined (codes "table" ∷ decimal version ∷ []))
version_is version = simp (append_assoc, append-nil)

base_is : (base : ℕ) → base_line base ≡ ended (joined (codes "base" ∷ decimal base ∷ []))
base_is base = simp (append_assoc, append-nil)

whole_is : (plan : Plan) → plan_line plan ≡ ended (joined (whole_words plan))
whole_is plan = simp (append_assoc, append-nil)

-- the words of a level's line, by whether its spares stand in it
level_words_by : (first : Bool) (index : ℕ) (nums : LevelNums) → List (List ℕ)
level_words_by first index nums =
    codes "level" ∷ decimal index ∷ codes "blocks" ∷ decimal nums.blocks
    ∷ codes "leaders" ∷ decimal nums.leaders ∷ codes "nodes" ∷ decimal nums.nodes
    ∷ codes "faults" ∷ decimal nums.faults ∷ codes "beat" ∷ decimal nums.beat
    ∷ codes "span" ∷ decimal nums.span ∷ codes "modulus" ∷ decimal nums.modulus
    ∷ codes "bound" ∷ decimal nums.bound ∷ codes "bits" ∷ decimal nums.bits
    ∷ (if first then [] else codes "spare" ∷ decimal nums.spares ∷ [])

level_by : (first : Bool) (index : ℕ) (nums : LevelNums)
    → level_front index nums
    ++ (if first then codes "\n"
    else concat (codes " spare " ∷ decimal nums.spares ∷ codes "\n" ∷ []))
    ≡ ended (joined (level_words_by first index nums))
unfolding level_words_by
level_by true index nums = simp (append_assoc, append-nil)
level_by false index nums = simp (append_assoc, append-nil)

-- ---- all levels

enumerate_push : {X : Type 0} (n : ℕ) (xs : List X) (x : X)
    → enumerate_from n (xs ++ x ∷ []) ≡ enumerate_from n xs ++ (n + length xs, x) ∷ []
enumerate_push n [] x = let same : n + 0 ≡ n = omega arith in rw same refl
enumerate_push n (y ∷ xs) x =
    let same : n + 1 + length xs ≡ n + length (y ∷ xs) = omega arith in
    ap (λ l. (n, y) ∷ l) (enumerate_push (n + 1) xs x) ∙ rw same refl

module _ (version base : ℕ) where
  abbrev written : List Level → List ℕ
  written levels =
      flat_map (level_line version) (enumerate_from 1 (numbers_of base levels))

  levels_are : (levels : List Level)
      → written levels ≡ text_of_words (levels_said version base levels)
  unfolding level_words_by
  levels_are [] = refl
  levels_are (level ∷ below) =
      let nums : LevelNums = numbers_over (below_of base below) level in
      let plan : Plan = plan_up_to version base (level ∷ below) in
      let size = length-numbers_of base below in
      let index : 1 + length (numbers_of base below) ≡ length (level ∷ below) =
      omega (arith, size) in
      let line : level_line version (1 + length (numbers_of base below), nums)
      ≡ ended (joined (top_words plan level)) =
      ap (λ k. level_line version (k, nums)) index
      ∙ level_by (version == 1) (length (level ∷ below)) nums in
      ap (flat_map (level_line version)) (enumerate_push 1 (numbers_of base below) nums)
      ∙ flat_map-append (level_line version) (enumerate_from 1 (numbers_of base below))
      ((1 + length (numbers_of base below), nums) ∷ [])
      ∙ ap₂ (λ lower top. lower ++ (top ++ [])) (levels_are below) line
      ∙ sym (both (levels_said version base below) (top_words plan level ∷ []))

-- ---- the table

pub table_is_said : (plan : Plan) → table_text plan ≡ text_of_words (table_words plan)
table_is_said plan =
    let levels : List (List (List ℕ)) = levels_said plan.version plan.base plan.levels in
    let last : List (List (List ℕ)) = whole_words plan ∷ (codes "end" ∷ []) ∷ [] in
    ap₂ (λ first rest. first ++ rest) (version_is plan.version)
    (ap₂ (λ first rest. first ++ rest) (base_is plan.base)
    (ap₂ (λ lines rest. lines ++ rest) (levels_are plan.version plan.base plan.levels)
    (ap (λ line. line ++ codes "end\n") (whole_is plan))
    ∙ sym (both levels last)))
