-- The table text of an accepted plan is read as that plan.
use Rattle.std.proofs.Common.{◌≡◌, ℕ, zero, suc, ◌+◌, ◌^◌, ◌*◌, ◌<◌, ◌≤◌, inl, inr, true, List, []}
use Rattle.std.proofs.Common.{◌∷◌, ◌++◌, length, Some, None, Result, Ok, Err, decimal, codes, refl}
use Rattle.std.proofs.Common.{sym, ap, ◌∙◌, append_assoc, arith}
use Rattle.std.specs.Prelude.{if◌then◌else◌, All}
use Rattle.std.specs.Int.{div_ceil}
use Rattle.std.specs.List.{AllByRecursion}
use Rattle.std.proofs.lemmas.List.{append-nil}
use Rattle.std.proofs.lemmas.List.Elements.{All-head, All-tail}
use Rattle.std.proofs.lemmas.Fmt.{decimal_digit}
use Rattle.std.proofs.lemmas.Slice.Eq.{bytes_eq-Decides}
use Rattle.texts.specs.Lines.{words_of}
use Rattle.texts.specs.Shapes.{numbers_after}
use Rattle.texts.specs.Parts.{goes, refuses, Found, At, part_from}
use Rattle.texts.specs.Words.{joined, text_of, open_rest}
use Rattle.texts.proofs.Texts.{IsOneLine, cut_again}
use Rattle.texts.proofs.LineWords.{is_solid, IsWord, words_there, decimal_word, number_there}
use Rattle.texts.proofs.LineWords.{joined_is_one}
use Rattle.sync_types.specs.declared.answers.Cause.{Cause}
use Rattle.sync_types.specs.declared.answers.Cause.TheVariants as cause
use Rattle.sync_types.specs.declared.answers.Premise.TheVariants.{Form}
use Rattle.construction.specs.Plans.{Level, Plan}
use Rattle.plan_numbers.specs.Numbers.{below_of, numbers_over, with_level}
use Rattle.plan_numbers.specs.Premises.{IsAccepted, LevelsAccepted, FitsVersion, base_premise}
use Rattle.plan_numbers.specs.Premises.{first_premise}
use Rattle.plan_numbers.proofs.Accepted.{meets, level_sized, accepted_sized, accepted_depth}
use Rattle.plan_certificate.specs.declared.table_stages.TableStage.{TableStage}
use Rattle.plan_certificate.specs.declared.table_stages.TableStage.TheVariants.{Unread, Begun}
use Rattle.plan_certificate.specs.declared.table_stages.TableStage.TheVariants.{Built, Stated}
use Rattle.plan_certificate.specs.Tables.{table_text}
use Rattle.plan_certificate.specs.TableLines.{same_numbers, level_values, level_stated, plan_stated}
use Rattle.plan_certificate.specs.TableLines.{plan_values, values_over, unless_premise, based}
use Rattle.plan_certificate.specs.TableLines.{goes_with, built_by, table_step, alone, table_of}
use Rattle.plan_certificate.proofs.TableWords.{IsShort, level_words, plan_words, level_there}
use Rattle.plan_certificate.proofs.TableWords.{level_solid, some_words, plan_there, plan_solid}
use Rattle.plan_certificate.proofs.TableWords.{no_level}
use Rattle.plan_certificate.proofs.StatedTables.{IsVersion, first_of, base_of, level_of_table}
use Rattle.plan_certificate.proofs.StatedTables.{whole_of, built_lines, table_lines, table_text_is}

abbrev read : TableStage → (taken number : ℕ) → List (List ℕ) → Result (Found Plan) (At Cause)
read s taken number lines = part_from table_step (cause.Premise Form) s taken number lines

read_goes : (s t : TableStage) (line : List ℕ) (lines : List (List ℕ)) (taken number : ℕ)
    → table_step s line ≡ goes t
    → read s taken number (line ∷ lines) ≡ read t (taken + 1) (number + 1) lines
read_goes s t line lines taken number is = rw (part_from, is) refl

built : (version base : ℕ) → List Level → TableStage
built version base levels = Built (record { version = version; base = base; levels = levels })

-- ---- the first lines

first_goes : (version : ℕ) → IsVersion version
    → table_step Unread (first_of version) ≡ goes (Begun version)
first_goes version (inl one) = rw (one, decimal_digit 1 (omega arith)) refl
first_goes version (inr two) = rw (two, decimal_digit 2 (omega arith)) refl

base_solid : (base : ℕ) → IsShort base → AllByRecursion IsWord (codes "base" ∷ decimal base ∷ [])
unfolding is_solid
base_solid base short = (refl, (decimal_word base short, tt))

base_short : (base : ℕ) → base_premise base ≡ None → IsShort base
base_short base none = let most : base ≤ 2 ^ 40 = grind arith in omega (arith, most)

base_goes : (version base : ℕ) → base_premise base ≡ None
    → table_step (Begun version) (base_of base) ≡ goes (built version base [])
unfolding built
base_goes version base none =
    let words = words_there (codes "base") (decimal base ∷ [])
    (base_solid base (base_short base none)) in
    let numbers : numbers_after (codes "base") 1 (codes "base" ∷ decimal base ∷ [])
    ≡ Some (base ∷ []) =
    rw (number_there base (base_short base none)) refl in
    let plan : Plan = record { version = version; base = base; levels = [] } in
    ap (λ ws. goes_with (based version (numbers_after (codes "base") 1 ws))) words
    ∙ ap (λ ns. goes_with (based version ns)) numbers
    ∙ ap (λ premise. goes_with (unless_premise premise (Ok plan))) none

-- ---- levels

below_small : (base : ℕ) (below : List Level) (level : Level) → LevelsAccepted base below
    → first_premise (below_of base below) level ≡ None
    → AllByRecursion IsShort
    (level_values (length below + 1) (numbers_over (below_of base below) level))
below_small base below level accepted none =
    let deep = accepted_depth base below accepted in
    let met = meets (below_of base below) level none in
    let s = level_sized (below_of base below) level (accepted_sized base below accepted) met in
    let spares : level.spares ≤ 256 = omega (arith, met.most_nodes) in
    let b = s.below in
    let bound : (numbers_over (below_of base below) level).bound
    < 256 * 2 ^ 40 = bound_most _ _ b.most b.bound in (
      omega (arith, deep),
      (
        omega (arith, s.most_blocks),
        (
          omega (arith, s.most_leaders),
          (
            omega (arith, b.most),
            (
              omega (arith, s.most_faults),
              (
                omega (arith, s.most_beat),
                (
                  omega (arith, s.most_span),
                  (
                    omega (arith, b.most_modulus),
                    (
                      omega (arith, bound),
                      (omega (arith, b.bits, b.most), (omega (arith, spares), tt)),
                    ),
                  ),
                ),
              ),
            ),
          ),
        ),
      ),
    ) where
      bound_most : (bound nodes : ℕ) → nodes ≤ 256 → bound < nodes * 2 ^ 40 → bound < 256 * 2 ^ 40
      bound_most bound nodes most lt = omega (arith, most, lt)

level_goes : (version base : ℕ) (below : List Level) (level : Level) → LevelsAccepted base below
    → first_premise (below_of base below) level ≡ None → FitsVersion version level
    → table_step (built version base below)
    (level_of_table version (length below + 1) (numbers_over (below_of base below) level))
    ≡ goes (built version base (level ∷ below))
unfolding built
level_goes version base below level accepted none fits =
    let plan : Plan = record { version = version; base = base; levels = below } in
    let nums = numbers_over (below_of base below) level in
    let values = level_values (length below + 1) nums in
    let small = below_small base below level accepted none in
    let line = level_of_table version (length below + 1) nums in
    let words : words_of line ≡ level_words version values =
    again (level_words version values) (level_solid version (length below + 1) nums small)
    (some_words version (length below + 1) nums) in
    let stated : level_stated version (words_of line) ≡ Some values =
    ap (level_stated version) words ∙ level_there version (length below + 1) nums small fits in
    let same : same_numbers values (values_over plan level)
    ≡ true = (bytes_eq-Decides values values).1 refl in
    ap (λ ns. built_by plan ns (plan_stated (words_of line))) stated
    ∙ ap
    (λ premise. goes_with
    (unless_premise premise
    (if same_numbers values (values_over plan level) then Ok (with_level plan level)
    else Err cause.Value)))
    none
    ∙ ap (λ b. goes_with (if b then Ok (with_level plan level) else Err cause.Value)) same where
      again : (words : List (List ℕ)) → AllByRecursion IsWord words → 0 < length words
          → words_of (joined words) ≡ words
      again [] solid some = absurd (omega arith)
      again (w ∷ ws) solid some = words_there w ws solid

-- the lines of levels are read
levels_read : (version base : ℕ) (levels : List Level) (rest : List (List ℕ)) → IsVersion version
    → LevelsAccepted base levels → All (FitsVersion version) levels
    → read Unread 0 1 (built_lines version base levels ++ rest)
    ≡ read (built version base levels) (length levels + 2) (length levels + 3) rest
unfolding built_lines
levels_read version base [] rest known accepted fit =
    read_goes Unread (Begun version) (first_of version) (base_of base ∷ rest) 0 1
    (first_goes version known)
    ∙ read_goes (Begun version) (built version base []) (base_of base) rest 1 2
    (base_goes version base accepted)
levels_read version base (level ∷ below) rest known accepted fit =
    let line = level_of_table version (length below + 1)
    (numbers_over (below_of base below) level) in
    let a : length below + 2 + 1 ≡ length (level ∷ below) + 2 = omega arith in
    let b : length below + 3 + 1 ≡ length (level ∷ below) + 3 = omega arith in
    ap (read Unread 0 1) (append_assoc (built_lines version base below) (line ∷ []) rest)
    ∙ levels_read version base below (line ∷ rest) known accepted.0
    (All-tail (FitsVersion version) level below fit)
    ∙ read_goes (built version base below) (built version base (level ∷ below)) line rest _ _
    (level_goes version base below level accepted.0 accepted.1
    (All-head (FitsVersion version) level below fit))
    ∙ rw (a, b) refl

-- ---- the whole plan

plan_small : (plan : Plan) → IsAccepted plan → AllByRecursion IsShort (plan_values plan)
plan_small plan accepted =
    let s = accepted_sized plan.base plan.levels accepted.levels in
    let most = s.most in
    let quorum = s.quorum in
    let bound = bound_most _ _ most s.bound in
    let bits = s.bits in (
      omega (arith, most),
      (
        omega (arith, most, quorum),
        (
          omega (arith, s.most_modulus),
          (
            omega (arith, bound),
            (omega (arith, bits, most), (bytes_small _ (omega (arith, bits, most)), tt)),
          ),
        ),
      ),
    ) where
      bound_most : (bound nodes : ℕ) → nodes ≤ 256 → bound < nodes * 2 ^ 40 → bound < 256 * 2 ^ 40
      bound_most bound nodes most lt = omega (arith, most, lt)

      bytes_small : (bits : ℕ) → bits ≤ 42 * 256 → div_ceil bits 8 < 10 ^ 15
      bytes_small bits le = omega (arith, le)

whole_goes : (plan : Plan) → IsAccepted plan
    → table_step (Built plan) (whole_of plan) ≡ goes (Stated plan)
whole_goes plan accepted =
    let small = plan_small plan accepted in
    let values = plan_values plan in
    let words : words_of (whole_of plan)
    ≡ plan_words values = words_there _ _ (plan_solid values small) in
    let level : level_stated plan.version (words_of (whole_of plan)) ≡ None =
    ap (level_stated plan.version) words ∙ no_level plan.version values in
    let stated : plan_stated (words_of (whole_of plan)) ≡ Some values =
    ap plan_stated words ∙ plan_there values refl small in
    let same : same_numbers values values ≡ true = (bytes_eq-Decides values values).1 refl in
    ap (λ ns. built_by plan ns (plan_stated (words_of (whole_of plan)))) level
    ∙ ap (built_by plan None) stated
    ∙ ap (λ b. if b then goes (Stated plan) else refuses cause.Value) same

version_known : (plan : Plan) → IsAccepted plan → IsVersion plan.version
version_known plan accepted = by plan.version accepted.oldest accepted.newest where
  by : (version : ℕ) → 1 ≤ version → version ≤ 2 → IsVersion version
  by zero p q = absurd (omega arith)
  by (suc zero) p q = inl refl
  by (suc (suc zero)) p q = inr refl
  by (suc (suc (suc version))) p q = absurd (omega arith)

all_read : (plan : Plan) → IsAccepted plan
    → read Unread 0 1 (table_lines plan)
    ≡ Ok (record { value = plan; taken = length plan.levels + 2 + 1 + 1; behind = [] })
unfolding table_lines built
all_read plan accepted =
    let lines = built_lines plan.version plan.base plan.levels in
    let known = version_known plan accepted in
    let n = length plan.levels in
    ap (read Unread 0 1) (append_assoc lines (whole_of plan ∷ []) (codes "end" ∷ []))
    ∙ levels_read plan.version plan.base plan.levels (whole_of plan ∷ codes "end" ∷ []) known
    accepted.levels accepted.fits
    ∙ read_goes (Built plan) (Stated plan) (whole_of plan) (codes "end" ∷ []) (n + 2) (n + 3)
    (whole_goes plan accepted)

-- ---- lines have no newline

one_line : (version base : ℕ) (levels : List Level) → IsVersion version → LevelsAccepted base levels
    → AllByRecursion IsOneLine (built_lines version base levels)
unfolding built_lines
one_line version base [] known accepted = (
  first_one version known,
  (
    joined_is_one (codes "base" ∷ decimal base ∷ [])
        (base_solid base (base_short base accepted)),
    tt,
  ),
)
  where
    first_one : (version : ℕ) → IsVersion version → IsOneLine (first_of version)
    first_one version (inl one) = rw (one, decimal_digit 1 (omega arith)) refl
    first_one version (inr two) = rw (two, decimal_digit 2 (omega arith)) refl
one_line version base (level ∷ below) known accepted =
    let nums = numbers_over (below_of base below) level in
    let small = below_small base below level accepted.0 accepted.1 in
    push_all (built_lines version base below) _ (one_line version base below known accepted.0)
    (joined_is_one (level_words version (level_values (length below + 1) nums))
    (level_solid version (length below + 1) nums small))
  where
    push_all : (lines : List (List ℕ)) (line : List ℕ) → AllByRecursion IsOneLine lines
        → IsOneLine line
        → AllByRecursion IsOneLine (lines ++ line ∷ [])
    push_all [] line all one = (one, tt)
    push_all (l ∷ lines) line all one = (all.0, push_all lines line all.1 one)

all_one : (plan : Plan) → IsAccepted plan → AllByRecursion IsOneLine (table_lines plan)
unfolding table_lines
all_one plan accepted =
    let lines = built_lines plan.version plan.base plan.levels in
    let known = version_known plan accepted in
    push_all (lines ++ whole_of plan ∷ []) (codes "end")
    (push_all lines (whole_of plan)
    (one_line plan.version plan.base plan.levels known accepted.levels)
    (joined_is_one (plan_words (plan_values plan))
    (plan_solid (plan_values plan) (plan_small plan accepted))))
    refl where
      push_all : (lines : List (List ℕ)) (line : List ℕ) → AllByRecursion IsOneLine lines
          → IsOneLine line
          → AllByRecursion IsOneLine (lines ++ line ∷ [])
      push_all [] line all one = (one, tt)
      push_all (l ∷ lines) line all one = (all.0, push_all lines line all.1 one)

-- the table text of an accepted plan is read as that plan
pub tables_are_read : (plan : Plan) → IsAccepted plan → table_of (table_text plan) ≡ Ok plan
tables_are_read plan accepted =
    let known = version_known plan accepted in
    let text : text_of (table_lines plan) ++ [] ≡ table_text plan =
    append-nil (text_of (table_lines plan)) ∙ table_text_is plan known in
    let cut = cut_again (table_lines plan) [] (all_one plan accepted) refl in
    ap table_of (sym text)
    ∙ ap (λ lines. alone (open_rest (text_of (table_lines plan) ++ [])) (read Unread 0 1 lines))
    cut.0
    ∙ ap (λ rest. alone rest (read Unread 0 1 (table_lines plan))) cut.1
    ∙ ap (alone []) (all_read plan accepted)
