-- Wants that are read keep their limits.
use Rattle.std.proofs.Common.{◌≡◌, ℕ, ◌+◌, ◌^◌, List, [], ◌∷◌, length, Bool, true, false, cond}
use Rattle.std.proofs.Common.{refl, subst}
use Rattle.std.specs.Prelude.{◌||◌, nat_lt, Option, Some, None, Result, Ok, Err, codes}
use Rattle.std.specs.Str.{bytes_eq}
use Rattle.std.proofs.lemmas.Bool.{or_parts, ltb-false}
use Rattle.texts.specs.Lines.{words_of, is_well_parted}
use Rattle.texts.specs.Shapes.{numbers_after}
use Rattle.texts.specs.Parts.{Next, goes, ends, refuses, is_skipped, with_skips, Found, At}
use Rattle.texts.specs.Parts.{part_from}
use Rattle.sync_types.specs.declared.answers.Rule.{Rule}
use Rattle.sync_types.specs.declared.answers.Rule.TheVariants.{Form, Limit, Range}
use Rattle.plan_finder.specs.declared.wants.Want.{Want}
use Rattle.plan_finder.specs.declared.want_lines.FindStage.{FindStage}
use Rattle.plan_finder.specs.declared.want_lines.FindStage.TheVariants.{Unread, Begun, Wanted}
use Rattle.plan_finder.specs.FindPart.{want_by, goes_with, after_want, find_step, IsFit}

abbrev FitsResult : Result Want Rule → Type 0
FitsResult (Ok want) = IsFit want
FitsResult (Err rule) = Unit {0}

abbrev FitsStage : FindStage → Type 0
FitsStage (Wanted want) = IsFit want
FitsStage Unread = Unit {0}
FitsStage Begun = Unit {0}

abbrev FitsNext : Next FindStage Want Rule → Type 0
FitsNext (goes stage) = FitsStage stage
FitsNext (ends want) = IsFit want
FitsNext (refuses rule) = Unit {0}

by_tests : (f c most : ℕ) (large small : Bool)
    → (nat_lt 85 f || nat_lt (2 ^ 40) c || nat_lt 256 most) ≡ large
    → (nat_lt c 2 || nat_lt most 1) ≡ small
    → FitsResult
    (cond large (Err Limit)
    (cond small (Err Range) (Ok (record { faults = f; modulus = c; most = most }))))
by_tests f c most true small e e' = tt
by_tests f c most false true e e' = tt
by_tests f c most false false e e' =
    let parts = or_parts (nat_lt 85 f || nat_lt (2 ^ 40) c) (nat_lt 256 most) e in
    let first = or_parts (nat_lt 85 f) (nat_lt (2 ^ 40) c) parts.0 in
    let second = or_parts (nat_lt c 2) (nat_lt most 1) e' in
    record {
      faults = ltb-false 85 f first.0;
      least_modulus = ltb-false c 2 second.0;
      most_modulus = ltb-false (2 ^ 40) c first.1;
      some = ltb-false most 1 second.1;
      most = ltb-false 256 most parts.1;
    }

want_fits : (numbers : Option (List ℕ)) → FitsResult (want_by numbers)
want_fits None = tt
want_fits (Some []) = tt
want_fits (Some (f ∷ [])) = tt
want_fits (Some (f ∷ (c ∷ []))) = tt
want_fits (Some (f ∷ (c ∷ (most ∷ [])))) =
    by_tests f c most (nat_lt 85 f || nat_lt (2 ^ 40) c || nat_lt 256 most)
    (nat_lt c 2 || nat_lt most 1) refl refl
want_fits (Some (f ∷ (c ∷ (most ∷ (more ∷ rest))))) = tt

goes_fits : (want : Result Want Rule) → FitsResult want → FitsNext (goes_with want)
goes_fits (Ok want) fits = fits
goes_fits (Err rule) fits = tt

if_fits : (b : Bool) (x y : Next FindStage Want Rule) → FitsNext x → FitsNext y
    → FitsNext (cond b x y)
if_fits true x y fits fits' = fits
if_fits false x y fits fits' = fits'

step_fits : (stage : FindStage) (line : List ℕ) → FitsStage stage → FitsNext (find_step stage line)
step_fits Unread line fits =
    if_fits (bytes_eq line (codes "find 1")) (goes Begun) (refuses Form) tt tt
step_fits Begun line fits =
    goes_fits (after_want line) (want_fits (numbers_after (codes "want") 3 (words_of line)))
step_fits (Wanted want) line fits =
    if_fits (bytes_eq line (codes "end")) (ends want) (refuses Form) fits tt

line_fits : (stage : FindStage) (line : List ℕ) → FitsStage stage
    → FitsNext (with_skips find_step Form stage line)
line_fits stage line fits =
    if_fits (nat_lt 4096 (length line)) (refuses Form) _ tt
    (if_fits (is_skipped line) (goes stage) _ fits
    (if_fits (is_well_parted line) (find_step stage line) (refuses Form) (step_fits stage line fits)
    tt))

part_fits_by : (next : Next FindStage Want Rule) (taken number : ℕ) (lines : List (List ℕ))
    (found : Found Want)
    → FitsNext next
    →
    ((stage : FindStage) → FitsStage stage
    → part_from (with_skips find_step Form) Form stage (taken + 1) (number + 1) lines
    ≡ Ok found
    → IsFit found.value)
    → ◌≡◌ {A = Result (Found Want) (At Rule)} (elim next [
      | goes t ↦ part_from (with_skips find_step Form) Form t (taken + 1) (number + 1) lines
      | ends v ↦ Ok (record { value = v; taken = taken + 1; behind = lines })
      | refuses r ↦ Err (record { line = number; rule = r })
    ]) (Ok found)
    → IsFit found.value
part_fits_by (goes stage) taken number lines found fits rest is = rest stage fits is
part_fits_by (ends want) taken number lines found fits rest is =
    let same : want ≡ found.value = cc in subst IsFit same fits
part_fits_by (refuses rule) taken number lines found fits rest is = absurd (cc)

pub part_fits : (stage : FindStage) (taken number : ℕ) (lines : List (List ℕ)) (found : Found Want)
    → FitsStage stage
    → part_from (with_skips find_step Form) Form stage taken number lines ≡ Ok found
    → IsFit found.value
part_fits stage taken number [] found fits is = absurd (cc)
part_fits stage taken number (line ∷ lines) found fits is =
    part_fits_by (with_skips find_step Form stage line) taken number lines found
    (line_fits stage line fits)
    (λ next next_fits. part_fits next (taken + 1) (number + 1) lines found next_fits) is
