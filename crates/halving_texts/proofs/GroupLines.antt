-- The lines of a group are its own and those of its halves.
use Rattle.std.proofs.Common.{◌≡◌, ℕ, zero, suc, ◌<◌, ◌≤◌, List, [], ◌++◌, refl, sym, ap, ap₂}
use Rattle.std.proofs.Common.{◌∙◌, arith, Bool, true, false}
use Rattle.std.specs.Prelude.{◌==◌, if◌then◌else◌}
use Rattle.std.proofs.lemmas.Bool.{true≢false}
use Rattle.std.proofs.lemmas.Bool.Decides.{nat_tests}
use Rattle.std.proofs.lemmas.List.{append-nil}
use Rattle.halving_plan.specs.Groups.{HalvingGroup, left_of, right_of}
use Rattle.halving_texts.specs.Tables.{group_line, group_lines, lines_within}

-- those of both halves
abbrev inner_lines : (alone : Bool) (d : ℕ) → HalvingGroup → List ℕ
inner_lines alone d group =
    if alone then [] else lines_within d (left_of group) ++ lines_within d (right_of group)

pub is_alone : (f : ℕ) → f ≡ 0 → (f == 0) ≡ true
is_alone f none = rw none refl

pub is_more : (f : ℕ) → 0 < f → (f == 0) ≡ false
is_more f some = grind (arith, nat_tests)

-- a node alone has one line, however deep it may be
alone_lines : (d : ℕ) (group : HalvingGroup) → group.faults ≡ 0
    → lines_within d group ≡ group_line group
alone_lines zero group none = refl
alone_lines (suc d) group none =
    ap (λ b. group_line group ++ inner_lines b d group) (is_alone group.faults none)
    ∙ append-nil (group_line group)

-- if each depth that is enough gives the halves the same lines, it does so of the group
same_by : (alone : Bool) (d e : ℕ) (group : HalvingGroup) → (group.faults == 0) ≡ alone
    → (alone ≡ false → lines_within d (left_of group) ≡ lines_within e (left_of group))
    → (alone ≡ false → lines_within d (right_of group) ≡ lines_within e (right_of group))
    → inner_lines alone d group ≡ inner_lines alone e group
same_by true d e group is left right = refl
same_by false d e group is left right = ap₂ (λ s t. s ++ t) (left refl) (right refl)

-- so many faults are some
some_faults : (f : ℕ) (alone : Bool) → (f == 0) ≡ alone → alone ≡ false → 0 < f
some_faults zero alone is more = absurd (true≢false (is ∙ more))
some_faults (suc f) alone is more = omega arith

same_lines : (d e : ℕ) (group : HalvingGroup) → group.faults ≤ d → group.faults ≤ e
    → lines_within d group ≡ lines_within e group
same_lines zero e group l m = sym (alone_lines e group (omega (arith, l)))
same_lines (suc d) zero group l m = alone_lines (suc d) group (omega (arith, m))
same_lines (suc d) (suc e) group l m =
    ap (λ t. group_line group ++ t) (same_by (group.faults == 0) d e group refl
    (λ more. let some = some_faults group.faults (group.faults == 0) refl more in
    same_lines d e (left_of group) (omega (arith, l, some)) (omega (arith, m, some)))
    (λ more. let some = some_faults group.faults (group.faults == 0) refl more in
    same_lines d e (right_of group) (omega (arith, l, some)) (omega (arith, m, some))))

lines_by : (f : ℕ) (group : HalvingGroup) → group.faults ≡ f → 0 < f
    → lines_within f group
    ≡ group_line group ++ (group_lines (left_of group) ++ group_lines (right_of group))
lines_by zero group is some = absurd (omega (arith, some))
lines_by (suc d) group is some =
    ap (λ b. group_line group ++ inner_lines b d group)
    (is_more group.faults (omega (arith, is, some)))
    ∙ ap (λ t. group_line group ++ t) (ap₂ (λ s t. s ++ t)
    (same_lines d (left_of group).faults (left_of group) (omega (arith, is, some)) (omega arith))
    (same_lines d (right_of group).faults (right_of group) (omega (arith, is, some)) (omega arith)))

pub lines_of_halves : (group : HalvingGroup) → 0 < group.faults
    → group_lines group
    ≡ group_line group ++ (group_lines (left_of group) ++ group_lines (right_of group))
lines_of_halves group some = lines_by group.faults group refl some
