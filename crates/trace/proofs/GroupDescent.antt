-- The groups with halves in which a node is, from a group down.
use Rattle.std.proofs.Common.{◌≡◌, ℕ, zero, suc, ◌+◌, ◌-◌, ◌<◌, ◌≤◌, Bool, true, false, List}
use Rattle.std.proofs.Common.{[]}
use Rattle.std.proofs.Common.{◌∷◌, ◌++◌, Option, Some, None, refl, sym, ap, ◌∙◌, arith}
use Rattle.std.specs.Prelude.{nat_eq, nat_lt, if◌then◌else◌, IfSome}
use Rattle.std.specs.List.{flat_map}
use Rattle.std.proofs.lemmas.Bool.{eq-eqb, ne_eqb}
use Rattle.halving_plan.specs.Groups.{HalvingGroup, half_in, left_of, right_of}
use Rattle.trace.specs.declared.sides.Side.{Side}
use Rattle.trace.specs.Groups.{SidedGroup, side_in, in_half, groups_within, groups_of}

by_tests : (a b : Bool) (left right : HalvingGroup) (most : ℕ) → left.faults ≤ most
    → right.faults ≤ most
    → IfSome (if a then Some left else if b then Some right else None) (λ h. h.faults ≤ most)
by_tests true b left right most l r = l
by_tests false true left right most l r = r
by_tests false false left right most l r = tt

-- a half tolerates fewer faults
half_fewer : (group : HalvingGroup) (v : ℕ)
    → IfSome (half_in group v) (λ h. h.faults ≤ group.faults - 1)
half_fewer group v =
    by_tests (nat_lt v (right_of group).first)
    (nat_lt v ((right_of group).first + (right_of group).nodes)) (left_of group) (right_of group)
    (group.faults - 1) (omega arith) (omega arith)

half_same : (one other : HalvingGroup → List SidedGroup) (o : Option HalvingGroup)
    → IfSome o (λ h. one h ≡ other h) → in_half o one ≡ in_half o other
half_same one other None same = refl
half_same one other (Some half) same = same

one_within : (most : ℕ) (o : Option HalvingGroup) (P : HalvingGroup → Type 0)
    → IfSome o (λ h. h.faults ≤ most) → ((h : HalvingGroup) → h.faults ≤ most → P h) → IfSome o P
one_within most None P few all = tt
one_within most (Some half) P few all = all half few

none_within : (m : ℕ) (side : Side) (group : HalvingGroup) (v : ℕ) → group.faults ≡ 0
    → groups_within m side group v ≡ []
none_within zero side group v e = refl
none_within (suc m) side group v e =
    let none : nat_eq group.faults 0 ≡ true = eq-eqb group.faults 0 e in
    ap (λ (b : Bool). if b then [] else record { side = side; group = group }
    ∷ in_half (half_in group v) (λ half. groups_within m (side_in group half) half v)) none

-- more than there are faults are not needed
pub enough : (n m : ℕ) (side : Side) (group : HalvingGroup) (v : ℕ) → group.faults ≤ n
    → group.faults ≤ m → groups_within n side group v ≡ groups_within m side group v
enough zero m side group v a b = sym (none_within m side group v (omega arith))
enough (suc n) zero side group v a b = none_within (suc n) side group v (omega arith)
enough (suc n) (suc m) side group v a b =
    let at : (k : ℕ) → HalvingGroup → List SidedGroup = λ k half.
    groups_within k (side_in group half) half v in
    ap (λ (rest : List SidedGroup). if nat_eq group.faults 0 then []
    else record { side = side; group = group } ∷ rest)
    (half_same (at n) (at m) (half_in group v)
    (one_within (group.faults - 1) (half_in group v) (λ half. at n half ≡ at m half)
    (half_fewer group v)
    (λ half few. enough n m (side_in group half) half v (omega (arith, few, a))
    (omega (arith, few, b)))))

pub no_groups : (side : Side) (group : HalvingGroup) (v : ℕ) → group.faults ≡ 0
    → groups_of side group v ≡ []
no_groups side group v e = none_within group.faults side group v e

some_within : (k : ℕ) (side : Side) (group : HalvingGroup) (v : ℕ) → 0 < group.faults
    → groups_within (suc k) side group v
    ≡ record { side = side; group = group }
    ∷ in_half (half_in group v) (λ half. groups_within k (side_in group half) half v)
some_within k side group v some =
    let other : nat_eq group.faults 0 ≡ false = ne_eqb group.faults 0 (λ e. omega (arith, e)) in
    ap (λ (b : Bool). if b then [] else record { side = side; group = group }
    ∷ in_half (half_in group v) (λ half. groups_within k (side_in group half) half v)) other

-- those of a half of a group
abbrev pub groups_in : HalvingGroup → (v : ℕ) → HalvingGroup → List SidedGroup
groups_in group v half = groups_of (side_in group half) half v

pub groups_are : (side : Side) (group : HalvingGroup) (v : ℕ) → 0 < group.faults
    → groups_of side group v
    ≡ record { side = side; group = group } ∷ in_half (half_in group v) (groups_in group v)
groups_are side group v some =
    let k = group.faults - 1 in
    let at : HalvingGroup → List SidedGroup = λ half.
    groups_within k (side_in group half) half v in
    enough group.faults (suc k) side group v (omega arith) (omega arith)
    ∙ (some_within k side group v some
    ∙ ap (λ (rest : List SidedGroup). record { side = side; group = group } ∷ rest)
    (half_same at (groups_in group v) (half_in group v)
    (one_within k (half_in group v) (λ half. at half ≡ groups_in group v half)
    (half_fewer group v)
    (λ half few. enough k half.faults (side_in group half) half v few (omega arith)))))

-- ---- their lines

module _ (line : SidedGroup → List ℕ) (side : Side) (group : HalvingGroup) (v : ℕ)
    (some : 0 < group.faults) where
  abbrev pub own : List ℕ
  own = line (record { side = side; group = group })

  pub lines_in_half : (half : HalvingGroup) → Some half ≡ half_in group v
      → own ++ flat_map line (groups_in group v half) ≡ flat_map line (groups_of side group v)
  lines_in_half half is =
      ap (λ (o : Option HalvingGroup). own ++ flat_map line (in_half o (groups_in group v))) is
      ∙ ap (flat_map line) (sym (groups_are side group v some))

  pub lines_of_spare : None ≡ half_in group v
      → own ++ [] ≡ flat_map line (groups_of side group v)
  lines_of_spare is =
      ap (λ (o : Option HalvingGroup). own ++ flat_map line (in_half o (groups_in group v))) is
      ∙ ap (flat_map line) (sym (groups_are side group v some))
