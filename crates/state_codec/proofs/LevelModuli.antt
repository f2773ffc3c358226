-- The moduli of a plan's levels, made one by one.
use Rattle.std.proofs.Common.{◌≡◌, ℕ, zero, suc, ◌+◌, ◌<◌, ◌≤◌, List, [], ◌∷◌, ◌++◌, length, get_or}
use Rattle.std.proofs.Common.{set, take, map, refl, sym, ap, ◌∙◌, arith, Some}
use Rattle.std.specs.Prelude.{slice_get}
use Rattle.std.proofs.lemmas.List.{map-append, take_more, take_more_set, take_all}
use Rattle.construction.specs.Plans.{Level}
use Rattle.plan_numbers.specs.declared.numbers.LevelNums.{LevelNums}
use Rattle.plan_numbers.specs.Numbers.{numbers_of}
use Rattle.state_codec.specs.Shapes.{moduli_of}
use Rattle.state_codec.proofs.Plans.{moduli_of-cons, length-moduli_of, no_moduli}

-- the moduli are those that the levels' numbers have
moduli_of_numbers : (base : ℕ) (levels : List Level)
    → map (λ nums. nums.modulus) (numbers_of base levels) ≡ moduli_of levels
moduli_of_numbers base [] = rw no_moduli refl
moduli_of_numbers base (level ∷ below) =
    rw (
      moduli_of-cons level below,
      map-append (λ nums. nums.modulus) (numbers_of base below),
      moduli_of_numbers base below,
    ) refl

got_modulus : (nums : List LevelNums) (i : ℕ) (n : LevelNums) → slice_get nums i ≡ Some n
    → get_or (map (λ n. n.modulus) nums) i 0 ≡ n.modulus
got_modulus [] i n e = absurd (cc)
got_modulus (m ∷ nums) zero n e = ap (λ (y : LevelNums). y.modulus) (let s : m ≡ n = cc in s)
got_modulus (m ∷ nums) (suc i) n e = got_modulus nums i n e

modulus_of_level : (base : ℕ) (levels : List Level) (i : ℕ) (n : LevelNums)
    → slice_get (numbers_of base levels) i ≡ Some n → n.modulus ≡ get_or (moduli_of levels) i 0
modulus_of_level base levels i n e =
    sym (ap (λ (y : List ℕ). get_or y i 0) (sym (moduli_of_numbers base levels))
    ∙ got_modulus (numbers_of base levels) i n e)

-- one more modulus is that of its level
pub moduli_step : (moduli : List ℕ) (base : ℕ) (levels : List Level) (i m : ℕ) (n : LevelNums)
    → i < length moduli → length moduli ≡ length levels
    → slice_get (numbers_of base levels) i ≡ Some n → m ≡ n.modulus
    → take i moduli ≡ take i (moduli_of levels)
    → take (i + 1) (set moduli i m) ≡ take (i + 1) (moduli_of levels)
moduli_step moduli base levels i m n within long level same before =
    let inside : i < length (moduli_of levels) = omega (arith, length-moduli_of levels) in
    take_more_set moduli i m within
    ∙ ap (λ (y : List ℕ). y ++ m ∷ []) before
    ∙ ap (λ (y : ℕ). take i (moduli_of levels) ++ y ∷ [])
    (same ∙ modulus_of_level base levels i n level)
    ∙ sym (take_more (moduli_of levels) i 0 inside)

-- all are those of their levels
pub moduli_end : (moduli : List ℕ) (levels : List Level) (i : ℕ) → length moduli ≡ length levels
    → length levels ≤ i → take i moduli ≡ take i (moduli_of levels) → moduli ≡ moduli_of levels
moduli_end moduli levels i long end same =
    let all : length moduli ≤ i = omega arith in
    let wanted : length (moduli_of levels) ≤ i = omega (arith, length-moduli_of levels) in
    sym (take_all i moduli all) ∙ same ∙ take_all i (moduli_of levels) wanted
