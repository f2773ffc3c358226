-- Texts of numbers that follow one another.
use Rattle.std.proofs.Common.{◌≡◌, ℕ, zero, suc, ◌+◌, ◌-◌, ◌<◌, ◌≤◌, inl, inr, Bool, true, false}
use Rattle.std.proofs.Common.{cond, ◌&&◌, List, [], ◌∷◌, ◌++◌, take, drop, refl, sym, ap, ap₂, ◌∙◌}
use Rattle.std.proofs.Common.{arith}
use Rattle.std.specs.Prelude.{nat_le, max, min}
use Rattle.std.specs.List.{flat_map, range_with_len}
use Rattle.std.proofs.lemmas.Bool.{cases_lt, le-leb, lt-leb}
use Rattle.std.proofs.lemmas.List.{take-append-drop}
use Rattle.std.proofs.lemmas.List.Concat.{flat_map-append, flat_map-cons}
use Rattle.layer_runner.proofs.Shown.{row_if_shown}
pub use Rattle.layer_runner.proofs.SameTexts.{same_texts}

-- numbers but for the first ones
drop_range : (k n a : ℕ) → drop k (range_with_len a n) ≡ range_with_len (a + k) (n - k)
drop_range zero n a = ap₂ range_with_len (omega arith) (omega arith)
drop_range (suc k) zero a =
    let none : 0 ≡ 0 - suc k = omega arith in
    ap (range_with_len (a + suc k)) none
drop_range (suc k) (suc n) a =
    let there : a + 1 + k ≡ a + suc k = omega arith in
    let left : n - k ≡ suc n - suc k = omega arith in
    drop_range k n (a + 1) ∙ ap₂ range_with_len there left

-- the first ones of numbers
take_range : (k n a : ℕ) → k ≤ n → take k (range_with_len a n) ≡ range_with_len a k
take_range zero n a le = refl
take_range (suc k) zero a le = absurd (omega arith)
take_range (suc k) (suc n) a le =
    ap (λ (xs : List ℕ). a ∷ xs) (take_range k n (a + 1) (omega arith))

-- the texts of the numbers before c, and those from c on to before d
pub texts_on : (f : ℕ → List ℕ) (c d : ℕ) → c ≤ d
    → flat_map f (range_with_len 0 c) ++ flat_map f (range_with_len c (d - c))
    ≡ flat_map f (range_with_len 0 d)
texts_on f c d le =
    let from : 0 + c ≡ c = omega arith in
    ap₂ (λ (xs ys : List ℕ). flat_map f xs ++ flat_map f ys) (sym (take_range c d 0 le))
    (sym (drop_range c d 0 ∙ ap (λ (a : ℕ). range_with_len a (d - c)) from))
    ∙ (sym (flat_map-append f (take c (range_with_len 0 d)) (drop c (range_with_len 0 d)))
    ∙ ap (flat_map f) (take-append-drop c (range_with_len 0 d)))

module _ (row : ℕ → List ℕ) (first last : ℕ) where
  abbrev if_shown : ℕ → List ℕ
  if_shown t = row_if_shown row first last t

  -- so many rows, from that one on
  abbrev rows : (from count : ℕ) → List ℕ
  rows from count = flat_map row (range_with_len from count)

  both : (a b : Bool) (x : List ℕ) → a ≡ true → b ≡ true → cond (a && b) x [] ≡ x
  both a b x here there = rw (here, there) refl

  early : (c : ℕ) → c < first → if_shown c ≡ []
  early c lt = rw (lt-leb first c lt) refl

  late : (c : ℕ) → last < c → if_shown c ≡ []
  late c lt = rw (lt-leb c last lt) (nothing (nat_le first c) (row c)) where
    nothing : (b : Bool) (x : List ℕ) → cond (b && false) x [] ≡ []
    nothing true x = refl
    nothing false x = refl

  within : (c : ℕ) → first ≤ c → c ≤ last → if_shown c ≡ row c
  within c lo hi = both (nat_le first c) (nat_le c last) (row c) (le-leb first c lo)
      (le-leb c last hi)

  -- of so many numbers from c on, those that are shown
  pub rest_in_place : (n c : ℕ) → flat_map (row_if_shown row first last) (range_with_len c n)
      ≡ flat_map row (range_with_len (max first c) (min (c + n) (last + 1) - max first c))
  rest_in_place zero c =
      let none : 0 ≡ min (c + 0) (last + 1) - max first c = omega arith in
      ap (rows (max first c)) none
  rest_in_place (suc n) c =
      let more : List ℕ = flat_map if_shown (range_with_len (c + 1) n) in
      flat_map-cons if_shown c (range_with_len (c + 1) n)
      ∙ elim (cases_lt c first) [
        | inl lt ↦ (let from : max first (c + 1) ≡ max first c = omega (arith, lt) in
            let count : min (c + 1 + n) (last + 1) - max first (c + 1)
            ≡ min (c + suc n) (last + 1) - max first c = omega (arith, lt) in
            ap (λ (x : List ℕ). x ++ more) (early c lt)
            ∙ (rest_in_place n (c + 1) ∙ ap₂ rows from count))
        | inr le ↦ elim (cases_lt last c) [
          | inl lt ↦ (let none : min (c + 1 + n) (last + 1) - max first (c + 1) ≡ 0 =
              omega (arith, lt) in
              let none_here : 0 ≡ min (c + suc n) (last + 1) - max first c = omega (arith, lt) in
              ap (λ (x : List ℕ). x ++ more) (late c lt)
              ∙ (rest_in_place n (c + 1)
              ∙ (ap (rows (max first (c + 1))) none ∙ ap (rows (max first c)) none_here)))
          | inr ge ↦ (let k : ℕ = min (c + 1 + n) (last + 1) - max first (c + 1) in
              let from : max first (c + 1) ≡ c + 1 = omega (arith, le) in
              let here : c ≡ max first c = omega (arith, le) in
              let count : suc k ≡ min (c + suc n) (last + 1) - max first c =
              omega (arith, le, ge) in
              ap₂ (λ (x y : List ℕ). x ++ y) (within c le ge)
              (rest_in_place n (c + 1) ∙ ap (λ (a : ℕ). rows a k) from)
              ∙ (sym (flat_map-cons row c (range_with_len (c + 1) k))
              ∙ ap₂ rows here count))
        ]
      ]
