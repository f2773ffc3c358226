-- What is in lists that are made from others.
use Rattle.std.proofs.Common.{◌≡◌, ℕ, zero, suc, ◌+◌, ◌<◌, ◌≤◌, List, [], ◌∷◌, ◌++◌, map, Bool}
use Rattle.std.proofs.Common.{true, false, cond, refl, sym, ap, ◌∙◌, subst, inl, inr, arith}
use Rattle.std.specs.Prelude.{◌⊎◌}
use Rattle.std.specs.List.{flat_map, filter, range_with_len}
use Rattle.std.proofs.lemmas.Bool.{cases_lt}

abbrev pub IsIn : {X : Type 0} → X → List X → Type 0
IsIn x [] = ⊥
IsIn x (y ∷ ys) = (y ≡ x) ⊎ IsIn x ys

module _ {X : Type 0} where
  in_front : (x : X) (xs ys : List X) → IsIn x xs → IsIn x (xs ++ ys)
  in_front x [] ys is = absurd is
  in_front x (z ∷ xs) ys (inl same) = inl same
  in_front x (z ∷ xs) ys (inr is) = inr (in_front x xs ys is)

  in_back : (x : X) (xs ys : List X) → IsIn x ys → IsIn x (xs ++ ys)
  in_back x [] ys is = is
  in_back x (z ∷ xs) ys is = inr (in_back x xs ys is)

  in_parts : (x : X) (xs ys : List X) → IsIn x (xs ++ ys) → IsIn x xs ⊎ IsIn x ys
  in_parts x [] ys is = inr is
  in_parts x (z ∷ xs) ys (inl same) = inl (inl same)
  in_parts x (z ∷ xs) ys (inr is) =
      elim (in_parts x xs ys is) [ inl left ↦ inl (inr left) | inr right ↦ inr right ]

  -- ---- what passes a test

  module _ (p : X → Bool) where
    kept_behind : (x z : X) (rest : List X) (b : Bool) → IsIn x rest
        → IsIn x (cond b (z ∷ rest) rest)
    kept_behind x z rest true is = inr is
    kept_behind x z rest false is = is

    pub in_filter : (x : X) (xs : List X) → p x ≡ true → IsIn x xs → IsIn x (filter p xs)
    in_filter x [] holds is = is
    in_filter x (z ∷ xs) holds (inl same) =
        let passes : p z ≡ true = ap p same ∙ holds in
        subst (λ b. IsIn x (cond b (z ∷ filter p xs) (filter p xs))) (sym passes) (inl same)
    in_filter x (z ∷ xs) holds (inr is) =
        kept_behind x z (filter p xs) (p z) (in_filter x xs holds is)

    from_kept : (x z : X) (rest : List X) (b : Bool) → p z ≡ b → IsIn x (cond b (z ∷ rest) rest)
        → ((p x ≡ true) × (z ≡ x)) ⊎ IsIn x rest
    from_kept x z rest true holds (inl same) = inl (ap p (sym same) ∙ holds, same)
    from_kept x z rest true holds (inr is) = inr is
    from_kept x z rest false holds is = inr is

    pub from_filter : (x : X) (xs : List X) → IsIn x (filter p xs) → (p x ≡ true) × IsIn x xs
    from_filter x [] is = absurd is
    from_filter x (z ∷ xs) is = elim (from_kept x z (filter p xs) (p z) refl is) [
      | inl here ↦ (here.0, inl here.1)
      | inr there ↦ let rest = from_filter x xs there in (rest.0, inr rest.1)
    ]

-- ---- from each element

module _ {X Y : Type 0} where
  pub in_flat_map : (f : X → List Y) (x : X) (y : Y) (xs : List X) → IsIn x xs → IsIn y (f x)
      → IsIn y (flat_map f xs)
  in_flat_map f x y [] is in_f = absurd is
  in_flat_map f x y (z ∷ xs) (inl same) in_f =
      in_front y (f z) (flat_map f xs) (subst (λ w. IsIn y (f w)) (sym same) in_f)
  in_flat_map f x y (z ∷ xs) (inr is) in_f =
      in_back y (f z) (flat_map f xs) (in_flat_map f x y xs is in_f)

  pub from_flat_map : (f : X → List Y) (y : Y) (xs : List X) → IsIn y (flat_map f xs)
      → (x : X) × IsIn x xs × IsIn y (f x)
  from_flat_map f y [] is = absurd is
  from_flat_map f y (z ∷ xs) is = elim (in_parts y (f z) (flat_map f xs) is) [
    | inl here ↦ (z, inl refl, here)
    | inr there ↦ let rest = from_flat_map f y xs there in (rest.0, inr rest.1, rest.2)
  ]

  pub in_map : (f : X → Y) (x : X) (xs : List X) → IsIn x xs → IsIn (f x) (map f xs)
  in_map f x [] is = is
  in_map f x (z ∷ xs) (inl same) = inl (ap f same)
  in_map f x (z ∷ xs) (inr is) = inr (in_map f x xs is)

  pub from_map : (f : X → Y) (y : Y) (xs : List X) → IsIn y (map f xs)
      → (x : X) × IsIn x xs × (f x ≡ y)
  from_map f y [] is = absurd is
  from_map f y (z ∷ xs) (inl same) = (z, inl refl, same)
  from_map f y (z ∷ xs) (inr is) = let rest = from_map f y xs is in (rest.0, inr rest.1, rest.2)

pub in_range : (k a n : ℕ) → a ≤ k → k < a + n → IsIn k (range_with_len a n)
in_range k a zero least most = absurd (omega (arith, least, most))
in_range k a (suc n) least most = elim (cases_lt a k) [
  | inl lt ↦ inr (in_range k (a + 1) n (omega (arith, lt)) (omega (arith, most)))
  | inr le ↦ inl (omega (arith, le, least))
]

-- a range with one more
pub range_push : (a n : ℕ) → range_with_len a (suc n) ≡ range_with_len a n ++ (a + n) ∷ []
range_push a zero = let same : a ≡ a + 0 = omega arith in ap (λ x. x ∷ []) same
range_push a (suc n) =
    let same : a + 1 + n ≡ a + suc n = omega arith in
    let rest : range_with_len (a + 1) (suc n) ≡ range_with_len (a + 1) n ++ (a + suc n) ∷ [] =
    range_push (a + 1) n ∙ ap (λ x. range_with_len (a + 1) n ++ x ∷ []) same in
    ap (λ xs. a ∷ xs) rest
