-- Lexicographic order is a strict order of all lists.
use Rattle.std.proofs.Common.{◌≡◌, ℕ, ◌≤◌, List, [], ◌∷◌, ◌++◌, length, refl, sym, ap, ◌∙◌, subst}
use Rattle.std.proofs.Common.{inl, inr, arith}
use Rattle.std.proofs.lemmas.Bool.{cases_lt}
use Rattle.std.specs.Prelude.{◌⊎◌}
use Rattle.plan_finder.specs.Orders.{IsLess}

pub less_irreflexive : (xs : List ℕ) → ¬ IsLess xs xs
less_irreflexive [] less = less
less_irreflexive (x ∷ xs) (inl lt) = absurd (omega (arith, lt))
less_irreflexive (x ∷ xs) (inr (e, less)) = less_irreflexive xs less

pub less_then : (xs ys zs : List ℕ) → IsLess xs ys → IsLess ys zs → IsLess xs zs
less_then xs [] zs first second = absurd first
less_then xs (y ∷ ys) [] first second = absurd second
less_then [] (y ∷ ys) (z ∷ zs) first second = tt
less_then (x ∷ xs) (y ∷ ys) (z ∷ zs) (inl lt) (inl lt') = inl (omega (arith, lt, lt'))
less_then (x ∷ xs) (y ∷ ys) (z ∷ zs) (inl lt) (inr (e, less)) = inl (omega (arith, lt, e))
less_then (x ∷ xs) (y ∷ ys) (z ∷ zs) (inr (e, less)) (inl lt) = inl (omega (arith, lt, e))
less_then (x ∷ xs) (y ∷ ys) (z ∷ zs) (inr (e, less)) (inr (e', less')) =
    inr (e ∙ e', less_then xs ys zs less less')

-- one of two lists is less, or they are one
pub less_or_not : (xs ys : List ℕ) → IsLess xs ys ⊎ ((xs ≡ ys) ⊎ IsLess ys xs)
less_or_not [] [] = inr (inl refl)
less_or_not [] (y ∷ ys) = inl tt
less_or_not (x ∷ xs) [] = inr (inr tt)
less_or_not (x ∷ xs) (y ∷ ys) = elim (cases_lt x y) [
  | inl lt ↦ inl (inl lt)
  | inr le ↦ elim (cases_lt y x) [
    | inl lt ↦ inr (inr (inl lt))
    | inr le' ↦
        let e : x ≡ y = omega (arith, le, le') in
        elim (less_or_not xs ys) [
          | inl less ↦ inl (inr (e, less))
          | inr (inl same) ↦ inr (inl (ap (λ z. z ∷ xs) e ∙ ap (λ zs. y ∷ zs) same))
          | inr (inr less) ↦ inr (inr (inr (sym e, less)))
        ]
  ]
]

-- what is less than a list is less than one that is not less than that list
pub less_below : (xs ys zs : List ℕ) → IsLess xs ys → ¬ IsLess zs ys → IsLess xs zs
less_below xs ys zs less not_less = elim (less_or_not ys zs) [
  | inl further ↦ less_then xs ys zs less further
  | inr (inl same) ↦ subst (IsLess xs) same less
  | inr (inr back) ↦ absurd (not_less back)
]

-- ---- lists with an end

-- a list with an end is less than one as long by its prefix, or by its end
pub less_split : (xs ys us vs : List ℕ) → length xs ≡ length ys → IsLess (xs ++ us) (ys ++ vs)
    → IsLess xs ys ⊎ ((xs ≡ ys) × IsLess us vs)
less_split [] [] us vs long less = inr (refl, less)
less_split [] (y ∷ ys) us vs long less = absurd (omega (arith, long))
less_split (x ∷ xs) [] us vs long less = absurd (omega (arith, long))
less_split (x ∷ xs) (y ∷ ys) us vs long (inl lt) = inl (inl lt)
less_split (x ∷ xs) (y ∷ ys) us vs long (inr (e, less)) =
    elim (less_split xs ys us vs (omega (arith, long)) less) [
      | inl front ↦ inl (inr (e, front))
      | inr (same, rest) ↦ inr (ap (λ z. z ∷ xs) e ∙ ap (λ zs. y ∷ zs) same, rest)
    ]

-- each number is at most the one at its place
abbrev pub AreAtMost : List ℕ → List ℕ → Type 0
AreAtMost [] [] = Unit {0}
AreAtMost [] (y ∷ ys) = ⊥
AreAtMost (x ∷ xs) [] = ⊥
AreAtMost (x ∷ xs) (y ∷ ys) = (x ≤ y) × AreAtMost xs ys

pub at_most_push : (xs ys : List ℕ) (x y : ℕ) → AreAtMost xs ys → x ≤ y
    → AreAtMost (xs ++ x ∷ []) (ys ++ y ∷ [])
at_most_push [] [] x y at_most le = (le, tt)
at_most_push [] (z ∷ ys) x y at_most le = absurd at_most
at_most_push (z ∷ xs) [] x y at_most le = absurd at_most
at_most_push (z ∷ xs) (w ∷ ys) x y (first, rest) le = (first, at_most_push xs ys x y rest le)

pub at_most_not_less : (xs ys : List ℕ) → AreAtMost xs ys → ¬ IsLess ys xs
at_most_not_less [] [] at_most less = less
at_most_not_less [] (y ∷ ys) at_most less = at_most
at_most_not_less (x ∷ xs) [] at_most less = at_most
at_most_not_less (x ∷ xs) (y ∷ ys) (le, rest) (inl lt) = absurd (omega (arith, le, lt))
at_most_not_less (x ∷ xs) (y ∷ ys) (le, rest) (inr (e, less)) = at_most_not_less xs ys rest less
