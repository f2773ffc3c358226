-- Pairs that rise, and loops that keep a fact of each number so far.
use Rattle.std.proofs.Common.{◌≡◌, ℕ, ◌+◌, ◌<◌, List, [], ◌∷◌, ◌++◌, length, subst, inl, inr, arith}
use Rattle.std.specs.List.{All}
use Rattle.std.proofs.lemmas.Bool.{cases_lt}
use Rattle.std.proofs.lemmas.List.Elements.{All-head, All-tail}
use Rattle.plan_finder.specs.declared.pots.Pot.{Pot}
use Rattle.plan_finder.specs.Costs.{IsBelow, IsRising}

-- fewer than two pairs rise
pub rising_short : (pots : List Pot) → length pots < 2 → IsRising pots
rising_short [] lt = tt
rising_short (pot ∷ []) lt = tt
rising_short (pot ∷ (next ∷ pots)) lt = absurd (omega (arith, lt))

-- a pair above all pairs goes after them
pub rising_push : (pots : List Pot) (last : Pot) → IsRising pots
    → All (λ pot. IsBelow pot last) pots
    → IsRising (pots ++ last ∷ [])
rising_push [] last rising below = tt
rising_push (pot ∷ []) last rising below = (All-head (λ p. IsBelow p last) pot [] below, tt)
rising_push (pot ∷ (next ∷ pots)) last (first, rest) below = (
  first,
  rising_push (next ∷ pots) last rest
      (All-tail (λ p. IsBelow p last) pot (next ∷ pots) below),
)

-- what holds below a number, and at it, holds below the next
pub one_more : (P : ℕ → Type 0) (i : ℕ) → ((j : ℕ) → j < i → P j) → P i → (j : ℕ) → j < i + 1 → P j
one_more P i below at j lt = elim (cases_lt j i) [
  | inl less ↦ below j less
  | inr le ↦ let e : i ≡ j = omega (arith, le, lt) in subst P e at
]
