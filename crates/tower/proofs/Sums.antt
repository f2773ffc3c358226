-- Sums of what is the same of each item.
use Rattle.std.proofs.Common.{◌≡◌, ℕ, List, [], ◌∷◌, map, All, refl, arith}
use Rattle.std.specs.List.{sum_by}
use Rattle.std.proofs.lemmas.List.Sums.{sum_by-cons}
use Rattle.std.proofs.lemmas.List.Elements.{All-head, All-tail}

-- a sum over what items are mapped to
pub sum_mapped : {X Y : Type 0} → (f : X → ℕ) (g : Y → ℕ) (h : X → Y) (xs : List X)
    → All (λ x. f x ≡ g (h x)) xs → sum_by f xs ≡ sum_by g (map h xs)
sum_mapped f g h [] all = refl
sum_mapped f g h (x ∷ xs) all =
    omega (
      arith,
      sum_by-cons f x xs,
      sum_by-cons g (h x) (map h xs),
      All-head (λ x. f x ≡ g (h x)) x xs all,
      sum_mapped f g h xs (All-tail (λ x. f x ≡ g (h x)) x xs all),
    )
