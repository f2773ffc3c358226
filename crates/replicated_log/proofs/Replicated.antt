-- A list of one thing, mapped.
use Rattle.std.proofs.Common.{◌≡◌, ℕ, zero, suc, ◌∷◌, map, refl, ap}
use Rattle.std.specs.Prelude.{replicate}

pub map_replicate : {X Y : Type 0} (f : X → Y) (n : ℕ) (x : X)
    → map f (replicate n x) ≡ replicate n (f x)
map_replicate f zero x = refl
map_replicate f (suc n) x = ap (λ xs. f x ∷ xs) (map_replicate f n x)
