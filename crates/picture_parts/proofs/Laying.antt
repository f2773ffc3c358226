-- Places that are tested one after the other.
use Rattle.std.proofs.Common.{◌≡◌, ℕ, ◌+◌, ◌*◌, ◌^◌, ◌<◌, List, [], ◌∷◌, ◌++◌, length, map, take}
use Rattle.std.proofs.Common.{get_or, sym, ap₂, ◌∙◌, arith}
use Rattle.std.specs.List.{range_with_len}
use Rattle.std.proofs.lemmas.List.{map_more}
use Rattle.std.proofs.lemmas.Nat.{mul-le}
use Rattle.texts.proofs.Ranges.{range_more}

-- one more that stands in its place
pub one_more : {X : Type 0} (place : X → ℕ) (xs : List X) (k : ℕ) (d : X) → k < length xs
    → map place (take k xs) ≡ range_with_len 0 k → place (get_or xs k d) ≡ k
    → map place (take (k + 1) xs) ≡ range_with_len 0 (k + 1)
one_more place xs k d lt before here =
    map_more place xs k d lt
    ∙ (ap₂ (λ ys x. ys ++ x ∷ []) before here ∙ sym (range_more 0 k k (omega arith)))

-- a row and a node of 256 make a place
pub place_fits : (row nodes node : ℕ) → row < 2 ^ 32 → nodes < 2 ^ 16 → node < 2 ^ 16
    → row * nodes + node < 2 ^ 64
place_fits row nodes node few_rows few_nodes few =
    omega (
      arith,
      mul-le row nodes (2 ^ 32) (2 ^ 16) (omega (arith, few_rows))
          (omega (arith, few_nodes)),
      few,
    )
