-- Blocks of a list.
use Rattle.std.proofs.Common.{◌≡◌, ℕ, zero, suc, ◌+◌, ◌*◌, ◌<◌, ◌≤◌, List, length, get_or, take}
use Rattle.std.proofs.Common.{drop, map, All, ap, ◌∙◌, arith}
use Rattle.std.proofs.Math.Nat.{mul-le-mul_right}
use Rattle.std.proofs.lemmas.List.{length-take, length-drop, get_or-take, get_or-drop, take-map}
use Rattle.std.proofs.lemmas.List.{drop-map}
use Rattle.std.proofs.lemmas.List.Elements.{All-take, All-drop}
use Rattle.construction.specs.Votes.{block}

pub block_room : (k n i : ℕ) → i < k → i * n + n ≤ k * n
block_room k n i h = let e : (i + 1) * n ≤ k * n = mul-le-mul_right n (omega arith) in omega arith

-- a block of a list that has so many blocks, and perhaps more after them
pub length-block : {X : Type 0} (k n i : ℕ) (xs : List X) → k * n ≤ length xs → i < k
    → length (block n i xs) ≡ n
length-block k n i xs e h = simp (length-take, length-drop) (omega (arith, block_room k n i h))

-- a block is no longer than its list
pub length-block-most : {X : Type 0} (n i : ℕ) (xs : List X) → length (block n i xs) ≤ length xs
length-block-most n i xs = simp (length-take, length-drop) (omega arith)

pub get_or-block : {X : Type 0} (n i j : ℕ) (xs : List X) (d : X) → j < n
    → get_or (block n i xs) j d ≡ get_or xs (i * n + j) d
get_or-block n i j xs d h = get_or-take n (drop (i * n) xs) j d h ∙ get_or-drop (i * n) xs j d

-- below a product of something there is something
pub block_some : (k n v : ℕ) → v < k * n → 0 < n
block_some k zero v lt = absurd (omega arith)
block_some k (suc n) v lt = omega arith

pub block-map : {X : Type 0} (f : X → X) (n i : ℕ) (xs : List X)
    → block n i (map f xs) ≡ map f (block n i xs)
block-map f n i xs = ap (take n) (drop-map f (i * n) xs) ∙ take-map f n (drop (i * n) xs)

pub All-block : {X : Type 0} (P : X → Type 0) (n i : ℕ) (xs : List X) → All P xs
    → All P (block n i xs)
All-block P n i xs all = All-take P n (drop (i * n) xs) (All-drop P (i * n) xs all)
