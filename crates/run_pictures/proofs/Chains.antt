-- Lists whose elements are tested one after the other, each beside the one before it.
use Rattle.std.proofs.Common.{◌≡◌, ℕ, ◌+◌, ◌<◌, ◌≤◌, List, [], ◌∷◌, ◌++◌, length, take, get_or}
use Rattle.std.proofs.Common.{refl, Option, Some, false, ◌==◌, sym, ap, subst, ◌∙◌, arith}
use Rattle.std.proofs.lemmas.List.{take_more}
use Rattle.run_pictures.specs.Sweeps.{AreChained, last_or}

-- a list that is not empty has an element
pub some_in : {X : Type 0} (xs : List X) → (length xs == 0) ≡ false → 1 ≤ length xs
some_in [] e = absurd cc
some_in (x ∷ xs) e = omega arith

last_push : {X : Type 0} (before : Option X) (xs : List X) (x : X)
    → last_or before (xs ++ x ∷ []) ≡ Some x
last_push before [] x = refl
last_push before (y ∷ ys) x = last_push (Some y) ys x

chained_push : {X : Type 0} (Holds : Option X → X → Type 0) (before : Option X) (xs : List X)
    (x : X) → AreChained Holds before xs → Holds (last_or before xs) x
    → AreChained Holds before (xs ++ x ∷ [])
chained_push Holds before [] x chained here = (here, tt)
chained_push Holds before (y ∷ ys) x (first, chained) here =
    (first, chained_push Holds (Some y) ys x chained here)

last_more : {X : Type 0} (before : Option X) (xs : List X) (k : ℕ) (d : X) → k < length xs
    → last_or before (take (k + 1) xs) ≡ Some (get_or xs k d)
last_more before xs k d lt =
    ap (last_or before) (take_more xs k d lt) ∙ last_push before (take k xs) (get_or xs k d)

-- one more, beside the last one so far
pub chained_more : {X : Type 0} (Holds : Option X → X → Type 0) (before : Option X) (xs : List X)
    (k : ℕ) (d : X) → k < length xs → (last : Option X) → last ≡ last_or before (take k xs)
    → AreChained Holds before (take k xs) → Holds last (get_or xs k d)
    → (Some (get_or xs k d) ≡ last_or before (take (k + 1) xs))
    × AreChained Holds before (take (k + 1) xs)
chained_more Holds before xs k d lt last is chained here = (
  sym (last_more before xs k d lt),
  subst (AreChained Holds before) (sym (take_more xs k d lt))
      (chained_push Holds before (take k xs) (get_or xs k d) chained
      (subst (λ x. Holds x (get_or xs k d)) is here)),
)
