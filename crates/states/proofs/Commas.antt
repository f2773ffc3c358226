-- Words before commas.
use Rattle.std.proofs.Common.{◌≡◌, ℕ, Bool, true, false, List, [], ◌∷◌, ◌++◌, Some, None, refl, ap}
use Rattle.std.specs.Prelude.{not, ◌==◌}
use Rattle.std.specs.List.{list_all}
use Rattle.std.proofs.lemmas.Bool.{and_parts, not-true, eqb-true}
use Rattle.std.specs.Prelude.{option_map}
use Rattle.states.specs.StateWords.{before_comma}

pub not_comma : (b : ℕ) → (b ≡ 44 → ⊥) → (b == 44) ≡ false
not_comma b other = by (b == 44) refl where
  by : (same : Bool) → (b == 44) ≡ same → same ≡ false
  by true is = absurd (other (eqb-true b 44 is))
  by false is = refl

-- a word with one byte more
pub last_byte : (word : List ℕ) (b : ℕ) → (b == 44) ≡ false → before_comma (word ++ b ∷ []) ≡ None
last_byte [] b is = rw is refl
last_byte (a ∷ []) b is = rw is refl
last_byte (a ∷ c ∷ word) b is = ap (option_map (λ w. a ∷ w)) (last_byte (c ∷ word) b is)

-- a word with a comma after it
pub with_comma : (word : List ℕ) → before_comma (word ++ 44 ∷ []) ≡ Some word
with_comma [] = refl
with_comma (a ∷ []) = refl
with_comma (a ∷ c ∷ word) = ap (option_map (λ w. a ∷ w)) (with_comma (c ∷ word))

abbrev pub is_no_comma : ℕ → Bool
is_no_comma b = not (b == 44)

-- a word with no comma
pub no_comma : (word : List ℕ) → list_all is_no_comma word ≡ true → before_comma word ≡ None
no_comma [] all = refl
no_comma (a ∷ []) all =
    let is : (a == 44) ≡ false = not-true (a == 44) (and_parts _ _ all).0 in rw is refl
no_comma (a ∷ c ∷ word) all =
    ap (option_map (λ w. a ∷ w)) (no_comma (c ∷ word) (and_parts _ _ all).1)
