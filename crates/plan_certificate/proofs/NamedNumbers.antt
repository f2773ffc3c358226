-- Reading numbers after their names, one after the other.
use Rattle.std.proofs.Common.{◌≡◌, ℕ, ◌+◌, ◌≤◌, Bool, true, false, List, [], ◌∷◌, ◌++◌, length}
use Rattle.std.proofs.Common.{take, Option, Some, None, refl, sym, ap, ◌∙◌, append_assoc, arith}
use Rattle.std.specs.Prelude.{slice_index, if◌then◌else◌}
use Rattle.std.specs.Str.{bytes_eq}
use Rattle.std.proofs.lemmas.List.{append-nil, take_all}
use Rattle.texts.specs.Numbers.{number_of}
use Rattle.texts.specs.Shapes.{onto_numbers}
use Rattle.texts.proofs.Shapes.{with_front}
use Rattle.plan_certificate.specs.TableLines.{numbers_named}

onto_length : (n : Option ℕ) (ns : Option (List ℕ)) (all : List ℕ) (k : ℕ)
    → ((more : List ℕ) → ns ≡ Some more → length more ≡ k) → onto_numbers n ns ≡ Some all
    → length all ≡ k + 1
onto_length None ns all k more e = absurd cc
onto_length (Some n) None all k more e = absurd cc
onto_length (Some n) (Some ms) all k more e =
    let parts : n ∷ ms ≡ all = cc in
    sym (ap length parts) ∙ omega (arith, more ms refl)

chosen_length : (same : Bool) (n : Option ℕ) (ns : Option (List ℕ)) (all : List ℕ) (k : ℕ)
    → ((more : List ℕ) → ns ≡ Some more → length more ≡ k)
    → (if same then onto_numbers n ns else None) ≡ Some all → length all ≡ k + 1
chosen_length true n ns all k more e = onto_length n ns all k more e
chosen_length false n ns all k more e = absurd cc

-- there are as many numbers as names
pub length_named : (names words : List (List ℕ)) (numbers : List ℕ)
    → numbers_named names words ≡ Some numbers → length numbers ≡ length names
length_named [] [] numbers e = let none : [] ≡ numbers = cc in sym (ap length none)
length_named [] (w ∷ ws) numbers e = absurd cc
length_named (name ∷ names) [] numbers e = absurd cc
length_named (name ∷ names) (w ∷ []) numbers e = absurd cc
length_named (name ∷ names) (w ∷ v ∷ ws) numbers e =
    chosen_length (bytes_eq w name) (number_of v) (numbers_named names ws) numbers (length names)
    (λ more is. length_named names ws more is) e ∙ omega arith

-- ten numbers and a zero
pub with_zero : (n : List ℕ) → length n ≡ 10
    → n ++ 0 ∷ []
    ≡ slice_index n 0 ∷ slice_index n 1 ∷ slice_index n 2 ∷ slice_index n 3 ∷ slice_index n 4
    ∷ slice_index n 5 ∷ slice_index n 6 ∷ slice_index n 7 ∷ slice_index n 8 ∷ slice_index n 9
    ∷ 0 ∷ []
with_zero [] e = absurd (omega arith)
with_zero (a ∷ []) e = absurd (omega arith)
with_zero (a ∷ b ∷ []) e = absurd (omega arith)
with_zero (a ∷ b ∷ c ∷ []) e = absurd (omega arith)
with_zero (a ∷ b ∷ c ∷ d ∷ []) e = absurd (omega arith)
with_zero (a ∷ b ∷ c ∷ d ∷ f ∷ []) e = absurd (omega arith)
with_zero (a ∷ b ∷ c ∷ d ∷ f ∷ g ∷ []) e = absurd (omega arith)
with_zero (a ∷ b ∷ c ∷ d ∷ f ∷ g ∷ h ∷ []) e = absurd (omega arith)
with_zero (a ∷ b ∷ c ∷ d ∷ f ∷ g ∷ h ∷ i ∷ []) e = absurd (omega arith)
with_zero (a ∷ b ∷ c ∷ d ∷ f ∷ g ∷ h ∷ i ∷ j ∷ []) e = absurd (omega arith)
with_zero (a ∷ b ∷ c ∷ d ∷ f ∷ g ∷ h ∷ i ∷ j ∷ k ∷ []) e = refl
with_zero (a ∷ b ∷ c ∷ d ∷ f ∷ g ∷ h ∷ i ∷ j ∷ k ∷ l ∷ n) e = absurd (omega arith)
