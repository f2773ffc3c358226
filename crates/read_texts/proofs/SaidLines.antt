-- Lines that the parts of layers have in common, from what was read of them.
use Rattle.std.proofs.Common.{◌≡◌, ℕ, Bool, true, false, List, [], ◌∷◌, Option, Some, None, Ok, Err}
use Rattle.std.proofs.Common.{refl}
use Rattle.std.specs.Prelude.{decimal, nat_lt, IfOk, IfSome, if◌then◌else◌}
use Rattle.std.specs.Str.{bytes_eq}
use Rattle.texts.specs.Lines.{words_of}
use Rattle.texts.specs.Shapes.{numbers_after}
use Rattle.texts.specs.Words.{joined}
use Rattle.part_lines.proofs.ReadWords.{same_bytes, IsLineOf, line_is, behind_test}
use Rattle.sync_types.specs.declared.answers.Rule.TheVariants.{Form, Limit, Range, Slot}
use Rattle.consensus_layer.specs.PartLines.{head_tested, one_within, number_within}

-- a first line that is taken is the head
pub head_is : (head : List ℕ) (fits : Bool) (line : List ℕ)
    → IfOk (head_tested head fits line) (λ _. line ≡ head)
head_is head fits line = by (bytes_eq line head) fits refl where
  by : (is fits : Bool) → bytes_eq line head ≡ is
      → IfOk (if is then (if fits then Ok (tt {0}) else Err Slot) else Err Form) (λ _. line ≡ head)
  by false fits e = tt
  by true false e = tt
  by true true e = same_bytes line head e

-- a line of one number is that of its key and the number
one_is : (key line : List ℕ) (least most : ℕ) (numbers : Option (List ℕ))
    → IfSome numbers (IsLineOf key line)
    → IfOk (one_within least most numbers) (λ n. line ≡ joined (key ∷ decimal n ∷ []))
one_is key line least most None is = tt
one_is key line least most (Some []) is = tt
one_is key line least most (Some (n ∷ m ∷ more)) is = tt
one_is key line least most (Some (n ∷ [])) is =
    let Is : ℕ → Type 0 = λ n. line ≡ joined (key ∷ decimal n ∷ []) in
    behind_test Is (nat_lt most n) Limit _ (behind_test Is (nat_lt n least) Range _ is)

pub number_is : (key : List ℕ) (least most : ℕ) (line : List ℕ)
    → IfOk (number_within key least most line) (λ n. line ≡ joined (key ∷ decimal n ∷ []))
number_is key least most line =
    one_is key line least most (numbers_after key 1 (words_of line)) (line_is key line 1)
