-- What holds of lines that the parts of layers have in common, and that they are read back.
use Rattle.std.proofs.Common.{◌≡◌, ℕ, ◌^◌, ◌<◌, ◌≤◌, Bool, true, false, List, [], ◌∷◌, All, Option}
use Rattle.std.proofs.Common.{Some, None, Ok, Err, refl, ap, ◌∙◌, arith}
use Rattle.std.specs.Prelude.{decimal, nat_lt, IfOk, if◌then◌else◌}
use Rattle.std.specs.List.{list_all}
use Rattle.std.specs.Str.{bytes_eq}
use Rattle.std.proofs.lemmas.Bool.{and_parts, le-ltb, lt-ltb, ltb-false, ltb-true}
use Rattle.std.proofs.lemmas.List.Elements.{All-cons, All-nil, All-weaker}
use Rattle.std.proofs.lemmas.List.Sums.{list_all-from_AllPass}
use Rattle.texts.specs.Lines.{words_of}
use Rattle.texts.specs.Shapes.{numbers_after}
use Rattle.texts.proofs.NumberLines.{numbers_back}
use Rattle.texts.proofs.Printed.{joined, IsPlain}
use Rattle.sync_types.specs.declared.answers.Rule.TheVariants.{Form, Limit, Range, Slot}
use Rattle.consensus_layer.specs.PartLines.{head_tested, one_within, number_within}

-- a first line is taken only if the modulus fits
pub head_fits : (head : List ℕ) (fits : Bool) (line : List ℕ)
    → IfOk (head_tested head fits line) (λ _. fits ≡ true)
head_fits head fits line = by (bytes_eq line head) fits where
  by : (is fits : Bool)
      → IfOk (if is then (if fits then Ok (tt {0}) else Err Slot) else Err Form) (λ _. fits ≡ true)
  by false fits = tt
  by true false = tt
  by true true = refl

-- the number of a line is within its limits
abbrev pub IsWithin : (least most : ℕ) → ℕ → Type 0
IsWithin least most n = (least ≤ n) × (n ≤ most)

one_is_within : (least most : ℕ) (numbers : Option (List ℕ))
    → IfOk (one_within least most numbers) (IsWithin least most)
one_is_within least most None = tt
one_is_within least most (Some []) = tt
one_is_within least most (Some (n ∷ m ∷ more)) = tt
one_is_within least most (Some (n ∷ [])) = by (nat_lt most n) (nat_lt n least) refl refl where
  by : (large small : Bool) → nat_lt most n ≡ large → nat_lt n least ≡ small
      → IfOk (if large then Err Limit else if small then Err Range else Ok n) (IsWithin least most)
  by true small e e' = tt
  by false true e e' = tt
  by false false e e' = (ltb-false n least e', ltb-false most n e)

pub is_within : (key : List ℕ) (least most : ℕ) (line : List ℕ)
    → IfOk (number_within key least most line) (IsWithin least most)
is_within key least most line = one_is_within least most (numbers_after key 1 (words_of line))

-- and one that is printed is read
pub within_back : (key : List ℕ) → IsPlain key → (least most n : ℕ) → n < 10 ^ 15
    → IsWithin least most n → number_within key least most (joined (key ∷ decimal n ∷ [])) ≡ Ok n
within_back key plain least most n short within =
    ap (one_within least most) (numbers_back key plain (n ∷ []) (short, tt))
    ∙ rw (le-ltb most n within.1, le-ltb n least within.0) refl

-- numbers that pass the test are below the limit
pub all_below : (limit : ℕ) (ns : List ℕ) → list_all (λ a. nat_lt a limit) ns ≡ true
    → All (λ a. a < limit) ns
all_below limit [] e = All-nil (λ a. a < limit)
all_below limit (n ∷ ns) e =
    let p = and_parts (nat_lt n limit) (list_all (λ a. nat_lt a limit) ns) e in
    All-cons (λ a. a < limit) n ns (ltb-true n limit p.0) (all_below limit ns p.1)

-- and those below it pass
pub below_pass : (limit : ℕ) (ns : List ℕ) → All (λ a. a < limit) ns
    → list_all (λ a. nat_lt a limit) ns ≡ true
below_pass limit ns below = list_all-from_AllPass (λ a. nat_lt a limit) ns
    (All-weaker (λ a. a < limit) (λ a. nat_lt a limit ≡ true) (λ a lt. lt-ltb a limit lt) ns below)

-- and are of at most 15 digits, if the limit is
pub below_short : (limit : ℕ) → limit ≤ 10 ^ 15 → (ns : List ℕ) → All (λ a. a < limit) ns
    → All (λ a. a < 10 ^ 15) ns
below_short limit few ns below =
    All-weaker (λ a. a < limit) (λ a. a < 10 ^ 15) (λ a lt. omega (arith, few, lt)) ns below
