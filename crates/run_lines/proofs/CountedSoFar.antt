-- The lines of counted configurations, one after the other.
use Rattle.std.proofs.Common.{◌≡◌, ℕ, ◌+◌, ◌-◌, ◌%◌, ◌<◌, List, sym, ap, ap₂, ◌∙◌, arith}
use Rattle.std.proofs.Math.Nat.{mod-add-mod, mod-eq_of_lt}
use Rattle.sync_types.specs.FaultSets.{FaultIds}
use Rattle.run_lines.specs.OutputTexts.{counted_line}

-- an output that rose so often
pub rose : (modulus output x now next : ℕ) → now ≡ (output + x) % modulus
    → next ≡ (now + 1) % modulus → next ≡ (output + (x + 1)) % modulus
rose modulus output x now next is rises =
    let sum : output + x + 1 ≡ output + (x + 1) = omega arith in
    rises ∙ (ap (λ (y : ℕ). (y + 1) % modulus) is
    ∙ (mod-add-mod (output + x) modulus 1 ∙ ap (λ (y : ℕ). y % modulus) sum))

-- and one that has not
pub not_risen : (modulus output : ℕ) → output < modulus → output ≡ (output + 0) % modulus
not_risen modulus output lt =
    let same : output ≡ output + 0 = omega arith in
    sym (mod-eq_of_lt lt) ∙ ap (λ (y : ℕ). y % modulus) same

-- the line of a number that came so many times after the first one
pub line_same : (word : ℕ → ℕ → List ℕ) (faulty : FaultIds) (label other : List ℕ)
    (from t output now modulus x : ℕ) → other ≡ label → t ≡ from + x
    → now ≡ (output + x) % modulus
    → counted_line other word faulty t now
    ≡ counted_line label word faulty t ((output + (t - from)) % modulus)
line_same word faulty label other from t output now modulus x same there is =
    let back : x ≡ t - from = omega (arith, there) in
    ap₂ (λ (label : List ℕ) (o : ℕ). counted_line label word faulty t o) same
    (is ∙ ap (λ (x : ℕ). (output + x) % modulus) back)
