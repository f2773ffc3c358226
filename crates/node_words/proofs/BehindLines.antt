-- What stands after the lines of a part.
use Rattle.std.proofs.Common.{◌≡◌, ℕ, zero, suc, Bool, true, false, eqb, List, [], ◌∷◌, ◌++◌}
use Rattle.std.proofs.Common.{length, refl, ap, arith}
use Rattle.std.specs.List.{onto_first}
use Rattle.texts.specs.Lines.{lines_of}
use Rattle.texts.specs.Limits.{behind_lines}

-- a text that ends with a newline has a line
pub record Ended (front : List ℕ) : Type 0 where
  pub less : ℕ
  pub lines : length (lines_of (front ++ 10 ∷ [])) ≡ suc less

length_onto : (b : ℕ) (lines : List (List ℕ)) (n : ℕ) → length lines ≡ suc n
    → length (onto_first b lines) ≡ suc n
length_onto b [] n is = absurd (omega arith)
length_onto b (line ∷ lines) n is = is

ended_by : (newline : Bool) (b : ℕ) (front : List ℕ) → eqb b 10 ≡ newline → Ended front
    → Ended (b ∷ front)
ended_by true b front is e =
    record { less = suc e.less; lines = rw is (ap suc e.lines) }
ended_by false b front is e =
    record {
      less = e.less;
      lines = rw is (length_onto b (lines_of (front ++ 10 ∷ [])) e.less e.lines);
    }

ended : (front : List ℕ) → Ended front
ended [] = record { less = 0; lines = refl }
ended (b ∷ front) = ended_by (eqb b 10) b front refl (ended front)

-- after all lines of such a text stands what follows it
behind_by : (newline : Bool) (b : ℕ) (front rest : List ℕ) → eqb b 10 ≡ newline
    → ((n : ℕ) → length (lines_of (front ++ 10 ∷ [])) ≡ n
    → behind_lines n (front ++ 10 ∷ rest) ≡ rest)
    → (n : ℕ) → length (lines_of (b ∷ front ++ 10 ∷ [])) ≡ suc n
    → behind_lines (suc n) (b ∷ front ++ 10 ∷ rest) ≡ rest
behind_by true b front rest is further n count =
    let less : length (lines_of (front ++ 10 ∷ [])) ≡ n =
    omega (arith, rw is at count) in
    rw is (further n less)
behind_by false b front rest is further n count =
    let e = ended front in
    let onto = length_onto b (lines_of (front ++ 10 ∷ [])) e.less e.lines in
    let same : length (lines_of (front ++ 10 ∷ [])) ≡ suc n =
    omega (arith, e.lines, onto, rw is at count) in
    rw is (further (suc n) same)

pub behind_all : (front rest : List ℕ) (n : ℕ) → length (lines_of (front ++ 10 ∷ [])) ≡ n
    → behind_lines n (front ++ 10 ∷ rest) ≡ rest
behind_all [] rest zero count = absurd (omega arith)
behind_all [] rest (suc zero) count = refl
behind_all [] rest (suc (suc n)) count = absurd (omega arith)
behind_all (b ∷ front) rest zero count =
    let e = ended (b ∷ front) in absurd (omega (arith, e.lines))
behind_all (b ∷ front) rest (suc n) count =
    behind_by (eqb b 10) b front rest refl (behind_all front rest) n count
