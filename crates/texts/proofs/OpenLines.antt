-- What stands after the last newline.
use Rattle.std.proofs.Common.{◌≡◌, inl, ℕ, zero, suc, Bool, true, false, eqb, List, [], ◌∷◌, ◌++◌}
use Rattle.std.proofs.Common.{length, refl, ◌∙◌, append_assoc, append-nil, arith}
use Rattle.texts.specs.Lines.{is_one_line, whole_from, whole_lines}
use Rattle.texts.specs.Limits.{behind_lines}
use Rattle.texts.specs.Pending.{IsShown}
use Rattle.texts.specs.Words.{open_from, open_rest}
use Rattle.texts.proofs.Texts.{cut_again}

-- if no line is whole, it is all
abbrev IsAll : (acc bytes : List ℕ) → Type 0
IsAll acc bytes = whole_from acc bytes ≡ [] → open_from acc bytes ≡ acc ++ bytes

all_by : (acc : List ℕ) (b : ℕ) (bs : List ℕ) (test : Bool) → eqb b 10 ≡ test
    → IsAll (acc ++ b ∷ []) bs → IsAll acc (b ∷ bs)
all_by acc b bs true is more none =
    let e : acc ∷ whole_from [] bs ≡ [] = rw is at none in absurd cc
all_by acc b bs false is more none = rw is (more (rw is at none) ∙ append_assoc acc (b ∷ []) bs)

all : (acc bytes : List ℕ) → IsAll acc bytes
all acc [] none = rw (append-nil acc) refl
all acc (b ∷ bs) none = all_by acc b bs (eqb b 10) refl (all (acc ++ b ∷ []) bs) none

-- else it stands after so many lines
abbrev IsBehindAll : (lines : ℕ) (acc bytes : List ℕ) → Type 0
IsBehindAll lines acc bytes =
    length (whole_from acc bytes) ≡ lines → open_from acc bytes ≡ behind_lines lines bytes

none_of : (lines : List (List ℕ)) → length lines ≡ 0 → lines ≡ []
none_of [] none = refl
none_of (line ∷ lines) none = absurd (omega (arith, none))

behind_by : (lines : ℕ) (acc : List ℕ) (b : ℕ) (bs : List ℕ) (test : Bool) → eqb b 10 ≡ test
    → IsBehindAll lines [] bs → IsBehindAll (suc lines) (acc ++ b ∷ []) bs
    → IsBehindAll (suc lines) acc (b ∷ bs)
behind_by lines acc b bs true is first more count =
    let all : suc (length (whole_from [] bs)) ≡ suc lines = rw is at count in
    rw is (first (omega (arith, all)))
behind_by lines acc b bs false is first more count = rw is (more (rw is at count))

behind : (lines : ℕ) (acc bytes : List ℕ) → IsBehindAll (suc lines) acc bytes
behind lines acc [] = λ count. absurd (omega (arith, count))
behind zero acc (b ∷ bs) =
    behind_by zero acc b bs (eqb b 10) refl
    (λ none. all [] bs (none_of (whole_from [] bs) none))
    (behind zero (acc ++ b ∷ []) bs)
behind (suc lines) acc (b ∷ bs) =
    behind_by (suc lines) acc b bs (eqb b 10) refl (behind lines [] bs)
    (behind (suc lines) (acc ++ b ∷ []) bs)

open_by : (bytes : List ℕ) (lines : ℕ) → length (whole_lines bytes) ≡ lines
    → open_rest bytes ≡ behind_lines lines bytes
open_by bytes zero none = all [] bytes (none_of (whole_lines bytes) none)
open_by bytes (suc lines) count = behind lines [] bytes count

-- what stands after the last newline stands after the whole lines
pub open_behind : (bytes : List ℕ)
    → open_rest bytes ≡ behind_lines (length (whole_lines bytes)) bytes
open_behind bytes = open_by bytes (length (whole_lines bytes)) refl

-- ---- a line shows

newline_by : (acc : List ℕ) (b : ℕ) (bs : List ℕ) (test : Bool) → eqb b 10 ≡ test
    → open_from [] (bs ++ 10 ∷ []) ≡ [] → open_from (acc ++ b ∷ []) (bs ++ 10 ∷ []) ≡ []
    → open_from acc ((b ∷ bs) ++ 10 ∷ []) ≡ []
newline_by acc b bs true is first more = rw is first
newline_by acc b bs false is first more = rw is more

newline_last : (acc bytes : List ℕ) → open_from acc (bytes ++ 10 ∷ []) ≡ []
newline_last acc [] = refl
newline_last acc (b ∷ bs) =
    newline_by acc b bs (eqb b 10) refl (newline_last [] bs) (newline_last (acc ++ b ∷ []) bs)

-- at its newline
pub newline_shows : (bytes : List ℕ) → IsShown (bytes ++ 10 ∷ [])
newline_shows bytes = inl (newline_last [] bytes)

-- what stands after the last newline, if there is none
pub open_alone : (line : List ℕ) → is_one_line line ≡ true → open_rest line ≡ line
open_alone line one = (cut_again [] line tt one).1
