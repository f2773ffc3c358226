-- A text is the lines that end with a newline, and what stands after them.
use Rattle.std.proofs.Common.{◌≡◌, ℕ, Bool, true, false, cond, eqb, List, [], ◌∷◌, ◌++◌, refl, sym}
use Rattle.std.proofs.Common.{ap, ◌∙◌, append_assoc}
use Rattle.std.specs.List.{AllByRecursion}
use Rattle.std.proofs.lemmas.List.{append-nil}
use Rattle.std.proofs.lemmas.Bool.{and_parts, not-true, eqb-true}
use Rattle.texts.specs.Lines.{is_one_line, whole_from, whole_lines}
use Rattle.texts.specs.Words.{ended, text_of, open_from, open_rest}

-- a line without a newline
abbrev pub IsOneLine : List ℕ → Type 0
IsOneLine line = is_one_line line ≡ true

whole_by : (newline : Bool) (b : ℕ) (line bs : List ℕ) → eqb b 10 ≡ newline
    → text_of (whole_from [] bs) ++ open_from [] bs ≡ bs
    → text_of (whole_from (line ++ b ∷ []) bs) ++ open_from (line ++ b ∷ []) bs
    ≡ (line ++ b ∷ []) ++ bs
    → text_of (cond newline (line ∷ whole_from [] bs) (whole_from (line ++ b ∷ []) bs))
    ++ cond newline (open_from [] bs) (open_from (line ++ b ∷ []) bs)
    ≡ line ++ b ∷ bs
whole_by true b line bs is anew more =
    append_assoc (ended line) (text_of (whole_from [] bs)) (open_from [] bs)
    ∙ ap (λ rest. ended line ++ rest) anew
    ∙ append_assoc line (10 ∷ []) bs
    ∙ ap (λ c. line ++ c ∷ bs) (sym (eqb-true b 10 is))
whole_by false b line bs is anew more = more ∙ append_assoc line (b ∷ []) bs

whole_behind : (line bs : List ℕ) → text_of (whole_from line bs) ++ open_from line bs ≡ line ++ bs
whole_behind line [] = sym (append-nil line)
whole_behind line (b ∷ bs) =
    whole_by (eqb b 10) b line bs refl (whole_behind [] bs) (whole_behind (line ++ b ∷ []) bs)

-- a text is its whole lines, and the rest
pub whole_text : (text : List ℕ) → text_of (whole_lines text) ++ open_rest text ≡ text
whole_text text = whole_behind [] text

line_before : (front line text : List ℕ) → IsOneLine line
    → (whole_from front (line ++ 10 ∷ text) ≡ (front ++ line) ∷ whole_lines text)
    × (open_from front (line ++ 10 ∷ text) ≡ open_rest text)
line_before front [] text plain = (ap (λ l. l ∷ whole_lines text) (sym (append-nil front)), refl)
line_before front (b ∷ line) text plain =
    let parts = and_parts _ _ plain in
    let more : eqb b 10 ≡ false = not-true _ parts.0 in
    let behind = line_before (front ++ b ∷ []) line text parts.1 in
    let same = append_assoc front (b ∷ []) line in
    (rw more (behind.0 ∙ ap (λ l. l ∷ whole_lines text) same), rw more behind.1)

rest_alone : (front rest : List ℕ) → IsOneLine rest
    → (whole_from front rest ≡ []) × (open_from front rest ≡ front ++ rest)
rest_alone front [] plain = (refl, sym (append-nil front))
rest_alone front (b ∷ rest) plain =
    let parts = and_parts _ _ plain in
    let more : eqb b 10 ≡ false = not-true _ parts.0 in
    let behind = rest_alone (front ++ b ∷ []) rest parts.1 in
    (rw more behind.0, rw more (behind.1 ∙ append_assoc front (b ∷ []) rest))

-- the first line of a text
pub ended_more : (line text : List ℕ) → IsOneLine line
    → (whole_lines (ended line ++ text) ≡ line ∷ whole_lines text)
    × (open_rest (ended line ++ text) ≡ open_rest text)
ended_more line text plain =
    let is = append_assoc line (10 ∷ []) text in
    let first = line_before [] line text plain in
    (ap whole_lines is ∙ first.0, ap open_rest is ∙ first.1)

-- lines, and a rest without a newline, are the whole lines and the rest of their text
pub cut_again : (lines : List (List ℕ)) (rest : List ℕ) → AllByRecursion IsOneLine lines
    → IsOneLine rest
    → (whole_lines (text_of lines ++ rest) ≡ lines) × (open_rest (text_of lines ++ rest) ≡ rest)
cut_again [] rest plain last = rest_alone [] rest last
cut_again (line ∷ lines) rest plain last =
    let text = append_assoc (ended line) (text_of lines) rest in
    let more = ended_more line (text_of lines ++ rest) plain.0 in
    let behind = cut_again lines rest plain.1 last in (
      ap whole_lines text ∙ more.0 ∙ ap (λ l. line ∷ l) behind.0,
      ap open_rest text ∙ more.1 ∙ behind.1,
    )
