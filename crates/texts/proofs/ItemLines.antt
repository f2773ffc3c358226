-- The text of a part whose lines are items in a row, and `end`: the items are read back.
use Rattle.std.proofs.Common.{◌≡◌, ℕ, ◌+◌, List, [], ◌∷◌, ◌++◌, length, Result, Ok, sym, ap, subst}
use Rattle.std.proofs.Common.{◌∙◌, append_assoc, refl, arith}
use Rattle.std.specs.Prelude.{codes}
use Rattle.std.proofs.lemmas.List.{append-nil, length_push}
use Rattle.texts.specs.Lines.{lines_of}
use Rattle.texts.specs.Words.{text_of}
use Rattle.texts.specs.Parts.{Next, ends, Found, At, with_skips, part_from}
use Rattle.texts.proofs.Printed.{IsPlain, ends_there}

pub one_plain : IsPlain (codes "1")
one_plain = record { some = omega arith; above = refl }

pub end_plain : IsPlain (codes "end")
end_plain = record { some = omega arith; above = refl }

-- one line before more
pub text_more : (line : List ℕ) (lines : List (List ℕ)) (rest : List ℕ)
    → text_of (line ∷ lines) ++ rest ≡ line ++ 10 ∷ (text_of lines ++ rest)
text_more line lines rest = simp append_assoc

-- A reader that has read some items goes on after the line of one more, if all are good, and ends
-- with the value of all. `lines` are those of items, of which so many stand before.
module _ {S V R X : Type 0} (step : S → List ℕ → Next S V R) (form : R) (state : List X → S)
    (value : List X → V) (line : ℕ → X → List ℕ) (lines : ℕ → List X → List (List ℕ))
    (no_lines : (n : ℕ) → lines n [] ≡ [])
    (one_more : (n : ℕ) (x : X) (xs : List X) → lines n (x ∷ xs) ≡ line n x ∷ lines (n + 1) xs)
    (good : List X → Type 0)
    (one_read : (done more : List X) (x : X) → good (done ++ x ∷ more)
    → (taken number : ℕ) (rest : List ℕ)
    → part_from (with_skips step form) form (state done) taken number
    (lines_of (line (length done) x ++ 10 ∷ rest))
    ≡ part_from (with_skips step form) form (state (done ++ x ∷ [])) (taken + 1) (number + 1)
    (lines_of rest))
    (end_step : (xs : List X) → good xs → step (state xs) (codes "end") ≡ ends (value xs)) where
  abbrev read_on : S → (taken number : ℕ) → List ℕ → Result (Found V) (At R)
  read_on s taken number text =
      part_from (with_skips step form) form s taken number (lines_of text)

  abbrev ended : ℕ → List X → List (List ℕ)
  ended n xs = lines n xs ++ codes "end" ∷ []

  pub items_read : (done more : List X) (taken number : ℕ) (rest : List ℕ) → good (done ++ more)
      → read_on (state done) taken number (text_of (ended (length done) more) ++ rest)
      ≡ Ok (record {
        value = value (done ++ more);
        taken = taken + (length more + 1);
        behind = lines_of rest;
      })
  items_read done [] taken number rest are =
      let none : done ++ [] ≡ done = append-nil done in
      ap (λ (ls : List (List ℕ)). read_on (state done) taken number
      (text_of (ls ++ codes "end" ∷ []) ++ rest)) (no_lines (length done))
      ∙ ap (read_on (state done) taken number) (text_more (codes "end") [] rest)
      ∙ ends_there step form (codes "end") [] rest (end_plain, tt) (omega arith) refl
      (state done) taken number (value done) (end_step done (subst good none are))
      ∙ rw none refl
  items_read done (x ∷ more) taken number rest are =
      let n = length done in
      let next : n + 1 ≡ length (done ++ x ∷ []) = sym (length_push done x) in
      let same : (done ++ x ∷ []) ++ more ≡ done ++ x ∷ more = append_assoc done (x ∷ []) more in
      let count : taken + 1 + (length more + 1) ≡ taken + (length (x ∷ more) + 1) = omega arith in
      ap (λ (ls : List (List ℕ)). read_on (state done) taken number
      (text_of (ls ++ codes "end" ∷ []) ++ rest)) (one_more n x more)
      ∙ ap (read_on (state done) taken number) (text_more (line n x) (ended (n + 1) more) rest)
      ∙ one_read done more x are taken number (text_of (ended (n + 1) more) ++ rest)
      ∙ ap (λ (m : ℕ). read_on (state (done ++ x ∷ [])) (taken + 1) (number + 1)
      (text_of (ended m more) ++ rest)) next
      ∙ items_read (done ++ x ∷ []) more (taken + 1) (number + 1) rest (subst good (sym same) are)
      ∙ rw (same, count) refl
