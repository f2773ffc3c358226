-- The first line of a text that ends with a newline.
use Rattle.std.proofs.Common.{◌≡◌, ℕ, suc, ◌+◌, ◌<◌, ◌≤◌, Bool, true, false, cond, eqb, not, Some}
use Rattle.std.proofs.Common.{None, List, [], ◌∷◌, ◌++◌, length, take, drop, refl, sym, ap, ◌∙◌}
use Rattle.std.proofs.Common.{append_assoc, arith}
use Rattle.std.specs.List.{position, position_or_len}
use Rattle.std.proofs.lemmas.List.{append-nil}
use Rattle.texts.specs.Lines.{whole_from, whole_lines}
use Rattle.texts.proofs.Lines.{found, found_in, missing}
use Rattle.texts.specs.Words.{open_from, open_rest}

abbrev place : List ℕ → ℕ
place text = position_or_len (λ b. eqb b 10) text

-- what is whole and what is open, if the first newline stands at n
record Parted (front text : List ℕ) (n : ℕ) : Type 0 where
  pub lines : whole_from front text ≡ (front ++ take n text) ∷ whole_lines (drop (n + 1) text)
  pub behind : open_from front text ≡ open_rest (drop (n + 1) text)

parted_more : (newline : Bool) (front : List ℕ) (b : ℕ) (bs : List ℕ) (n : ℕ) → eqb b 10 ≡ newline
    → cond (not newline) (1 + n) 0 < suc (length bs)
    → (n < length bs → Parted (front ++ b ∷ []) bs n)
    → Parted front (b ∷ bs) (cond (not newline) (1 + n) 0)
parted_more true front b bs n is lt more = record {
  lines = rw is (ap (λ l. l ∷ whole_lines bs) (sym (append-nil front)));
  behind = rw is refl;
}
parted_more false front b bs n is lt more =
    let h = more (omega arith) in
    let k : 1 + n + 1 ≡ suc (n + 1) = omega arith in
    let m : 1 + n ≡ suc n = omega arith in
    record {
      lines =
          rw (is, k, m)
          (h.lines
          ∙ ap (λ l. l ∷ whole_lines (drop (n + 1) bs))
          (append_assoc front (b ∷ []) (take n bs)));
      behind = rw (is, k) h.behind;
    }

parted : (front text : List ℕ) → place text < length text → Parted front text (place text)
parted front [] lt = absurd (omega arith)
parted front (b ∷ bs) lt =
    parted_more (eqb b 10) front b bs (place bs) refl lt
    (λ within. parted (front ++ b ∷ []) bs within)

-- the line that ends at the newline at i
pub whole_at : (text : List ℕ) (i : ℕ) → position (λ b. eqb b 10) text ≡ Some i
    → (whole_lines text ≡ take i text ∷ whole_lines (drop (i + 1) text))
    × (open_rest text ≡ open_rest (drop (i + 1) text))
whole_at text i e =
    let h = parted [] text (found_in (λ b. eqb b 10) text i e) in
    rw (← found (λ b. eqb b 10) text i e) (h.lines, h.behind)

record NoneWhole (front text : List ℕ) : Type 0 where
  pub lines : whole_from front text ≡ []
  pub behind : open_from front text ≡ front ++ text

none_more : (newline : Bool) (front : List ℕ) (b : ℕ) (bs : List ℕ) (n : ℕ) → eqb b 10 ≡ newline
    → suc (length bs) ≤ cond (not newline) (1 + n) 0
    → (length bs ≤ n → NoneWhole (front ++ b ∷ []) bs) → NoneWhole front (b ∷ bs)
none_more true front b bs n is le more = absurd (omega arith)
none_more false front b bs n is le more =
    let h = more (omega arith) in
    record {
      lines = rw is h.lines;
      behind = rw is (h.behind ∙ append_assoc front (b ∷ []) bs);
    }

none : (front text : List ℕ) → length text ≤ place text → NoneWhole front text
none front [] le = record { lines = refl; behind = sym (append-nil front) }
none front (b ∷ bs) le =
    none_more (eqb b 10) front b bs (place bs) refl le (λ past. none (front ++ b ∷ []) bs past)

-- a text without a newline
pub none_whole : (text : List ℕ) → position (λ b. eqb b 10) text ≡ None
    → (whole_lines text ≡ []) × (open_rest text ≡ text)
none_whole text e =
    let h = none [] text (missing (λ b. eqb b 10) text e) in (h.lines, h.behind)
