-- One line after another, and what follows.
use Rattle.std.proofs.Common.{◌⊎◌, inl, inr, ◌≡◌, ℕ, zero, suc, ◌+◌, ◌<◌, Bool, true, false, cond}
use Rattle.std.proofs.Common.{eqb, not, List, [], ◌∷◌, ◌++◌, length, refl, ap, sym, ◌∙◌}
use Rattle.std.proofs.Common.{append_assoc, arith}
use Rattle.std.specs.List.{list_all, onto_first}
use Rattle.std.proofs.lemmas.Bool.{and_parts, not-true}
use Rattle.std.proofs.lemmas.List.{append-nil}
use Rattle.texts.specs.Lines.{lines_of, is_one_line, whole_from, whole_lines}
use Rattle.texts.specs.Limits.{behind_lines}

-- a way to part a text into lines, by which a line that ends at a newline is the first
abbrev pub PartsLines : (List ℕ → List (List ℕ)) → Type 0
PartsLines split =
    (line rest : List ℕ) → is_one_line line ≡ true → split (line ++ 10 ∷ rest) ≡ line ∷ split rest

-- a line without newline, its newline, and what follows
pub line_first : (line rest : List ℕ) → is_one_line line ≡ true
    → lines_of (line ++ 10 ∷ rest) ≡ line ∷ lines_of rest
line_first [] rest plain = refl
line_first (b ∷ bs) rest plain =
    let p = and_parts (not (eqb b 10)) (list_all (λ c. not (eqb c 10)) bs) plain in
    rw (not-true (eqb b 10) p.0, line_first bs rest p.1) refl

-- a line that ends with the text
pub line_last : (line : List ℕ) → 0 < length line → is_one_line line ≡ true
    → lines_of line ≡ line ∷ []
line_last [] some plain = absurd (omega arith)
line_last (b ∷ []) some plain =
    let p = and_parts (not (eqb b 10)) true plain in
    rw (not-true (eqb b 10) p.0) refl
line_last (b ∷ c ∷ bs) some plain =
    let p = and_parts (not (eqb b 10)) (list_all (λ c. not (eqb c 10)) (c ∷ bs)) plain in
    rw (not-true (eqb b 10) p.0, line_last (c ∷ bs) (omega arith) p.1) refl

-- the first line of a text that begins with bytes without newline has at least these bytes
pub record Longer (line text : List ℕ) : Type 0 where
  pub more : List ℕ
  pub lines : List (List ℕ)
  pub first : lines_of text ≡ (line ++ more) ∷ lines

onto_longer : (b : ℕ) (line text : List ℕ) → eqb b 10 ≡ false → Longer line text
    → Longer (b ∷ line) (b ∷ text)
onto_longer b line text other h =
    record { more = h.more; lines = h.lines; first = rw (other, h.first) refl }

record SomeLine (lines : List (List ℕ)) : Type 0 where
  line : List ℕ
  behind : List (List ℕ)
  is : lines ≡ line ∷ behind

some_line : (b : Bool) (c : ℕ) (ls : List (List ℕ)) → SomeLine (cond b ([] ∷ ls) (onto_first c ls))
some_line true c ls = record { line = []; behind = ls; is = refl }
some_line false c [] = record { line = c ∷ []; behind = []; is = refl }
some_line false c (l ∷ ls) = record { line = c ∷ l; behind = ls; is = refl }

pub longer_line : (line rest : List ℕ) → 0 < length line + length rest → is_one_line line ≡ true
    → Longer line (line ++ rest)
longer_line [] [] some plain = absurd (omega arith)
longer_line [] (c ∷ rest) some plain =
    let h = some_line (eqb c 10) c (lines_of rest) in
    record { more = h.line; lines = h.behind; first = h.is }
longer_line (b ∷ []) [] some plain =
    let p = and_parts (not (eqb b 10)) true plain in
    record { more = []; lines = []; first = rw (not-true (eqb b 10) p.0) refl }
longer_line (b ∷ []) (c ∷ rest) some plain =
    let p = and_parts (not (eqb b 10)) true plain in
    onto_longer b [] (c ∷ rest) (not-true (eqb b 10) p.0)
    (longer_line [] (c ∷ rest) (omega arith) refl)
longer_line (b ∷ d ∷ bs) rest some plain =
    let p = and_parts (not (eqb b 10)) (list_all (λ c. not (eqb c 10)) (d ∷ bs)) plain in
    onto_longer b (d ∷ bs) ((d ∷ bs) ++ rest) (not-true (eqb b 10) p.0)
    (longer_line (d ∷ bs) rest (omega arith) p.1)

-- one more line is left behind
pub behind_line : (n : ℕ) (line rest : List ℕ) → is_one_line line ≡ true
    → behind_lines (suc n) (line ++ 10 ∷ rest) ≡ behind_lines n rest
behind_line n [] rest plain = refl
behind_line n (b ∷ bs) rest plain =
    let p = and_parts (not (eqb b 10)) (list_all (λ c. not (eqb c 10)) bs) plain in
    rw (not-true (eqb b 10) p.0) (behind_line n bs rest p.1)

behind_end : (m : ℕ) → [] ≡ behind_lines m []
behind_end zero = refl
behind_end (suc m) = refl

behind_by : (newline : Bool) (n m : ℕ) (bs : List ℕ)
    → behind_lines (n + m) bs ≡ behind_lines m (behind_lines n bs)
    → behind_lines (suc (n + m)) bs ≡ behind_lines m (behind_lines (suc n) bs)
    → cond newline (behind_lines (n + m) bs) (behind_lines (suc (n + m)) bs)
    ≡ behind_lines m (cond newline (behind_lines n bs) (behind_lines (suc n) bs))
behind_by true n m bs a b = a
behind_by false n m bs a b = b

-- some lines are left behind, and then some more
pub behind_both : (n m : ℕ) (bytes : List ℕ)
    → behind_lines (n + m) bytes ≡ behind_lines m (behind_lines n bytes)
behind_both zero m bytes = let e : 0 + m ≡ m = omega arith in ap (λ k. behind_lines k bytes) e
behind_both (suc n) m [] =
    let e : suc n + m ≡ suc (n + m) = omega arith in
    ap (λ k. behind_lines k []) e ∙ behind_end m
behind_both (suc n) m (b ∷ bs) =
    let e : suc n + m ≡ suc (n + m) = omega arith in
    ap (λ k. behind_lines k (b ∷ bs)) e
    ∙ behind_by (eqb b 10) n m bs (behind_both n m bs)
    (ap (λ k. behind_lines k bs) (sym e) ∙ behind_both (suc n) m bs)

-- a line without newline that ends the text is left behind
pub behind_last : (n : ℕ) (line : List ℕ) → is_one_line line ≡ true → behind_lines (suc n) line ≡ []
behind_last n [] plain = refl
behind_last n (b ∷ bs) plain =
    let p = and_parts (not (eqb b 10)) (list_all (λ c. not (eqb c 10)) bs) plain in
    rw (not-true (eqb b 10) p.0) (behind_last n bs p.1)

whole_more : (acc line rest : List ℕ) → is_one_line line ≡ true
    → whole_from acc (line ++ 10 ∷ rest) ≡ (acc ++ line) ∷ whole_lines rest
whole_more acc [] rest plain = ap (λ (l : List ℕ). l ∷ whole_lines rest) (sym (append-nil acc))
whole_more acc (b ∷ bs) rest plain =
    let p = and_parts (not (eqb b 10)) (list_all (λ c. not (eqb c 10)) bs) plain in
    rw (not-true (eqb b 10) p.0) (whole_more (acc ++ b ∷ []) bs rest p.1
    ∙ ap (λ (l : List ℕ). l ∷ whole_lines rest) (append_assoc acc (b ∷ []) bs))

whole_none : (acc line : List ℕ) → is_one_line line ≡ true → whole_from acc line ≡ []
whole_none acc [] plain = refl
whole_none acc (b ∷ bs) plain =
    let p = and_parts (not (eqb b 10)) (list_all (λ c. not (eqb c 10)) bs) plain in
    rw (not-true (eqb b 10) p.0) (whole_none (acc ++ b ∷ []) bs p.1)

pub lines_part : PartsLines lines_of
lines_part line rest plain = line_first line rest plain

pub whole_part : PartsLines whole_lines
whole_part line rest plain = whole_more [] line rest plain

pub whole_open : (line : List ℕ) → is_one_line line ≡ true → whole_lines line ≡ []
whole_open line plain = whole_none [] line plain

-- The first of the whole lines of a text that begins with bytes without newline has at least these
-- bytes, if there is one.
pub record WholeLonger (line text : List ℕ) : Type 0 where
  pub more : List ℕ
  pub lines : List (List ℕ)
  pub first : whole_lines text ≡ (line ++ more) ∷ lines

-- what whole lines there are, if so much of the first was read before
abbrev pub SomeWhole : (acc rest : List ℕ) → Type 0
SomeWhole acc rest =
    (whole_from acc rest ≡ [])
    ⊎ ((more : List ℕ) × (lines : List (List ℕ)) × (whole_from acc rest ≡ (acc ++ more) ∷ lines))

some_further : (acc : List ℕ) (b : ℕ) (bs : List ℕ) → eqb b 10 ≡ false
    → SomeWhole (acc ++ b ∷ []) bs → SomeWhole acc (b ∷ bs)
some_further acc b bs is (inl none) = inl (rw is none)
some_further acc b bs is (inr (more, lines, h)) =
    inr (
      b ∷ more,
      lines,
      rw is (h
          ∙ ap (λ (l : List ℕ). l ∷ lines) (append_assoc acc (b ∷ []) more)),
    )

some_whole_by : (acc : List ℕ) (b : ℕ) (bs : List ℕ) (test : Bool) → eqb b 10 ≡ test
    → SomeWhole (acc ++ b ∷ []) bs → SomeWhole acc (b ∷ bs)
some_whole_by acc b bs true is further =
    inr ([], whole_lines bs, rw is (ap (λ (l : List ℕ). l ∷ whole_lines bs) (sym (append-nil acc))))
some_whole_by acc b bs false is further = some_further acc b bs is further

some_whole : (acc rest : List ℕ) → SomeWhole acc rest
some_whole acc [] = inl refl
some_whole acc (b ∷ bs) = some_whole_by acc b bs (eqb b 10) refl (some_whole (acc ++ b ∷ []) bs)

whole_after : (acc line rest : List ℕ) → is_one_line line ≡ true
    → whole_from acc (line ++ rest) ≡ whole_from (acc ++ line) rest
whole_after acc [] rest plain = ap (λ (l : List ℕ). whole_from l rest) (sym (append-nil acc))
whole_after acc (b ∷ bs) rest plain =
    let p = and_parts (not (eqb b 10)) (list_all (λ c. not (eqb c 10)) bs) plain in
    rw (not-true (eqb b 10) p.0) (whole_after (acc ++ b ∷ []) bs rest p.1
    ∙ ap (λ (l : List ℕ). whole_from l rest) (append_assoc acc (b ∷ []) bs))

whole_found : (line rest : List ℕ) → is_one_line line ≡ true → SomeWhole line rest
    → (whole_lines (line ++ rest) ≡ []) ⊎ WholeLonger line (line ++ rest)
whole_found line rest plain (inl none) = inl (whole_after [] line rest plain ∙ none)
whole_found line rest plain (inr (more, lines, h)) =
    inr (record { more = more; lines = lines; first = whole_after [] line rest plain ∙ h })

pub longer_whole : (line rest : List ℕ) → is_one_line line ≡ true
    → (whole_lines (line ++ rest) ≡ []) ⊎ WholeLonger line (line ++ rest)
longer_whole line rest plain = whole_found line rest plain (some_whole line rest)
