-- Parts within a limit, and without one.
use Rattle.std.proofs.Common.{◌≡◌, ℕ, ◌+◌, Bool, true, false, eqb, not, List, [], ◌∷◌, ◌++◌, Option}
use Rattle.std.proofs.Common.{Result, Ok, Err, refl, ap, ◌∙◌}
use Rattle.std.specs.Prelude.{IfOk, if◌then◌else◌}
use Rattle.std.proofs.lemmas.Bool.{and_parts}
use Rattle.texts.specs.Lines.{lines_of, is_one_line, whole_from, whole_lines}
use Rattle.texts.specs.Parts.{Next, goes, ends, refuses, Found, At, part_from}
use Rattle.texts.specs.Limits.{Limited, by, beyond, shows, less, with_rest, with_limit}
use Rattle.texts.proofs.LineByLine.{line_first}
use Rattle.edge_io.specs.FedParts.{limited_part}

-- a part that was found, with the room left out
abbrev pub without_room : {V : Type 0} → Found (Option ℕ × V) → Found V
without_room found =
    record { value = found.value.1; taken = found.taken; behind = found.behind }

module _ {S V R : Type 0} (step : S → List ℕ → Next S V R) (form : R) where
  -- a part that is found within a limit is found without one
  abbrev IsFound : (lines : List (List ℕ)) → Type 0
  IsFound lines = (room : Option ℕ) (s : S) (taken number : ℕ)
      → IfOk (limited_part step form s taken number room lines)
      (λ found. part_from step form s taken number lines ≡ Ok (without_room found))

  found_by : (line : List ℕ) (lines : List (List ℕ)) → IsFound lines
      → (room : Option ℕ) (taken number : ℕ) (test : Bool) (next : Next S V R)
      → IfOk (elim (if test then with_rest room next else refuses beyond)
      as (λ _. Result (Found (Option ℕ × V)) (At (Limited R))) [
        | goes t ↦ part_from (with_limit step) (by form) t (taken + 1) (number + 1) lines
        | ends v ↦ Ok (record { value = v; taken = taken + 1; behind = lines })
        | refuses r ↦ Err (record { line = number; rule = r })
      ])
      (λ found. elim next as (λ _. Result (Found V) (At R)) [
        | goes t ↦ part_from step form t (taken + 1) (number + 1) lines
        | ends v ↦ Ok (record { value = v; taken = taken + 1; behind = lines })
        | refuses r ↦ Err (record { line = number; rule = r })
      ] ≡ Ok (without_room found))
  found_by line lines further room taken number true (goes t) =
      further room t (taken + 1) (number + 1)
  found_by line lines further room taken number true (ends v) = refl
  found_by line lines further room taken number true (refuses r) = tt
  found_by line lines further room taken number false next = tt

  pub is_found : (lines : List (List ℕ)) → IsFound lines
  is_found [] room s taken number = tt
  is_found (line ∷ lines) room s taken number =
      found_by line lines (is_found lines) (less room line) taken number (shows room line)
      (step s line)

-- ---- whole lines are the lines of a text

pub record IsText (lines : List (List ℕ)) : Type 0 where
  pub text : List ℕ
  pub is : lines_of text ≡ lines

-- a line that is read byte by byte, so much of it before
grows : (line : List ℕ) (b : ℕ) → is_one_line line ≡ true → eqb b 10 ≡ false
    → is_one_line (line ++ b ∷ []) ≡ true
grows [] b plain other = rw other refl
grows (c ∷ line) b plain other =
    let p = and_parts (not (eqb c 10)) (is_one_line line) plain in
    rw (p.0, grows line b p.1 other) refl

text_by : (line : List ℕ) (b : ℕ) (bytes : List ℕ) → is_one_line line ≡ true
    → (newline : Bool) → eqb b 10 ≡ newline
    → ((front : List ℕ) → is_one_line front ≡ true → IsText (whole_from front bytes))
    → IsText (if newline then line ∷ whole_from [] bytes else whole_from (line ++ b ∷ []) bytes)
text_by line b bytes plain true is further =
    let behind = further [] refl in
    record {
      text = line ++ 10 ∷ behind.text;
      is = line_first line behind.text plain ∙ ap (λ (l : List (List ℕ)). line ∷ l) behind.is;
    }
text_by line b bytes plain false is further = further (line ++ b ∷ []) (grows line b plain is)

text_from : (line bytes : List ℕ) → is_one_line line ≡ true → IsText (whole_from line bytes)
text_from line [] plain = record { text = []; is = refl }
text_from line (b ∷ bytes) plain =
    text_by line b bytes plain (eqb b 10) refl (λ front one. text_from front bytes one)

pub whole_text : (bytes : List ℕ) → IsText (whole_lines bytes)
whole_text bytes = text_from [] bytes refl
