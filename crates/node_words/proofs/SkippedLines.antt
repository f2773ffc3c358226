-- What reads lines one by one sees nothing of a skipped one, whatever is made of them: only the
-- numbers of lines after it are one more.
use Rattle.std.proofs.Common.{◌≡◌, ℕ, ◌+◌, ◌<◌, ◌≤◌, List, [], ◌∷◌, ◌++◌, length, Result, Ok, Err}
use Rattle.std.proofs.Common.{refl, sym, ap, ◌∙◌, arith}
use Rattle.std.proofs.lemmas.Bool.{le-leb, lt-leb}
use Rattle.texts.specs.Parts.{Next, goes, ends, refuses, Found, At, part_from}
use Rattle.node_words.specs.Skips.{further}

-- ---- numbers of lines

pub stays : (k number : ℕ) → number ≤ k → further k number ≡ number
stays k number le = rw (le-leb number k le) refl

pub goes_on : (k number : ℕ) → k < number → further k number ≡ number + 1
goes_on k number lt = rw (lt-leb number k lt) refl

-- ---- a part, and what is read after it

module _ {A V R : Type 0} (refuse : At R → A)
    (next : V → (number : ℕ) → List (List ℕ) → A) where
  -- after a part whose first line has this number
  abbrev pub behind : ℕ → Result (Found V) (At R) → A
  behind number (Err at) = refuse at
  behind number (Ok found) = next found.value (number + found.taken) found.behind

  abbrev pub then_next : {S : Type 0} → (S → List ℕ → Next S V R) → R → S → (number : ℕ)
      → List (List ℕ) → A
  then_next step form s number lines = behind number (part_from step form s 0 number lines)

-- what is made of lines, and the same if one more stands after so many of them
module _ {A : Type 0} (moved : (k : ℕ) → A → A) where
  -- a refusal of a line, by its number
  abbrev pub Moves : {R : Type 0} → (At R → A) → Type 0
  Moves {R} refuse = (k number : ℕ) (rule : R)
      → moved k (refuse (record { line = number; rule = rule }))
      ≡ refuse (record { line = further k number; rule = rule })

  module _ {R : Type 0} (refuse : At R → A) (moves : Moves refuse) (number : ℕ) (rule : R) where
    pub refused_later : (k : ℕ) → k < number
        → refuse (record { line = number + 1; rule = rule })
        ≡ moved k (refuse (record { line = number; rule = rule }))
    refused_later k lt =
        ap (λ n. refuse (record { line = n; rule = rule })) (sym (goes_on k number lt))
        ∙ sym (moves k number rule)

    pub refused_before : (k : ℕ) → number ≤ k
        → refuse (record { line = number; rule = rule })
        ≡ moved k (refuse (record { line = number; rule = rule }))
    refused_before k le =
        ap (λ n. refuse (record { line = n; rule = rule })) (sym (stays k number le))
        ∙ sym (moves k number rule)

  -- If all lines stand one further, and the new one not just before them, so does each refusal. If
  -- a line is put in, so does each refusal after it.
  pub record IsBlind (line : List ℕ) (read : ℕ → List (List ℕ) → A) : Type 0 where
    pub later : (k number : ℕ) (lines : List (List ℕ)) → k + 1 < number
        → read (number + 1) lines ≡ moved k (read number lines)
    pub among : (before lines : List (List ℕ)) (k number : ℕ) → k + 1 ≡ number + length before
        → read number (before ++ line ∷ lines) ≡ moved k (read number (before ++ lines))

  -- the part's step passes over the line
  module _ {S V R : Type 0} (line : List ℕ) (step : S → List ℕ → Next S V R) (form : R)
      (passes : (s : S) → step s line ≡ goes s) (refuse : At R → A) (moves : Moves refuse)
      (next : V → (number : ℕ) → List (List ℕ) → A) (blind : (v : V) → IsBlind line (next v))
    where
      abbrev part : S → (taken number : ℕ) → List (List ℕ) → Result (Found V) (At R)
      part = part_from step form

      abbrev then_on : ℕ → Result (Found V) (At R) → A
      then_on = behind refuse next

      -- when a line was read
      abbrev stepped : Next S V R → (taken number : ℕ) → List (List ℕ) → Result (Found V) (At R)
      stepped r taken number lines = elim r as (λ _. Result (Found V) (At R)) [
        | goes t ↦ part t (taken + 1) (number + 1) lines
        | ends v ↦ Ok (record { value = v; taken = taken + 1; behind = lines })
        | refuses rule ↦ Err (record { line = number; rule = rule })
      ]

      -- read one line further, from one state, if so many lines were taken
      part_later : (lines : List (List ℕ)) (s : S) (k base taken base' taken' number : ℕ)
          → number ≡ base + taken → number + 1 ≡ base' + taken' → k < number
          → then_on base' (part s taken' (number + 1) lines)
          ≡ moved k (then_on base (part s taken number lines))
      part_later [] s k base taken base' taken' number here there lt =
          refused_later refuse moves number form k lt
      part_later (first ∷ lines) s k base taken base' taken' number here there lt =
          let goal : Next S V R → Type 0 = λ r.
          then_on base' (stepped r taken' (number + 1) lines)
          ≡ moved k (then_on base (stepped r taken number lines)) in
          let cases : (r : Next S V R) → goal r = λ r. elim r as goal [
            | goes t ↦ part_later lines t k base (taken + 1) base' (taken' + 1) (number + 1)
                (omega (arith, here)) (omega (arith, there)) (omega (arith, lt))
            | ends v ↦
                let same : base' + (taken' + 1) ≡ base + (taken + 1) + 1 =
                omega (arith, here, there) in
                ap (λ n. next v n lines) same
                ∙ (blind v).later k (base + (taken + 1)) lines (omega (arith, here, lt))
            | refuses rule ↦ refused_later refuse moves number rule k lt
          ] in
          cases (step s first)

      part_among : (before lines : List (List ℕ)) (s : S) (k base taken number : ℕ)
          → number ≡ base + taken → k + 1 ≡ number + length before
          → then_on base (part s taken number (before ++ line ∷ lines))
          ≡ moved k (then_on base (part s taken number (before ++ lines)))
      part_among [] lines s k base taken number here at =
          ap (λ r. then_on base (stepped r taken number lines)) (passes s)
          ∙ part_later lines s k base taken base (taken + 1) number here (omega (arith, here))
          (omega (arith, at))
      part_among (first ∷ before) lines s k base taken number here at =
          let goal : Next S V R → Type 0 = λ r.
          then_on base (stepped r taken number (before ++ line ∷ lines))
          ≡ moved k (then_on base (stepped r taken number (before ++ lines))) in
          let cases : (r : Next S V R) → goal r = λ r. elim r as goal [
            | goes t ↦ part_among before lines t k base (taken + 1) (number + 1)
                (omega (arith, here)) (omega (arith, at))
            | ends v ↦ (blind v).among before lines k (base + (taken + 1)) (omega (arith, here, at))
            | refuses rule ↦
                refused_before refuse moves number rule k (omega (arith, at))
          ] in
          cases (step s first)

      pub part_is_blind : (s : S) → IsBlind line (then_next refuse next step form s)
      part_is_blind s = record {
        later = λ k number lines lt.
            part_later lines s k number 0 (number + 1) 0 number (omega arith) (omega arith)
            (omega (arith, lt));
        among = λ before lines k number at.
            part_among before lines s k number 0 number (omega arith) at;
      }
