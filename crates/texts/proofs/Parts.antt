-- What holds of each value that a part can end with.
use Rattle.std.proofs.Common.{◌≡◌, ℕ, ◌+◌, Bool, true, false, List, [], ◌∷◌, length, Result, Ok}
use Rattle.std.proofs.Common.{Err, ap, arith}
use Rattle.std.specs.Prelude.{IfOk, nat_lt, if◌then◌else◌}
use Rattle.texts.specs.Lines.{is_well_parted}
use Rattle.texts.specs.Parts.{Next, goes, ends, refuses, goes_on, Found, At, is_skipped}
use Rattle.texts.specs.Parts.{with_skips, part_from}

-- a state that is kept, or a value that is good
abbrev pub After : {S V R : Type 0} → (S → Type 0) → (V → Type 0) → Next S V R → Type 0
After P Q (goes t) = P t
After P Q (ends v) = Q v
After P Q (refuses r) = Unit {0}

-- what either of two steps keeps, their choice keeps
pub after_if : {S V R : Type 0} (P : S → Type 0) (Q : V → Type 0) (b : Bool) (x y : Next S V R)
    → After P Q x → After P Q y → After P Q (if b then x else y)
after_if P Q true x y h k = h
after_if P Q false x y h k = k

-- what holds of what is made of a line, a part that goes on with it keeps
pub goes_on_keeps : {S V R X : Type 0} (P : S → Type 0) (Q : V → Type 0) (make : X → S)
    (fits : X → Type 0) (read : Result X R) → IfOk read fits → ((x : X) → fits x → P (make x))
    → After P Q (goes_on make read)
goes_on_keeps P Q make fits (Ok x) is next = next x is
goes_on_keeps P Q make fits (Err r) is next = tt

-- what a step keeps of the lines that count, it keeps of all
pub skips_keep : {S V R : Type 0} (step : S → List ℕ → Next S V R) (form : R)
    (P : S → Type 0) (Q : V → Type 0) (s : S) (line : List ℕ)
    → P s → After P Q (step s line) → After P Q (with_skips step form s line)
skips_keep step form P Q s line p kept =
    after_if P Q (nat_lt 4096 (length line)) (refuses form) _ tt
    (after_if P Q (is_skipped line) (goes s) _ p
    (after_if P Q (is_well_parted line) (step s line) (refuses form) kept tt))

module _ {S V R : Type 0} (step : S → List ℕ → Next S V R) (form : R)
    (P : S → Type 0) (Q : V → Type 0)
    (kept : (s : S) (line : List ℕ) → P s → After P Q (step s line)) where
  -- what each step keeps, the value at the end has
  pub part_keeps : (lines : List (List ℕ)) (s : S) (taken number : ℕ) → P s
      → IfOk (part_from step form s taken number lines) (λ found. Q found.value)
  part_keeps [] s taken number p = tt
  part_keeps (line ∷ lines) s taken number p =
      let goal : Next S V R → Type 0 = λ next. IfOk (elim next as (λ _. Result (Found V) (At R)) [
        | goes t ↦ part_from step form t (taken + 1) (number + 1) lines
        | ends v ↦ Ok (record { value = v; taken = taken + 1; behind = lines })
        | refuses r ↦ Err (record { line = number; rule = r })
      ]) (λ found. Q found.value) in
      let cases : (next : Next S V R) → After P Q next → goal next =
      λ next. elim next as (λ next. After P Q next → goal next) [
        | goes t ↦ λ q. part_keeps lines t (taken + 1) (number + 1) q
        | ends v ↦ λ q. q
        | refuses r ↦ λ q. tt
      ] in
      cases (step s line) (kept s line p)

-- the same of a part in which lines are skipped, by what each step over a line that counts keeps
pub skipping_keeps : {S V R : Type 0} (step : S → List ℕ → Next S V R) (form : R)
    (P : S → Type 0) (Q : V → Type 0)
    → ((s : S) (line : List ℕ) → P s → After P Q (step s line))
    → (lines : List (List ℕ)) (s : S) (taken number : ℕ) → P s
    → IfOk (part_from (with_skips step form) form s taken number lines) (λ found. Q found.value)
skipping_keeps step form P Q kept =
    part_keeps (with_skips step form) form P Q
    (λ s line p. skips_keep step form P Q s line p (kept s line p))

-- what follows from what holds of the value holds too
pub found_weaker : {V R : Type 0} (P Q : V → Type 0) → ((v : V) → P v → Q v)
    → (read : Result (Found V) (At R)) → IfOk read (λ found. P found.value)
    → IfOk read (λ found. Q found.value)
found_weaker P Q weaker (Ok found) holds = weaker found.value holds
found_weaker P Q weaker (Err at) holds = tt

-- the lines that a part took, and those after it, are all lines
module _ {S V R : Type 0} (step : S → List ℕ → Next S V R) (form : R) where
  pub counts_all : (lines : List (List ℕ)) (s : S) (taken number : ℕ) (found : Found V)
      → part_from step form s taken number lines ≡ Ok found
      → taken + length lines ≡ found.taken + length found.behind
  counts_all [] s taken number found is = absurd cc
  counts_all (line ∷ lines) s taken number found is =
      let goal : Next S V R → Type 0 = λ next. (elim next as (λ _. Result (Found V) (At R)) [
        | goes t ↦ part_from step form t (taken + 1) (number + 1) lines
        | ends v ↦ Ok (record { value = v; taken = taken + 1; behind = lines })
        | refuses r ↦ Err (record { line = number; rule = r })
      ]) ≡ Ok found → taken + length (line ∷ lines) ≡ found.taken + length found.behind in
      let cases : (next : Next S V R) → goal next =
      λ next. elim next as goal [
        | goes t ↦ λ e.
            let rest = counts_all lines t (taken + 1) (number + 1) found e in omega (arith, rest)
        | ends v ↦ λ e.
            let same : record { value = v; taken = taken + 1; behind = lines } ≡ found = cc in
            let count : taken + 1 ≡ found.taken = ap (λ (f : Found V). f.taken) same in
            let left : length lines ≡ length found.behind =
            ap (λ (f : Found V). length f.behind) same in
            omega (arith, count, left)
        | refuses r ↦ λ e. absurd cc
      ] in
      cases (step s line) is
