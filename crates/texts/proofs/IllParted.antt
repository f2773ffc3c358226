-- An ill parted line is refused.
use Rattle.std.proofs.Common.{◌≡◌, ℕ, ◌+◌, Bool, true, false, List, [], ◌∷◌, ◌++◌, length, Result}
use Rattle.std.proofs.Common.{Ok, Err, refl, ap, arith, ◌⊎◌, inl, inr}
use Rattle.std.specs.Prelude.{not, ◌&&◌, nat_lt, ◌==◌, if◌then◌else◌}
use Rattle.std.proofs.lemmas.List.Folds.{list_any_at}
use Rattle.texts.specs.Lines.{words_of, is_well_parted}
use Rattle.texts.specs.Parts.{Next, goes, ends, refuses, Found, At, with_skips, part_from}
use Rattle.texts.specs.IllParted.{IsIllParted, IllPartedLineIsRefused, IllPartedLineRefusesPart}

-- either of two tests that passed
either_fails : (a b : Bool) → (a ≡ true) ⊎ (b ≡ true) → (not a && not b) ≡ false
either_fails true b h = refl
either_fails false true h = refl
either_fails false false (inl e) = absurd cc
either_fails false false (inr e) = absurd cc

-- the test finds a line ill parted
pub ill_parted : (line : List ℕ) → IsIllParted line → is_well_parted line ≡ false
ill_parted line (inl word) =
    let empty = list_any_at (λ w. length w == 0) (words_of line) word.0 [] word.1 (rw word.2 refl)
    in
    either_fails _ _ (inl empty)
ill_parted line (inr byte) =
    either_fails _ _ (inr (list_any_at (λ b. b == 13) line byte.0 13 byte.1 (rw byte.2 refl)))

-- the same either way
same_either : {X : Type 0} (b : Bool) (x : X) → (if b then x else x) ≡ x
same_either true x = refl
same_either false x = refl

-- a line that counts and is ill parted is refused, for its length or for its parting
pub line_refused : (S V R : Type 0) → IllPartedLineIsRefused S V R
line_refused S V R step form s line counts ill =
    let refused : Next S V R = refuses form in
    rw (counts, ill_parted line ill) (same_either (nat_lt 4096 (length line)) refused)

-- the line of a refusal
abbrev refused_line : {V R : Type 0} → Result (Found V) (At R) → ℕ
refused_line (Ok found) = 0
refused_line (Err at) = at.line

module _ {S V R : Type 0} (step : S → List ℕ → Next S V R) (form : R) where
  -- a line that no state takes refuses the part, if the lines before it don't
  refused_behind : (front behind : List (List ℕ)) (line : List ℕ) (s : S) (taken number : ℕ)
      → ((t : S) → step t line ≡ refuses form)
      → part_from step form s taken number front
      ≡ Err (record { line = number + length front; rule = form })
      → part_from step form s taken number (front ++ line ∷ behind)
      ≡ Err (record { line = number + length front; rule = form })
  refused_behind [] behind line s taken number refused h = rw (refused s) h
  refused_behind (l ∷ front) behind line s taken number refused h =
      let far : number + length (l ∷ front) ≡ number + 1 + length front = omega arith in
      let from : List (List ℕ) → Next S V R → Result (Found V) (At R) =
      λ lines next. elim next as (λ _. Result (Found V) (At R)) [
        | goes t ↦ part_from step form t (taken + 1) (number + 1) lines
        | ends v ↦ Ok (record { value = v; taken = taken + 1; behind = lines })
        | refuses r ↦ Err (record { line = number; rule = r })
      ] in
      let there : Result (Found V) (At R) =
      Err (record { line = number + length (l ∷ front); rule = form }) in
      let goal : Next S V R → Type 0 = λ next.
      from front next ≡ there → from (front ++ line ∷ behind) next ≡ there in
      let onward : (t : S) → goal (goes t) = λ t k.
      rw far (refused_behind front behind line t (taken + 1) (number + 1) refused (rw far at k)) in
      let past : (r : R) → goal (refuses r) = λ r k.
      let e : number ≡ number + length (l ∷ front) = ap refused_line k in
      absurd (omega (arith, e)) in
      let cases : (next : Next S V R) → goal next = λ next. elim next as goal [
        | goes t ↦ onward t
        | ends v ↦ λ k. absurd cc
        | refuses r ↦ past r
      ] in
      cases (step s l) h

-- an ill parted line refuses the part
pub part_refused : (S V R : Type 0) → IllPartedLineRefusesPart S V R
part_refused S V R step form s taken number front behind line counts ill h =
    refused_behind (with_skips step form) form front behind line s taken number
    (λ t. line_refused S V R step form t line counts ill) h
