-- What was found stays found.
use Rattle.std.proofs.Common.{◌≡◌, ℕ, zero, suc, ◌+◌, ◌-◌, ◌≤◌, Bool, true, Option, Some, None}
use Rattle.std.proofs.Common.{refl, sym, ap, ◌∙◌, arith}
use Rattle.std.specs.Prelude.{is_some}
use Rattle.std.proofs.lemmas.Bool.{true≢false}
use Rattle.run_explanations.specs.declared.explanations.Explanation.{Explanation}
use Rattle.run_explanations.specs.declared.seeing.Observation.{Observation}
use Rattle.run_explanations.specs.Searching.{first_or, explained_at, found_before}

module _ (beat : ℕ) (faulty : ℕ → Bool) (last from : ℕ) (seen_at : ℕ → Option Observation) where
  abbrev found : ℕ → Option Explanation
  found c = found_before beat faulty last from seen_at c

  stays : (e : Explanation) (c d : ℕ) → found c ≡ Some e → found (c + d) ≡ Some e
  stays e c zero is =
      let here : c + 0 ≡ c = omega arith in
      ap found here ∙ is
  stays e c (suc d) is =
      let step : c + suc d ≡ suc (c + d) = omega arith in
      ap found step ∙ ap (λ (o : Option Explanation).
      first_or o (explained_at beat faulty last from seen_at (c + d))) (stays e c d is)

  by_known : (known : Option Explanation) (c d : ℕ) → found c ≡ known → is_some known ≡ true
      → 1 ≤ d → found (c + 1) ≡ found (c + d)
  by_known None c d is some le = absurd (true≢false (sym some))
  by_known (Some e) c d is some le = stays e c 1 is ∙ sym (stays e c d is)

  -- with the next configuration as much is found as with all, if something was
  pub found_in_all : (c : ℕ) → c ≤ last
      → is_some (found_before beat faulty last from seen_at c) ≡ true
      → found_before beat faulty last from seen_at (c + 1)
      ≡ found_before beat faulty last from seen_at (last + 1)
  found_in_all c le some =
      let d : ℕ = last + 1 - c in
      let end : c + d ≡ last + 1 = omega (arith, le) in
      by_known (found c) c d refl some (omega (arith, le)) ∙ ap found end
