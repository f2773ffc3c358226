-- One more line of a trace stands in its place.
use Rattle.std.proofs.Common.{◌≡◌, ℕ, ◌+◌, ◌-◌, ◌<◌, ◌≤◌, inl, inr, true, false, take, length}
use Rattle.std.proofs.Common.{get_or, List, sym, ap, subst, ◌∙◌, arith}
use Rattle.std.specs.List.{count_by}
use Rattle.std.proofs.lemmas.Bool.{cases_lt}
use Rattle.std.proofs.lemmas.List.{get_or_default}
use Rattle.std.proofs.lemmas.List.Sums.{count_by_more_no, count_by_more_yes}
use Rattle.trace_pictures.specs.declared.traces.Note.{Note}
use Rattle.trace_pictures.specs.declared.traces.Level.{Level}
use Rattle.trace_pictures.specs.TraceLaid.{shows, IsNoteLaid, IsLaidAt}

module _ (notes : List Note) (k : ℕ) (lt : k < length notes) (note : Note)
    (is : note ≡ get_or notes k note) where
  pub count_yes : shows note ≡ true
      → count_by shows (take (k + 1) notes) ≡ count_by shows (take k notes) + 1
  count_yes output = count_by_more_yes shows notes k note lt (ap shows (sym is) ∙ output)

  pub count_no : shows note ≡ false
      → count_by shows (take (k + 1) notes) ≡ count_by shows (take k notes)
  count_no no_output = count_by_more_no shows notes k note lt (ap shows (sym is) ∙ no_output)

  at_any : (d : Note) → note ≡ get_or notes k d
  at_any d = is ∙ get_or_default notes k note d lt

  pub laid_more : (levels : List Level) (nodes : ℕ) (ids : List ℕ) (new : ℕ)
      → new ≡ count_by shows (take (k + 1) notes) → 1 ≤ new
      → IsNoteLaid levels nodes ids (new - 1) note
      → ((j : ℕ) (d : Note) → j < k → IsLaidAt levels nodes ids notes j d)
      → (j : ℕ) (d : Note) → j < k + 1 → IsLaidAt levels nodes ids notes j d
  laid_more levels nodes ids new count some laid before j d within = elim (cases_lt j k) [
    | inl earlier ↦ before j d earlier
    | inr late ↦
        let same : k ≡ j = omega (arith, late, within) in
        subst (λ i. IsLaidAt levels nodes ids notes i d) same (record {
          some = omega (arith, some, count);
          laid = subst (λ x. IsNoteLaid levels nodes ids (x - 1) (get_or notes k d)) count
              (subst (IsNoteLaid levels nodes ids (new - 1)) (at_any d) laid);
        })
  ]
