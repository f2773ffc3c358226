-- In a locked group a register that is locked too goes on, whatever is heard and whatever the beat.
use Rattle.std.proofs.Common.{◌≡◌, ℕ, ◌+◌, ◌<◌, Bool, false, cond, Option, None, refl, ap, ◌∙◌}
use Rattle.std.proofs.Common.{arith}
use Rattle.std.proofs.lemmas.List.FromFn.{length-map-range_with_len, get_or-map-range_with_len}
use Rattle.sync_types.specs.declared.states.Reg.{Reg}
use Rattle.construction.specs.PhaseKing.{instructed, locked_at}
use Rattle.phase_king.specs.Hearing.{Hears}
use Rattle.phase_king.proofs.Rounds.{locked_on}
use Rattle.phase_king.specs.Groups.{values_heard, IsLockedGroup}

module _ (first n f : ℕ) (liars : ℕ → Bool) (registers : ℕ → Reg) (value : ℕ)
    (group : IsLockedGroup first n f liars registers value) (told : ℕ → Option ℕ) where
  value_of : ℕ → Option ℕ
  value_of u = cond (liars u) (told u) (registers u).a

  true_of_correct : (u : ℕ) → u < n → liars (first + u) ≡ false
      → value_of (first + u) ≡ (registers (first + u)).a
  unfolding value_of
  true_of_correct u lt h = ap (λ b. cond b (told (first + u)) (registers (first + u)).a) h

  heard : Hears n (λ i. liars (first + i)) (λ i. registers (first + i))
      (values_heard first n liars registers told)
  unfolding value_of
  heard = record {
    size = length-map-range_with_len value_of first n;
    honest =
        λ u lt ok. get_or-map-range_with_len value_of first n u (first + u) None lt refl
        ∙ true_of_correct u lt ok;
  }

  -- the step of any register that is locked at the group's value
  pub locked_goes_on : (next : ℕ → ℕ) (kind king : ℕ)
      → instructed n f next kind (locked_at value) (values_heard first n liars registers told) king
      ≡ locked_at (next value)
  locked_goes_on next kind king =
      locked_on n f next (λ i. liars (first + i)) group.quorum group.few
      (λ i. registers (first + i)) value
      (λ i lt ok. group.locked (first + i) (omega arith) (omega arith) ok) kind king
      (values_heard first n liars registers told) heard
