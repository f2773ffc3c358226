-- When what the liars say leaves a level's register as it is.
use Rattle.std.proofs.Common.{◌≡◌, ℕ, ◌-◌, ◌/◌, ◌%◌, Bool, true, List, slice_index_or, nat_le}
use Rattle.std.proofs.Common.{Option, Some, None, sym, ap, ◌∙◌}
use Rattle.sync_types.specs.declared.states.Reg.{Reg}
use Rattle.counting.specs.Values.{count_of, least_above}
use Rattle.construction.specs.Plans.{Level, group_size}
use Rattle.construction.specs.Votes.{beat_heard}
use Rattle.construction.specs.PhaseKing.{instructed, locked_at, up}
use Rattle.construction.specs.Steps.{register_after}
use Rattle.phase_king.specs.Groups.{values_heard, IsLockedGroup}
use Rattle.phase_king.proofs.LockedGroups.{locked_goes_on}
use Rattle.phase_king.proofs.Closed.{infinite_stays, zero_closed, one_closed, two_closed}
use Rattle.phase_king.proofs.Closed.{marked_stays}

-- a register that is locked at the value of its locked group goes on, whatever outputs and values
-- are heard
pub locked_register : (first n : ℕ) (level : Level) (liars : ℕ → Bool) (registers : ℕ → Reg)
    (value : ℕ)
    → IsLockedGroup first (group_size level n) level.faults liars registers value →
    (told : ℕ → Option ℕ) (outputs : List ℕ) →
    register_after n level (locked_at value) outputs
    (values_heard first (group_size level n) liars registers told)
    ≡ locked_at (up level.modulus value)
locked_register first n level liars registers value group told outputs =
    locked_goes_on first (group_size level n) level.faults liars registers value group told
    (up level.modulus) (beat_heard level n outputs % 3) (beat_heard level n outputs / 3)

module _ (n : ℕ) (level : Level) (own : Reg) (outputs others : List ℕ) (xs ys : List (Option ℕ))
    (beat : ℕ) (heard : beat_heard level n outputs ≡ beat)
    (heard_too : beat_heard level n others ≡ beat) where
  -- with the beat and its kind known
  by_kind : (kind : ℕ) → beat % 3 ≡ kind → (out : List ℕ) (zs : List (Option ℕ))
      → beat_heard level n out ≡ beat
      → register_after n level own out zs
      ≡ instructed (group_size level n) level.faults (up level.modulus) kind own zs (beat / 3)
  by_kind kind k out zs e =
      ap
      (λ b. instructed (group_size level n) level.faults (up level.modulus) (b % 3) own zs
      (b / 3))
      e
      ∙ ap
      (λ j. instructed (group_size level n) level.faults (up level.modulus) j own zs (beat / 3))
      k

  pub zero_infinite : beat % 3 ≡ 0 → own.a ≡ None
      → register_after n level own outputs xs ≡ register_after n level own others ys
  zero_infinite k e =
      by_kind 0 k outputs xs heard
      ∙ (infinite_stays (group_size level n) level.faults (up level.modulus) own xs ys (beat / 3) e
      ∙
      (sym
      (infinite_stays (group_size level n) level.faults (up level.modulus) own ys xs
      (beat / 3) e)
      ∙ sym (by_kind 0 k others ys heard_too)))

  pub zero_tested : beat % 3 ≡ 0
      → nat_le (group_size level n - level.faults) (count_of xs own.a)
      ≡ nat_le (group_size level n - level.faults) (count_of ys own.a)
      → register_after n level own outputs xs ≡ register_after n level own others ys
  zero_tested k tests =
      by_kind 0 k outputs xs heard
      ∙ (zero_closed (group_size level n) level.faults (up level.modulus) own xs ys (beat / 3)
      tests
      ∙ sym (by_kind 0 k others ys heard_too))

  pub one_tested : beat % 3 ≡ 1
      → nat_le (group_size level n - level.faults) (count_of xs own.a)
      ≡ nat_le (group_size level n - level.faults) (count_of ys own.a)
      → least_above level.faults xs ≡ least_above level.faults ys →
      register_after n level own outputs xs ≡ register_after n level own others ys
  one_tested k tests least =
      by_kind 1 k outputs xs heard
      ∙ (one_closed (group_size level n) level.faults (up level.modulus) own xs ys (beat / 3)
      tests least
      ∙ sym (by_kind 1 k others ys heard_too))

  pub two_kings : beat % 3 ≡ 2
      → slice_index_or xs (beat / 3) None ≡ slice_index_or ys (beat / 3) None
      → register_after n level own outputs xs ≡ register_after n level own others ys
  two_kings k same =
      by_kind 2 k outputs xs heard
      ∙ (two_closed (group_size level n) level.faults (up level.modulus) own xs ys (beat / 3)
      same
      ∙ sym (by_kind 2 k others ys heard_too))

  pub two_marked : beat % 3 ≡ 2 → (z : ℕ) → own.a ≡ Some z → own.d ≡ true
      → register_after n level own outputs xs ≡ register_after n level own others ys
  two_marked k z value mark =
      by_kind 2 k outputs xs heard
      ∙
      (marked_stays (group_size level n) level.faults (up level.modulus) own xs ys (beat / 3) z
      value mark
      ∙
      (sym
      (marked_stays (group_size level n) level.faults (up level.modulus) own ys xs
      (beat / 3) z value mark)
      ∙ sym (by_kind 2 k others ys heard_too)))
