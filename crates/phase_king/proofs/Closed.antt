-- When two lists heard give one instruction: what of a register's step hangs on them.
use Rattle.std.proofs.Common.{◌≡◌, ℕ, ◌-◌, Bool, true, false, cond, List, slice_index_or, nat_le}
use Rattle.std.proofs.Common.{Option, Some, None, refl, ap, ◌∙◌}
use Rattle.sync_types.specs.declared.states.Reg.{Reg}
use Rattle.counting.specs.Values.{count_of, least_above}
use Rattle.construction.specs.PhaseKing.{instructed, incremented, own_or_kings}

module _ (n f : ℕ) (next : ℕ → ℕ) (own : Reg) (xs ys : List (Option ℕ)) (king : ℕ) where
  abbrev pub Tests : Type 0
  Tests = nat_le (n - f) (count_of xs own.a) ≡ nat_le (n - f) (count_of ys own.a)

  -- kind 0: an infinite value stays infinite
  pub infinite_stays : own.a ≡ None
      → instructed n f next 0 own xs king ≡ record { a = None; d = own.d }
  infinite_stays e = by_value own.a e (nat_le (n - f) (count_of xs own.a))
    where
      by_value : (a : Option ℕ) → a ≡ None → (b : Bool)
          → incremented next (record { a = cond b a None; d = own.d })
          ≡ record { a = None; d = own.d }
      by_value None e true = refl
      by_value None e false = refl
      by_value (Some a) e b = absurd (cc)

  -- kind 0: else the test decides
  pub zero_closed : Tests → instructed n f next 0 own xs king ≡ instructed n f next 0 own ys king
  zero_closed tests = ap (λ b. incremented next (record { a = cond b own.a None; d = own.d })) tests

  -- kind 1: the test and the least value
  pub one_closed : Tests → least_above f xs ≡ least_above f ys
      → instructed n f next 1 own xs king ≡ instructed n f next 1 own ys king
  one_closed tests least =
      ap (λ b. incremented next (record { a = least_above f xs; d = b })) tests
      ∙ ap (λ j. incremented next (record { a = j; d = nat_le (n - f) (count_of ys own.a) })) least

  -- kind 2: the king's value alone
  pub two_closed : slice_index_or xs king None ≡ slice_index_or ys king None
      → instructed n f next 2 own xs king ≡ instructed n f next 2 own ys king
  two_closed same =
      ap (λ k. incremented next (record { a = Some (own_or_kings own.a own.d k); d = true })) same

  -- kind 2: and not that, if the own one is finite and marked
  pub marked_stays : (z : ℕ) → own.a ≡ Some z → own.d ≡ true
      → instructed n f next 2 own xs king ≡ record { a = Some (next z); d = true }
  marked_stays z value mark =
      ap
      (λ a. incremented next
      (record { a = Some (own_or_kings a own.d (slice_index_or xs king None)); d = true }))
      value
      ∙ ap
      (λ d. incremented next
      (record { a = Some (own_or_kings (Some z) d (slice_index_or xs king None)); d = true }))
      mark
