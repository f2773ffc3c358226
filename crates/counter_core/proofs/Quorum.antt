-- A value that all but the faults have, and the count of a value place by place.
use Rattle.std.proofs.Common.{◌≡◌, ◌≢◌, ℕ, ◌+◌, ◌-◌, ◌<◌, ◌≤◌, true, List, length, take, get_or}
use Rattle.std.proofs.Common.{nat_eq, Option, Some, None, unwrap_or, sym, ap, ◌∙◌, ⊎_elim, arith}
use Rattle.std.proofs.lemmas.Bool.{cases_Bool, false≢true}
use Rattle.std.proofs.lemmas.List.{get_or-map, length-map}
use Rattle.std.proofs.lemmas.List.Sums.{count_by_more_yes, count_by_more_no}
use Rattle.std.specs.Option.{option_eq, is_some}
use Rattle.counting.specs.Values.{count_of, least_above}
use Rattle.counting.proofs.Counts.{two_values, value_itself, same_value}
use Rattle.counting.proofs.Least.{least_from}
use Rattle.sync_types.specs.declared.states.Reg.{Reg}
use Rattle.sync_types.specs.States.{State, zero_state, register_at}
use Rattle.counter_core.specs.HeardRegisters.{RegisterHeard, heard_at, values_heard}

-- if more places hold it than the faults, it is the only such value
pub quorum_is_least : (n f : ℕ) (values : List (Option ℕ)) (a : ℕ) → length values ≡ n → f ≤ n
    → f < count_of values (Some a) → n - f ≤ count_of values (Some a)
    → least_above f values ≡ Some a
quorum_is_least n f values a size within more enough =
    least_from f values a more (λ z lt.
    let apart : Some a ≢ Some z = λ e. absurd (omega (arith, lt, ap (λ o. unwrap_or o 0) e)) in
    omega (arith, two_values values (Some a) (Some z) apart, size, within, enough))

pub quorum_is_own : (n f : ℕ) (values : List (Option ℕ)) (own : Option ℕ) → length values ≡ n
    → f ≤ n → is_some own ≡ true → f < count_of values own → n - f ≤ count_of values own
    → least_above f values ≡ own
quorum_is_own n f values (Some a) size within some more enough =
    quorum_is_least n f values a size within more enough
quorum_is_own n f values None size within some more enough = absurd (false≢true some)

-- the value of the node at a place, among all
pub value_at : (h : RegisterHeard) (place : ℕ) (reg : Reg) → place < length h.states
    → reg ≡ heard_at h place
    → (place < length (values_heard h)) × (get_or (values_heard h) place None ≡ reg.a)
value_at h place reg lt is =
    let value : State → Option ℕ = λ s. (register_at h.register s).a in (
      omega (arith, lt, length-map h.states value),
      get_or-map value h.states place (zero_state 0) None lt ∙ sym (ap (λ (r : Reg). r.a) is),
    )

-- one more place holds the value
pub one_more : (values : List (Option ℕ)) (i : ℕ) (x z : Option ℕ) → i < length values
    → get_or values i None ≡ x → x ≡ z
    → count_of (take (i + 1) values) z ≡ count_of (take i values) z + 1
one_more values i x z lt at is =
    count_by_more_yes (option_eq nat_eq z) values i None lt
    (ap (option_eq nat_eq z) (at ∙ is) ∙ value_itself z)

-- one more place holds another one
pub none_more : (values : List (Option ℕ)) (i : ℕ) (x z : Option ℕ) → i < length values
    → get_or values i None ≡ x → x ≢ z
    → count_of (take (i + 1) values) z ≡ count_of (take i values) z
none_more values i x z lt at ne =
    count_by_more_no (option_eq nat_eq z) values i None lt
    (⊎_elim
    (λ yes. absurd (ne (sym (same_value z x (sym (ap (option_eq nat_eq z) at) ∙ yes)))))
    (λ no. no)
    (cases_Bool (option_eq nat_eq z (get_or values i None))))
