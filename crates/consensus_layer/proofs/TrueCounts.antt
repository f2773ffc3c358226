-- When what liars tell leaves a register of agreement as it is.
use Rattle.std.proofs.Common.{◌≡◌, ◌⊎◌, inl, inr, ℕ, zero, suc, ◌+◌, ◌-◌, ◌*◌, ◌<◌, ◌≤◌, Bool, true}
use Rattle.std.proofs.Common.{false, not, ◌&&◌, nat_eq, nat_le, List, length, map, get_or, Option}
use Rattle.std.proofs.Common.{Some, None, refl, sym, ap, ◌∙◌, arith}
use Rattle.std.specs.Option.{option_eq, is_some}
use Rattle.std.proofs.lemmas.Bool.{cases_Bool, true≢false}
use Rattle.std.proofs.lemmas.Bool.Decides.{nat_tests}
use Rattle.std.proofs.lemmas.List.{get_or-map, length-map}
use Rattle.counting.specs.Values.{count_of, least_above}
use Rattle.counting.proofs.Counts.{holds_at, two_values, count_of-places_at}
use Rattle.counting.proofs.Least.{no_least}
use Rattle.counting.proofs.Places.{cover, fewer}
use Rattle.sync_types.specs.declared.states.Reg.{Reg}
use Rattle.sync_types.specs.FaultSets.{is_in}
use Rattle.sync_types.specs.States.{State, zero_state, register_at}
use Rattle.construction.specs.PhaseKing.{instructed, locked_at}
use Rattle.construction.specs.Steps.{state_of}
use Rattle.phase_king.proofs.Closed.{infinite_stays, zero_closed, one_closed, two_closed}
use Rattle.phase_king.proofs.Closed.{marked_stays}
use Rattle.counter_core.specs.HeardRegisters.{RegisterHeard, heard_at}
use Rattle.counter_core.specs.Heeding.{HearsTruth, DependsOnlyOn}
use Rattle.counter_core.proofs.ListsAndPlaces.{places_of_ids}
use Rattle.counter_core.proofs.Quorum.{quorum_is_least}
use Rattle.layer_laws.specs.CounterSlots.{agreed}
use Rattle.consensus_layer.specs.Heeding.{has_truly, true_count}

-- the counts of two lists lie between the same bounds, and neither passes the test or both do
closed : (need known one two more : ℕ) → known ≤ one → known ≤ two → one ≤ known + more
    → two ≤ known + more → (need ≤ known) ⊎ (known + more < need)
    → nat_le need one ≡ nat_le need two
closed need known one two more a b c d (inl enough) = grind (arith, nat_tests)
closed need known one two more a b c d (inr never) = grind (arith, nat_tests)

both : (bad same : Bool) → not bad && same ≡ true → (bad ≡ false) × (same ≡ true)
both true same is = absurd (true≢false (sym is))
both false same is = (refl, is)

from_both : (bad same : Bool) → bad ≡ false → same ≡ true → not bad && same ≡ true
from_both true same ok is = absurd (true≢false ok)
from_both false same ok is = is

-- what all but the faults have is the least value that more than they have
most_have : (n f : ℕ) (values : List (Option ℕ)) (own : Option ℕ) → length values ≡ n
    → 3 * f < n → n - f ≤ count_of values own → least_above f values ≡ own
most_have n f values (Some a) long quorum enough =
    quorum_is_least n f values a long (omega arith) (omega (arith, enough, quorum)) enough
most_have n f values None long quorum enough =
    no_least f values (λ z. let apart = two_values values None (Some z) (λ e. absurd (cc)) in
    omega (arith, apart, long, quorum, enough))

module _ (h : RegisterHeard) (faulty : List ℕ) (v : ℕ) (quorum : 3 * h.faults < length h.states)
  where
    abbrev value : State → Option ℕ
    value s = (register_at h.register s).a

    abbrev step : (kind king : ℕ) → List State → Reg
    step kind king = agreed (length h.states) h.faults h.register v kind king

    abbrev by : (kind king : ℕ) → List (Option ℕ) → Reg
    by kind king values =
        instructed (length h.states) h.faults (λ a. a) kind (heard_at h v) values king

    module _ (heard : List State) (truth : HearsTruth faulty v h.states heard) where
      long : length (map value heard) ≡ length h.states
      long = length-map heard value ∙ truth.size

      at : (u : ℕ) → u < length h.states
          → get_or (map value heard) u None ≡ value (state_of heard u)
      at u lt = get_or-map value heard u (zero_state 0) None (omega (arith, lt, truth.size))

      true_at : (u : ℕ) → u < length h.states → is_in faulty u ≡ false
          → get_or (map value heard) u None ≡ (heard_at h u).a
      true_at u lt ok = at u lt ∙ ap value (truth.honest u lt ok)

      -- all correct nodes that have a value are heard to have it
      at_least : (z : Option ℕ) → true_count faulty h z ≤ count_of (map value heard) z
      at_least z =
          let there = fewer (has_truly faulty h z) (holds_at (map value heard) z)
          (length h.states) (λ u lt is.
          let parts = both (is_in faulty u) (option_eq nat_eq z (heard_at h u).a) is in
          ap (option_eq nat_eq z) (true_at u lt parts.0) ∙ parts.1) in
          omega (arith, there, count_of-places_at (map value heard) z (length h.states) long)

      -- and beside them at most all liars
      at_most : (z : Option ℕ)
          → count_of (map value heard) z ≤ true_count faulty h z + length faulty
      at_most z =
          let there = cover (holds_at (map value heard) z) (has_truly faulty h z) (is_in faulty)
          (length h.states) (λ u lt is. elim (cases_Bool (is_in faulty u)) [
            | inl bad ↦ inr bad
            | inr ok ↦ inl (from_both (is_in faulty u) (option_eq nat_eq z (heard_at h u).a) ok
                (sym (ap (option_eq nat_eq z) (true_at u lt ok)) ∙ is))
          ]) in
          omega (
            arith,
            there,
            places_of_ids faulty (length h.states),
            count_of-places_at (map value heard) z (length h.states) long,
          )

      own_known : (kind king : ℕ) → step kind king heard ≡ by kind king (map value heard)
      own_known kind king =
          ap (λ s. instructed (length h.states) h.faults (λ a. a) kind (register_at h.register s)
          (map value heard) king) truth.own

      least_own : (own : Option ℕ) → length h.states - h.faults ≤ true_count faulty h own
          → least_above h.faults (map value heard) ≡ own
      least_own own enough =
          most_have (length h.states) h.faults (map value heard) own long quorum
          (omega (arith, enough, at_least own))

    -- two lists give one register if the instruction by their values is one
    through : (kind king : ℕ) (heard told : List State) → HearsTruth faulty v h.states heard
        → HearsTruth faulty v h.states told
        → by kind king (map value heard) ≡ by kind king (map value told)
        → step kind king heard ≡ step kind king told
    through kind king heard told first second same =
        own_known heard first kind king ∙ (same ∙ sym (own_known told second kind king))

    tests : (heard told : List State) → HearsTruth faulty v h.states heard
        → HearsTruth faulty v h.states told → (need : ℕ) (z : Option ℕ)
        → (need ≤ true_count faulty h z) ⊎ (true_count faulty h z + length faulty < need)
        → nat_le need (count_of (map value heard) z) ≡ nat_le need (count_of (map value told) z)
    tests heard told first second need z shut =
        closed need (true_count faulty h z) (count_of (map value heard) z)
        (count_of (map value told) z) (length faulty) (at_least heard first z)
        (at_least told second z) (at_most heard first z) (at_most told second z) shut

    module _ (king from to : ℕ) where
      abbrev own : Option ℕ
      own = (heard_at h v).a

      abbrev need : ℕ
      need = length h.states - h.faults

      abbrev same : ℕ
      same = true_count faulty h own

      zero_shut : (own ≡ None) ⊎ ((need ≤ same) ⊎ (same + length faulty < need))
          → DependsOnlyOn (step 0 king) faulty v h.states from to
      zero_shut (inl none) heard told first second alike = through 0 king heard told first second
          (infinite_stays (length h.states) h.faults (λ a. a) (heard_at h v) (map value heard)
          (map value told) king none
          ∙ sym (infinite_stays (length h.states) h.faults (λ a. a) (heard_at h v)
          (map value told) (map value heard) king none))
      zero_shut (inr shut) heard told first second alike = through 0 king heard told first second
          (zero_closed (length h.states) h.faults (λ a. a) (heard_at h v) (map value heard)
          (map value told) king (tests heard told first second need own shut))

      one_shut : need ≤ same → DependsOnlyOn (step 1 king) faulty v h.states from to
      one_shut enough heard told first second alike = through 1 king heard told first second
          (one_closed (length h.states) h.faults (λ a. a) (heard_at h v) (map value heard)
          (map value told) king (tests heard told first second need own (inl enough))
          (least_own heard first own enough ∙ sym (least_own told second own enough)))

      -- the instructions of kinds 0 and 1, if no lie can change a count
      pub counts_shut : (kind : ℕ) → kind ≤ 1
          → (need ≤ same) ⊎ ((kind ≡ 0) × ((own ≡ None) ⊎ (same + length faulty < need)))
          → DependsOnlyOn (step kind king) faulty v h.states from to
      counts_shut zero le (inl enough) = zero_shut (inr (inl enough))
      counts_shut zero le (inr (is, inl none)) = zero_shut (inl none)
      counts_shut zero le (inr (is, inr few)) = zero_shut (inr (inr few))
      counts_shut (suc zero) le (inl enough) = one_shut enough
      counts_shut (suc zero) le (inr other) = absurd (omega (arith, other.0))
      counts_shut (suc (suc kind)) le other = absurd (omega arith)

      -- that of kind 2, if the own value is finite and marked
      marked_shut : (z : ℕ) × (heard_at h v ≡ locked_at z)
          → DependsOnlyOn (step 2 king) faulty v h.states from to
      marked_shut (z, is) heard told first second alike =
          let finite = ap (λ (r : Reg). r.a) is in
          let marked = ap (λ (r : Reg). r.d) is in
          through 2 king heard told first second
          (marked_stays (length h.states) h.faults (λ a. a) (heard_at h v) (map value heard)
          (map value told) king z finite marked
          ∙ sym (marked_stays (length h.states) h.faults (λ a. a) (heard_at h v)
          (map value told) (map value heard) king z finite marked))

      -- and else, if what is heard of the king depends on these lies alone
      pub king_shut : king < length h.states
          → DependsOnlyOn (λ heard. state_of heard king) faulty v h.states from to
          → DependsOnlyOn (step 2 king) faulty v h.states from to
      king_shut lt kings heard told first second alike =
          through 2 king heard told first second
          (two_closed (length h.states) h.faults (λ a. a) (heard_at h v) (map value heard)
          (map value told) king
          (at heard first king lt ∙ (ap value (kings heard told first second alike)
          ∙ sym (at told second king lt))))

      own_king : king < length h.states → king ≡ v
          → DependsOnlyOn (step 2 king) faulty v h.states from to
      own_king lt is = king_shut lt (λ heard told first second alike.
          ap (state_of heard) is ∙ (first.own ∙ (sym second.own ∙ sym (ap (state_of told) is))))

      -- or the node is its own king
      pub no_other : king < length h.states
          → ((z : ℕ) × (heard_at h v ≡ locked_at z)) ⊎ (king ≡ v)
          → DependsOnlyOn (step 2 king) faulty v h.states from to
      no_other lt (inl locked) = marked_shut locked
      no_other lt (inr same) = own_king lt same
