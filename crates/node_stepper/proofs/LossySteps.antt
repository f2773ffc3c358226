-- One node hears what it hears, and all others the truth: that is a round whose faulty nodes are
-- those that it misses. So it steps as in a run.
use Rattle.std.proofs.Common.{◌≡◌, ℕ, zero, suc, ◌+◌, ◌%◌, ◌<◌, Bool, true, false, cond, not}
use Rattle.std.proofs.Common.{◌||◌, List, [], ◌∷◌, length, map, get_or, refl, sym, ap, ◌∙◌}
use Rattle.std.proofs.Common.{subst, arith}
use Rattle.std.specs.Prelude.{◌==◌}
use Rattle.std.specs.List.{range_with_len}
use Rattle.std.proofs.lemmas.Bool.{eqb-true, eq-eqb}
use Rattle.std.proofs.lemmas.List.Elements.{All-from_get_or}
use Rattle.std.proofs.lemmas.List.FromFn.{fill_by_all, length-map-range_with_len}
use Rattle.std.proofs.lemmas.List.FromFn.{get_or-map-range_with_len}
use Rattle.sync_types.specs.States.{State, zero_state}
use Rattle.construction.specs.Steps.{state_of}
use Rattle.construction.specs.Runs.{is_in, configuration, heard_by, heard_of}
use Rattle.machines.specs.Machines.{Machine, IsState, IsConfiguration, IsTold, IsTable, IsNext}
use Rattle.machines.specs.Machines.{Run, IsToleratedBy, IsLocked}
use Rattle.machines.specs.Laws.{IsSound, StaysLockedFrom}
use Rattle.node_stepper.specs.Losses.{HearsOthers}
use Rattle.counter_core.proofs.StateLists.{each_below}
use Rattle.node_stepper.proofs.Windows.{placed}

-- what is heard of a node, by whether it is the hearer and whether it is missed
either : (same missed : Bool) (truth told x : State) → (same ≡ true → truth ≡ x)
    → (missed ≡ false → truth ≡ x) → (missed ≡ true → told ≡ x)
    → cond (same || not missed) truth told ≡ x
either true missed truth told x own heard lost = own refl
either false false truth told x own heard lost = heard refl
either false true truth told x own heard lost = lost refl

module _ (m : Machine) (sound : IsSound m) (old : List State) (is : IsConfiguration m old)
    (v : ℕ) (lt : v < m.nodes) (missed : List ℕ) (own : is_in missed v ≡ false)
    (heard : List State) (hears : HearsOthers m missed old heard) where
  abbrev n : ℕ
  n = m.nodes

  abbrev place : (u : ℕ) → State
  place u = cond (u == v) (m.step v heard) (m.step u old)

  -- the states after the round
  abbrev pub next : List State
  next = map place (range_with_len 0 n)

  -- what u tells w
  abbrev told : (u w : ℕ) → State
  told u w = cond (w == v) (state_of heard u) (state_of old u)

  abbrev row : (u : ℕ) → List State
  row u = map (told u) (range_with_len 0 n)

  abbrev lies : List (List State)
  lies = map row (range_with_len 0 n)

  told_by : (u w : ℕ) → u < n → (b : Bool)
      → IsState m u (cond b (state_of heard u) (state_of old u))
  told_by u w ult true = hears.states u ult
  told_by u w ult false = is.states u ult

  table : IsTable m lies
  table = record {
    size = length-map-range_with_len row 0 n;
    rows =
        placed (IsTold m) row n []
        (λ u ult. record {
          size = length-map-range_with_len (told u) 0 n;
          states = each_below (IsState m u) (told u) n (λ w wlt. told_by u w ult (w == v));
        });
  }

  told_is : (u w : ℕ) → u < n → w < n → state_of (get_or lies u []) w ≡ told u w
  told_is u w ult wlt =
      ap (λ (by : List State). state_of by w)
      (get_or-map-range_with_len row 0 n u u [] ult (omega arith))
      ∙ get_or-map-range_with_len (told u) 0 n w w (zero_state 0) wlt (omega arith)

  -- v hears what it hears
  hears_own : (u : ℕ) → u < n → heard_of missed old lies v u ≡ state_of heard u
  hears_own u ult =
      either (u == v) (is_in missed u) (state_of old u) (state_of (get_or lies u []) v)
      (state_of heard u)
      (λ same. sym (hears.truth u ult (ap (is_in missed) (eqb-true u v same) ∙ own)))
      (λ heard_of_it. sym (hears.truth u ult heard_of_it))
      (λ lost. told_is u v ult lt
      ∙ ap (λ b. cond b (state_of heard u) (state_of old u)) (eq-eqb v v refl))

  all_own : heard ≡ heard_by n missed old lies v
  all_own =
      fill_by_all (heard_of missed old lies v) heard n (zero_state 0) hears.size
      (λ u ult. sym (hears_own u ult))

  -- and all others the truth
  hears_truth : (w u : ℕ) → w < n → (w == v) ≡ false → u < n
      → heard_of missed old lies w u ≡ state_of old u
  hears_truth w u wlt other ult =
      either (u == w) (is_in missed u) (state_of old u) (state_of (get_or lies u []) w)
      (state_of old u) (λ same. refl) (λ heard_of_it. refl)
      (λ lost. told_is u w ult wlt
      ∙ ap (λ b. cond b (state_of heard u) (state_of old u)) other)

  all_truth : (w : ℕ) → w < n → (w == v) ≡ false → old ≡ heard_by n missed old lies w
  all_truth w wlt other =
      fill_by_all (heard_of missed old lies w) old n (zero_state 0) is.size
      (λ u ult. sym (hears_truth w u wlt other ult))

  next_is : (u : ℕ) → u < n → state_of next u ≡ place u
  next_is u ult = get_or-map-range_with_len place 0 n u u (zero_state 0) ult (omega arith)

  pub next_own : state_of next v ≡ m.step v heard
  next_own =
      next_is v lt ∙ ap (λ b. cond b (m.step v heard) (m.step v old)) (eq-eqb v v refl)

  pub next_other : (u : ℕ) → u < n → (u == v) ≡ false → state_of next u ≡ m.step u old
  next_other u ult other =
      next_is u ult ∙ ap (λ b. cond b (m.step v heard) (m.step u old)) other

  step_by : (w : ℕ) → w < n → (b : Bool) → (w == v) ≡ b
      → state_of next w ≡ m.step w (heard_by n missed old lies w)
  step_by w wlt true same =
      subst (λ x. state_of next x ≡ m.step x (heard_by n missed old lies x))
      (sym (eqb-true w v same)) (next_own ∙ ap (m.step v) all_own)
  step_by w wlt false other =
      next_other w wlt other ∙ ap (m.step w) (all_truth w wlt other)

  place_by : (u : ℕ) → u < n → (b : Bool) → (u == v) ≡ b
      → IsState m u (cond b (m.step v heard) (m.step u old))
  place_by u ult true same =
      subst (λ x. IsState m x (m.step v heard)) (sym (eqb-true u v same)) (sound.next v lt heard)
  place_by u ult false other = sound.next u ult old

  next_is_one : IsConfiguration m next
  next_is_one = record {
    size = length-map-range_with_len place 0 n;
    states =
        placed (IsState m) place n (zero_state 0) (λ u ult. place_by u ult (u == v) refl);
  }

  abbrev pub pair : List (List State)
  pair = old ∷ next ∷ []

  each_is_one : (i : ℕ) → i < length pair → IsConfiguration m (get_or pair i [])
  each_is_one zero ilt = is
  each_is_one (suc zero) ilt = next_is_one
  each_is_one (suc (suc i)) ilt = absurd (omega arith)

  round_at : (t : ℕ) → t + 1 < length pair
      → IsNext m missed (configuration pair t) (configuration pair (t + 1))
  round_at zero tlt = record {
    lies = lies;
    round = record { table = table; steps = λ w wlt correct. step_by w wlt (w == v) refl };
  }
  round_at (suc t) tlt = absurd (omega arith)

  is_run : Run m missed pair
  is_run = record {
    some = omega arith;
    configurations = All-from_get_or (IsConfiguration m) pair [] each_is_one;
    rounds = round_at;
  }

  module _ (few : IsToleratedBy m missed) (locked : IsLocked m missed old) where
    kept : StaysLockedFrom m missed pair 0
    kept = sound.stays missed pair few is_run 0 (omega arith) locked

    pub next_locked : IsLocked m missed next
    next_locked = kept.locked 1 (omega arith) (omega arith)

    -- all that are not missed show the same, and v counts
    pub same_shown : (u : ℕ) → u < n → is_in missed u ≡ false
        → m.shows u (state_of old u) ≡ m.shows v (state_of old v)
    same_shown u ult heard_of_it =
        kept.counts.shows 0 (omega arith) (omega arith) u ult heard_of_it
        ∙ sym (kept.counts.shows 0 (omega arith) (omega arith) v lt own)

    pub counted : m.shows v (m.step v heard) ≡ (m.shows v (state_of old v) + 1) % m.modulus
    counted =
        ap (m.shows v) (sym next_own)
        ∙ kept.counts.shows 1 (omega arith) (omega arith) v lt own
        ∙ kept.counts.grows 0 (omega arith) (omega arith)
        ∙ ap (λ o. (o + 1) % m.modulus)
        (sym (kept.counts.shows 0 (omega arith) (omega arith) v lt own))
