-- From a locked configuration on nodes stay locked and count when states are lost.
use Rattle.std.proofs.Common.{◌≡◌, ℕ, zero, suc, ◌+◌, ◌-◌, ◌%◌, ◌<◌, ◌≤◌, Bool, true, false}
use Rattle.std.proofs.Common.{◌||◌, List, [], ◌∷◌, length, ◌⊎◌, inl, inr, Option, Some, None, refl}
use Rattle.std.proofs.Common.{sym, ap, ◌∙◌, subst, arith}
use Rattle.std.specs.Prelude.{◌==◌}
use Rattle.std.proofs.lemmas.Bool.{cases_lt, eqb-true}
use Rattle.std.proofs.lemmas.List.FromFn.{fill_by_all}
use Rattle.counting.specs.Places.{places}
use Rattle.counting.proofs.Places.{one_fails}
use Rattle.counter_core.proofs.ListsAndPlaces.{places_of_ids}
use Rattle.sync_types.specs.States.{State, zero_state, register_at}
use Rattle.construction.specs.Steps.{state_of}
use Rattle.construction.specs.Runs.{is_in, configuration}
use Rattle.machines.specs.Machines.{Machine, IsConfiguration, IsToleratedBy, IsLocked, LockedBy}
use Rattle.machines.specs.Laws.{IsSound, StaysLockedFrom}
use Rattle.node_stepper.specs.NodeRuns.{IsCorrect}
use Rattle.node_stepper.specs.Losses.{HearsOthers, LossyStep, LossyRun, LossesKeepLocked}
use Rattle.node_stepper.proofs.Correct.{some_left}
use Rattle.node_stepper.proofs.LossySteps.{next, next_own, next_other, next_locked, same_shown}
use Rattle.node_stepper.proofs.LossySteps.{counted}

either_false : (a b : Bool) → a || b ≡ false → (a ≡ false) × (b ≡ false)
either_false true b is = absurd cc
either_false false b is = (refl, is)

pub not_so : (a b : Bool) → (a ≡ true → b ≡ true) → b ≡ false → a ≡ false
not_so true b then is = absurd (let so : b ≡ true = then refl in cc)
not_so false b then is = refl

none_in : (ids : List ℕ) → length ids ≡ 0 → (u : ℕ) → is_in ids u ≡ false
none_in [] none u = refl
none_in (id ∷ ids) none u = absurd (omega (arith, none))

-- ---- locks

-- the correct nodes are locked, and so are those that are not missed
locked_more : (lock : Option ℕ) (n : ℕ) (faulty missed : List ℕ) (config : List State)
    → ((u : ℕ) → is_in missed u ≡ false → is_in faulty u ≡ false)
    → LockedBy lock n faulty config → LockedBy lock n missed config
locked_more None n faulty missed config correct is = is
locked_more (Some i) n faulty missed config correct is = record {
  value = is.value;
  each = λ v lt heard. is.each v lt (correct v heard);
}

-- Node v is locked with a node which is so as in the base.
record Joined (lock : Option ℕ) (n : ℕ) (faulty : List ℕ) (base : List State) (v : ℕ)
    (new : State) : Type 0 where
  missed : List ℕ
  next : List State
  locked : LockedBy lock n missed next
  own : is_in missed v ≡ false
  same : state_of next v ≡ new
  u : ℕ
  within : u < n
  heard : is_in missed u ≡ false
  correct : is_in faulty u ≡ false
  shared : state_of next u ≡ state_of base u

join : (lock : Option ℕ) (n : ℕ) (faulty : List ℕ) (base new : List State)
    → LockedBy lock n faulty base
    → ((v : ℕ) → v < n → is_in faulty v ≡ false → Joined lock n faulty base v (state_of new v))
    → LockedBy lock n faulty new
join None n faulty base new locked each = locked
join (Some i) n faulty base new locked each = record {
  value = locked.value;
  each = λ v lt correct.
      let j = each v lt correct in
      ap (register_at i) (sym j.same)
      ∙ j.locked.each v lt j.own
      ∙ sym (j.locked.each j.u j.within j.heard)
      ∙ ap (register_at i) j.shared
      ∙ locked.each j.u j.within j.correct;
}

-- ---- one round

-- another node that is not missed; or no node is
abbrev Other : (n v : ℕ) (missed : List ℕ) → Type 0
Other n v missed =
    ((u : ℕ) × (u < n) × ((u == v) ≡ false) × (is_in missed u ≡ false)) ⊎ (length missed ≡ 0)

module _ (m : Machine) (sound : IsSound m) where
  other : (v : ℕ) (missed : List ℕ) → IsToleratedBy m missed → Other m.nodes v missed
  other v missed few =
      let quorum = sound.quorum in
      let size = few.few in
      elim (cases_lt (places (is_in (v ∷ missed)) m.nodes) m.nodes) [
        | inl some ↦
            let left = one_fails (is_in (v ∷ missed)) m.nodes some in
            let both = either_false (left.0 == v) (is_in missed left.0) left.2 in
            inl (left.0, left.1, both.0, both.1)
        | inr all ↦ inr (omega (arith, places_of_ids (v ∷ missed) m.nodes))
      ]

  -- if no node is missed, the truth is heard
  truth : (missed : List ℕ) (old heard : List State) → length old ≡ m.nodes
      → HearsOthers m missed old heard → length missed ≡ 0 → heard ≡ old
  truth missed old heard size hears none =
      fill_by_all (state_of old) heard m.nodes (zero_state 0) hears.size
      (λ u lt. hears.truth u lt (none_in missed none u))
      ∙ sym (fill_by_all (state_of old) old m.nodes (zero_state 0) size (λ u lt. refl))

  module _ (faulty : List ℕ) (borne : IsToleratedBy m faulty) (old : List State)
      (is : IsConfiguration m old) (locked : IsLocked m faulty old) where
    -- a correct node
    abbrev one : ℕ
    one = (some_left m sound faulty borne).0

    one_is : IsCorrect m faulty one
    one_is = (some_left m sound faulty borne).1

    all_heard : HearsOthers m faulty old old
    all_heard = record { size = is.size; states = is.states; truth = λ u lt heard. refl }

    -- the round in which all hear the truth
    abbrev base : List State
    base = next m sound old is one one_is.0 faulty one_is.1 old all_heard

    base_by : (u : ℕ) → u < m.nodes → (b : Bool) → (u == one) ≡ b
        → state_of base u ≡ m.step u old
    base_by u lt true same =
        subst (λ x. state_of base x ≡ m.step x old) (sym (eqb-true u one same))
        (next_own m sound old is one one_is.0 faulty one_is.1 old all_heard)
    base_by u lt false apart =
        next_other m sound old is one one_is.0 faulty one_is.1 old all_heard u lt apart

    base_is : (u : ℕ) → u < m.nodes → state_of base u ≡ m.step u old
    base_is u lt = base_by u lt (u == one) refl

    base_locked : IsLocked m faulty base
    base_locked =
        next_locked m sound old is one one_is.0 faulty one_is.1 old all_heard borne locked

    pub same_number : (v : ℕ) → IsCorrect m faulty v
        → m.shows v (state_of old v) ≡ m.shows one (state_of old one)
    same_number v correct =
        same_shown m sound old is one one_is.0 faulty one_is.1 old all_heard borne locked v
        correct.0 correct.1

    module _ (v : ℕ) (correct : IsCorrect m faulty v) (new : State)
        (s : LossyStep m faulty v old new) where
      not_faulty : (u : ℕ) → is_in s.missed u ≡ false → is_in faulty u ≡ false
      not_faulty u = not_so (is_in faulty u) (is_in s.missed u) (s.are.faulty_too u)

      here : IsLocked m s.missed old
      here = locked_more m.lock m.nodes faulty s.missed old not_faulty locked

      abbrev after : List State
      after = next m sound old is v correct.0 s.missed s.are.not_own s.heard s.hears

      after_own : state_of after v ≡ m.step v s.heard
      after_own = next_own m sound old is v correct.0 s.missed s.are.not_own s.heard s.hears

      after_locked : IsLocked m s.missed after
      after_locked =
          next_locked m sound old is v correct.0 s.missed s.are.not_own s.heard s.hears s.are.few
          here

      joined_by : Other m.nodes v s.missed → Joined m.lock m.nodes faulty base v new
      joined_by (inl o) = record {
        missed = s.missed;
        next = after;
        locked = after_locked;
        own = s.are.not_own;
        same = after_own ∙ sym s.step;
        u = o.0;
        within = o.1;
        heard = o.3;
        correct = not_faulty o.0 o.3;
        shared =
            next_other m sound old is v correct.0 s.missed s.are.not_own s.heard s.hears o.0 o.1
            o.2
            ∙ sym (base_is o.0 o.1);
      }
      joined_by (inr none) = record {
        missed = s.missed;
        next = after;
        locked = after_locked;
        own = s.are.not_own;
        same = after_own ∙ sym s.step;
        u = v;
        within = correct.0;
        heard = s.are.not_own;
        correct = correct.1;
        shared =
            after_own
            ∙ ap (m.step v) (truth s.missed old s.heard is.size s.hears none)
            ∙ sym (base_is v correct.0);
      }

      joined : Joined m.lock m.nodes faulty base v new
      joined = joined_by (other v s.missed s.are.few)

      grown : m.shows v new ≡ (m.shows v (state_of old v) + 1) % m.modulus
      grown =
          ap (m.shows v) s.step
          ∙ counted m sound old is v correct.0 s.missed s.are.not_own s.heard s.hears s.are.few
          here

    new_locked : (new : List State)
        → ((v : ℕ) → IsCorrect m faulty v → LossyStep m faulty v old (state_of new v))
        → IsLocked m faulty new
    new_locked new steps =
        join m.lock m.nodes faulty base new base_locked
        (λ v lt correct. joined v (lt, correct) (state_of new v) (steps v (lt, correct)))

-- ---- rounds

module _ (m : Machine) (sound : IsSound m) (faulty : List ℕ) (borne : IsToleratedBy m faulty)
    (run : List (List State)) (r : LossyRun m faulty run) (from : ℕ) where
  abbrev at : (t : ℕ) → List State
  at t = configuration run t

  abbrev first : ℕ
  first = (some_left m sound faulty borne).0

  first_is : IsCorrect m faulty first
  first_is = (some_left m sound faulty borne).1

  is_one : (t : ℕ) → t < length run → IsConfiguration m (at t)
  is_one t lt = r.configurations t [] lt

  locked_at : (k : ℕ) → from + k < length run → IsLocked m faulty (at from)
      → IsLocked m faulty (at (from + k))
  locked_at zero lt locked =
      let e : from ≡ from + zero = omega arith in subst (λ t. IsLocked m faulty (at t)) e locked
  locked_at (suc k) lt locked =
      let e : from + k + 1 ≡ from + suc k = omega arith in
      subst (λ t. IsLocked m faulty (at t)) e
      (new_locked m sound faulty borne (at (from + k)) (is_one (from + k) (omega arith))
      (locked_at k (omega arith) locked) (at (from + k + 1))
      (λ v correct. r.rounds (from + k) v (omega arith) correct))

  module _ (locked : IsLocked m faulty (at from)) where
    lock : (t : ℕ) → from ≤ t → t < length run → IsLocked m faulty (at t)
    lock t low lt =
        let e : from + (t - from) ≡ t = omega arith in
        subst (λ k. IsLocked m faulty (at k)) e (locked_at (t - from) (omega arith) locked)

    stays : StaysLockedFrom m faulty run from
    stays = record {
      locked = lock;
      counts = record {
        output = λ t. m.shows first (state_of (at t) first);
        shows = λ t low lt v vlt correct.
            same_number m sound faulty borne (at t) (is_one t lt) (lock t low lt) v (vlt, correct);
        grows = λ t low lt.
            grown m sound faulty borne (at t) (is_one t (omega arith)) (lock t low (omega arith))
            first first_is (state_of (at (t + 1)) first) (r.rounds t first lt first_is);
      };
    }

pub losses_keep_locked : LossesKeepLocked
losses_keep_locked m sound faulty borne run r from lt locked =
    stays m sound faulty borne run r from locked
