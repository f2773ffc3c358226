-- The states of a window's rounds, as configurations that follow one another.
use Rattle.std.proofs.Common.{◌≡◌, ℕ, ◌+◌, ◌<◌, ◌≤◌, false, List, length, sym, ap, ◌∙◌, arith}
use Rattle.std.proofs.Common.{Option, Some, None}
use Rattle.sync_types.specs.States.{State, register_at}
use Rattle.construction.specs.Steps.{state_of}
use Rattle.construction.specs.Runs.{is_in, configuration}
use Rattle.machines.specs.Machines.{Machine, CountsFrom, LockedBy, IsLocked}
use Rattle.machines.specs.Laws.{StaysLockedFrom}
use Rattle.node_stepper.specs.NodeRuns.{IsCorrect}
use Rattle.node_stepper.specs.RunLaws.{CountThrough, StayLockedThrough}

-- configurations whose correct nodes are in the states of a window's
pub record Follows (m : Machine) (faulty : List ℕ) (at : ℕ → List State) (rounds : ℕ)
    (run : List (List State)) : Type 0 where
  pub long : length run ≡ rounds + 1
  pub states : (i v : ℕ) → i ≤ rounds → IsCorrect m faulty v
      → state_of (configuration run i) v ≡ state_of (at i) v

-- only the states of correct nodes matter to locks
pub locked_same : (lock : Option ℕ) (nodes : ℕ) (faulty : List ℕ) (old new : List State)
    → ((v : ℕ) → v < nodes → is_in faulty v ≡ false → state_of new v ≡ state_of old v)
    → LockedBy lock nodes faulty old → LockedBy lock nodes faulty new
locked_same None nodes faulty old new same is = is
locked_same (Some i) nodes faulty old new same is = record {
  value = is.value;
  each = λ v lt correct. ap (register_at i) (same v lt correct) ∙ is.each v lt correct;
}

-- what holds of configurations, of the same states in another form
module _ (m : Machine) (faulty : List ℕ) (at : ℕ → List State) (rounds : ℕ)
    (run : List (List State)) (f : Follows m faulty at rounds run) where
  pub locked_out : (i : ℕ) → i ≤ rounds → IsLocked m faulty (configuration run i)
      → IsLocked m faulty (at i)
  locked_out i le =
      locked_same m.lock m.nodes faulty (configuration run i) (at i)
      (λ v lt is. sym (f.states i v le (lt, is)))

  pub locked_in : (i : ℕ) → i ≤ rounds → IsLocked m faulty (at i)
      → IsLocked m faulty (configuration run i)
  locked_in i le =
      locked_same m.lock m.nodes faulty (at i) (configuration run i)
      (λ v lt is. f.states i v le (lt, is))

  pub count : (from : ℕ) → CountsFrom m faulty run from → CountThrough m faulty at from rounds
  count from counts =
      let long = f.long in
      record {
        output = counts.output;
        shows = λ i low high v lt is.
            ap (m.shows v) (sym (f.states i v high (lt, is)))
            ∙ counts.shows i low (omega (arith, long)) v lt is;
        grows = λ i low high. counts.grows i low (omega (arith, long));
      }

  pub stay_locked : (from : ℕ) → StaysLockedFrom m faulty run from
      → StayLockedThrough m faulty at from rounds
  stay_locked from is =
      let long = f.long in
      record {
        locked = λ i after high. locked_out i high (is.locked i after (omega (arith, long)));
        counts = count from is.counts;
      }

-- what holds of configurations holds of others with the same states of the correct nodes
module _ (m : Machine) (faulty : List ℕ) (at other : ℕ → List State) (rounds : ℕ)
    (same : (i v : ℕ) → i ≤ rounds → IsCorrect m faulty v
    → state_of (at i) v ≡ state_of (other i) v) where
  pub locked_elsewhere : (i : ℕ) → i ≤ rounds → IsLocked m faulty (at i)
      → IsLocked m faulty (other i)
  locked_elsewhere i le =
      locked_same m.lock m.nodes faulty (at i) (other i)
      (λ v lt is. sym (same i v le (lt, is)))

  count_elsewhere : (from : ℕ) → CountThrough m faulty at from rounds
      → CountThrough m faulty other from rounds
  count_elsewhere from c = record {
    output = c.output;
    shows = λ i low high v lt is.
        ap (m.shows v) (sym (same i v high (lt, is))) ∙ c.shows i low high v lt is;
    grows = c.grows;
  }

  pub stay_elsewhere : (from : ℕ) → StayLockedThrough m faulty at from rounds
      → StayLockedThrough m faulty other from rounds
  stay_elsewhere from s = record {
    locked = λ i low high. locked_elsewhere i high (s.locked i low high);
    counts = count_elsewhere from s.counts;
  }
