-- The first locked configuration of era 0, by what a runner knows of it.
use Rattle.std.proofs.Common.{◌≡◌, ℕ, zero, suc, ◌+◌, ◌-◌, ◌<◌, ◌≤◌, Bool, true, Option, Some, None}
use Rattle.std.proofs.Common.{sym, ap, ◌∙◌, arith}
use Rattle.std.specs.Prelude.{is_some}
use Rattle.std.proofs.lemmas.Bool.{true≢false}
use Rattle.machines.specs.Machines.{Machine}
use Rattle.machine_runner.specs.Locks.{first_of, first_locked, era_locked}
use Rattle.machine_runner.specs.Played.{played_at}
use Rattle.machine_runner.specs.Runners.{Running, lock_of}
use Rattle.attack.specs.Tried as tried

-- ---- the first number that passes

module _ (passes : ℕ → Bool) (t : ℕ) where
  -- what is found is found from there on
  found_stays : (w k : ℕ) → first_locked passes t ≡ Some w → first_locked passes (t + k) ≡ Some w
  found_stays w zero is =
      let same : t + 0 ≡ t = omega arith in ap (first_locked passes) same ∙ is
  found_stays w (suc k) is =
      let next : t + suc k ≡ suc (t + k) = omega arith in
      ap (first_locked passes) next
      ∙ ap (λ (known : Option ℕ). first_of known (passes (suc (t + k))) (suc (t + k)))
      (found_stays w k is)

  stays : (known : Option ℕ) (k : ℕ) → first_locked passes t ≡ known → is_some known ≡ true
      → first_locked passes (t + k) ≡ known
  stays None k is some = absurd (true≢false (sym some))
  stays (Some w) k is some = found_stays w k is

-- ---- a runner that plays on

module _ {M : Type 0} (start : Running M) where
  -- the same runner at configuration n
  abbrev pub at_number : ℕ → Running M
  at_number n = record start { at = n }

  pub stands : start.at ≡ 0 → start ≡ at_number 0
  stands is = ap at_number is

  -- there is a round to play before the end
  pub has_round : (r : Running M) (n end : ℕ) → r ≡ at_number n → start.at ≡ 0
      → end ≡ start.script.rounds - start.at → n < end → r.at < r.script.rounds
  has_round r n end is first left lt =
      let at : r.at ≡ n = ap (λ (r : Running M). r.at) is in
      let rounds : r.script.rounds ≡ start.script.rounds =
      ap (λ (r : Running M). r.script.rounds) is in
      omega (arith, at, rounds, first, left, lt)

module _ {M : Type 0} (machine : M → Machine) (start : Running M) where
  -- whether a configuration is one of era 0, and locked
  abbrev passes : ℕ → Bool
  passes = era_locked (machine start.machine) start.script
      (played_at (machine start.machine) start.script) 0

  -- what the runner knows after so many rounds
  known_there : (r : Running M) (n : ℕ) (lock : Option ℕ) → r ≡ at_number start n
      → lock ≡ lock_of machine r 0 → lock ≡ first_locked passes n
  known_there r n lock is known = known ∙ ap (λ (r : Running M). lock_of machine r 0) is

  -- what is known early is so at the end
  pub known_so : (r : Running M) (n : ℕ) (lock : Option ℕ) (some : Bool) → r ≡ at_number start n
      → n ≤ start.script.rounds → lock ≡ lock_of machine r 0 → some ≡ is_some lock
      → some ≡ true → lock ≡ tried.lock_of (machine start.machine) start.script
  known_so r n lock some is within known test so =
      let rest : n + (start.script.rounds - n) ≡ start.script.rounds = omega (arith, within) in
      sym (stays passes n lock (start.script.rounds - n) (sym (known_there r n lock is known))
      (sym test ∙ so))
      ∙ ap (first_locked passes) rest

  -- and at the end
  pub known_at_end : (r : Running M) (n : ℕ) (lock : Option ℕ) → r ≡ at_number start n
      → n ≡ start.script.rounds → lock ≡ lock_of machine r 0
      → lock ≡ tried.lock_of (machine start.machine) start.script
  known_at_end r n lock is end known = known_there r n lock is known ∙ ap (first_locked passes) end
