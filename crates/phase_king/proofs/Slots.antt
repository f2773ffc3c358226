-- f + 1 phases in a row, each under its own king, without increment.
use Rattle.std.proofs.Common.{◌≡◌, ℕ, zero, suc, ◌+◌, ◌-◌, ◌*◌, ◌/◌, ◌%◌, ◌<◌, ◌≤◌, Bool, Some, sym}
use Rattle.std.proofs.Common.{ap, ◌∙◌, subst, arith, add-zero}
use Rattle.counting.specs.Places.{places}
use Rattle.counting.proofs.Places.{one_fails, shorter}
use Rattle.sync_types.specs.declared.states.Reg.{Reg}
use Rattle.construction.specs.PhaseKing.{locked_at}
use Rattle.phase_king.specs.Hearing.{AllObey, AllHave, AllLocked}
use Rattle.phase_king.specs.Laws.{IsSlot, Agrees}
use Rattle.phase_king.proofs.Rounds.{persists, convergence, kept, marked}

some_one : (x y : ℕ) → Some x ≡ Some y → x ≡ y
some_one x y e = cc

module _ (n f : ℕ) (faulty : ℕ → Bool) (quorum : 3 * f < n) (few : places faulty n ≤ f)
    (registers : ℕ → ℕ → Reg) (slot : IsSlot n f faulty registers) where
  -- round 3q + j has kind j and king q
  obeys_at : (x q j : ℕ) → x ≡ 3 * q + j → j < 3 → q < f + 1
      → AllObey n f (λ a. a) faulty j q (registers x) (registers (x + 1))
  obeys_at x q j e j_lt q_lt =
      let kind : x % 3 ≡ j = omega arith in
      let king : x / 3 ≡ q = omega arith in
      subst (λ k. AllObey n f (λ a. a) faulty k q (registers x) (registers (x + 1))) kind
      (subst (λ g. AllObey n f (λ a. a) faulty (x % 3) g (registers x) (registers (x + 1))) king
      (slot x (omega arith)))

  stays : (x z : ℕ) → AllLocked n faulty (registers x) z → (y : ℕ) → x + y ≤ 3 * (f + 1)
      → AllLocked n faulty (registers (x + y)) z
  stays x z h zero le = subst (λ r. AllLocked n faulty (registers r) z) (sym (add-zero x)) h
  stays x z h (suc y) le = λ v lt ok.
      let e : x + y + 1 ≡ x + suc y = omega arith in
      subst (λ r. registers r v ≡ locked_at z) e
      (persists n f (λ a. a) faulty quorum few (registers (x + y)) z ((x + y) % 3) ((x + y) / 3)
      v (registers (x + y + 1) v) (stays x z h y (omega arith)) lt ok
      (slot (x + y) (omega arith) v lt ok))

  at_end : (x z : ℕ) → x ≤ 3 * (f + 1) → AllLocked n faulty (registers x) z
      → AllLocked n faulty (registers (3 * (f + 1))) z
  at_end x z le h =
      let e : x + (3 * (f + 1) - x) ≡ 3 * (f + 1) = omega arith in
      subst (λ r. AllLocked n faulty (registers r) z) e
      (stays x z h (3 * (f + 1) - x) (omega arith))

  -- one of the f + 1 kings is correct
  agreement : (z : ℕ) × AllLocked n faulty (registers (3 * (f + 1))) z
  agreement =
      let q = one_fails faulty (f + 1) (omega (arith, shorter faulty (f + 1) n (omega arith))) in
      let x : ℕ = 3 * q.0 in
      let c = convergence n f (λ a. a) faulty quorum few q.0 (registers x) (registers (x + 1))
      (registers (x + 1 + 1)) (registers (x + 1 + 1 + 1)) (omega arith) q.2
      (obeys_at x q.0 0 (omega arith) (omega arith) q.1)
      (obeys_at (x + 1) q.0 1 (omega arith) (omega arith) q.1)
      (obeys_at (x + 1 + 1) q.0 2 (omega arith) (omega arith) q.1) in
      (c.0, at_end (x + 1 + 1 + 1) c.0 (omega arith) c.1)

  -- a common value is locked after two rounds
  validity : (w : ℕ) → AllHave n faulty (registers 0) w
      → AllLocked n faulty (registers (3 * (f + 1))) w
  validity w h =
      let one : AllHave n faulty (registers (0 + 1)) w =
      λ u lt ok. kept n f (λ a. a) faulty quorum few (registers 0) w 0 u (registers (0 + 1) u) h lt
      ok (obeys_at 0 0 0 (omega arith) (omega arith) (omega arith) u lt ok) in
      at_end (0 + 1 + 1) w (omega arith)
      (λ u lt ok. marked n f (λ a. a) faulty quorum few (registers (0 + 1)) w 0 u
      (registers (0 + 1 + 1) u) one lt ok
      (obeys_at (0 + 1) 0 1 (omega arith) (omega arith) (omega arith) u lt ok))

  pub agrees : Agrees n f faulty registers
  agrees =
      let q = one_fails faulty (f + 1) (omega (arith, shorter faulty (f + 1) n (omega arith))) in
      record {
        value = agreement.0;
        locked = agreement.1;
        valid =
            λ w h. some_one agreement.0 w
            (sym (ap (λ r. r.a) (agreement.1 q.0 (omega arith) q.2))
            ∙ ap (λ r. r.a) (validity w h q.0 (omega arith) q.2));
      }
