-- If all correct nodes obey one correct king for three rounds, the registers are locked from then
-- on.
use Rattle.std.proofs.Common.{◌≡◌, ℕ, ◌+◌, ◌*◌, ◌<◌, ◌≤◌, Bool, false, subst, subst₂, arith}
use Rattle.sync_types.specs.declared.states.Reg.{Reg}
use Rattle.counting.specs.Places.{places}
use Rattle.phase_king.specs.Hearing.{Obeys, AllObey}
use Rattle.phase_king.proofs.Rounds.{convergence}
use Rattle.halving_plan.specs.Level.{StaysLocked}
use Rattle.halving_plan.proofs.Correct.{IsCorrect}
use Rattle.halving_plan.proofs.Locked.{stays_from}

-- in a round all correct nodes obey this kind and this king
pub record Obeyed (n : ℕ) (faulty : ℕ → Bool) (kinds kings : ℕ → ℕ) (kind king : ℕ) : Type 0 where
  pub kinds_are : (v : ℕ) → IsCorrect n faulty v → kinds v ≡ kind
  pub kings_are : (v : ℕ) → IsCorrect n faulty v → kings v ≡ king

module _ (n f : ℕ) (next : ℕ → ℕ) (faulty : ℕ → Bool) (quorum : 3 * f < n)
    (few : places faulty n ≤ f) (s last : ℕ) (registers : ℕ → ℕ → Reg) (kinds kings : ℕ → ℕ → ℕ)
    (obey : (r v : ℕ) → s ≤ r → r < last → v < n → faulty v ≡ false
    → Obeys n f next faulty (registers r) (kinds r v) (kings r v) (registers r v)
    (registers (r + 1) v)) where
  all_obey : (r kind king : ℕ) → s ≤ r → r < last → Obeyed n faulty (kinds r) (kings r) kind king
      → AllObey n f next faulty kind king (registers r) (registers (r + 1))
  all_obey r kind king lo hi obeyed = λ v lt ok.
      subst₂ (λ k g. Obeys n f next faulty (registers r) k g (registers r v) (registers (r + 1) v))
      (obeyed.kinds_are v (record { below = lt; ok = ok }))
      (obeyed.kings_are v (record { below = lt; ok = ok })) (obey r v lo hi lt ok)

  pub king_locks : (x king from : ℕ) → s ≤ x → x + 3 ≤ from → from ≤ last → king < n
      → faulty king ≡ false
      → ((i : ℕ) → i < 3 → Obeyed n faulty (kinds (x + i)) (kings (x + i)) i king)
      → StaysLocked n next faulty from last registers
  king_locks x king from lo within hi below ok obeyed =
      let first : x + 0 ≡ x = omega arith in
      let third : x + 2 ≡ x + 1 + 1 = omega arith in
      let at : (r kind : ℕ) → Type 0 = λ r kind. Obeyed n faulty (kinds r) (kings r) kind king in
      let locked = convergence n f next faulty quorum few king (registers x) (registers (x + 1))
      (registers (x + 1 + 1)) (registers (x + 1 + 1 + 1)) below ok
      (all_obey x 0 king lo (omega arith) (subst (λ r. at r 0) first (obeyed 0 (omega arith))))
      (all_obey (x + 1) 1 king (omega arith) (omega arith) (obeyed 1 (omega arith)))
      (all_obey (x + 1 + 1) 2 king (omega arith) (omega arith)
      (subst (λ r. at r 2) third (obeyed 2 (omega arith)))) in
      let stays = stays_from n f next faulty quorum few s last registers kinds kings obey
      (x + 1 + 1 + 1) locked.0 (omega arith) locked.1 in
      record {
        value = stays.value;
        locked = λ r rlo rhi. stays.locked r (omega arith) rhi;
        grows = λ r rlo rhi. stays.grows r (omega arith) rhi;
      }
