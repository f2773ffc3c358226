-- What a runner that knows the first locked configuration of each era knows at the end.
use Rattle.std.proofs.Common.{◌≡◌, ℕ, ◌+◌, ◌-◌, ◌<◌, ◌≤◌, inl, inr, Bool, true, false, List}
use Rattle.std.proofs.Common.{length, None, refl, sym, ap, ◌∙◌, subst, arith}
use Rattle.std.specs.Prelude.{is_some, slice_index_or}
use Rattle.std.proofs.lemmas.Bool.{true≢false, cases_eq}
use Rattle.counter_core.specs.Overlays.{Layer}
use Rattle.adversary_script.specs.Scripts.{IsScript}
use Rattle.adversary_script.specs.Eras.{era_of}
use Rattle.round_runner.specs.Known.{KnowsLocks}
use Rattle.round_runner.specs.Locks.{is_locked, first_locked, era_locked, IsFirstLocked}
use Rattle.round_runner.specs.Runners.{Running, IsPlaying, configuration_of}
use Rattle.machine_runner.proofs.Eras.{still_last}
use Rattle.machine_runner.proofs.FirstPassing.{still_known}
use Rattle.machine_runner.proofs.KnownLocks.{other_era}
use Rattle.round_runner.proofs.FirstLocked.{first_is_locked}
use Rattle.round_runner.proofs.ScenesLock.{known_is}

module _ {O Kept : Type 0} (layer : O → Layer Kept) (kept : O → List Kept) (r : Running O)
    (whole : IsScript r.script) (within : r.at ≤ r.script.rounds) (j : ℕ)
    (among : j ≤ length r.script.eras) (began : List Kept)
    (plays : IsPlaying layer kept began r) where
  abbrev passes : ℕ → Bool
  passes t = era_locked r.plan r.script (configuration_of layer began r) j t

  -- of another era nothing passes later, and of the last one something has
  nothing_new : era_of r.script r.at ≡ length r.script.eras
      → is_some (slice_index_or r.locks (era_of r.script r.at) None) ≡ true
      → (u : ℕ) → r.at < u → u ≤ r.script.rounds
      → is_some (slice_index_or r.locks j None) ≡ false → passes u ≡ false
  nothing_new last some u lo hi none =
      let here : era_of r.script u ≡ length r.script.eras =
      still_last r.script whole r.at last u (omega (arith, lo)) hi in
      elim (cases_eq j (length r.script.eras)) [
        | inl same ↦ (let is : j ≡ era_of r.script r.at = same ∙ sym last in
            absurd (true≢false (sym some
            ∙ (ap (λ i. is_some (slice_index_or r.locks i None)) (sym is) ∙ none))))
        | inr other ↦ other_era (is_locked r.plan) r.script
            (configuration_of layer began r) u j _ refl
            (λ is. other (is ∙ here))
      ]

  pub known_at_end : KnowsLocks r → slice_index_or r.locks j None ≡ first_locked
      (era_locked r.plan r.script (configuration_of layer began r) j) r.script.rounds
  known_at_end knows =
      let known = known_is layer kept r whole within j among began plays in
      elim knows [
        | inl end ↦ known ∙ ap (first_locked passes) end
        | inr later ↦ (let d : ℕ = r.script.rounds - r.at in
            let back : r.at + d ≡ r.script.rounds = omega (arith, within) in
            sym (still_known passes r.at d (slice_index_or r.locks j None) (sym known)
            (λ u lo hi. nothing_new later.0 later.1 u lo (omega (arith, hi, back))))
            ∙ ap (first_locked passes) back)
      ]

  pub first_at_end : KnowsLocks r → IsFirstLocked r.plan r.script
      (configuration_of layer began r) j r.script.rounds (slice_index_or r.locks j None)
  first_at_end knows = subst (IsFirstLocked r.plan r.script (configuration_of layer began r) j
      r.script.rounds) (sym (known_at_end knows))
      (first_is_locked r.plan r.script (configuration_of layer began r) whole j r.script.rounds
      among (omega arith))
