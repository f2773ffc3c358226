-- What the lowest correct node shows a slot later, if the slot counts.
use Rattle.std.proofs.Common.{◌≡◌, ℕ, suc, ◌+◌, ◌%◌, ◌<◌, ◌≤◌, true, false}
use Rattle.std.proofs.Common.{List, length, sym, ap, ◌∙◌, arith}
use Rattle.std.specs.Prelude.{◌==◌}
use Rattle.std.proofs.Math.Nat.{mod-mod_of_dvd, add-mod_right}
use Rattle.std.proofs.lemmas.Nat.Gcd.{dvd_of_mod-eq-zero}
use Rattle.sync_types.specs.FaultSets.{is_in}
use Rattle.sync_types.specs.States.{State}
use Rattle.counter_core.specs.Meanings.{Meaning}
use Rattle.counter_core.specs.Overlays.{Layer}
use Rattle.adversary_script.specs.Scripts.{Script}
use Rattle.adversary_script.specs.Eras.{era_of, first_of_era, end_of_era, faulty_of_era}
use Rattle.machine_runner.proofs.Eras.{counts_on}
use Rattle.machine_runner.proofs.Firsts.{era_within}
use Rattle.layer_laws.specs.Lowest.{lowest_correct}
use Rattle.layer_runner.specs.PlayedTexts.{configuration_in}
use Rattle.layer_runner.specs.SlotTexts.{output_of, lead_output, counts_at}
use Rattle.layer_runner.specs.Counting.{EraCounts, ErasCount}
use Rattle.layer_runner.proofs.SlotParts.{past_bound, same_era, before_end}
use Rattle.layer_runner.proofs.Leads as leading

module _ {Kept : Type 0} (counter : Meaning) (script : Script) (layer : Layer Kept)
    (began : List Kept) (is : ErasCount counter script layer began) where
  abbrev config_at : ℕ → List State
  config_at = configuration_in counter script layer began

  module _ (j : ℕ) (among : j ≤ length script.eras) where
    -- the node of the lowest id that is correct
    lead : ℕ
    lead = lowest_correct counter.nodes (faulty_of_era script j)

    leads : (lead < counter.nodes) × (is_in (faulty_of_era script j) lead ≡ false)
    unfolding lead
    leads = leading.leads counter script layer began is j among

    later : (i x : ℕ) → first_of_era script j + counter.bound ≤ i
        → i + suc x < end_of_era script j
        → output_of counter (config_at (i + suc x)) lead
        ≡ (output_of counter (config_at i) lead + suc x) % counter.modulus
    later i x lo hi =
        let counts : EraCounts counter script layer began j = is.eras j among in
        counts.shows (i + suc x) (omega (arith, lo)) hi lead leads.0 leads.1
        ∙ (counts_on counter.modulus counts.output (first_of_era script j + counter.bound)
        (end_of_era script j) counts.grows i x lo hi
        ∙ ap (λ o. (o + suc x) % counter.modulus)
        (sym (counts.shows i lo (omega (arith, hi)) lead leads.0 leads.1)))

  -- a slot that counts is of one era
  module _ (x t : ℕ) (counting : counts_at counter.bound script (suc x) t ≡ true) where
    abbrev q : ℕ
    q = suc x

    abbrev j : ℕ
    j = era_of script t

    pub later_output : lead_output counter script (t + suc x) (config_at (t + suc x))
        ≡ (lead_output counter script t (config_at t) + suc x) % counter.modulus
    unfolding lead
    later_output =
        ap
        (λ era. output_of counter (config_at (t + q))
        (lowest_correct counter.nodes (faulty_of_era script era)))
        (same_era counter.bound script q t counting)
        ∙ later j (era_within script t) t x
        (let past = past_bound counter.bound script q t counting in omega (arith, past))
        (before_end counter.bound script q t counting is.whole)

    -- so it is a multiple of the slot's length if it was one
    pub same_rest : counter.modulus % suc x ≡ 0
        → (lead_output counter script (t + suc x) (config_at (t + suc x)) % suc x == 0)
        ≡ (lead_output counter script t (config_at t) % suc x == 0)
    same_rest divides =
        ap (λ y. y % q == 0) later_output
        ∙ ap (λ y. y == 0)
        (mod-mod_of_dvd q (lead_output counter script t (config_at t) + q)
        (dvd_of_mod-eq-zero q divides)
        ∙ add-mod_right (lead_output counter script t (config_at t)) q)
