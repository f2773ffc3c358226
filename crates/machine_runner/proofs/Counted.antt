-- What is known of a runner whose correct nodes count.
use Rattle.std.proofs.Common.{◌≡◌, ◌≢◌, ℕ, suc, ◌+◌, ◌-◌, ◌%◌, ◌<◌, ◌≤◌, inl, inr, Bool, true}
use Rattle.std.proofs.Common.{false, ◌&&◌, eqb, List, length, Option, Some, None, refl, sym}
use Rattle.std.proofs.Common.{ap, ap₂, ◌∙◌, subst, arith}
use Rattle.std.specs.Prelude.{is_some}
use Rattle.std.proofs.lemmas.Bool.{true≢false, and_parts, cases_eq, cases_lt, eqb-true}
use Rattle.std.proofs.lemmas.Bool.{eq-eqb, ne_eqb}
use Rattle.sync_types.specs.FaultSets.{is_in}
use Rattle.construction.specs.Steps.{state_of}
use Rattle.adversary_script.specs.Scripts.{Script, IsScript}
use Rattle.adversary_script.specs.Eras.{era_of, end_of_era, faulty_of_era, faulty_at}
use Rattle.machines.specs.Machines.{Machine, AllShow, IsLocked}
use Rattle.machines.specs.Laws.{IsSound}
use Rattle.machine_runner.specs.Laws.{IsReadFor, EraCountsFrom}
use Rattle.machine_runner.specs.Locks.{is_locked, first_locked, era_locked, IsFirstLocked}
use Rattle.machine_runner.specs.Played.{played_at}
use Rattle.machine_runner.proofs.EraRuns.{eras_stay_locked}
use Rattle.machine_runner.proofs.FirstLocked.{firsts_are_locked}
use Rattle.machine_runner.proofs.Eras.{last_end, still_last, counts_on}
use Rattle.machine_runner.proofs.FirstPassing.{still_known}
use Rattle.machine_runner.proofs.Firsts.{in_era}
use Rattle.machine_runner.specs.Runners.{Running, lock_of}
use Rattle.machine_runner.specs.Counting.{is_counting, Knows, Shows}
use Rattle.machine_runner.specs.ShownTexts.{lock_played}

module _ {M : Type 0} (machine : M → Machine) (r : Running M) (whole : IsScript r.script)
    (within : r.at ≤ r.script.rounds) where
  abbrev m : Machine
  m = machine r.machine

  abbrev s : Script
  s = r.script

  abbrev last : ℕ
  last = length r.script.eras

  end_is : end_of_era s last ≡ s.rounds + 1
  end_is = last_end s

  module _ (counting : is_counting machine r ≡ true) where
    parts : (eqb (era_of s r.at) last ≡ true) × (is_some (lock_of machine r last) ≡ true)
    parts = and_parts (eqb (era_of s r.at) last) (is_some (lock_of machine r last)) counting

    in_last : era_of s r.at ≡ last
    in_last = eqb-true (era_of s r.at) last parts.0

    -- each configuration from there on is of the last era
    era_is : (t : ℕ) → r.at ≤ t → t ≤ s.rounds → era_of s t ≡ last
    era_is = still_last s whole r.at in_last

    same_faulty : (t : ℕ) → r.at ≤ t → t ≤ s.rounds → faulty_at s t ≡ faulty_at s r.at
    same_faulty t from to = ap (faulty_of_era s) (era_is t from to ∙ sym in_last)

    abbrev locked_in : (j t : ℕ) → Bool
    locked_in j t = era_locked m s (played_at m s) j t

    not_of : (j t : ℕ) → (j ≢ last) → r.at ≤ t → t ≤ s.rounds → locked_in j t ≡ false
    not_of j t other from to =
        ap (λ (b : Bool). b && is_locked m (faulty_at s t) (played_at m s t))
        (ne_eqb (era_of s t) j (λ same. other (sym same ∙ era_is t from to)))

    -- so the first locked ones so far are those of all
    counting_known : (j : ℕ) → lock_of machine r j ≡ lock_played m s j
    counting_known j =
        let back : r.at + (s.rounds - r.at) ≡ s.rounds = omega (arith, within) in
        let known : Option ℕ = first_locked (locked_in j) r.at in
        sym (ap (first_locked (locked_in j)) (sym back)
        ∙ still_known (locked_in j) r.at (s.rounds - r.at) known refl (λ u lo hi none.
        elim (cases_eq j last) [
          | inl same ↦ absurd (true≢false (sym (subst (λ (i : ℕ).
              is_some (lock_of machine r i) ≡ true) (sym same) parts.1) ∙ none))
          | inr other ↦ not_of j u other (omega (arith, lo)) (omega (arith, hi, back))
        ]))

    -- ---- outputs

    module _ (sound : IsSound m) (read : IsReadFor m s) where
      counts_by : (known : Option ℕ) → is_some known ≡ true
          → IsFirstLocked m s (played_at m s) last r.at known → EraCountsFrom m s last r.at
      counts_by None some first = absurd (true≢false (sym some))
      counts_by (Some w) some first =
          let le = first.0 in
          let is = first.1 in
          let from = is.from in
          let before = is.before in
          let here : era_of s w ≡ last =
          in_era s whole.formed.rising last w (omega arith) from before in
          let locked : IsLocked m (faulty_at s w) (played_at m s w) =
          subst (λ (j : ℕ). IsLocked m (faulty_of_era s j) (played_at m s w)) (sym here)
          is.locked in
          let stays = eras_stay_locked m s sound read last (omega arith) w from before locked in
          record {
            output = stays.counts.output;
            shows = λ t lo hi. stays.counts.shows t (omega (arith, le, lo)) hi;
            grows = λ t lo hi. stays.counts.grows t (omega (arith, le, lo)) hi;
          }

      counts : EraCountsFrom m s last r.at
      counts = counts_by (lock_of machine r last) parts.1
          (firsts_are_locked m s (played_at m s) whole last r.at (omega arith) within)

      module _ (t lead : ℕ) (behind : r.at < t) (to : t ≤ s.rounds)
          (leads : (output v : ℕ) → AllShow m (faulty_at s r.at) (played_at m s r.at) output
          → v < m.nodes → is_in (faulty_at s r.at) v ≡ false → lead ≡ output) where
        abbrev output : ℕ
        output = (lead + (t - r.at)) % m.modulus

        shows_counted : (v : ℕ) → v < m.nodes → is_in (faulty_at s t) v ≡ false
            → m.shows v (state_of (played_at m s t) v) ≡ output
        shows_counted v lt correct =
            let own : is_in (faulty_at s r.at) v ≡ false =
            subst (λ (faulty : List ℕ). is_in faulty v ≡ false)
            (same_faulty t (omega (arith, behind)) to) correct in
            let k : ℕ = t - r.at - 1 in
            let there : t ≡ r.at + suc k = omega (arith, behind) in
            let rounds : suc k ≡ t - r.at = omega (arith, behind) in
            let at_first : lead ≡ counts.output r.at =
            leads (counts.output r.at) v
            (counts.shows r.at (omega arith) (omega (arith, end_is, within))) lt own in
            counts.shows t (omega (arith, behind)) (omega (arith, end_is, to)) v lt correct
            ∙ (ap counts.output there
            ∙ (counts_on m.modulus counts.output r.at (end_of_era s last) counts.grows r.at k
            (omega arith) (omega (arith, end_is, behind, to))
            ∙ ap₂ (λ (o n : ℕ). (o + n) % m.modulus) (sym at_first) rounds))

  -- the first locked configurations are known, at the end or before
  pub known_at_end : Knows machine r s.rounds → (j : ℕ) → lock_of machine r j ≡ lock_played m s j
  known_at_end (inl end) j = ap (first_locked (era_locked m s (played_at m s) j)) end
  known_at_end (inr counting) j = counting_known counting j

-- what correct nodes show in a configuration, if it is known
pub counted_shows : {M : Type 0} (machine : M → Machine) (r : Running M) (t : ℕ)
    → Knows machine r t → IsSound (machine r.machine) → IsReadFor (machine r.machine) r.script
    → r.at ≤ t → t ≤ r.script.rounds → (lead : ℕ)
    → ((output v : ℕ)
    → AllShow (machine r.machine) (faulty_at r.script r.at)
    (played_at (machine r.machine) r.script r.at) output
    → v < (machine r.machine).nodes → is_in (faulty_at r.script r.at) v ≡ false → lead ≡ output)
    → (output : ℕ) → output ≡ (lead + (t - r.at)) % (machine r.machine).modulus
    → Shows machine r t output
counted_shows machine r t (inl here) sound read from to lead leads output is = record {
  same = ap (faulty_at r.script) (sym here);
  shows = λ other v lt correct. absurd (other here);
}
counted_shows machine r t (inr counting) sound read from to lead leads output is =
    let within : r.at ≤ r.script.rounds = omega (arith, from, to) in
    record {
      same = same_faulty machine r read.whole within counting t from to;
      shows = λ other v lt correct. is
          ∙ sym (shows_counted machine r read.whole within counting sound read t lead
          (omega (arith, from, other)) to leads v lt correct);
    }

-- ---- the first correct node

-- all nodes before v are faulty in configuration t
abbrev pub AreFaulty : Script → (t v : ℕ) → Type 0
AreFaulty script t v = (u : ℕ) → u < v → is_in (faulty_at script t) u ≡ true

pub faulty_more : (script : Script) (t v : ℕ) → AreFaulty script t v
    → is_in (faulty_at script t) v ≡ true → AreFaulty script t (v + 1)
faulty_more script t v before is u lt = elim (cases_lt u v) [
  | inl less ↦ before u less
  | inr more ↦ (let here : u ≡ v = omega (arith, lt, more) in
      ap (is_in (faulty_at script t)) here ∙ is)
]

-- ---- whether they count, by numbers that are read

module _ {M : Type 0} (machine : M → Machine) (r : Running M) (era last : ℕ)
    (here : era ≡ era_of r.script r.at) (there : last ≡ length r.script.eras) where
  pub counting_not : (era ≢ last) → false ≡ is_counting machine r
  counting_not other =
      sym (ap (λ (b : Bool). b && is_some (lock_of machine r (length r.script.eras)))
      (ne_eqb (era_of r.script r.at) (length r.script.eras)
      (λ same. other (here ∙ (same ∙ sym there)))))

  pub counting_so : era ≡ last → (some : Bool) → some ≡ is_some (lock_of machine r last)
      → some ≡ is_counting machine r
  counting_so same some is =
      is
      ∙ (ap (λ (j : ℕ). is_some (lock_of machine r j)) there
      ∙ sym (ap (λ (b : Bool). b && is_some (lock_of machine r (length r.script.eras)))
      (eq-eqb (era_of r.script r.at) (length r.script.eras) (sym here ∙ (same ∙ there)))))
