-- What is at the configurations of an era, taken together or one by one.
use Rattle.std.proofs.Common.{◌≡◌, ℕ, zero, suc, ◌+◌, ◌-◌, ◌<◌}
use Rattle.std.proofs.Common.{◌≤◌, ◌%◌, List, [], All, cond, length, get_or}
use Rattle.std.proofs.Common.{sym, ap, ◌∙◌, subst, arith}
use Rattle.std.proofs.Math.Nat.{mod-add-mod}
use Rattle.std.proofs.lemmas.Bool.{le-ltb}
use Rattle.std.proofs.lemmas.List.{length-map}
use Rattle.std.proofs.lemmas.List.Elements.{All-get_or}
use Rattle.std.proofs.lemmas.List.FromFn.{length-map-range_with_len, get_or-map-range_with_len}
use Rattle.sync_types.specs.States.{State}
use Rattle.construction.specs.Runs.{configuration}
use Rattle.adversary_script.specs.Scripts.{Era, Script, IsScript, faulty_sets}
use Rattle.adversary_script.specs.Eras.{era_of, first_of_era, end_of_era, faulty_of_era, faulty_at}
use Rattle.machine_runner.specs.Eras.{of_era, EraCounts}
use Rattle.machine_runner.proofs.Firsts.{in_era, era_from}

module _ {A : Type 0} (s : Script) (at : ℕ → A) (j : ℕ) where
  pub era_long : length (of_era s at j) ≡ end_of_era s j - first_of_era s j
  era_long = length-map-range_with_len (λ i. at (first_of_era s j + i)) 0
      (end_of_era s j - first_of_era s j)

  pub place_is : (i : ℕ) (d : A) → i < end_of_era s j - first_of_era s j
      → get_or (of_era s at j) i d ≡ at (first_of_era s j + i)
  place_is i d lt = get_or-map-range_with_len (λ i. at (first_of_era s j + i)) 0
      (end_of_era s j - first_of_era s j) i i d lt (omega arith)

  -- what holds of each and the next one, from the first of the era on and before its end, holds of
  -- neighbours among them
  pub neighbours : (P : ℕ → A → A → Type 0) (d : A)
      → ((t : ℕ) → first_of_era s j ≤ t → t + 1 < end_of_era s j → P t (at t) (at (t + 1)))
      → (i : ℕ) → i + 1 < length (of_era s at j)
      → P (first_of_era s j + i) (get_or (of_era s at j) i d) (get_or (of_era s at j) (i + 1) d)
  neighbours P d holds i lt =
      let here = place_is i d (omega (arith, era_long)) in
      let there = place_is (i + 1) d (omega (arith, era_long)) in
      let next : first_of_era s j + i + 1 ≡ first_of_era s j + (i + 1) = omega arith in
      rw (here, there) (subst (λ t. P (first_of_era s j + i) (at (first_of_era s j + i)) (at t))
      next
      (holds (first_of_era s j + i) (omega arith) (omega (arith, era_long))))

-- what holds of all faulty sets of a script holds of that of an era
pub of_each_era : (P : List ℕ → Type 0) (s : Script) (j : ℕ) → j ≤ length s.eras
    → All P (faulty_sets s) → P (faulty_of_era s j)
of_each_era P s j le all = All-get_or P (faulty_sets s) j []
    (omega (arith, le, length-map s.eras (λ (era : Era). era.faulty))) all

module _ (s : Script) (whole : IsScript s) (j : ℕ) (le : j ≤ length s.eras) where
  pub same_faulty : (t : ℕ) → first_of_era s j ≤ t → t < end_of_era s j
      → faulty_at s t ≡ faulty_of_era s j
  same_faulty t low high = ap (faulty_of_era s) (in_era s whole.formed.rising j t le low high)

  -- a fact on a configuration of the era, as one on the configuration that is played, and
  -- conversely
  module _ (at : ℕ → List State) (P : List ℕ → List State → Type 0) (t i : ℕ)
      (is : first_of_era s j + i ≡ t) (before : t < end_of_era s j) where
    same_configuration : configuration (of_era s at j) i ≡ at t
    same_configuration = place_is s at j i [] (omega (arith, is, before)) ∙ ap at is

    pub to_played : P (faulty_of_era s j) (configuration (of_era s at j) i)
        → P (faulty_at s t) (at t)
    to_played h = subst (λ faulty. P faulty (at t))
        (sym (same_faulty t (omega (arith, is)) before))
        (subst (λ (config : List State). P (faulty_of_era s j) config) same_configuration h)

    pub from_played : P (faulty_at s t) (at t)
        → P (faulty_of_era s j) (configuration (of_era s at j) i)
    from_played h = subst (λ (config : List State). P (faulty_of_era s j) config)
        (sym same_configuration)
        (subst (λ faulty. P faulty (at t)) (same_faulty t (omega (arith, is)) before) h)

  -- outputs that count in the era are those that are played
  pub counts_played : (at : ℕ → List State) (all_show : List ℕ → List State → ℕ → Type 0)
      (modulus from : ℕ) (output : ℕ → ℕ)
      → ((i : ℕ) → from ≤ i → i < length (of_era s at j)
      → all_show (faulty_of_era s j) (configuration (of_era s at j) i) (output i))
      → ((i : ℕ) → from ≤ i → i + 1 < length (of_era s at j)
      → output (i + 1) ≡ (output i + 1) % modulus)
      → EraCounts all_show modulus s at j (first_of_era s j + from)
  counts_played at all_show modulus from output shows grows =
      let long = era_long s at j in
      record {
        output = λ t. output (t - first_of_era s j);
        shows = λ t lo hi. to_played at (λ faulty config.
            all_show faulty config (output (t - first_of_era s j))) t
            (t - first_of_era s j) (omega arith) hi
            (shows (t - first_of_era s j) (omega arith) (omega (arith, long)));
        grows = λ t lo hi.
            let next : t + 1 - first_of_era s j ≡ t - first_of_era s j + 1 = omega arith in
            subst (λ i. output i ≡ (output (t - first_of_era s j) + 1) % modulus) (sym next)
            (grows (t - first_of_era s j) (omega arith) (omega (arith, long)));
      }

-- the last era goes on to the end
pub last_end : (s : Script) → end_of_era s (length s.eras) ≡ s.rounds + 1
last_end s = ap (λ b. cond b (first_of_era s (length s.eras + 1)) (s.rounds + 1))
    (le-ltb (length s.eras) (length s.eras) (omega arith))

pub still_last : (s : Script) → IsScript s → (at : ℕ) → era_of s at ≡ length s.eras → (t : ℕ)
    → at ≤ t → t ≤ s.rounds → era_of s t ≡ length s.eras
still_last s whole at last t lo hi =
    let from = subst (λ j. first_of_era s j ≤ at) last (era_from s whole.formed.rising at) in
    in_era s whole.formed.rising (length s.eras) t (omega arith) (omega (arith, from, lo))
    (omega (arith, last_end s, hi))

-- a number that counts does so for any number of rounds
pub counts_on : (c : ℕ) (output : ℕ → ℕ) (from end : ℕ)
    → ((t : ℕ) → from ≤ t → t + 1 < end → output (t + 1) ≡ (output t + 1) % c)
    → (i x : ℕ) → from ≤ i → i + suc x < end → output (i + suc x) ≡ (output i + suc x) % c
counts_on c output from end grows i zero lo hi =
    let one : i + 1 ≡ i + suc zero = omega arith in
    let same : output i + 1 ≡ output i + suc zero = omega arith in
    ap output (sym one) ∙ (grows i lo (omega (arith, hi)) ∙ ap (λ y. y % c) same)
counts_on c output from end grows i (suc x) lo hi =
    let step : i + suc (suc x) ≡ i + suc x + 1 = omega arith in
    let same : output i + suc x + 1 ≡ output i + suc (suc x) = omega arith in
    ap output step
    ∙ (grows (i + suc x) (omega (arith, lo)) (omega (arith, hi))
    ∙ (ap (λ y. (y + 1) % c) (counts_on c output from end grows i x lo (omega (arith, hi)))
    ∙ (mod-add-mod (output i + suc x) c 1 ∙ ap (λ y. y % c) same)))
