-- A number that leads is the only one that more than half can be.
use Rattle.std.proofs.Common.{◌≡◌, ◌≢◌, ℕ, zero, suc, ◌+◌, ◌*◌, ◌<◌, ◌≤◌, Bool, if◌then◌else◌, List}
use Rattle.std.proofs.Common.{[], ◌∷◌, ◌++◌, map, length, nat_eq, Option, Some, None, unwrap_or}
use Rattle.std.proofs.Common.{All, refl, sym, ap, ◌∙◌, subst, ⊎_elim, arith}
use Rattle.std.proofs.lemmas.Bool.{cases_eq, eq-eqb, ne_eqb}
use Rattle.std.proofs.lemmas.List.{length-map, length_push, get_or-map}
use Rattle.std.proofs.lemmas.List.Elements.{All-get_or}
use Rattle.std.proofs.lemmas.List.Sums.{sum_by_push}
use Rattle.counting.specs.Values.{majority_of, majority_or_zero}
use Rattle.counting.proofs.Counts.{count_of_numbers}
use Rattle.counting.proofs.Majority.{majority_is, no_majority, majority_has, majority_below_at}
use Rattle.boost_step.specs.Leads.{Leads, times_of}

-- the number comes once more after itself
pub times_yes : (numbers : List ℕ) (x n : ℕ) → x ≡ n
    → times_of (numbers ++ n ∷ []) x ≡ times_of numbers x + 1
times_yes numbers x n e =
    sum_by_push (λ y. if nat_eq x y then 1 else 0) numbers n
    ∙ ap (λ (b : Bool). times_of numbers x + (if b then 1 else 0)) (eq-eqb x n e)

-- and no more often after another one
pub times_no : (numbers : List ℕ) (x n : ℕ) → x ≢ n
    → times_of (numbers ++ n ∷ []) x ≡ times_of numbers x
times_no numbers x n ne =
    sum_by_push (λ y. if nat_eq x y then 1 else 0) numbers n
    ∙ ap (λ (b : Bool). times_of numbers x + (if b then 1 else 0)) (ne_eqb x n ne)
    ∙ omega arith

-- if none leads, no number is most
half_at_most : (numbers : List ℕ) (number x : ℕ) → Leads numbers number 0
    → 2 * times_of numbers x ≤ length numbers
half_at_most numbers number x leads = ⊎_elim
    (λ e. let i = leads.itself in omega (arith, i, ap (times_of numbers) e))
    (λ ne. omega (arith, leads.others x ne))
    (cases_eq x number)

-- if none leads, the next number does
pub takes_over : (numbers : List ℕ) (number n : ℕ) → Leads numbers number 0
    → Leads (numbers ++ n ∷ []) n 1
takes_over numbers number n leads =
    let more = times_yes numbers n n refl in
    let long = length_push numbers n in
    record {
      there = omega (arith, more);
      itself = omega (arith, more, long, half_at_most numbers number n leads);
      others = λ x ne. omega (
        arith,
        long,
        times_no numbers x n ne,
        half_at_most numbers number x leads,
      );
    }

-- the one that leads comes once more
pub rises : (numbers : List ℕ) (number lead n : ℕ) → number ≡ n → Leads numbers number lead
    → Leads (numbers ++ n ∷ []) n (lead + 1)
rises numbers number lead n e leads =
    let here : Leads numbers n lead = subst (λ k. Leads numbers k lead) e leads in
    let more = times_yes numbers n n refl in
    let long = length_push numbers n in
    let there = here.there in
    let itself = here.itself in
    record {
      there = omega (arith, more, there);
      itself = omega (arith, more, long, itself);
      others = λ x ne. omega (arith, long, times_no numbers x n ne, here.others x ne);
    }

-- another one comes
pub falls : (numbers : List ℕ) (number lead n : ℕ) → number ≢ n → Leads numbers number (lead + 1)
    → Leads (numbers ++ n ∷ []) number lead
falls numbers number lead n apart leads =
    let same = times_no numbers number n apart in
    let long = length_push numbers n in
    let there = leads.there in
    let itself = leads.itself in
    record {
      there = omega (arith, same, there);
      itself = omega (arith, same, long, itself);
      others = λ x ne. ⊎_elim
          (λ e. omega (arith, long, times_yes numbers x n e, leads.others x ne))
          (λ other. omega (arith, long, times_no numbers x n other, leads.others x ne))
          (cases_eq x n);
    }

-- a number that is most is the majority
pub is_most : (numbers : List ℕ) (number : ℕ) → length numbers < 2 * times_of numbers number
    → number ≡ majority_or_zero numbers
is_most numbers number more =
    sym (ap (λ (o : Option ℕ). unwrap_or o 0) (majority_is (map Some numbers) number
    (omega (arith, more, length-map numbers Some, count_of_numbers numbers number))))

-- one that leads by more than half is it
pub leads_most : (numbers : List ℕ) (number lead : ℕ) → Leads numbers number lead
    → length numbers < 2 * lead → number ≡ majority_or_zero numbers
leads_most numbers number lead leads more =
    let there = leads.there in
    is_most numbers number (omega (arith, there, more))

-- if the one that leads is not most, none is
pub none_most : (numbers : List ℕ) (number lead : ℕ) → Leads numbers number lead
    → 2 * times_of numbers number ≤ length numbers → 0 ≡ majority_or_zero numbers
none_most numbers number lead leads few =
    sym (ap (λ (o : Option ℕ). unwrap_or o 0) (no_majority (map Some numbers) (λ z.
    let long = length-map numbers Some in
    let count = count_of_numbers numbers z in
    ⊎_elim
    (λ e. omega (arith, long, count, few, ap (times_of numbers) e))
    (λ ne. omega (arith, long, count, leads.others z ne))
    (cases_eq z number))))

-- if none leads, none is most
pub none_leads : (numbers : List ℕ) (number : ℕ) → Leads numbers number 0
    → 0 ≡ majority_or_zero numbers
none_leads numbers number leads =
    none_most numbers number 0 leads (half_at_most numbers number number leads)

-- a majority of zeros and ones is 0 if 1 is not most
zero_by : (numbers : List ℕ) (found : Option ℕ) → majority_of (map Some numbers) ≡ found
    → unwrap_or found 0 < 2 → 2 * times_of numbers 1 ≤ length numbers → 0 ≡ unwrap_or found 0
zero_by numbers None e lt few = refl
zero_by numbers (Some zero) e lt few = refl
zero_by numbers (Some (suc z)) e lt few =
    let one : suc z ≡ 1 = omega (arith, lt) in
    let more = majority_has (map Some numbers) (suc z) e in
    let long = length-map numbers Some in
    let count = count_of_numbers numbers (suc z) in
    absurd (omega (arith, more, long, count, few, ap (times_of numbers) one))

-- the majority of zeros and ones
pub zero_is_most : (f : ℕ → ℕ) (numbers : List ℕ) → All (λ n. f n < 2) numbers
    → 2 * times_of (map f numbers) 1 ≤ length numbers → 0 ≡ majority_or_zero (map f numbers)
zero_is_most f numbers two few =
    let long = length-map numbers f in
    zero_by (map f numbers) (majority_of (map Some (map f numbers))) refl
    (majority_below_at (map f numbers) 2 (omega arith)
    (λ i lt. subst (λ (y : ℕ). y < 2) (sym (get_or-map f numbers i 0 0 (omega (arith, lt, long))))
    (All-get_or (λ n. f n < 2) numbers i 0 (omega (arith, lt, long)) two)))
    (omega (arith, few, long))
