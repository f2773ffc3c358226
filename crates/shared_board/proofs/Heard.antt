-- What is heard of a stretch of nodes, by what its correct ones have and its liars say.
use Rattle.std.proofs.Common.{◌≡◌, ℕ, ◌+◌, ◌-◌, ◌*◌, ◌≤◌, Bool, true, false, if◌then◌else◌, List, ◌++◌, map}
use Rattle.std.proofs.Common.{length, replicate, Option, Some, unwrap_or, refl, sym, ap, ◌∙◌, arith}
use Rattle.std.specs.List.{range_with_len}
use Rattle.std.proofs.Math.Path.{fun_ext}
use Rattle.std.proofs.lemmas.Simd.{map-map}
use Rattle.std.proofs.lemmas.List.{length-map, length-replicate}
use Rattle.std.proofs.lemmas.List.FromFn.{length-range_with_len}
use Rattle.counting.specs.Values.{count_of, majority_of, majority_or_zero, least_above}
use Rattle.counting.specs.Unfinished.{MajorityStays, LeastStays}
use Rattle.counting.proofs.Places.{shorter}
use Rattle.counting.proofs.Counts.{count_of-append}
use Rattle.counting.proofs.Parted.{heard_value, heard_values, heard_counts, heard_long, told_long}
use Rattle.counting.proofs.Heard.{heard_majority, heard_least, known_majority, known_least}
use Rattle.sync_types.specs.States.{State, zero_state, register_at}
use Rattle.construction.specs.Shown.{shown}
use Rattle.majority_votes.specs.Outlooks.{IsOutlook}
use Rattle.majority_votes.specs.declared.tally.Outlook.{Outlook}
use Rattle.majority_votes.specs.declared.tally.Outlook.TheVariants as outlook
use Rattle.shared_board.specs.Senders.{Sent, is_liar, output_of, register_of, correct_in}
use Rattle.shared_board.specs.Senders.{liars_below, liars_in, values_of, IsTold, told_by, lies_in}
use Rattle.shared_board.specs.Senders.{output_heard, outputs_heard, values_heard}
use Rattle.shared_board.specs.Votes.{known_number, IsKnown}

-- the liars of a stretch stand after those before it
pub liars_sum : (s : Sent) (first count : ℕ)
    → liars_below s first + liars_in s first count ≡ liars_below s (first + count)
liars_sum s first count = omega (arith, shorter (is_liar s) first (first + count) (omega arith))

-- the liars of two stretches, one after the other
pub liars_two : (s : Sent) (first count more : ℕ)
    → liars_in s first count + liars_in s (first + count) more ≡ liars_in s first (count + more)
liars_two s first count more =
    let at : first + (count + more) ≡ first + count + more = omega arith in
    omega (
      arith,
      liars_sum s first count,
      liars_sum s (first + count) more,
      liars_sum s first (count + more),
      ap (liars_below s) at,
    )

-- a stretch has no more liars than a longer one
pub liars_front : (s : Sent) (first count more : ℕ) → count ≤ more
    → liars_in s first count ≤ liars_in s first more
liars_front s first count more le =
    let rest : count + (more - count) ≡ more = omega arith in
    omega (arith, liars_two s first count (more - count), ap (liars_in s first) rest)

-- the blocks so far and the next one
pub liars_more : (s : Sent) (first i n : ℕ)
    → liars_in s first (i * n) + liars_in s (first + i * n) n ≡ liars_in s first ((i + 1) * n)
liars_more s first i n =
    let e : i * n + n ≡ (i + 1) * n = omega arith in
    liars_two s first (i * n) n ∙ ap (liars_in s first) e

-- a block has no more liars than the nodes among which it stands
pub liars_block : (s : Sent) (first i n nodes : ℕ) → (i + 1) * n ≤ nodes
    → liars_in s (first + i * n) n ≤ liars_in s first nodes
liars_block s first i n nodes le =
    omega (arith, liars_more s first i n, liars_front s first ((i + 1) * n) nodes le)

module _ (s : Sent) (lies : List State) (told : IsTold s lies) (first count : ℕ)
    (within : first + count ≤ length s.registers) where
  enough : liars_below s (first + count) ≤ length lies
  enough = omega (arith, told, shorter (is_liar s) (first + count) (length s.registers) within)

  module _ (f : ℕ → ℕ) where
    told_number : State → Option ℕ
    told_number t = Some (f (shown s.height t))

    true_number : ℕ → Option ℕ
    true_number u = Some (f (output_of s u))

    number_by : (u : ℕ) (b : Bool)
        → Some (f (if b then shown s.height (told_by s lies u) else output_of s u))
        ≡ (if b then Some (f (shown s.height (told_by s lies u))) else Some (f (output_of s u)))
    number_by u true = refl
    number_by u false = refl

    numbers_heard : map Some (map f (outputs_heard s lies first count))
        ≡ heard_values (zero_state 0) lies (is_liar s) told_number true_number first count
    unfolding told_number true_number
    numbers_heard =
        map-map Some f (outputs_heard s lies first count)
        ∙ (map-map (λ o. Some (f o)) (output_heard s lies) (range_with_len first count)
        ∙ ap (λ (g : ℕ → Option ℕ). map g (range_with_len first count))
        (fun_ext (λ u. number_by u (is_liar s u))))

    -- the number that most have, among the true ones of the correct nodes and the lies
    pub number_heard : majority_or_zero (map f (outputs_heard s lies first count))
        ≡ unwrap_or (majority_of
        (map (λ u. Some (f (output_of s u))) (correct_in s first count) ++ map
        (λ t. Some (f (shown s.height t))) (lies_in s lies first count))) 0
    unfolding told_number true_number
    number_heard = ap (λ vs. unwrap_or (majority_of vs) 0) numbers_heard
        ∙ ap (λ o. unwrap_or o 0)
        (heard_majority (zero_state 0) lies (is_liar s) told_number true_number first count
        (liars_in s first count) (liars_sum s first count) enough)

    -- one that stays whatever is said is the one heard
    pub number_stays : (m : Option ℕ)
        → MajorityStays (liars_in s first count)
        (map (λ u. Some (f (output_of s u))) (correct_in s first count)) m
        → majority_or_zero (map f (outputs_heard s lies first count)) ≡ unwrap_or m 0
    unfolding told_number true_number
    number_stays m stays = ap (λ vs. unwrap_or (majority_of vs) 0) numbers_heard
        ∙ ap (λ o. unwrap_or o 0)
        (known_majority (zero_state 0) lies (is_liar s) told_number true_number first count
        (liars_in s first count) (liars_sum s first count) enough m stays)

  told_value : State → Option ℕ
  told_value t = (register_at s.height t).a

  true_value : ℕ → Option ℕ
  true_value u = (register_of s u).a

  -- the least value heard, and how often a value is heard
  pub least_of_heard : (f : ℕ)
      → least_above f (values_heard s lies first count)
      ≡ least_above f (values_of s first count ++ map (λ t. (register_at s.height t).a)
      (lies_in s lies first count))
  unfolding told_value true_value
  least_of_heard f = heard_least (zero_state 0) lies (is_liar s) told_value true_value first count
      (liars_in s first count) (liars_sum s first count) enough f

  pub least_stays_heard : (f : ℕ) (m : Option ℕ)
      → LeastStays f (liars_in s first count) (values_of s first count) m
      → least_above f (values_heard s lies first count) ≡ m
  unfolding told_value true_value
  least_stays_heard f m stays =
      known_least (zero_state 0) lies (is_liar s) told_value true_value first count
      (liars_in s first count) (liars_sum s first count) enough f m stays

  pub count_parted : (z : Option ℕ)
      → count_of (values_heard s lies first count) z
      ≡ count_of (values_of s first count) z + count_of
      (map (λ t. (register_at s.height t).a) (lies_in s lies first count)) z
  unfolding told_value true_value
  count_parted z = heard_counts (zero_state 0) lies (is_liar s) told_value true_value first count
      (liars_in s first count) (liars_sum s first count) enough z

  pub count_of_heard : (z : Option ℕ)
      → count_of (values_heard s lies first count) z
      ≡ count_of (values_of s first count ++ map (λ t. (register_at s.height t).a)
      (lies_in s lies first count)) z
  count_of_heard z = count_parted z
      ∙ sym (count_of-append (values_of s first count)
      (map (λ t. (register_at s.height t).a) (lies_in s lies first count)) z)

  -- there are as many lies as liars
  pub lies_long : length (lies_in s lies first count) ≡ liars_in s first count
  unfolding told_value true_value
  lies_long = sym (length-map (lies_in s lies first count) told_value)
      ∙ told_long (zero_state 0) lies (is_liar s) told_value true_value first count
      (liars_in s first count) (liars_sum s first count) enough

  pub correct_and_liars : length (correct_in s first count) + liars_in s first count ≡ count
  unfolding told_value true_value
  correct_and_liars = omega (
    arith,
    lies_long,
    heard_long (zero_state 0) lies (is_liar s) told_value true_value first count
        (liars_in s first count) (liars_sum s first count) enough,
    length-map (range_with_len first count)
        (heard_value (zero_state 0) lies (is_liar s) told_value true_value),
    length-range_with_len first count,
    length-map (correct_in s first count) true_value,
    length-map (lies_in s lies first count) told_value,
  )

-- what is known of a number that most have
pub number_known : (s : Sent) (first count : ℕ) → first + count ≤ length s.registers
    → (f : ℕ → ℕ) (o : Outlook)
    → IsOutlook (liars_in s first count)
    (map (λ u. Some (f (output_of s u))) (correct_in s first count)) o
    → IsKnown s (λ lies. majority_or_zero (map f (outputs_heard s lies first count)))
    (known_number o)
number_known s first count within f (outlook.Is m) stays =
    λ lies told. number_stays s lies told first count within f m stays
number_known s first count within f outlook.Open stays = tt

-- some lies that may be told
some_lies : Sent → List State
some_lies s = replicate (liars_below s (length s.registers)) (zero_state 0)

some_told : (s : Sent) → IsTold s (some_lies s)
unfolding some_lies
some_told s = length-replicate (liars_below s (length s.registers)) (zero_state 0)

-- what is known is so of some lies
pub known_of_some : {X : Type 0} → (s : Sent) (heard : List State → X) (x : X)
    → ((lies : List State) → IsTold s lies → heard lies ≡ x) → (lies : List State)
    × (heard lies ≡ x)
known_of_some s heard x all = (some_lies s, all (some_lies s) (some_told s))

-- each node of a stretch is correct or a liar
pub correct_count : (s : Sent) (first count : ℕ) → first + count ≤ length s.registers
    → length (correct_in s first count) + liars_in s first count ≡ count
correct_count s first count within =
    correct_and_liars s (some_lies s) (some_told s) first count within
