-- Majorities and least values follow from the counts alone, and some follow from a part of the
-- list.
use Rattle.std.proofs.Common.{◌≡◌, ◌⊎◌, inl, inr, ℕ, ◌+◌, ◌*◌, ◌<◌, ◌≤◌, nat_le, List, ◌++◌, length}
use Rattle.std.proofs.Common.{Option, Some, None, refl, sym, ◌∙◌, arith}
use Rattle.std.proofs.lemmas.Bool.Decides.{nat_tests}
use Rattle.std.proofs.lemmas.List.{length-append}
use Rattle.counting.specs.Values.{count_of, majority_of, least_above}
use Rattle.counting.proofs.Counts.{count_of-append, count_of-le}
use Rattle.counting.proofs.Majority.{majority_has, majority_is, majority_none, no_majority}
use Rattle.counting.proofs.Least.{least_has, few_below, least_above_none, least_from, no_least}
use Rattle.counting.specs.Unfinished.{IsBelow, MajorityStays, LeastStays}

-- lists of one length in which each number has as many places have one majority
pub same_majority : (xs ys : List (Option ℕ)) → length xs ≡ length ys
    → ((z : ℕ) → count_of xs (Some z) ≡ count_of ys (Some z)) → majority_of xs ≡ majority_of ys
same_majority xs ys long same = by_majority (majority_of ys) refl
  where
    by_majority : (o : Option ℕ) → majority_of ys ≡ o → majority_of xs ≡ majority_of ys
    by_majority (Some z) e =
        majority_is xs z (omega (arith, long, same z, majority_has ys z e)) ∙ sym e
    by_majority None e =
        no_majority xs (λ z. omega (arith, long, same z, majority_none ys z e)) ∙ sym e

-- lists in which each number has as many places have one least value above f
pub same_least : (f : ℕ) (xs ys : List (Option ℕ))
    → ((z : ℕ) → count_of xs (Some z) ≡ count_of ys (Some z)) → least_above f xs ≡ least_above f ys
same_least f xs ys same = by_least (least_above f ys) refl
  where
    by_least : (o : Option ℕ) → least_above f ys ≡ o → least_above f xs ≡ least_above f ys
    by_least (Some j) e =
        least_from f xs j (omega (arith, same j, least_has f ys j e))
        (λ z lt. omega (arith, same z, few_below f ys j z e lt))
        ∙ sym e
    by_least None e = no_least f xs (λ z. omega (arith, same z, least_above_none f ys z e)) ∙ sym e

-- a number with more than half of all places, those to come counted, is the majority
pub majority_stays : (more : ℕ) (values : List (Option ℕ)) (z : ℕ)
    → length values + more < 2 * count_of values (Some z) → MajorityStays more values (Some z)
majority_stays more values z h rest long =
    majority_is (values ++ rest) z
    (omega (arith, h, long, length-append values rest, count_of-append values rest (Some z)))

-- if no number can come to more than half, there is no majority
pub no_majority_stays : (more : ℕ) (values : List (Option ℕ))
    → ((z : ℕ) → 2 * (count_of values (Some z) + more) ≤ length values + more)
    → MajorityStays more values None
no_majority_stays more values h rest long =
    no_majority (values ++ rest)
    (λ z. omega (
      arith,
      h z,
      long,
      length-append values rest,
      count_of-append values rest (Some z),
      count_of-le rest (Some z),
    ))

-- if no number below the least can come above f, the least stays
pub least_stays : (f more : ℕ) (values : List (Option ℕ))
    → ((z : ℕ) → IsBelow z (least_above f values) → count_of values (Some z) + more ≤ f)
    → LeastStays f more values (least_above f values)
least_stays f more values h rest long = by_least (least_above f values) refl h
  where
    by_least : (o : Option ℕ) → least_above f values ≡ o
        → ((z : ℕ) → IsBelow z o → count_of values (Some z) + more ≤ f)
        → least_above f (values ++ rest) ≡ o
    by_least (Some j) e h = least_from f (values ++ rest) j
        (omega (arith, least_has f values j e, count_of-append values rest (Some j)))
        (λ z lt. omega
        (arith, h z lt, long, count_of-append values rest (Some z), count_of-le rest (Some z)))
    by_least None e h =
        no_least f (values ++ rest)
        (λ z. omega
        (arith, h z tt, long, count_of-append values rest (Some z), count_of-le rest (Some z)))

-- a count to which at most so many are added passes a test in any case, or in none
pub test_closed : (need known some other more : ℕ) → some ≤ more → other ≤ more
    → (need ≤ known) ⊎ (known + more < need)
    → nat_le need (known + some) ≡ nat_le need (known + other)
test_closed need known some other more a b (inl enough) = grind (arith, nat_tests)
test_closed need known some other more a b (inr never) = grind (arith, nat_tests)
