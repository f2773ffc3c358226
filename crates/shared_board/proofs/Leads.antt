-- The lead from votes of which some are known.
use Rattle.std.proofs.Common.{◌≡◌, ℕ, ◌+◌, ◌/◌, ◌<◌, ◌≤◌, List, IfSome, map, length, get_or, Option}
use Rattle.std.proofs.Common.{Some, None, unwrap_or, inl, inr, ◌⊎◌, refl, sym, ap, ◌∙◌, subst}
use Rattle.std.proofs.Common.{⊎_elim, arith}
use Rattle.std.specs.List.{range_with_len}
use Rattle.std.proofs.lemmas.Bool.{cases_lt}
use Rattle.std.proofs.lemmas.Simd.{map-map}
use Rattle.std.proofs.lemmas.List.FromFn.{get_or-map-range_with_len, length-map-range_with_len}
use Rattle.counting.specs.Values.{count_of, majority_of, majority_or_zero}
use Rattle.counting.proofs.Counts.{holds_at, holds_is, holds_from, count_of-places}
use Rattle.counting.proofs.Counts.{count_of-places_at, held_from_count}
use Rattle.counting.proofs.Majority.{majority_is, no_majority}
use Rattle.counting.proofs.Places.{cover, fewer}
use Rattle.shared_board.specs.Votes.{IsLead}

-- a known vote is the block's
agreed : (o : Option ℕ) (x z : ℕ) → IfSome o (λ known. x ≡ known) → o ≡ Some z → Some x ≡ Some z
agreed None x z e is = absurd (cc)
agreed (Some v) x z e is = ap Some e ∙ is

-- a vote is that of its block or is not known
known_or_not : (o : Option ℕ) (x z : ℕ) → IfSome o (λ known. x ≡ known) → Some x ≡ Some z
    → (o ≡ Some z) ⊎ (o ≡ None)
known_or_not None x z e is = inr refl
known_or_not (Some v) x z e is = inl (ap Some (sym e) ∙ is)

module _ (votes : List (Option ℕ)) (vote : ℕ → ℕ)
    (agree : (i : ℕ) → i < length votes
    → IfSome (get_or votes i None) (λ known. vote i ≡ known)) where
  abbrev all_votes : List (Option ℕ)
  all_votes = map (λ i. Some (vote i)) (range_with_len 0 (length votes))

  long : length all_votes ≡ length votes
  long = length-map-range_with_len (λ i. Some (vote i)) 0 (length votes)

  at : (i : ℕ) → i < length votes → get_or all_votes i None ≡ Some (vote i)
  at i lt =
      get_or-map-range_with_len (λ i. Some (vote i)) 0 (length votes) i i None lt (omega arith)

  -- a vote has the places at which it is known, and no more than with those that are not known
  has_known : (z : ℕ) → count_of votes (Some z) ≤ count_of all_votes (Some z)
  has_known z = omega (
    arith,
    count_of-places votes (Some z),
    count_of-places_at all_votes (Some z) (length votes) long,
    fewer (holds_at votes (Some z)) (holds_at all_votes (Some z)) (length votes)
        (λ i lt h. holds_from all_votes (Some z) i
        (at i lt ∙ agreed (get_or votes i None) (vote i) z (agree i lt)
        (holds_is votes (Some z) i h))),
  )

  has_most : (z : ℕ) → count_of all_votes (Some z) ≤ count_of votes (Some z) + count_of votes None
  has_most z = omega (
    arith,
    count_of-places votes (Some z),
    count_of-places votes None,
    count_of-places_at all_votes (Some z) (length votes) long,
    cover (holds_at all_votes (Some z)) (holds_at votes (Some z)) (holds_at votes None)
        (length votes)
        (λ i lt h. ⊎_elim
        (λ same. inl (holds_from votes (Some z) i same))
        (λ unknown. inr (holds_from votes None i unknown))
        (known_or_not (get_or votes i None) (vote i) z (agree i lt)
        (sym (at i lt) ∙ holds_is all_votes (Some z) i h))),
  )

  as_heard : majority_or_zero (map vote (range_with_len 0 (length votes)))
      ≡ unwrap_or (majority_of all_votes) 0
  as_heard = ap (λ vs. unwrap_or (majority_of vs) 0)
      (map-map Some vote (range_with_len 0 (length votes)))

  lead_found : (z : ℕ) → length votes / 2 < count_of votes (Some z)
      → majority_or_zero (map vote (range_with_len 0 (length votes))) ≡ z
  lead_found z above = as_heard
      ∙ ap (λ o. unwrap_or o 0) (majority_is all_votes z (omega (arith, has_known z, long)))

  lead_absent : ((z : ℕ) → count_of votes (Some z) + count_of votes None ≤ length votes / 2)
      → majority_or_zero (map vote (range_with_len 0 (length votes))) ≡ 0
  lead_absent few = as_heard
      ∙ ap (λ o. unwrap_or o 0)
      (no_majority all_votes (λ z. omega (arith, few z, has_most z, long)))

-- a vote that more than half are known to be is the lead
pub lead_is : (votes : List (Option ℕ)) (z : ℕ) → length votes / 2 < count_of votes (Some z)
    → IsLead votes (Some z)
lead_is votes z above = λ vote agree. lead_found votes vote agree z above

-- a vote that is known has at most so many places
abbrev pub HasFew : (votes : List (Option ℕ)) (most : ℕ) → Option ℕ → Type 0
HasFew votes most o = IfSome o (λ known. count_of votes (Some known) ≤ most)

few_more : (votes : List (Option ℕ)) (old new : ℕ) (o : Option ℕ) → old ≤ new
    → HasFew votes old o → HasFew votes new o
few_more votes old new None le few = tt
few_more votes old new (Some v) le few = omega (arith, few, le)

pub few_some : (votes : List (Option ℕ)) (most z : ℕ) (o : Option ℕ) → o ≡ Some z
    → count_of votes o ≤ most → HasFew votes most o
few_some votes most z None is few = absurd (cc)
few_some votes most z (Some v) is few = few

pub few_none : (votes : List (Option ℕ)) (most : ℕ) (o : Option ℕ) → o ≡ None
    → HasFew votes most o
few_none votes most None is = tt
few_none votes most (Some v) is = absurd (cc)

-- those so far and the next one
pub few_next : (votes : List (Option ℕ)) (old new i : ℕ) → old ≤ new
    → ((k : ℕ) → k < i → HasFew votes old (get_or votes k None))
    → HasFew votes new (get_or votes i None)
    → (k : ℕ) → k < i + 1 → HasFew votes new (get_or votes k None)
few_next votes old new i le before next k lt = ⊎_elim
    (λ earlier. few_more votes old new (get_or votes k None) le (before k earlier))
    (λ ge. let is : i ≡ k = omega arith in
    subst (λ j. HasFew votes new (get_or votes j None)) is next)
    (cases_lt k i)

few_of : (votes : List (Option ℕ)) (most z : ℕ) (o : Option ℕ) → o ≡ Some z
    → HasFew votes most o → count_of votes (Some z) ≤ most
few_of votes most z None is few = absurd (cc)
few_of votes most z (Some v) is few = subst (λ o. count_of votes o ≤ most) is few

-- if none can come to more than half, there is no lead
pub lead_none : (votes : List (Option ℕ)) (most : ℕ)
    → ((i : ℕ) → i < length votes → HasFew votes most (get_or votes i None))
    → most + count_of votes None ≤ length votes / 2 → IsLead votes (Some 0)
lead_none votes most each fits = λ vote agree. lead_absent votes vote agree (λ z. ⊎_elim
    (λ (held : 0 < count_of votes (Some z)).
    let s = held_from_count votes (Some z) held in
    omega (arith, fits, few_of votes most z (get_or votes s.0 None) s.2 (each s.0 s.1)))
    (λ (absent : count_of votes (Some z) ≤ 0). omega (arith, fits, absent))
    (cases_lt 0 (count_of votes (Some z))))
