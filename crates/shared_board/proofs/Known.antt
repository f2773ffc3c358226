-- The lead and the beat of a group, if they are known.
use Rattle.std.proofs.Common.{◌≡◌, ℕ, ◌+◌, ◌*◌, ◌/◌, ◌%◌, ◌<◌, List, IfSome, map, length, get_or}
use Rattle.std.proofs.Common.{Option, Some, None, refl, sym, ap, ◌∙◌, subst, arith}
use Rattle.std.specs.List.{range_with_len}
use Rattle.std.proofs.Math.Nat.{mod-lt}
use Rattle.std.proofs.lemmas.List.{get_or-map, length-map}
use Rattle.counting.specs.Values.{majority_or_zero}
use Rattle.counting.proofs.Majority.{majority_below_at}
use Rattle.sync_types.specs.States.{State}
use Rattle.majority_votes.specs.Votes.{Votes}
use Rattle.shared_board.specs.Senders.{Sent, IsTold, outputs_heard}
use Rattle.shared_board.specs.Votes.{IsKnown, IsBeat, AreVotes, IsLead, block_vote, block_part}
use Rattle.shared_board.specs.Votes.{blocks_lead}
use Rattle.shared_board.proofs.Heard.{known_of_some}

-- the majority of numbers below m is below m
pub majority_map_below : (f : ℕ → ℕ) (m : ℕ) (xs : List ℕ) → 0 < m → ((x : ℕ) → f x < m)
    → majority_or_zero (map f xs) < m
majority_map_below f m xs some below =
    majority_below_at (map f xs) m some
    (λ i lt. subst (λ y. y < m)
    (sym (get_or-map f xs i 0 0 (let e = length-map xs f in omega arith))) (below _))

module _ (s : Sent) (intervals : List ℕ) (leaders first n : ℕ) where
  vote_below : (lies : List State) (i : ℕ) → 0 < leaders
      → block_vote s lies (get_or intervals i 0) leaders (first + i * n) n < leaders
  vote_below lies i some =
      majority_map_below (λ o. o / get_or intervals i 0 % leaders) leaders
      (outputs_heard s lies (first + i * n) n) some (λ o. mod-lt (o / get_or intervals i 0) some)

  pub lead_below : (lies : List State) → 0 < leaders
      → blocks_lead s lies intervals leaders first n < leaders
  lead_below lies some =
      majority_map_below (λ i. block_vote s lies (get_or intervals i 0) leaders (first + i * n) n)
      leaders (range_with_len 0 (length intervals)) some (λ i. vote_below lies i some)

  module _ (votes : List (Option ℕ)) (pointers : List Votes) (none : Votes)
      (long : length votes ≡ length intervals)
      (are : AreVotes s intervals leaders first n votes pointers) where
    agree_by : (lies : List State) → IsTold s lies → (i : ℕ) (o : Option ℕ)
        → IsKnown s (λ lies. block_vote s lies (get_or intervals i 0) leaders (first + i * n) n) o
        → IfSome o (λ known. block_vote s lies (get_or intervals i 0) leaders (first + i * n) n
        ≡ known)
    agree_by lies told i None h = tt
    agree_by lies told i (Some v) h = h lies told

    pub lead_is_known : (lead : Option ℕ) → IsLead votes lead
        → IsKnown s (λ lies. blocks_lead s lies intervals leaders first n) lead
    lead_is_known None is = tt
    lead_is_known (Some x) is = λ lies told.
        let vote : ℕ → ℕ = λ i. block_vote s lies (get_or intervals i 0) leaders
        (first + i * n) n in
        ap (λ k. majority_or_zero (map vote (range_with_len 0 k))) (sym long)
        ∙ is vote (λ i lt. agree_by lies told i (get_or votes i None)
        (are i none (omega (arith, lt, long))).known)

    -- a known lead is a leader
    pub known_lead_below : 0 < leaders → (lead : Option ℕ) → IsLead votes lead
        → IfSome lead (λ x. x < leaders)
    known_lead_below some None is = tt
    known_lead_below some (Some x) is =
        let of_some = known_of_some s (λ lies. blocks_lead s lies intervals leaders first n) x
        (lead_is_known (Some x) is) in
        subst (λ y. y < leaders) of_some.1 (lead_below of_some.0 some)

  -- the beat heard is the part of the known lead, if that is known
  pub beat_is_known : (beat : ℕ) (lead part : Option ℕ) (parts : List Votes)
      → IsKnown s (λ lies. blocks_lead s lies intervals leaders first n) lead
      → IsBeat s beat first n lead part parts
      → IsKnown s (λ lies. block_part s lies beat
      (first + blocks_lead s lies intervals leaders first n * n) n) part
  beat_is_known beat lead None parts lead_known is = tt
  beat_is_known beat None (Some x) parts lead_known is = let e : Some x ≡ None =
      is.none refl in absurd (cc)
  beat_is_known beat (Some l) (Some x) parts lead_known is = λ lies told.
      ap (λ b. block_part s lies beat (first + b * n) n) (lead_known lies told) ∙ is.known lies told

-- what is heard is what is known, if anything is
pub agrees : (s : Sent) (heard : List State → ℕ) (o : Option ℕ) → IsKnown s heard o
    → (lies : List State) → IsTold s lies → (b : ℕ) → b ≡ heard lies → IfSome o (λ known. b ≡ known)
agrees s heard None is lies told b e = tt
agrees s heard (Some x) is lies told b e = e ∙ is lies told
