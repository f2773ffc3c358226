-- The votes heard in stretches of nodes, and what of them is known whatever is said.
use Rattle.std.specs.Prelude.{◌≡◌, ℕ, ◌+◌, ◌*◌, ◌/◌, ◌%◌, ◌<◌, ◌≤◌, List, length, map}
use Rattle.std.specs.Prelude.{slice_index_or, All, IfSome, Option, Some, None, unwrap_or}
use Rattle.std.specs.List.{range_with_len}
use Rattle.counting.specs.Values.{majority_or_zero}
use Rattle.sync_types.specs.States.{State}
use Rattle.construction.specs.Pointers.{part_of}
use Rattle.majority_votes.specs.Votes.{Votes}
use Rattle.majority_votes.specs.declared.tally.Outlook.{Outlook}
use Rattle.majority_votes.specs.declared.tally.Outlook.TheVariants as outlook
use Rattle.shared_board.specs.Senders.{Sent, numbers_of, parts_of, IsTold, outputs_heard}

-- the number that most have, 0 if none has more than half, if it is known
abbrev pub known_number : Outlook → Option ℕ
known_number (outlook.Is majority) = Some (unwrap_or majority 0)
known_number outlook.Open = None

-- the leader to which an output points, for an interval
abbrev pub pointer_in : (interval leaders output : ℕ) → ℕ
pointer_in interval leaders output = output / interval % leaders

module _ (s : Sent) (lies : List State) where
  -- the number heard that most of n nodes from the first on have, 0 if there is none
  abbrev pub most_heard : (reads : ℕ → ℕ) (first n : ℕ) → ℕ
  most_heard reads first n = majority_or_zero (map reads (outputs_heard s lies first n))

  -- the vote heard of a block
  abbrev pub block_vote : (interval leaders first n : ℕ) → ℕ
  block_vote interval leaders first n = most_heard (pointer_in interval leaders) first n

  -- the part of the beat heard of a block
  abbrev pub block_part : (beat first n : ℕ) → ℕ
  block_part beat first n = most_heard (part_of beat) first n

  -- the lead heard of blocks of n nodes, one for each interval
  abbrev pub blocks_lead : (intervals : List ℕ) (leaders first n : ℕ) → ℕ
  blocks_lead intervals leaders first n =
      majority_or_zero
      (map (λ i. block_vote (slice_index_or intervals i 0) leaders (first + i * n) n)
      (range_with_len 0 (length intervals)))

-- something that is heard is this, whatever is said; nothing is claimed of None
abbrev pub IsKnown : {X : Type 0} → Sent → (heard : List State → X) → Option X → Type 0
IsKnown s heard known = IfSome known (λ x. (lies : List State) → IsTold s lies → heard lies ≡ x)

-- the number of most nodes is known, or those of the correct ones are counted
pub record IsMost (s : Sent) (reads : ℕ → ℕ) (first n : ℕ) (most : Option ℕ)
    (tally : Votes) : Type 0 where
  pub known : IsKnown s (λ lies. most_heard s lies reads first n) most
  pub counted : most ≡ None → tally.values ≡ numbers_of s reads first n

-- the vote of a block is known, or the pointers of its correct nodes are counted
abbrev pub IsVote : Sent → (interval leaders first n : ℕ) (vote : Option ℕ) (tally : Votes)
    → Type 0
IsVote s interval leaders first n vote tally =
    IsMost s (pointer_in interval leaders) first n vote tally

-- each block's vote is known or counted
abbrev pub AreVotes : Sent → (intervals : List ℕ) (leaders first n : ℕ) (votes : List (Option ℕ))
    (pointers : List Votes) → Type 0
AreVotes s intervals leaders first n votes pointers =
    (i : ℕ) (none : Votes) → i < length intervals
    → IsVote s (slice_index_or intervals i 0) leaders (first + i * n) n
    (slice_index_or votes i None) (slice_index_or pointers i none)

-- if some votes are known, the lead is this, whatever the others are
abbrev pub IsLead : (votes : List (Option ℕ)) → (lead : Option ℕ) → Type 0
IsLead votes lead = IfSome lead (λ x.
    (vote : ℕ → ℕ)
    → ((i : ℕ) → i < length votes → IfSome (slice_index_or votes i None) (λ known. vote i ≡ known))
    → majority_or_zero (map vote (range_with_len 0 (length votes))) ≡ x)

-- If the lead is known, its part is known or the parts of its correct nodes are counted; else those
-- of all leaders' are.
pub record IsBeat (s : Sent) (beat first n : ℕ) (lead part : Option ℕ) (parts : List Votes)
    : Type 0 where
  pub none : lead ≡ None → part ≡ None
  pub known : IfSome lead (λ b. IsKnown s (λ lies. block_part s lies beat (first + b * n) n) part)
  pub counted : part ≡ None → (b : ℕ) (none : Votes) → b < length parts
      → IfSome lead (λ l. b ≡ l)
      → (slice_index_or parts b none).values ≡ parts_of s beat (first + b * n) n

-- so many tallies, each with room for n values
abbrev pub HasRoomIn : (count n : ℕ) → List Votes → Type 0
HasRoomIn count n tallies = (length tallies ≡ count) × All (λ t. n ≤ t.capacity) tallies

-- a vote for each of so many blocks, and a tally with room for n pointers
abbrev pub HasVotesIn : (count n : ℕ) → List (Option ℕ) → List Votes → Type 0
HasVotesIn count n votes pointers = (length votes ≡ count) × HasRoomIn count n pointers

-- the lead of blocks is known, or their votes are known or counted
pub record AreAsked (s : Sent) (intervals : List ℕ) (leaders first n : ℕ) (lead : Option ℕ)
    (votes : List (Option ℕ)) (pointers : List Votes) : Type 0 where
  pub known : IsKnown s (λ lies. blocks_lead s lies intervals leaders first n) lead
  pub counted : AreVotes s intervals leaders first n votes pointers
  pub room : HasVotesIn (length intervals) n votes pointers
