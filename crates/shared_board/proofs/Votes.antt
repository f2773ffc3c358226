-- A block's vote, if its numbers are known by other names.
use Rattle.std.proofs.Common.{◌≡◌, ℕ, Option, sym, subst}
use Rattle.majority_votes.specs.Votes.{Votes}
use Rattle.shared_board.specs.Senders.{Sent}
use Rattle.shared_board.specs.Votes.{IsVote}

pub vote_at : (s : Sent) (interval interval' leaders first first' n : ℕ) (vote : Option ℕ)
    (tally : Votes) → interval ≡ interval' → first ≡ first'
    → IsVote s interval leaders first n vote tally → IsVote s interval' leaders first' n vote tally
vote_at s interval interval' leaders first first' n vote tally e g h =
    subst (λ i. IsVote s i leaders first' n vote tally) e
    (subst (λ a. IsVote s interval leaders a n vote tally) g h)

pub vote_by : (s : Sent) (interval leaders first n : ℕ) (vote vote' : Option ℕ)
    (tally tally' : Votes) → vote' ≡ vote → tally' ≡ tally
    → IsVote s interval leaders first n vote tally → IsVote s interval leaders first n vote' tally'
vote_by s interval leaders first n vote vote' tally tally' e g h =
    subst (λ v. IsVote s interval leaders first n v tally') (sym e)
    (subst (λ t. IsVote s interval leaders first n vote t) (sym g) h)
