-- What a round of a plan that is counted once stands for.
use Rattle.std.specs.Prelude.{◌≡◌, ◌<◌, length, All}
use Rattle.std.specs.List.Sorted.{IsStrictlyIncreasing}
use Rattle.std.proofs.Common.{ap}
use Rattle.construction.specs.Plans.{Plan, plan_nodes}
use Rattle.shared_board.specs.Sharing.{Shares, stands_for}
use Rattle.rounds.specs.Rounds.{Sent}

pub record StandsFor (plan : Plan) (sent : Sent) (shared : Shares) : Type 0 where
  pub is : shared ≡ stands_for plan sent.config sent.faulty
  pub size : length sent.config ≡ plan_nodes plan
  pub rising : IsStrictlyIncreasing sent.faulty
  pub ids : All (λ id. id < plan_nodes plan) sent.faulty

pub stands_made : (plan : Plan) (sent : Sent) (shared : Shares) → StandsFor plan sent shared
    → shared.plan ≡ plan
stands_made plan sent shared is = ap (λ (s : Shares). s.plan) is.is
