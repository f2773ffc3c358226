use Rattle.std.proofs.Common.{ℕ, ◌<◌, ◌/◌, ◌%◌, map, ap, sym, ◌∙◌, arith}
use Rattle.std.proofs.Math.Nat.{mod-lt}
use Rattle.std.proofs.lemmas.List.Elements.{All-from_get_or}
use Rattle.counting.specs.Values.{majority_or_zero}
use Rattle.boost_step.proofs.votes.block_vote.Goals as goal

pub most_of_two-requires : goal.most_of_two-requires
most_of_two-requires c =
    All-from_get_or (λ o. o / c.args.interval % 2 < 2) c.args.outputs.now 0
    (λ i lt. mod-lt _ (omega arith))

pub returns-then-leaders-eq2 : goal.returns-then-leaders-eq2
returns-then-leaders-eq2 c =
    c.most_of_two.ensures
    ∙ ap (λ (m : ℕ). majority_or_zero (map (λ o. o / c.args.interval % m) c.args.outputs.now))
    (sym c.if-leaders-eq2.true)
