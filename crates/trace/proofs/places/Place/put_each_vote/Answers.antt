use Rattle.std.proofs.Common.{◌≡◌, ℕ, ◌++◌, take, refl, ap, ◌∙◌, zero-add, arith}
use Rattle.std.specs.List.{flat_map, range_with_len}
use Rattle.std.specs.Prelude.{codes, decimal}
use Rattle.edge_io.proofs.Writing.{writes_is, writes_next, writes_none}
use Rattle.construction.specs.Votes.{vote}
use Rattle.plan_numbers.specs.Numbers.{level_of}
use Rattle.plan_numbers.specs.Sizes.{block_nodes}
use Rattle.boost_step.specs.Numbers.{in_blocks}
use Rattle.trace.specs.LevelTexts.{vote_word}
use Rattle.trace.specs.Places.{Placed}
use Rattle.trace.proofs.places.Place.put_each_vote.Goals as goal

pub loop-i-init : goal.loop-i-init
loop-i-init g c = record {
  wrote = writes_none;
  work = record { outputs = refl; values = refl; votes = refl };
}

pub loop-i-preserved : goal.loop-i-preserved
loop-i-preserved g c =
    let nums = c.args.self.now.nums in
    let i = c.loop-i.i in
    let is = c.vote.ensures.vote
    ∙ ap (λ (p : Placed). vote (level_of p.nums) (block_nodes p.nums)
    (take (in_blocks p.nums) c.loop-i.room.work.outputs.items) i) c.self.view_is
    ∙ ap (λ o. vote (level_of nums) (block_nodes nums) (take (in_blocks nums) o.items) i)
    c.loop-i.invariant.work.outputs in
    record {
      wrote = writes_next (vote_word (block_nodes nums) (level_of nums)
          (take (in_blocks nums) c.args.room.now.work.outputs.items)) 0 i i c.loop-i.invariant.wrote
          (writes_is (ap (λ (x : ℕ). codes " " ++ decimal x) is) c.labelled.ensures)
          (zero-add i);
      work = record {
        outputs = c.vote.ensures.work.outputs ∙ c.loop-i.invariant.work.outputs;
        values = c.vote.ensures.work.values ∙ c.loop-i.invariant.work.values;
        votes = c.vote.ensures.work.votes ∙ c.loop-i.invariant.work.votes;
      };
    }

pub returns-clause-words : goal.returns-clause-words
returns-clause-words g c =
    let nums = c.args.self.now.nums in
    let all : c.loop-i.i ≡ nums.blocks = omega (
      arith,
      c.loop-i-test.false,
      c.loop-i.auto.i-end,
      ap (λ (p : Placed). p.nums.blocks) c.self.view_is,
    ) in
    writes_is (ap (λ (n : ℕ). flat_map (vote_word (block_nodes nums) (level_of nums)
    (take (in_blocks nums) c.args.room.now.work.outputs.items)) (range_with_len 0 n)) all)
    c.loop-i.invariant.wrote
