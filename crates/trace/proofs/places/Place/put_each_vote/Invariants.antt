use Rattle.std.specs.Prelude.{take}
use Rattle.std.specs.List.{flat_map, range_with_len}
use Rattle.edge_io.specs.Writing.{Writes}
use Rattle.plan_numbers.specs.Numbers.{level_of}
use Rattle.plan_numbers.specs.Sizes.{block_nodes}
use Rattle.boost_step.specs.Kept.{KeepsOutputs}
use Rattle.boost_step.specs.Numbers.{in_blocks}
use Rattle.trace.specs.LevelTexts.{vote_word}
use Rattle.trace.proofs.places.Place.put_each_vote.Given as goal

abbrev pub invariant-loop-i : goal.invariant-loop-i
invariant-loop-i g l = record {
  wrote : Writes g.K.Sink.told (flat_map (vote_word (block_nodes l.self.nums)
      (level_of l.self.nums) (take (in_blocks l.self.nums) l.fn.room.work.outputs.items))
      (range_with_len 0 l.i)) l.fn.writer l.writer;
  work : KeepsOutputs l.fn.room.work l.room.work;
}
