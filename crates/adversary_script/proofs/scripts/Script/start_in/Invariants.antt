use Rattle.std.proofs.Common.{◌≡◌, drop, ◌==◌}
use Rattle.std.specs.List.{find}
use Rattle.std.specs.Prelude.{All}
use Rattle.state_codec.specs.Shapes.{fields_at}
use Rattle.state_codec.specs.Ranges.{InRange}
use Rattle.adversary_script.specs.Eras.{starts_of_era}
use Rattle.adversary_script.proofs.scripts.Script.start_in.Given as goal

abbrev pub invariant-loop-start : goal.invariant-loop-start
invariant-loop-start l = record {
  starts : l.start-items ≡ starts_of_era l.self l.j;
  range : All (λ start. InRange (fields_at l.self.shape start.node) start.state) l.start-items;
  none : find (λ start. start.node == l.v) (drop l.start-index l.start-items) ≡ find
      (λ start. start.node == l.v) l.start-items;
}
