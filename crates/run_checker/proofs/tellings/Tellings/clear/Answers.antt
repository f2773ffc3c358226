use Rattle.std.proofs.Common.{List, [], length, ap, ◌∙◌}
use Rattle.sync_types.specs.States.{State}
use Rattle.run_checker.specs.Tellings.{Telling}
use Rattle.run_checker.proofs.StatesRead.{none_read}
use Rattle.run_checker.proofs.tellings.Tellings.clear.Goals as goal

pub returns : goal.returns
returns c =
    ap (λ (states : List State). let t : Telling = record {
      pairs = c.self.inside.pairs.items;
      shape = c.self.inside.shape;
      states = states;
      room = length c.self.inside.digits.items;
    } in t) (none_read c.self.inside.shape c.self.inside.pairs.items)
    ∙ ap (λ (t : Telling). let u : Telling = record t { states = [] } in u) c.self.view_is
