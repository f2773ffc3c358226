use Rattle.state_codec.proofs.Ranged.{read_is_in_range}
use Rattle.attack.proofs.attack_texts.push_drawn.Goals as goal

pub write_state-requires-clause-state : goal.write_state-requires-clause-state
write_state-requires-clause-state g c =
    rw c.read_state.ensures
    (read_is_in_range ((g.M.Machine.machine c.args.machine.now).fields c.args.v)
    c.draw_bytes.new.out (c.facts.ensures.fields c.args.v c.requires))
