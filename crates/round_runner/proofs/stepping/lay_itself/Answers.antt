use Rattle.std.proofs.Common.{◌<◌, length, sym, ap, ◌∙◌, arith}
use Rattle.std.proofs.lemmas.List.{get_or-set_same}
use Rattle.sync_types.specs.FaultSets.{FaultIds, is_in}
use Rattle.sync_types.specs.States.{zero_state}
use Rattle.adversary_script.proofs.LiesInRange.{depth_of_node}
use Rattle.round_runner.proofs.HeardPlaces.{read_range}
use Rattle.round_runner.proofs.Layering.{room_laid, state_laid}
use Rattle.round_runner.proofs.stepping.lay_itself.Goals as goal

pub returns-then-contains-clause-room : goal.returns-then-contains-clause-room
returns-then-contains-clause-room c =
    let script = c.args.turn.now.round.now.script.now in
    let config = c.args.turn.now.states.now.current in
    let lt : c.args.turn.now.v < length config = omega (
      arith,
      c.args.turn.now.node,
      c.args.turn.now.size,
    ) in
    room_laid script c.args.turn.now.v c.args.heard.now c.old.new.out c.requires.room
    (depth_of_node script.shape c.args.turn.now.v _ (read_range c.args.turn.now.states.now.shape
    script.shape config
    c.args.turn.now.v c.old.new.out c.args.turn.now.shape (c.facts.ensures.current c.args.turn.now.v
    lt)
    c.old.ensures))

pub returns-then-contains-clause-laid : goal.returns-then-contains-clause-laid
returns-then-contains-clause-laid c =
    let script = c.args.turn.now.round.now.script.now in
    let config = c.args.turn.now.states.now.current in
    let lt : c.args.turn.now.v < length config = omega (
      arith,
      c.args.turn.now.node,
      c.args.turn.now.size,
    ) in
    state_laid script c.args.turn.now.round.now.t c.args.turn.now.v config c.args.heard.now
    c.old.new.out
    c.requires.laid (omega (arith, c.args.turn.now.node, c.requires.room.size)) c.old.ensures
    (record {
      node = c.args.turn.now.v;
      inside = c.args.turn.now.node;
      range = read_range c.args.turn.now.states.now.shape script.shape config c.args.turn.now.v
          c.old.new.out
          c.args.turn.now.shape (c.facts.ensures.current c.args.turn.now.v lt) c.old.ensures;
    })

pub returns-then-contains-clause-own : goal.returns-then-contains-clause-own
returns-then-contains-clause-own c =
    get_or-set_same c.args.heard.now c.args.turn.now.v c.old.new.out (zero_state 0)
    (omega (arith, c.args.turn.now.node, c.requires.room.size)) ∙ c.old.ensures

-- a correct node's state stands in its place
pub returns-else-contains-clause-own : goal.returns-else-contains-clause-own
returns-else-contains-clause-own c =
    c.requires.laid.honest c.args.turn.now.v c.args.turn.now.node
    (ap (λ (s : FaultIds). is_in s.ids c.args.turn.now.v) (sym c.args.turn.now.round.now.liars)
    ∙ (sym c.contains.ensures ∙ c.if-contains.false))
