use Rattle.std.proofs.Common.{refl, sym, subst, arith}
use Rattle.construction.specs.Steps.{state_of}
use Rattle.state_codec.specs.Shapes.{Shape, fields_at}
use Rattle.state_codec.specs.Ranges.{InRange}
use Rattle.machine_runner.proofs.Laid.{room_laid}
use Rattle.machine_runner.proofs.Places.{all_places}
use Rattle.round_runner.specs.Hearing.{IsOfSome}
use Rattle.round_runner.specs.Laying.{IsLaid}
use Rattle.round_runner.proofs.rounds.lay_where.Goals as goal

pub returns-then-hears-clause-room : goal.returns-then-hears-clause-room
returns-then-hears-clause-room c =
    room_laid c.args.round.now.script.now c.args.states.now.shape c.args.states.now.current _
    c.lay.ensures c.requires.config.shape c.requires.config.size c.facts.ensures.current

pub returns-then-hears-clause-laid : goal.returns-then-hears-clause-laid
returns-then-hears-clause-laid c = λ is.
    let script = c.args.round.now.script.now in
    let config = c.args.states.now.current in
    subst (IsLaid script c.args.round.now.t config) (sym c.lay.ensures) (record {
      honest = λ u lt correct. refl;
      some = all_places (IsOfSome script) config (λ u lt. record {
        node = u;
        inside = omega (arith, lt, c.requires.config.size);
        range = subst (λ (s : Shape). InRange (fields_at s u) (state_of config u))
            c.requires.config.shape
            (c.facts.ensures.current u lt);
      });
    })
