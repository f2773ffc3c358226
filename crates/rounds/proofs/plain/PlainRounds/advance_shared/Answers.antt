use Rattle.std.proofs.Common.{◌≡◌, ℕ, List, length, All, sym, ap, ◌∙◌, subst}
use Rattle.std.proofs.lemmas.List.{with_items_is}
use Rattle.sync_types.specs.States.{State}
use Rattle.counter_core.specs.Meanings.{written}
use Rattle.state_codec.specs.Shapes.{Shape}
use Rattle.shared_board.specs.Sharing.{heard_with}
use Rattle.machines.specs.Machines.{Machine, AreFronts}
use Rattle.rounds.specs.Rounds.{Sent}
use Rattle.rounds.proofs.PlainSteps.{heard_is, fronts_are, still_laid}
use Rattle.rounds.proofs.plain.PlainRounds.advance_shared.Goals as goal

pub lay_lies-requires-clause-size : goal.lay_lies-requires-clause-size
lay_lies-requires-clause-size g c =
    let long = ap (λ (xs : List State). length xs) c.deref_mut.ensures.value in
    long ∙ c.requires.stands.room.size ∙ sym c.requires.nodes

pub advance-requires-clause-heard : goal.advance-requires-clause-heard
advance-requires-clause-heard g c =
    let machine = g.M.Machine.machine c.args.self.now in
    let sent : Sent = record {
      depth = c.args.states.now.shape.depth;
      faulty = c.args.faulty.now.ids;
      config = c.args.states.now.current;
    } in
    let laid = with_items_is c.args.shared.now.heard c.lay_lies.new.heard
    (c.lay_lies.auto.heard ∙ c.deref_mut.ensures.len) in
    let is = heard_is machine sent c.args.v c.args.lies.now c.args.shared.now c.requires.stands
    c.requires.lies c.deref_mut.result.now c.lay_lies.new.heard c.deref_mut.ensures.value
    c.lay_lies.ensures.size c.len.result c.len.ensures.exact c.lay_lies.ensures.each
    c.lay_lies.ensures.told in
    subst (AreFronts (g.M.Machine.machine c.self.inside.machine.now))
    (sym (c.of-heard.ensures ∙ c.deref.ensures.value ∙ laid ∙ is))
    (subst (λ (m : Machine). AreFronts m
    (heard_with c.args.faulty.now.ids c.args.lies.now c.args.states.now.current)) (ap g.M.Machine.machine (sym c.self.view_is))
    (fronts_are machine sent c.args.v c.args.lies.now c.args.shared.now c.requires.stands
    c.requires.lies c.deref_mut.result.now c.lay_lies.new.heard c.deref_mut.ensures.value
    c.lay_lies.ensures.size c.len.result c.len.ensures.exact c.lay_lies.ensures.each
    c.lay_lies.ensures.told))

pub returns-clause-out : goal.returns-clause-out
returns-clause-out g c =
    let machine = g.M.Machine.machine c.args.self.now in
    let sent : Sent = record {
      depth = c.args.states.now.shape.depth;
      faulty = c.args.faulty.now.ids;
      config = c.args.states.now.current;
    } in
    let laid = with_items_is c.args.shared.now.heard c.lay_lies.new.heard
    (c.lay_lies.auto.heard ∙ c.deref_mut.ensures.len) in
    let is = heard_is machine sent c.args.v c.args.lies.now c.args.shared.now c.requires.stands
    c.requires.lies c.deref_mut.result.now c.lay_lies.new.heard c.deref_mut.ensures.value
    c.lay_lies.ensures.size c.len.result c.len.ensures.exact c.lay_lies.ensures.each
    c.lay_lies.ensures.told in
    c.advance.ensures.out
    ∙ ap (λ (m : Machine). written m.depth (m.step c.args.v c.of-heard.result) c.args.out.now)
    (ap g.M.Machine.machine c.self.view_is)
    ∙ ap (λ (xs : List State). written machine.depth (machine.step c.args.v xs) c.args.out.now)
    (c.of-heard.ensures ∙ c.deref.ensures.value ∙ laid ∙ is)

pub returns-clause-stands : goal.returns-clause-stands
returns-clause-stands g c =
    let machine = g.M.Machine.machine c.args.self.now in
    let sent : Sent = record {
      depth = c.args.states.now.shape.depth;
      faulty = c.args.faulty.now.ids;
      config = c.args.states.now.current;
    } in
    let laid = with_items_is c.args.shared.now.heard c.lay_lies.new.heard
    (c.lay_lies.auto.heard ∙ c.deref_mut.ensures.len) in
    still_laid machine sent c.args.v c.args.lies.now c.args.shared.now c.requires.stands
    c.requires.lies c.deref_mut.result.now c.lay_lies.new.heard c.deref_mut.ensures.value
    c.lay_lies.ensures.size c.len.result c.len.ensures.exact c.lay_lies.ensures.each
    c.lay_lies.ensures.told _ laid
    (subst (λ (d : ℕ). All (λ (s : State). length s.registers ≡ d) c.lay_lies.new.heard)
    (c.depth.ensures ∙ ap (λ (s : Shape). s.depth) c.shape.ensures) c.lay_lies.ensures.deep)
    c.advance.ensures.work
