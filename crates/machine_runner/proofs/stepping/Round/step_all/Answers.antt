use Rattle.std.proofs.Common.{◌≡◌, ◌+◌, ◌<◌, ℕ, List, All, length, refl, sym, ap, ◌∙◌, subst, arith}
use Rattle.std.proofs.lemmas.List.{with_items_is}
use Rattle.sync_types.specs.States.{State}
use Rattle.construction.specs.Steps.{state_of}
use Rattle.state_codec.specs.Packs.{Pack}
use Rattle.state_codec.specs.Shapes.{Shape}
use Rattle.adversary_script.proofs.LiesInRange.{depth_of_node}
use Rattle.machine_runner.specs.Played.{state_after}
use Rattle.machine_runner.proofs.Places.{all_places}
use Rattle.machine_runner.specs.Hearing.{AreHonest}
use Rattle.machine_runner.proofs.Filled.{FilledBelow, none_filled, one_filled, all_filled}
use Rattle.machine_runner.proofs.stepping.Round.step_all.Goals as goal

pub loop-v-init : goal.loop-v-init
loop-v-init g c =
    let machine = g.M.Machine.machine c.args.machine.now in
    let script = c.args.self.now.script.now in
    let config = c.args.states.now.current in
    let laid = c.requires.laid in
    record {
      filled = none_filled (state_after machine script c.args.self.now.t config) script.nodes _
          (c.facts.ensures.size ∙ c.requires.config.size);
      fixed = refl;
      ready = c.requires.room;
      honest = λ u lt correct. ap (λ (xs : List State). state_of xs u) laid;
    }

pub loop-v-preserved : goal.loop-v-preserved
loop-v-preserved g c =
    let machine = g.M.Machine.machine c.args.machine.now in
    let script = c.args.self.now.script.now in
    let t = c.args.self.now.t in
    let h = c.loop-v.invariant in
    let fixed = h.fixed in
    let lt : c.loop-v.v < script.nodes =
    omega (arith, c.loop-v-test.true, c.nodes-v-end.ensures.current, c.requires.config.size) in
    let after : ℕ → State = state_after machine script t c.args.states.now.current in
    record {
      filled = subst (λ (next : List State). FilledBelow after script.nodes (c.loop-v.v + 1) next)
          (sym (ap (λ (p : Pack). p.next) c.put.ensures))
          (one_filled after script.nodes c.loop-v.v c.loop-v.states.next c.step.new.room.out lt
          h.filled (c.step.ensures.state
          ∙ ap (λ (p : Pack). state_after machine script t p.current c.loop-v.v) fixed));
      fixed = rw (c.put.ensures, fixed) refl;
      ready = c.step.ensures.room;
      honest = subst (λ (config : List State).
          AreHonest script t config c.step.new.room.heard.items)
          (ap (λ (p : Pack). p.current) fixed) c.step.ensures.honest;
    }

pub returns-clause-states : goal.returns-clause-states
returns-clause-states g c =
    c.loop-v.invariant.fixed
    ∙ ap (λ (next : List State). let p : Pack = record c.args.states.now { next = next } in p)
    (all_filled (state_after (g.M.Machine.machine c.args.machine.now) c.args.self.now.script.now
    c.args.self.now.t c.args.states.now.current) c.args.self.now.script.now.nodes c.loop-v.v
    c.loop-v.states.next
    (omega (arith, c.loop-v-test.false, c.nodes-v-end.ensures.current, c.requires.config.size))
    c.loop-v.invariant.filled)
