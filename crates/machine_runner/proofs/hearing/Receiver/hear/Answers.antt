use Rattle.std.proofs.Common.{◌≡◌, ℕ, ◌<◌, List, true, length, refl, sym, ap, ◌∙◌, subst, arith}
use Rattle.std.specs.Prelude.{slice_index}
use Rattle.sync_types.specs.FaultSets.{FaultIds, is_in}
use Rattle.adversary_script.specs.Eras.{faulty_at}
use Rattle.adversary_script.proofs.LiesInRange.{depth_of_node}
use Rattle.machine_runner.proofs.Heard.{is_among}
use Rattle.machine_runner.proofs.Told.{from_itself, from_other, one_told, all_told, read_deep}
use Rattle.machine_runner.proofs.hearing.Receiver.hear.Goals.{then-u-self, else-u-self}
use Rattle.machine_runner.proofs.hearing.Receiver.hear.Goals as goal

pub loop-i-init : goal.loop-i-init
loop-i-init c = record {
  told = record {
    room = c.requires.room;
    honest = c.requires.honest;
    told = λ k lt. absurd (omega (arith, lt));
  };
  noise = refl;
}

pub loop-i-preserved : goal.loop-i-preserved
loop-i-preserved c =
    let self = c.args.self.now in
    let script = self.script.now in
    let config = self.states.now.current in
    let ids = self.faulty.now.ids in
    let u : ℕ = c.at-u.result in
    let same = ap (λ (s : FaultIds). s.ids) self.liars in
    let nodes = ap (λ (s : FaultIds). s.nodes) self.liars in
    let lt : c.loop-i.i < length ids =
    omega (arith, c.loop-i-test.true, c.len-i-end.ensures.exact) in
    let node : u < script.nodes = omega (arith, c.at-u.ensures.node, nodes) in
    elim c.if-u-self.branch [
      | then-u-self w ↦
          rw (w.noise-is, w.heard-is) (record {
            told = one_told script self.t self.v config ids same c.loop-i.i u c.loop-i.heard
                w.old.new.out lt c.at-u.ensures.id node
                (w.old.ensures ∙ sym (from_itself script self.t self.v config u
                w.if-u-self.true))
                (read_deep self.states.now.shape script.shape config u w.old.new.out self.shape
                (c.facts.ensures.current u (omega (arith, node, self.size))) w.old.ensures)
                c.loop-i.invariant.told;
            noise = c.loop-i.invariant.noise;
          })
      | else-u-self w ↦
          rw (w.noise-is, w.heard-is) (record {
            told = one_told script self.t self.v config ids same c.loop-i.i u c.loop-i.heard
                w.lie_into.new.out lt c.at-u.ensures.id node
                (w.lie_into.ensures.value
                ∙ sym (from_other script self.t self.v config u w.if-u-self.false))
                (depth_of_node script.shape u _ w.lie_into.ensures.range)
                c.loop-i.invariant.told;
            noise = w.lie_into.ensures.noise ∙ c.loop-i.invariant.noise;
          })
    ]

pub lie_into-requires-clause-sender : goal.lie_into-requires-clause-sender
lie_into-requires-clause-sender c =
    let self = c.args.self.now in
    let ids = self.faulty.now.ids in
    let same = ap (λ (s : FaultIds). s.ids) self.liars in
    let lt : c.loop-i.i < length ids =
    omega (arith, c.loop-i-test.true, c.len-i-end.ensures.exact) in
    subst (λ (u : ℕ). is_in (faulty_at self.script.now self.t) u ≡ true) (sym c.at-u.ensures.id)
    (subst (λ (all : List ℕ). is_in all (slice_index ids c.loop-i.i) ≡ true) same
    (is_among ids c.loop-i.i lt))

pub returns-clause-heard : goal.returns-clause-heard
returns-clause-heard c =
    let self = c.args.self.now in
    all_told self.script.now self.t self.v self.states.now.current self.faulty.now.ids
    (ap (λ (s : FaultIds). s.ids) self.liars) c.loop-i.i c.loop-i.heard self.node
    (omega (arith, c.loop-i-test.false, c.len-i-end.ensures.exact)) c.loop-i.invariant.told
