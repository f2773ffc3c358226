use Rattle.std.proofs.Common.{ℕ, ◌++◌, [], ◌∷◌, List, length, take, Option, None}
use Rattle.std.proofs.Common.{ap, sym, ◌∙◌, arith}
use Rattle.std.proofs.lemmas.List.{length-map, take_more}
use Rattle.sync_types.specs.States.{State, register_at}
use Rattle.counter_core.specs.HeardRegisters.{RegisterHeard, values_heard}
use Rattle.counter_core.proofs.Quorum.{quorum_is_own, value_at}
use Rattle.counter_core.proofs.heard_registers.HeardRegister.least.Goals as goal

pub returns-then-same-self-clause-least : goal.returns-then-same-self-clause-least
returns-then-same-self-clause-least c =
    let h = c.args.self.now in
    let value : State → Option ℕ = λ s. (register_at h.register s).a in
    let size = ap (λ (h : RegisterHeard). length h.states) c.self.view_is in
    let faults = ap (λ (h : RegisterHeard). h.faults) c.self.view_is in
    let more = c.if-same-faults.true in
    let enough = c.if-same-self.true in
    let same = c.requires.same in
    let long = length-map h.states value in
    let nodes = c.self.invariant.0 in
    let within = c.self.invariant.1 in
    sym (quorum_is_own (length h.states) h.faults (values_heard h) c.args.own long
    (omega (arith, size, faults, nodes, within)) (sym c.is_some.ensures ∙ c.if-is_some.true)
    (omega (arith, more, same, faults)) (omega (arith, enough, same, faults, size, nodes)))

-- the next value
pub loop-place-preserved : goal.loop-place-preserved
loop-place-preserved c =
    let h = c.args.self.now in
    let place = c.loop-place.place in
    let size = ap (λ (h : RegisterHeard). length h.states) c.self.view_is in
    let at = value_at h place c.at.result
    (omega (arith, c.loop-place-test.true, c.loop-place.auto.place-end, c.self.invariant.0, size))
    c.at.ensures in
    record {
      values = ap (λ v. v.values) c.add.ensures
          ∙ ap (λ (vs : List (Option ℕ)). vs ++ c.at.result.a ∷ []) c.loop-place.invariant.values
          ∙ ap (λ (a : Option ℕ). take place (values_heard h) ++ a ∷ []) (sym at.1)
          ∙ sym (take_more (values_heard h) place None at.0);
      capacity = ap (λ v. v.capacity) c.add.ensures ∙ c.loop-place.invariant.capacity;
    }
