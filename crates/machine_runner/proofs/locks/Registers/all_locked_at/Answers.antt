use Rattle.std.proofs.Common.{◌<◌, List, sym, ap, ◌∙◌, arith}
use Rattle.std.specs.List.{list_all}
use Rattle.sync_types.specs.declared.states.Reg.{Reg}
use Rattle.machine_runner.specs.Locks.{is_locked_at}
use Rattle.machine_runner.proofs.Correct.{from_zero, from_faulty, one_is, one_is_not}
use Rattle.machine_runner.proofs.locks.Registers.all_locked_at.Goals as goal
use Rattle.machine_runner.proofs.locks.Registers.all_locked_at.Goals.{
  else-not-contains-via-then-not-contains+else-not-is_locked_at,
}
use Rattle.machine_runner.proofs.locks.Registers.all_locked_at.Goals.{
  else-not-contains-via-else-not-contains,
}

pub returns-then-not-is_locked_at : goal.returns-then-not-is_locked_at
returns-then-not-is_locked_at c =
    let lt : c.loop-v.v < c.args.self.now.faulty.now.nodes =
    omega (arith, c.loop-v-test.true, c.nodes-v-end.ensures) in
    sym (one_is_not c.args.self.now.register c.args.self.now.faulty.now.nodes
    c.args.self.now.faulty.now.ids c.args.self.now.config.now.current
    c.args.value c.loop-v.v lt (sym c.contains.ensures ∙ c.if-not-contains.true)
    (rw (← c.of.ensures)
    (sym c.is_locked_at.ensures ∙ c.if-not-is_locked_at.true)))
    ∙ (c.loop-v.invariant ∙ ap (λ (registers : List Reg).
    list_all (is_locked_at c.args.value) registers)
    (from_zero c.args.self.now.register c.args.self.now.faulty.now.nodes
    c.args.self.now.faulty.now.ids c.args.self.now.config.now.current))

pub loop-v-preserved : goal.loop-v-preserved
loop-v-preserved c =
    let lt : c.loop-v.v < c.args.self.now.faulty.now.nodes =
    omega (arith, c.loop-v-test.true, c.nodes-v-end.ensures) in
    elim c.else-not-contains.branch [
      | else-not-contains-via-then-not-contains+else-not-is_locked_at w ↦
          sym (one_is c.args.self.now.register c.args.self.now.faulty.now.nodes
          c.args.self.now.faulty.now.ids c.args.self.now.config.now.current
          c.args.value c.loop-v.v lt (sym c.contains.ensures ∙ w.if-not-contains.true)
          (rw (← w.of.ensures)
          (sym w.is_locked_at.ensures ∙ w.if-not-is_locked_at.false))) ∙ c.loop-v.invariant
      | else-not-contains-via-else-not-contains w ↦
          ap (λ (registers : List Reg). list_all (is_locked_at c.args.value) registers)
          (sym (from_faulty c.args.self.now.register c.args.self.now.faulty.now.nodes
          c.args.self.now.faulty.now.ids
          c.args.self.now.config.now.current c.loop-v.v lt (sym c.contains.ensures ∙
          w.if-not-contains.false)))
          ∙ c.loop-v.invariant
    ]
