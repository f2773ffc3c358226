use Rattle.std.proofs.Common.{sym, ap, ◌∙◌, arith, rules}
use Rattle.adversary_script.specs.Scripts.{Script}
use Rattle.edge_io.specs.Writing.{Writes}
use Rattle.edge_io.proofs.Writing.{writes_then, writes_last, writes_more, writes_is, writes_all}
use Rattle.machine_runner.specs.RunTexts.{bound_line}
use Rattle.machine_runner.specs.ShownTexts.{shown_text}
use Rattle.machine_runner.proofs.PlayedOn.{script_is, plays_on, knows_there, locks_after}
use Rattle.machine_runner.proofs.playing.put_shown.Goals as goal
use Rattle.machine_runner.proofs.playing.put_shown.Goals.{
  then-not-has_failed,
  else-not-has_failed,
}

pub play_to-requires-clause-from : goal.play_to-requires-clause-from
play_to-requires-clause-from g c =
    let within = c.facts.ensures.within in
    let rounds = c.rounds-rounds.ensures.value ∙ ap (λ (s : Script). s.rounds) c.script.ensures in
    omega (arith, within, rounds)

pub play_to-requires-clause-within : goal.play_to-requires-clause-within
play_to-requires-clause-within g c =
    let rounds = c.rounds-rounds.ensures.value ∙ ap (λ (s : Script). s.rounds) c.script.ensures in
    omega (arith, rounds)

pub put_locks-requires : goal.put_locks-requires
put_locks-requires g c =
    let rounds = c.rounds-rounds.ensures.value ∙ ap (λ (s : Script). s.rounds) c.script.ensures in
    let same = ap (λ (s : Script). s.rounds)
    (script_is c.put_lines.new.runner _ _ c.play_to.ensures.same) in
    knows_there g.M.Machine.machine c.play_to.new.runner _ _ (rounds ∙ sym same)
    c.play_to.ensures.knows

pub returns : goal.returns
returns g c =
    let r = c.args.runner.now in
    let lines = c.put_lines.ensures in
    let is = c.bound.ensures ∙ ap (λ m. (g.M.Machine.machine m).bound) c.machine.ensures in
    let bound = writes_is (ap bound_line is) c.put_bound.ensures in
    let wrote = elim c.if-not-has_failed.branch as
    (λ _. Writes g.K.Sink.told
    (shown_text (g.L.ShownLines.front c.args.lines.now) (g.L.ShownLines.word c.args.lines.now)
    (g.M.Machine.machine r.machine) r.script) c.new-writer.result c.if-not-has_failed.writer) [
      | then-not-has_failed w ↦
          rw w.writer-is (writes_then bound
          (writes_then lines.lines (writes_last
          (writes_is (locks_after g.M.Machine.machine r _ _
          (plays_on r c.put_lines.new.runner _ lines.played _ _
          w.play_to.ensures.same)) w.put_locks.ensures))))
      | else-not-has_failed w ↦
          rw w.writer-is (writes_then bound
          (writes_more _ (sym c.has_failed.ensures ∙ w.if-not-has_failed.false) lines.lines))
    ] in
    writes_all c.new-writer.ensures wrote c.finish.ensures (search rules)
