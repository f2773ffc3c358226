use Rattle.std.proofs.Common.{◌+◌, ap, subst, refl}
use Rattle.adversary_script.specs.Scripts.{Script}
use Rattle.machine_runner.specs.Beginnings.{BeginsAt}
use Rattle.edge_io.proofs.Writing.{writes_none, writes_then, writes_last, writes_is}
use Rattle.run_checker.specs.RunLines.{era_text}
use Rattle.run_checker.proofs.EraFound.{begins_none, begins_some}
use Rattle.run_checker.proofs.Recording.{faulty_ids}
use Rattle.run_checker.proofs.RunnerTexts.{shape_sized}
use Rattle.run_checker.proofs.records.put_era_lines.Goals as goal

pub returns-in-None-clause-text : goal.returns-in-None-clause-text
returns-in-None-clause-text g c =
    let r = c.args.runner.now in
    let begins = subst (BeginsAt r.script (c.args.t + 1)) c.in-None.is
    (subst (λ (s : Script). BeginsAt s (c.args.t + 1) c.beginning_at.result) c.script.ensures
    c.beginning_at.ensures) in
    rw (begins_none r.script (c.args.t + 1) begins) writes_none

pub returns-in-Some-clause-text : goal.returns-in-Some-clause-text
returns-in-Some-clause-text g c =
    let r = c.args.runner.now in
    let begins = subst (BeginsAt r.script (c.args.t + 1)) c.in-Some.is
    (subst (λ (s : Script). BeginsAt s (c.args.t + 1) c.beginning_at.result) c.script.ensures
    c.beginning_at.ensures) in
    let ids = faulty_ids _ _ r.script _ (c.args.t + 1) c.faulty_at.ensures c.script-in-Some.ensures
    refl in
    rw (begins_some r.script (c.args.t + 1) c.in-Some.j begins).1
    (writes_then (writes_is (ap (era_text (c.args.t + 1)) ids) c.put_era.ensures)
    (writes_last c.put_starts.ensures.text))

pub put_starts-requires-clause-begins : goal.put_starts-requires-clause-begins
put_starts-requires-clause-begins g c =
    let r = c.args.runner.now in
    let begins = subst (BeginsAt r.script (c.args.t + 1)) c.in-Some.is
    (subst (λ (s : Script). BeginsAt s (c.args.t + 1) c.beginning_at.result) c.script.ensures
    c.beginning_at.ensures) in
    record { script = c.requires.plays.script; begins = begins; small = c.requires.small }

pub put_starts-requires-clause-sized : goal.put_starts-requires-clause-sized
put_starts-requires-clause-sized g c = shape_sized c.args.runner.now c.requires.plays
