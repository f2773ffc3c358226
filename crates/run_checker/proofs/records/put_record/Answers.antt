use Rattle.std.proofs.Common.{refl, ap}
use Rattle.adversary_script.specs.Scripts.{Script}
use Rattle.edge_io.proofs.Writing.{writes_then, writes_last, writes_is}
use Rattle.run_checker.specs.RunLines.{head_text}
use Rattle.run_checker.proofs.Recording.{stops_as, ends_as, unfailed_before}
use Rattle.run_checker.proofs.RunnerTexts.{shape_sized, first_starts_is, first_row_is, turns_is}
use Rattle.run_checker.proofs.records.put_record.Goals as goal

pub put_first_starts-requires : goal.put_first_starts-requires
put_first_starts-requires g c = record { sized = shape_sized c.args.runner.now c.requires.plays }

pub returns-clause-text : goal.returns-clause-text
returns-clause-text g c =
    let r = c.args.runner.now in
    let plan = c.args.plan.now in
    let same = c.put_first_starts.ensures.same in
    writes_then
    (writes_is (ap (λ (s : Script). head_text plan s) c.script.ensures) c.put_head.ensures)
    (writes_then
    (writes_is
    (first_starts_is plan r r refl c.requires.plan c.requires.start c.requires.plays)
    c.put_first_starts.ensures.text)
    (writes_then
    (writes_is
    (first_row_is plan r c.put_first_starts.new.runner same c.requires.plan c.requires.start
    c.requires.plays)
    c.put_row.ensures)
    (writes_then
    (writes_is
    (turns_is plan r c.put_first_starts.new.runner same c.requires.plan c.requires.start
    c.requires.plays)
    c.put_turns.ensures.text)
    (writes_last c.text.ensures))))

pub returns-clause-played : goal.returns-clause-played
returns-clause-played g c = λ not.
    ends_as c.args.runner.now c.put_first_starts.new.runner c.put_turns.new.runner
    c.put_first_starts.ensures.same
    (c.put_turns.ensures.played (unfailed_before c.text.ensures not))

pub returns-clause-stopped : goal.returns-clause-stopped
returns-clause-stopped g c =
    stops_as c.args.runner.now c.put_first_starts.new.runner c.put_turns.new.runner
    c.put_first_starts.ensures.same c.put_turns.ensures.stopped
