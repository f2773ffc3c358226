use Rattle.std.proofs.Common.{[], refl}
use Rattle.edge_io.proofs.Writing.{writes_then, writes_last, writes_is}
use Rattle.run_checker.proofs.Recording.{still_records, played_as}
use Rattle.run_checker.proofs.RunnerTexts.{has_played_one, told_is, era_is, row_behind_is}
use Rattle.run_checker.proofs.records.put_turn.Goals as goal

pub put_era_lines-requires-clause-plays : goal.put_era_lines-requires-clause-plays
put_era_lines-requires-clause-plays g c =
    let r = c.args.runner.now in
    let one = has_played_one r c.put_lies.new.runner c.round.new.self c.put_lies.ensures.same
    c.requires.plays c.round.ensures.advances (c.round.ensures.played []) in
    still_records r c.round.new.self c.requires.plays one

pub returns-clause-text : goal.returns-clause-text
returns-clause-text g c =
    let r = c.args.runner.now in
    let one = has_played_one r c.put_lies.new.runner c.round.new.self c.put_lies.ensures.same
    c.requires.plays c.round.ensures.advances (c.round.ensures.played []) in
    writes_then (writes_is (told_is r c.requires.plays) c.put_lies.ensures.text)
    (writes_then
    (writes_is (era_is r c.round.new.self c.round.new.self one refl c.at-t.result c.at-t.ensures)
    c.put_era_lines.ensures.text)
    (writes_last
    (writes_is (row_behind_is r c.round.new.self c.put_era_lines.new.runner one
    c.put_era_lines.ensures.same) c.put_row.ensures)))

pub returns-clause-played : goal.returns-clause-played
returns-clause-played g c =
    let r = c.args.runner.now in
    let one = has_played_one r c.put_lies.new.runner c.round.new.self c.put_lies.ensures.same
    c.requires.plays c.round.ensures.advances (c.round.ensures.played []) in
    played_as r c.round.new.self c.put_era_lines.new.runner c.put_era_lines.ensures.same one
