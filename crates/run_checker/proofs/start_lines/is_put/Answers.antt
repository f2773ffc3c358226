use Rattle.std.proofs.Common.{◌+◌, refl, ◌∙◌}
use Rattle.adversary_script.proofs.Hits.{hit_is}
use Rattle.run_checker.proofs.start_lines.is_put.Goals as goal

pub returns : goal.returns
returns c = λ plan.
    let begins = c.requires.begins in
    let hit = hit_is c.args.script.now (c.args.t + 1) c.args.v c.args.j
    c.requires.script.formed.rising begins.0 begins.1 begins.2 in
    c.put_by.ensures
    ∙ rw (
      c.contains-bad.ensures,
      c.faulty_at.ensures,
      c.contains-was.ensures,
      c.faulty_at-2.ensures,
      c.hits-hit.ensures,
      hit,
    )
    refl
