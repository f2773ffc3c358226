use Rattle.std.proofs.Common.{Option, None, set, ap, ◌∙◌}
use Rattle.std.proofs.lemmas.List.{get_or_default}
use Rattle.machine_runner.specs.FirstLocked.{first_of}
use Rattle.machine_runner.proofs.era_locks.note_lock.Goals as goal

pub returns : goal.returns
returns c =
    let locks = c.args.locks.now.items in
    ap (set locks c.args.era) (c.locked_so_far.ensures
    ∙ ap (λ (known : Option _). first_of known c.args.locked c.args.at)
    (c.index.ensures ∙ get_or_default locks c.args.era c.index.result.now None c.requires))
