use Rattle.std.proofs.Common.{◌∙◌}
use Rattle.replicated_log.proofs.EntryLengths.{one_owner}
use Rattle.replicated_log.proofs.replica.Replica.owner.Goals as goal

pub returns-clause-owner : goal.returns-clause-owner
returns-clause-owner c = λ nodes faults modulus depth values keep commands same.
    let r = c.args.self.now in
    c.owner_at.ensures.owner ∙ one_owner r.nodes r.faults r.modulus r.depth r.values r.keep
    r.commands.items nodes faults modulus depth values keep commands c.args.o same
