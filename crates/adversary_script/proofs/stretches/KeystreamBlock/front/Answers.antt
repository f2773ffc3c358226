use Rattle.adversary_script.proofs.WordBytes.{part}
use Rattle.adversary_script.proofs.stretches.KeystreamBlock.front.Goals as goal

pub returns-clause-bytes : goal.returns-clause-bytes
returns-clause-bytes c =
    part c.args.self.now.key c.args.self.now.bytes c.args.self.now.stream c.args.self.now.first
    c.args.at c.args.count c.args.self.now.said c.requires
