use Rattle.std.proofs.Common.{None, [], refl}
use Rattle.outcomes.specs.Commands.{defined}
use Rattle.workbench.proofs.Unread.{unread_answered, unread_cut}
use Rattle.workbench.proofs.calling.usage.Goals as goal

pub returns-in-Ok-clause-does : goal.returns-in-Ok-clause-does
returns-in-Ok-clause-does g c =
    unread_answered (defined None) (defined None []) (λ input. refl) _ _ _ _ _ refl c.in-Ok.ensures

pub returns-in-Err-clause-does : goal.returns-in-Err-clause-does
returns-in-Err-clause-does g c =
    unread_cut (defined None) (defined None []) (λ input. refl) _ _ _ _ c.in-Err.ensures
