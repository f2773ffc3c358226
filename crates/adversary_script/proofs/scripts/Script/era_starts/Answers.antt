use Rattle.std.proofs.Common.{◌-◌, arith, [], ◌∙◌}
use Rattle.std.proofs.lemmas.List.{length-map}
use Rattle.adversary_script.specs.Scripts.{Era}
use Rattle.adversary_script.specs.Seen.{era_seen}
use Rattle.adversary_script.proofs.EraLists.{era_at, hits_at}
use Rattle.adversary_script.proofs.scripts.Script.era_starts.Goals as goal

pub returns-clause-value : goal.returns-clause-value
returns-clause-value c =
    let size = length-map c.self.inside.parts.eras.items era_seen in
    let within = rw (← c.self.view_is) at c.requires in
    rw (← c.self.view_is)
    (c.deref-2.ensures.value ∙ era_at (λ (era : Era). era.starts)
    c.self.inside.parts.starts.items [] c.self.inside.parts.eras.items c.args.j
    c.index.result.now (omega arith) (omega (arith, size, within)) c.index.ensures)

pub returns-clause-range : goal.returns-clause-range
returns-clause-range c =
    let size = length-map c.self.inside.parts.eras.items era_seen in
    let within = rw (← c.self.view_is) at c.requires in
    rw (← c.self.view_is, c.deref-2.ensures.value)
    (hits_at _ c.self.inside.parts.eras.items (c.args.j - 1) c.index.result.now
    (omega (arith, size, within)) c.index.ensures c.self.invariant.0.formed.hits)
