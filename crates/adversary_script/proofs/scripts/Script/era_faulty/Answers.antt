use Rattle.std.proofs.Common.{◌∙◌, ◌-◌, [], ap, arith}
use Rattle.std.proofs.lemmas.List.{length-map}
use Rattle.sync_types.specs.FaultSets.{FaultIds}
use Rattle.adversary_script.specs.Scripts.{Script, Era}
use Rattle.adversary_script.specs.Eras.{faulty_of_era}
use Rattle.adversary_script.specs.Seen.{era_seen}
use Rattle.adversary_script.proofs.EraLists.{era_at, set_is}
use Rattle.adversary_script.proofs.scripts.Script.era_faulty.Goals as goal

pub returns : goal.returns
returns c =
    let size = length-map c.self.inside.parts.eras.items era_seen in
    let within = rw (← c.self.view_is) at c.requires in
    let nodes = c.self.invariant.1.further (c.args.j - 1) c.index.result.now
    (omega (arith, size, within)) in
    let set : Script → FaultIds = λ s. record { nodes = s.nodes; ids = faulty_of_era s c.args.j } in
    set_is c.index.result.now.faulty _ _ (rw (← c.index.ensures) at nodes)
    (era_at (λ (era : Era). era.faulty) c.self.inside.faulty.ids [] c.self.inside.parts.eras.items
    c.args.j c.index.result.now (omega arith) (omega (arith, size, within)) c.index.ensures)
    ∙ ap set c.self.view_is
