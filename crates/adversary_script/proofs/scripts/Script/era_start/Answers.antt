use Rattle.std.proofs.Common.{◌∙◌, ap, arith}
use Rattle.std.proofs.lemmas.List.{length-map}
use Rattle.adversary_script.specs.Scripts.{Script, Era}
use Rattle.adversary_script.specs.Eras.{first_of_era}
use Rattle.adversary_script.specs.Seen.{era_seen}
use Rattle.adversary_script.proofs.EraLists.{era_at}
use Rattle.adversary_script.proofs.scripts.Script.era_start.Goals as goal

pub returns : goal.returns
returns c =
    let size = length-map c.self.inside.parts.eras.items era_seen in
    let within = rw (← c.self.view_is) at c.requires in
    era_at (λ (era : Era). era.first) 0 0 c.self.inside.parts.eras.items c.args.j c.index.result.now
    (omega arith) (omega (arith, size, within)) c.index.ensures
    ∙ ap (λ (s : Script). first_of_era s c.args.j) c.self.view_is
