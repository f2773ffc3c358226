use Rattle.std.proofs.Common.{rules, ◌≡◌, ◌∙◌, ap, map}
use Rattle.std.specs.List.{list_any}
use Rattle.sync_types.specs.FaultSets.{is_in}
use Rattle.adversary_script.specs.Scripts.{Script, Era}
use Rattle.adversary_script.proofs.EraLists.{any_seen}
use Rattle.adversary_script.proofs.drafts.Draft.is_faulty_later.Goals as goal

pub returns : goal.returns
returns c =
    let here : c.is_faulty_in.result ≡ list_any (λ era. is_in era.faulty.ids c.args.id)
    c.self.inside.parts.eras.items = search rules in
    here ∙ any_seen c.args.id c.self.inside.parts.eras.items
    ∙ ap (λ (s : Script). list_any (λ ids. is_in ids c.args.id)
    (map (λ (era : Era). era.faulty) s.eras)) c.self.view_is
