use Rattle.std.proofs.Common.{Bool, map, ap, ◌∙◌}
use Rattle.std.specs.Prelude.{false, replicate}
use Rattle.firing.specs.declared.fires.Fire.{Fire}
use Rattle.firing.specs.Firings.{unfired}
use Rattle.firing.proofs.Replicated.{map_replicate}
use Rattle.firing.proofs.firing.Firing.new.Goals as goal

abbrev made : Bool → Fire
made b = record { round = 0; fired = b }

pub returns-clause-kept : goal.returns-clause-kept
returns-clause-kept c =
    ap (map made) (c.in_ok-from_elem.ensures.items_if_clones_equal (λ y e. e))
    ∙ (map_replicate made _ false ∙ ap (λ n. replicate n unfired) c.nodes-nodes.ensures)
