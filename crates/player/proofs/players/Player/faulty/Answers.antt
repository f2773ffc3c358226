use Rattle.std.proofs.Common.{◌≡◌, ℕ, ap₂, ◌∙◌, subst}
use Rattle.sync_types.specs.FaultSets.{FaultIds}
use Rattle.adversary_script.specs.Eras.{faulty_of_era, faulty_at}
use Rattle.player.specs.Runners.{Running}
use Rattle.player.proofs.players.Player.faulty.Goals as goal

pub returns : goal.returns
returns g c =
    subst (λ (r : Running _ _). c.era_faulty.result.now ≡ record {
      nodes = (g.M.Machine.machine r.machine).nodes;
      ids = faulty_at r.script r.at;
    }) c.self.view_is
    (c.era_faulty.ensures ∙ ap₂ (λ (n j : ℕ). let set : FaultIds =
    record { nodes = n; ids = faulty_of_era c.self.inside.script j } in set)
    c.self.invariant.read.right.nodes c.self.invariant.here)
