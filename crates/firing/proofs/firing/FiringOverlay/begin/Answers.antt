use Rattle.std.proofs.Common.{sym, Bool}
use Rattle.std.proofs.lemmas.Simd.{map-map}
use Rattle.firing.specs.declared.fires.Fire.{Fire}
use Rattle.firing.proofs.firing.FiringOverlay.begin.Goals as goal

pub returns-clause-kept : goal.returns-clause-kept
returns-clause-kept c =
    sym
    (map-map (λ (f : Fire). let g : Fire = record { round = c.args.at; fired = f.fired } in g)
    (λ (b : Bool). let g : Fire = record { round = c.args.self.now.round; fired = b } in g)
    c.args.self.now.fired.items)
