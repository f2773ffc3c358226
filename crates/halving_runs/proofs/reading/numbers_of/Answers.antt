use Rattle.std.proofs.Common.{sym, subst}
use Rattle.layer_laws.specs.Numbers.{AreNumbers}
use Rattle.halving_runs.proofs.ReadLayers.{same_numbers, are_numbers}
use Rattle.halving_runs.proofs.reading.numbers_of.Goals as goal

pub new-requires : goal.new-requires
new-requires c =
    rw (c.nodes.ensures, c.faults.ensures, c.modulus.ensures, c.depth.ensures)
    (subst AreNumbers (same_numbers c.args.plan.now c.facts.ensures)
    (are_numbers c.args.plan.now c.facts.ensures))

pub returns : goal.returns
returns c =
    rw (c.new.ensures, c.nodes.ensures, c.faults.ensures, c.modulus.ensures, c.depth.ensures)
    (sym (same_numbers c.args.plan.now c.facts.ensures))
