use Rattle.adversary_script.proofs.ReadScripts.{read_is_for}
use Rattle.adversary_script.proofs.reading.read_script.Goals as goal

pub returns-clause-borne : goal.returns-clause-borne
returns-clause-borne c =
    read_is_for c.args.plan.now c.args.shape.now _
    (rw (c.requires.shape, c.faults.ensures) at c.read_script_for.ensures.borne)
