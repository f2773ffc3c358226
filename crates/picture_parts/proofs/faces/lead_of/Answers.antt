use Rattle.std.proofs.Common.{◌-◌, ◌%◌, ◌∙◌}
use native.Mathlib.Nat.{mod-add-mod}
use Rattle.picture_parts.proofs.faces.lead_of.Goals as goal

pub returns-else-modulus-eq0 : goal.returns-else-modulus-eq0
returns-else-modulus-eq0 c =
    c.ahead.ensures
    ∙ mod-add-mod c.args.output c.args.modulus (c.args.modulus - c.args.t % c.args.modulus)
