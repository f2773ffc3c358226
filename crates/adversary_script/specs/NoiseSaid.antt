-- Whether a script says noise. If it does not, its key counts for nothing.
use Rattle.std.specs.Prelude.{Bool, true, false, ◌||◌}
use Rattle.std.specs.List.{list_any}
use Rattle.adversary_script.specs.declared.lies.CommonStart.{CommonStart}
use Rattle.adversary_script.specs.declared.lies.CommonStart.TheVariants as common
use Rattle.adversary_script.specs.declared.lies.What.{What}
use Rattle.adversary_script.specs.declared.lies.What.TheVariants as what
use Rattle.adversary_script.specs.Scripts.{Script}

abbrev pub starts_with_noise : CommonStart → Bool
starts_with_noise common.Zero = false
starts_with_noise common.Noise = true

abbrev pub is_noise : What → Bool
is_noise what.Noise = true
is_noise (what.Copy w) = false
is_noise (what.State s) = false
is_noise (what.Shift d) = false

-- it has the line `start noise`, or a lie line of noise
abbrev pub says_noise : Script → Bool
says_noise script =
    starts_with_noise script.common || list_any (λ lie. is_noise lie.what) script.lies
