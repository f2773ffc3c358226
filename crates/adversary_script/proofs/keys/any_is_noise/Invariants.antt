use Rattle.std.proofs.Common.{◌≡◌, drop}
use Rattle.std.specs.List.{list_any}
use Rattle.adversary_script.specs.NoiseSaid.{is_noise}
use Rattle.adversary_script.proofs.keys.any_is_noise.Given as goal

abbrev pub invariant-loop-lie : goal.invariant-loop-lie
invariant-loop-lie l =
    list_any (λ lie. is_noise lie.what) (drop l.lie-index l.lies)
    ≡ list_any (λ lie. is_noise lie.what) l.lies
