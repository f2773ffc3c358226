-- What an engine that hears packets did.
use Rattle.std.specs.Prelude.{◌≡◌, ℕ, List, Result, Ok, Err}
use Rattle.node_stepper.specs.Packets.{whole, cut, beyond}
use Rattle.machines.specs.Machines.{Machine}
use Rattle.node_stepper.specs.Nodes.{Standing}
use Rattle.node_stepper.specs.Serving.{StandsBehind, served}
use Rattle.node_calls.specs.declared.errors.CallError.{CallError}
use Rattle.node_calls.specs.declared.errors.CallError.TheVariants as error

-- it stands after all packets, which are so many; or the bytes are not packets
abbrev pub Hears : {M : Type 0} → (machine : M → Machine) → (before after : Standing M) → List ℕ
    → Result ℕ CallError → Type 0
Hears machine before after packets (Ok count) =
    ((served machine before packets).ending ≡ whole count)
    × StandsBehind machine before after (served machine before packets).cells
Hears machine before after packets (Err (error.Cut packet sender)) =
    (served machine before packets).ending ≡ cut packet sender
Hears machine before after packets (Err error.TooLong) =
    (served machine before packets).ending ≡ beyond
Hears machine before after packets (Err other) = ⊥
