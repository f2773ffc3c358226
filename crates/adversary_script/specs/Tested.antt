-- The tests of a line, in their order.
use Rattle.std.specs.Prelude.{List, [], ◌∷◌, Bool, Result, Err, if◌then◌else◌}
use Rattle.sync_types.specs.declared.answers.Rule.{Rule}
use Rattle.adversary_script.specs.Scripts.{Script}

-- the rule of the first test that is so, or what the line makes if none is
abbrev pub tested : List (Bool × Rule) → Result Script Rule → Result Script Rule
tested [] made = made
tested (test ∷ tests) made = if test.0 then Err test.1 else tested tests made
