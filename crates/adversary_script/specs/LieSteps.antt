-- The line of a lie, with its tests in their order.
pub use Rattle.receiver_groups.specs.Groups.{group_at}
use Rattle.std.specs.Prelude.{ℕ, List, [], ◌∷◌, ◌++◌, length, Bool, ◌||◌, not, nat_le, nat_lt}
use Rattle.std.specs.Prelude.{Option, Some, None, Result, Ok, Err, if◌then◌else◌}
use Rattle.std.specs.Option.{option_map}
use Rattle.sync_types.specs.declared.answers.Rule.{Rule}
use Rattle.sync_types.specs.declared.answers.Rule.TheVariants.{Form, Limit, Node, Range, Hex, Name}
use Rattle.sync_types.specs.States.{State}
use Rattle.state_codec.specs.Shapes.{Fields, fields_at}
use Rattle.state_codec.specs.Texts.{is_state_text, read_text}
use Rattle.adversary_script.specs.declared.lies.Who.{Who}
use Rattle.adversary_script.specs.declared.lies.Who.TheVariants.{All, Ids, Group}
use Rattle.adversary_script.specs.declared.lies.What.{What}
use Rattle.adversary_script.specs.declared.lies.What.TheVariants as what
use Rattle.adversary_script.specs.LieWords.{WhoSaid, everyone, between, named, WhatSaid, noise}
use Rattle.adversary_script.specs.LieWords.{copy, digits, shift, LieSaid, lie_words}
use Rattle.adversary_script.specs.WordTests.{are_ids, is_crossed}
use Rattle.adversary_script.specs.Scripts as scripts
use Rattle.adversary_script.specs.Scripts.{Script, faulty_sets}
use Rattle.adversary_script.specs.Tested.{tested}

-- the state of hex digits, if they are just those of a state with these fields
abbrev pub state_of_digits : Fields → List ℕ → Option State
state_of_digits fields word =
    if is_state_text fields word then Some (read_text fields word) else None

-- who hears, if a name is that of a group
abbrev pub who_of : List scripts.Group → WhoSaid → Option Who
who_of groups everyone = Some All
who_of groups (between p q) = Some (Ids p q)
who_of groups (named name) = option_map Group (group_at groups name)

-- what the lie says of a sender with these fields, if hex digits are those of a state of it
abbrev pub what_of : Fields → WhatSaid → Option What
what_of fields noise = Some what.Noise
what_of fields (copy w) = Some (what.Copy w)
what_of fields (digits h) = option_map what.State (state_of_digits fields h)
what_of fields (shift d) = Some (what.Shift d)

-- one more lie, unless a state or a name is wrong
abbrev pub with_lie : Script → LieSaid → Option What → Option Who → Result Script Rule
with_lie s l None who = Err Hex
with_lie s l (Some what) None = Err Name
with_lie s l (Some what) (Some who) = Ok (record s {
  lies =
      s.lies ++ record { first = l.first; last = l.last; sender = l.sender; who = who; what = what }
      ∷ [];
})

abbrev pub lie_tests : Script → LieSaid → List (Bool × Rule)
lie_tests s l =
    (nat_le 256 (length s.lies), Limit)
    ∷ (not (are_ids s.nodes (faulty_sets s) l), Node)
    ∷ (nat_lt l.last l.first || is_crossed l.who, Range) ∷ []

abbrev pub lie_tested : Script → Option LieSaid → Result Script Rule
lie_tested s None = Err Form
lie_tested s (Some l) =
    tested (lie_tests s l)
    (with_lie s l (what_of (fields_at s.shape l.sender) l.what) (who_of s.groups l.who))

-- `lie A B U to WHO WHAT`, by the words after the first
abbrev pub lie_step : Script → List (List ℕ) → Result Script Rule
lie_step s words = lie_tested s (lie_words words)
