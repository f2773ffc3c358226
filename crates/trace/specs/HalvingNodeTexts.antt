-- What a trace writes of a node in a configuration of a script's run on a halving plan.
use Rattle.std.specs.Prelude.{ℕ, nat_lt, nat_eq, List, ◌++◌, Bool, Option, Some, None}
use Rattle.std.specs.Prelude.{if◌then◌else◌}
use Rattle.std.specs.List.{flat_map}
use Rattle.sync_types.specs.States.{State}
use Rattle.construction.specs.Steps.{state_of}
use Rattle.adversary_script.specs.Scripts.{Script}
use Rattle.adversary_script.specs.Eras.{faulty_at}
use Rattle.machine_runner.specs.Played.{heard_at}
use Rattle.halving_plan.specs.Steps.{shown_in}
use Rattle.halving_plan.specs.Fields.{fields_of}
use Rattle.halving_plan.specs.Groups.{whole_of}
use Rattle.halving_plan.specs.Plans.{HalvingNumbers, tree_of}
use Rattle.trace.specs.declared.headings.Heading.{Heading}
use Rattle.trace.specs.Headings.{heading_of}
use Rattle.trace.specs.Words.{shown_line}
use Rattle.trace.specs.GroupTexts.{group_line}
use Rattle.trace.specs.Groups.{SidedGroup, groups_of}
use Rattle.trace.specs.declared.sides.Side.TheVariants as which

-- the number of a node; one that lacks it, as a spare, has the modulus 1 there
abbrev pub number_of_node : HalvingNumbers → (v : ℕ) → State → Option ℕ
number_of_node plan v state =
    if nat_eq (fields_of plan v).base 1 then None else Some state.x

-- the line of a node's state
abbrev pub state_line : Heading → HalvingNumbers → State → List ℕ
state_line h plan state =
    shown_line h (number_of_node plan h.node state) (shown_in (tree_of plan) state)

-- those of groups
abbrev pub group_lines : Heading → (faulty : List ℕ) → (config : List State) → (hears : Bool)
    → (heard : List State) → List SidedGroup → List ℕ
group_lines h faulty config hears heard groups =
    flat_map (group_line h faulty config hears heard) groups

-- The line of its state, and those of the groups with halves in which it is, from the whole down,
-- from what it hears of all nodes, if a round follows.
abbrev pub view_text : Heading → (faulty : List ℕ) → (config : List State) → (hears : Bool)
    → HalvingNumbers → (heard : List State) → List ℕ
view_text h faulty config hears plan heard =
    state_line h plan (state_of config h.node)
    ++ group_lines h faulty config hears heard (groups_of which.Whole (whole_of plan) h.node)

-- The lines of node v in configuration t, with what it hears in round t; after the last
-- configuration no round follows.
abbrev pub node_text : HalvingNumbers → Script → (t : ℕ) → (config : List State) → (v : ℕ) → List ℕ
node_text plan script t config v =
    view_text (heading_of script t v) (faulty_at script t) config (nat_lt t script.rounds) plan
    (heard_at script t config v)
