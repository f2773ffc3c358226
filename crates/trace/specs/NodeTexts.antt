-- What a trace writes of a node in a configuration of a script's run.
use Rattle.std.specs.Prelude.{ℕ, nat_lt, ◌==◌, List, ◌++◌, length, Bool, Option, Some, None}
use Rattle.std.specs.Prelude.{if◌then◌else◌}
use Rattle.sync_types.specs.States.{State}
use Rattle.construction.specs.Plans.{Level, Plan, low_of}
use Rattle.construction.specs.Shown.{shown}
use Rattle.construction.specs.Steps.{state_of}
use Rattle.adversary_script.specs.Scripts.{Script}
use Rattle.adversary_script.specs.Eras.{faulty_at}
use Rattle.round_runner.specs.Played.{heard_at}
use Rattle.trace.specs.declared.headings.Heading.{Heading}
use Rattle.trace.specs.Headings.{heading_of}
use Rattle.trace.specs.Words.{shown_line}
use Rattle.trace.specs.LevelTexts.{level_lines}

-- the number of a node; a spare has none
abbrev pub number_of_node : List Level → (v : ℕ) → State → Option ℕ
number_of_node levels v state = if low_of levels v == 0 then Some state.x else None

-- the line of a node's state
abbrev pub state_line : Heading → List Level → State → List ℕ
state_line h levels state =
    shown_line h (number_of_node levels h.node state) (shown (length levels) state)

-- The line of its state, and those of its levels, from what it hears of all nodes, if a round
-- follows.
abbrev pub view_text : Heading → (faulty : List ℕ) → (config : List State) → (hears : Bool)
    → List Level → (heard : List State) → List ℕ
view_text h faulty config hears levels heard =
    state_line h levels (state_of config h.node)
    ++ level_lines h faulty config hears levels h.node heard

-- The lines of node v in configuration t, with what it hears in round t; after the last
-- configuration no round follows.
abbrev pub node_text : Plan → Script → (t : ℕ) → (config : List State) → (v : ℕ) → List ℕ
node_text plan script t config v =
    view_text (heading_of script t v) (faulty_at script t) config (nat_lt t script.rounds)
    plan.levels (heard_at script t config v)
