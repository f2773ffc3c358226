-- The script part of an input, line by line, to the end of the input.
use Rattle.std.specs.Prelude.{◌≡◌, ⊤, ℕ, ◌+◌, ◌<◌, ◌≤◌, List, length, All, Option, Some, None}
use Rattle.std.specs.Prelude.{Result, Ok, Err, if◌then◌else◌}
use Rattle.std.specs.List.Sorted.{IsStrictlyIncreasing}
use Rattle.texts.specs.Lines.{words_of}
use Rattle.texts.specs.Parts.{Next, goes, ends, refuses, with_skips, Found, At, part_from}
use Rattle.sync_types.specs.declared.answers.Rule.{Rule}
use Rattle.sync_types.specs.declared.answers.Rule.TheVariants.{Form}
use Rattle.construction.specs.Plans.{Plan, plan_nodes, plan_faults}
use Rattle.construction.specs.Runs.{IsToleratedBy}
use Rattle.state_codec.specs.Shapes.{Shape}
use Rattle.plan_reader.specs.Skipped.{first_unskipped}
use Rattle.edge_io.specs.declared.taking.PartError.{PartError}
use Rattle.adversary_script.specs.declared.kinds.Kind.{Kind}
use Rattle.adversary_script.specs.declared.kinds.Kind.TheVariants as kind
use Rattle.adversary_script.specs.Kinds.{kind_of, may_follow}
use Rattle.adversary_script.specs.Scripts.{Script, empty_script, faulty_sets, AreWithin}
use Rattle.edge_io.specs.Taking.{FailsAsDefined}
use Rattle.adversary_script.specs.Steps.{line_step}

-- how many ids may be faulty, the kind of the last line, and what was said so far
pub record ScriptSoFar : Type 0 where
  pub faults : ℕ
  pub last : Option Kind
  pub script : Script

-- a part of which nothing was read
abbrev pub nothing_read : (nodes faults : ℕ) → Shape → ScriptSoFar
nothing_read nodes faults shape =
    record { faults = faults; last = None; script = empty_script nodes shape }

-- after a line of a kind the part goes on, or ends, or the line is refused
abbrev pub passed : ScriptSoFar → Kind → Result Script Rule → Next ScriptSoFar Script Rule
passed s k (Err rule) = refuses rule
passed s kind.End (Ok script) = ends script
passed s k (Ok script) = goes (record s { last = Some k; script = script })

-- a line of a kind with these words after it
abbrev pub read_as : ScriptSoFar → Option (Kind × List (List ℕ)) → Next ScriptSoFar Script Rule
read_as s None = refuses Form
read_as s (Some (k, words)) =
    if may_follow s.last k then passed s k (line_step s.faults k s.script words) else refuses Form

-- a line after those that were read
abbrev pub script_step : ScriptSoFar → List ℕ → Next ScriptSoFar Script Rule
script_step s line = read_as s (kind_of (words_of line))

-- The script part at the beginning of these lines, of which the first has that number, for so many
-- nodes, of which so many may be faulty: its script, how many lines it took through `end`, and the
-- lines after it; or the first line that fails, with the first rule that it fails.
abbrev pub part_for : (nodes faults : ℕ) → Shape → (number : ℕ) → List (List ℕ)
    → Result (Found Script) (At Rule)
part_for nodes faults shape number lines =
    part_from (with_skips script_step Form) Form (nothing_read nodes faults shape) 0 number lines

-- the script, unless the line with that number follows it
abbrev pub unless_followed : Option ℕ → Script → Result Script (At Rule)
unless_followed None script = Ok script
unless_followed (Some number) script = Err (record { line = number; rule = Form })

abbrev pub alone : (number : ℕ) → Result (Found Script) (At Rule) → Result Script (At Rule)
alone number (Ok found) =
    unless_followed (first_unskipped (number + found.taken) found.behind) found.value
alone number (Err refusal) = Err refusal

-- The script of these lines, of which the first has that number and after whose `end` only skipped
-- ones stand; or the first line that fails, with the first rule that it fails.
unfoldable pub script_for : (nodes faults : ℕ) → Shape → (number : ℕ) → List (List ℕ)
    → Result Script (At Rule)
script_for nodes faults shape number lines = alone number (part_for nodes faults shape number lines)

-- the script part for a plan's nodes, and the script
abbrev pub part_of : Plan → Shape → (number : ℕ) → List (List ℕ) → Result (Found Script) (At Rule)
part_of plan = part_for (plan_nodes plan) (plan_faults plan)

abbrev pub script_of : Plan → Shape → (number : ℕ) → List (List ℕ) → Result Script (At Rule)
script_of plan = script_for (plan_nodes plan) (plan_faults plan)

-- a faulty set that a counter of n nodes tolerates, of which f may be faulty: rising ids of nodes
pub record IsTolerated (n f : ℕ) (faulty : List ℕ) : Type 0 where
  pub rising : IsStrictlyIncreasing faulty
  pub ids : All (λ id. id < n) faulty
  pub few : length faulty ≤ f

-- a script for n nodes, of which f may be faulty in each era, and for states of that shape
pub record IsScriptFor (n f : ℕ) (shape : Shape) (script : Script) : Type 0 where
  pub nodes : script.nodes ≡ n
  pub states : script.shape ≡ shape
  pub borne : All (IsTolerated n f) (faulty_sets script)

-- a script for a plan: for its nodes, for states of that shape, with faulty sets that the plan
-- tolerates
pub record IsScriptForPlan (plan : Plan) (shape : Shape) (script : Script) : Type 0 where
  pub nodes : script.nodes ≡ plan_nodes plan
  pub states : script.shape ≡ shape
  pub borne : All (IsToleratedBy plan) (faulty_sets script)

-- reading these lines answers the script that is defined, or fails as defined
abbrev pub IsAnswerFor : (nodes faults : ℕ) → Shape → (number : ℕ) → List (List ℕ)
    → Result Script (PartError Rule) → Type 0
IsAnswerFor nodes faults shape number lines (Ok script) =
    script_for nodes faults shape number lines ≡ Ok script
IsAnswerFor nodes faults shape number lines (Err error) =
    FailsAsDefined error (script_for nodes faults shape number lines)

-- it does so for a plan
abbrev pub IsAnswer : Plan → Shape → (number : ℕ) → List (List ℕ) → Result Script (PartError Rule)
    → Type 0
IsAnswer plan = IsAnswerFor (plan_nodes plan) (plan_faults plan)

-- if the rounds were said, all eras begin within them
abbrev pub IsClosed : Option Kind → Script → Type 0
IsClosed (Some kind.Rounds) script = AreWithin script
IsClosed (Some kind.Show) script = AreWithin script
IsClosed (Some kind.End) script = AreWithin script
IsClosed last script = ⊤
