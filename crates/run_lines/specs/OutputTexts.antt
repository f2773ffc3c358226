-- Lines of the configurations that are shown, whose words depend on what their nodes show.
use Rattle.std.specs.Prelude.{ℕ, List, [], ◌∷◌, ◌++◌, codes, decimal}
use Rattle.std.specs.List.{concat, flat_map, range_with_len}
use Rattle.sync_types.specs.FaultSets.{FaultIds}
use Rattle.sync_types.specs.States.{State}
use Rattle.edge_io.specs.Rising.{Labelled}
use Rattle.construction.specs.Plans.{Plan, plan_depth}
use Rattle.construction.specs.Shown.{shown}
use Rattle.construction.specs.Steps.{state_of}
use Rattle.counter_core.specs.Meanings.{Meaning}
use Rattle.layer_runner.specs.SlotTexts.{output_of}
use Rattle.run_lines.specs.RunTexts.{word_or_star}
use Rattle.run_lines.specs.PlayedTexts.{Wording, numbered}
use Rattle.run_lines.specs.ShownTexts.{shown_wording}

-- a node's word by what it shows
abbrev pub word_of_shown : (word : (output v : ℕ) → List ℕ) → Plan → List State → (v : ℕ) → List ℕ
word_of_shown word plan config v = word (shown (plan_depth plan) (state_of config v)) v

-- the same on any counter
abbrev pub word_of_output : (word : (output v : ℕ) → List ℕ) → Meaning → List State → (v : ℕ)
    → List ℕ
word_of_output word counter config v = word (output_of counter config v) v

-- such lines, after this label
abbrev pub output_wording : (label : List ℕ) → (word : (output v : ℕ) → List ℕ)
    → Wording (Unit {0})
output_wording label word = shown_wording label (word_of_output word)

-- the line of configuration t, in which all correct nodes show this output
abbrev pub counted_line : (label : List ℕ) → (word : (output v : ℕ) → List ℕ) → FaultIds
    → (t output : ℕ) → List ℕ
counted_line label word faulty t output =
    concat ((label ++ decimal t)
    ∷ flat_map (word_or_star (word output) faulty.ids) (range_with_len 0 faulty.nodes)
    ∷ codes "\n" ∷ [])

-- an output and its text after a space
abbrev pub output_text : (output : ℕ) → Labelled
output_text output = numbered (codes " ") output
