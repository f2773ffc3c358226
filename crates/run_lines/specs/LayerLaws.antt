-- What is written while a script is played is the text that is defined, and what its lines promise.
use Rattle.std.specs.Prelude.{◌≡◌, ℕ, ◌+◌, ◌<◌, ◌≤◌, ◌↔◌, List, [], codes, false, replicate}
use Rattle.sync_types.specs.States.{State}
use Rattle.construction.specs.Plans.{Plan, plan_nodes, plan_faults, plan_bound, plan_depth}
use Rattle.construction.specs.Shown.{shown}
use Rattle.construction.specs.Steps.{state_of}
use Rattle.construction.specs.Runs.{is_in}
use Rattle.plan_numbers.specs.Premises.{IsAccepted}
use Rattle.plan_laws.specs.PlanMeaning.{plan_meaning}
use Rattle.counter_core.specs.Meanings.{Meaning}
use Rattle.counter_core.specs.NoLayers.{no_layer}
use Rattle.state_codec.specs.Shapes.{IsShape}
use Rattle.adversary_script.specs.Scripts.{Script, IsScript}
use Rattle.adversary_script.specs.Eras.{era_of, first_of_era, faulty_at}
use Rattle.round_runner.specs.Laws.{IsReadFor}
use Rattle.round_runner.specs.Played.{played_at}
use Rattle.round_runner.specs.Runners as runner
use Rattle.layer_laws.specs.Slots.{slot_length}
use Rattle.slot_table.specs.declared.lines.SlotLine.{SlotLine}
use Rattle.slot_table.specs.Tables.{Holds, AreApart}
use Rattle.consensus_layer.specs.AgreeContent.{AgreeContent}
use Rattle.consensus_layer.specs.AgreePart.{IsAgreeForPlan}
use Rattle.consensus_layer.specs.Agreements.{agree_layer}
use Rattle.run_lines.specs.PlayedTexts.{played_text}
use Rattle.run_lines.specs.ShownTexts.{shown_text, shown_wording}
use Rattle.run_lines.specs.RowTexts.{run_text, row_wording}
use Rattle.run_lines.specs.HoldTexts.{hold_word, hold_text, hold_wording}
use Rattle.run_lines.specs.DecisionTexts.{decision_text, decision_wording}

-- the lines of configurations that are shown
abbrev pub ShownAsDefined : Type 0
ShownAsDefined = (label : List ℕ) (word : Meaning → List State → ℕ → List ℕ)
    → (plan : Plan) (script : Script) → script.last ≤ script.rounds
    → played_text plan script no_layer [] (shown_wording label word)
    ≡ shown_text label (λ plan. word (plan_meaning plan)) plan script

-- the rows of a run
abbrev pub RowsAsDefined : Type 0
RowsAsDefined = (plan : Plan) (script : Script) → script.last ≤ script.rounds
    → played_text plan script no_layer [] row_wording ≡ run_text plan script

-- the lines of a slot table
abbrev pub HoldsAsDefined : Type 0
HoldsAsDefined = (plan : Plan) (script : Script) (lines : List SlotLine)
    → script.last ≤ script.rounds
    → played_text plan script no_layer [] (hold_wording lines) ≡ hold_text plan script lines

-- the lines of consensus
abbrev pub DecisionsAsDefined : Type 0
DecisionsAsDefined = (plan : Plan) → IsAccepted plan → (said : AgreeContent)
    → IsAgreeForPlan plan said
    → (script : Script) → runner.IsPlayableOn plan (agree_layer plan said.values said.inputs) script
    → IsShape script.shape → IsScript script
    → played_text plan script (agree_layer plan said.values said.inputs)
    (replicate (plan_nodes plan) 0) (decision_wording (slot_length (plan_faults plan)))
    ≡ decision_text plan script said

-- In each line of a slot table that is of a configuration from the bound on, counted from the first
-- one of its era, at most one word of a correct node is 1.
abbrev pub AtMostOneInALine : Type 0
AtMostOneInALine = (plan : Plan) (script : Script) → IsReadFor plan script
    → (lines : List SlotLine) → AreApart lines
    → (t : ℕ) → first_of_era script (era_of script t) + plan_bound plan ≤ t → t ≤ script.rounds
    → (u v : ℕ) → u < plan_nodes plan → is_in (faulty_at script t) u ≡ false
    → v < plan_nodes plan → is_in (faulty_at script t) v ≡ false
    → hold_word plan lines (played_at plan script t) u ≡ codes " 1"
    → hold_word plan lines (played_at plan script t) v ≡ codes " 1" → u ≡ v

-- The word of node v is 1 exactly if some line of the table gives v the output that it shows, and
-- else a dot.
pub record HoldWordIs (plan : Plan) (lines : List SlotLine) (config : List State) (v : ℕ)
    : Type 0 where
  pub one : (hold_word plan lines config v ≡ codes " 1")
      ↔ Holds lines v (shown (plan_depth plan) (state_of config v))
  pub dot : (Holds lines v (shown (plan_depth plan) (state_of config v)) → ⊥)
      → hold_word plan lines config v ≡ codes " ."

-- so it is in each line of a slot table
abbrev pub HoldWordsAreExact : Type 0
HoldWordsAreExact = (plan : Plan) (lines : List SlotLine) → AreApart lines
    → (config : List State) (v : ℕ) → HoldWordIs plan lines config v
