-- The text of each word that plays a script: which lines stand in it, and which words in these.
use Rattle.std.specs.Prelude.{◌≡◌, ℕ, ◌+◌, ◌-◌, ◌==◌, if◌then◌else◌, List, [], ◌∷◌, ◌++◌, length}
use Rattle.std.specs.Prelude.{map}
use Rattle.std.specs.Prelude.{Option, Some, None, filter, nat_eq, codes, decimal}
use Rattle.std.specs.List.{range_with_len}
use Rattle.std.specs.Option.{option_eq}
use Rattle.texts.specs.Words.{joined, text_of}
use Rattle.sync_types.specs.States.{State}
use Rattle.construction.specs.Plans.{Plan, plan_nodes, plan_faults, plan_bound, plan_depth}
use Rattle.construction.specs.Shown.{shown}
use Rattle.construction.specs.Steps.{state_of}
use Rattle.construction.specs.Runs.{is_in}
use Rattle.adversary_script.specs.Scripts.{Script}
use Rattle.adversary_script.specs.Eras.{first_of_era, faulty_at}
use Rattle.round_runner.specs.Played.{played_at}
use Rattle.slot_table.specs.declared.lines.SlotLine.{SlotLine}
use Rattle.slot_table.specs.Tables.{holder_of}
use Rattle.consensus_layer.specs.AgreeContent.{AgreeContent}
use Rattle.consensus_layer.specs.Agreements.{decision}
use Rattle.firing.specs.declared.requests.Request.{Request}
use Rattle.firing.specs.Firings.{fires_of}
use Rattle.layer_laws.specs.Slots.{slot_length}
use Rattle.replicated_log.specs.EntryLength.{entry_length}
use Rattle.replicated_log.specs.LogContent.{LogContent}
use Rattle.replicated_log.specs.Logs.{log_of}
use Rattle.run_lines.specs.RunTexts.{lock_of_era}
use Rattle.run_lines.specs.RowTexts.{run_text}
use Rattle.run_lines.specs.SlotTexts.{begins_at}
use Rattle.run_lines.specs.HoldTexts.{hold_text}
use Rattle.run_lines.specs.DecisionTexts.{agree_scene, decision_text}
use Rattle.run_lines.specs.FireTexts.{fire_scene, fire_text}
use Rattle.run_lines.specs.EntryTexts.{newest_value, log_scene, slot_owner, log_text}

-- a text of lines, each ended by a newline, of words with single spaces between them
abbrev pub text_of_words : List (List (List ℕ)) → List ℕ
text_of_words lines = text_of (map joined lines)

module _ (plan : Plan) (script : Script) where
  -- the configurations that are shown
  abbrev pub shown_numbers : List ℕ
  shown_numbers = range_with_len script.first (script.last + 1 - script.first)

  -- a word of each node, a star if it is faulty in configuration c
  abbrev pub starred : (c : ℕ) → (word : (v : ℕ) → List ℕ) → List (List ℕ)
  starred c word =
      map (λ v. if is_in (faulty_at script c) v then codes "*" else word v)
      (range_with_len 0 (plan_nodes plan))

  -- what node v shows in configuration t
  abbrev pub output_shown : (t v : ℕ) → ℕ
  output_shown t v = shown (plan_depth plan) (state_of (played_at plan script t) v)

  -- the first line, and the last ones: of a script of version 1 one, else one of each era
  abbrev pub bound_words : List (List ℕ)
  bound_words = codes "bound" ∷ decimal (plan_bound plan) ∷ []

  abbrev pub lock_words : Option ℕ → List (List ℕ)
  lock_words (Some t) = codes "locked" ∷ decimal t ∷ []
  lock_words None = codes "locked" ∷ codes "none" ∷ []

  module _ (config_at : ℕ → List State) where
    abbrev pub era_words : (j : ℕ) → List (List ℕ)
    era_words j =
        codes "era" ∷ decimal (first_of_era script j)
        ∷ lock_words (lock_of_era plan script config_at j)

    abbrev pub locks_said : List (List (List ℕ))
    locks_said =
        if script.version == 1 then lock_words (lock_of_era plan script config_at 0) ∷ []
        else map era_words (range_with_len 0 (length script.eras + 1))

    -- all lines, with these between
    abbrev pub around : List (List (List ℕ)) → List (List (List ℕ))
    around lines = bound_words ∷ (lines ++ locks_said)

    -- the slots of q rounds of which a line is written, by where they begin
    abbrev pub slots_shown : (q : ℕ) → List ℕ
    slots_shown q = filter (λ t. begins_at plan script q t (config_at t)) shown_numbers

  -- the lines of `run` and of `slots`: one of each configuration that is shown
  abbrev pub row_words : (t : ℕ) → List (List ℕ)
  row_words t = codes "row" ∷ decimal t ∷ starred t (λ v. decimal (output_shown t v))

  abbrev pub hold_words : List SlotLine → (t : ℕ) → List (List ℕ)
  hold_words table t =
      codes "hold" ∷ decimal t
      ∷ starred t (λ v. if option_eq nat_eq (holder_of table (output_shown t v)) (Some v)
      then codes "1" else codes ".")

  -- the lines of `consensus`, `fire` and `log`: one of each slot that counts and begins in a
  -- configuration that is shown, with what the nodes have at its end
  abbrev pub decision_words : AgreeContent → (t : ℕ) → List (List ℕ)
  decision_words said t =
      let end = t + slot_length (plan_faults plan) in
      codes "slot" ∷ decimal t
      ∷ starred end (λ v. decimal (decision (agree_scene plan script said end) v))

  abbrev pub fire_words : List Request → (t : ℕ) → List (List ℕ)
  fire_words requests t =
      let end = t + slot_length (plan_faults plan) in
      codes "fire" ∷ decimal t
      ∷ starred end (λ v. if fires_of (fire_scene plan script requests end).kept v
      then codes "1" else codes ".")

  abbrev pub entry_words : LogContent → (t : ℕ) → List (List ℕ)
  entry_words said t =
      let end = t + entry_length (plan_faults plan) in
      codes "entry" ∷ decimal t ∷ codes "owner" ∷ decimal (slot_owner plan script said t)
      ∷ starred end (λ v. decimal (newest_value (log_of (log_scene plan script said end) v)))

-- The text of `run` has just these lines: the bound, the rows, the first locked configurations.
abbrev pub RowsAreWritten : Plan → Script → Type 0
RowsAreWritten plan script =
    run_text plan script
    ≡ text_of_words (around plan script (played_at plan script)
    (map (row_words plan script) (shown_numbers plan script)))

-- and that of `slots`
abbrev pub HoldsAreWritten : Plan → Script → List SlotLine → Type 0
HoldsAreWritten plan script table =
    hold_text plan script table
    ≡ text_of_words (around plan script (played_at plan script)
    (map (hold_words plan script table) (shown_numbers plan script)))

-- and those of `consensus`, `fire` and `log`
abbrev pub DecisionsAreWritten : Plan → Script → AgreeContent → Type 0
DecisionsAreWritten plan script said =
    let config_at : ℕ → List State = λ c. (agree_scene plan script said c).states in
    decision_text plan script said
    ≡ text_of_words (around plan script config_at
    (map (decision_words plan script said)
    (slots_shown plan script config_at (slot_length (plan_faults plan)))))

abbrev pub FiresAreWritten : Plan → Script → List Request → Type 0
FiresAreWritten plan script requests =
    let config_at : ℕ → List State = λ c. (fire_scene plan script requests c).states in
    fire_text plan script requests
    ≡ text_of_words (around plan script config_at
    (map (fire_words plan script requests)
    (slots_shown plan script config_at (slot_length (plan_faults plan)))))

abbrev pub EntriesAreWritten : Plan → Script → LogContent → Type 0
EntriesAreWritten plan script said =
    let config_at : ℕ → List State = λ c. (log_scene plan script said c).states in
    log_text plan script said
    ≡ text_of_words (around plan script config_at
    (map (entry_words plan script said)
    (slots_shown plan script config_at (entry_length (plan_faults plan)))))

-- so it is of each script
pub record TextsAreWritten : Type 0 where
  pub rows : (plan : Plan) (script : Script) → RowsAreWritten plan script
  pub holds : (plan : Plan) (script : Script) (table : List SlotLine)
      → HoldsAreWritten plan script table
  pub decisions : (plan : Plan) (script : Script) (said : AgreeContent)
      → DecisionsAreWritten plan script said
  pub fires : (plan : Plan) (script : Script) (requests : List Request)
      → FiresAreWritten plan script requests
  pub entries : (plan : Plan) (script : Script) (said : LogContent)
      → EntriesAreWritten plan script said
