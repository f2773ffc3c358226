-- There are no other inputs with a part between plan and script: what any input is read as, the
-- text of that is read as.
use Rattle.std.specs.Prelude.{◌≡◌, ℕ, List, Result, Ok, IfOk}
use Rattle.slot_table.specs.SlotTexts.{slots_text}
use Rattle.consensus_layer.specs.AgreeTexts.{agree_text}
use Rattle.firing.specs.RequestTexts.{requests_text}
use Rattle.replicated_log.specs.LogTexts.{log_text}
use Rattle.outcomes.specs.declared.refusals.Refusal.{Refusal}
use Rattle.outcomes.specs.Layered.{Layered, slotted_of, agreed_of, firing_of, logging_of}
use Rattle.promises.specs.ScriptInputs.{layered_text}

-- the text of what was read is read as the same
abbrev pub IsReadAgain : {Content : Type 0} → (read : List ℕ → Result (Layered Content) Refusal)
    → (text : Content → List ℕ) → Layered Content → Type 0
IsReadAgain read text found =
    read (layered_text found.plan (text found.said) found.script) ≡ Ok found

-- of a slot table, of inputs to agree on, of requests to fire and of a log
pub record OnlyTextsAreRead : Type 0 where
  pub slots : (input : List ℕ) → IfOk (slotted_of input) (IsReadAgain slotted_of slots_text)
  pub consensus : (input : List ℕ) → IfOk (agreed_of input) (IsReadAgain agreed_of agree_text)
  pub fire : (input : List ℕ) → IfOk (firing_of input) (IsReadAgain firing_of requests_text)
  pub log : (input : List ℕ) → IfOk (logging_of input) (IsReadAgain logging_of log_text)
