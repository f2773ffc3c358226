-- What reading a log part answers.
use Rattle.std.specs.Prelude.{◌≡◌, ℕ, List, [], Result, replicate}
use Rattle.sync_types.specs.declared.answers.Rule.{Rule}
use Rattle.edge_io.specs.declared.taking.PartError.{PartError}
use Rattle.edge_io.specs.PartAnswers as parts
use Rattle.construction.specs.Plans.{Plan}
use Rattle.layer_laws.specs.Numbers.{Numbers, numbers_of}
use Rattle.replicated_log.specs.declared.replica.Replica.{Replica}
use Rattle.replicated_log.specs.Logs.{log_layer_over}
use Rattle.replicated_log.specs.LogsSeen.{layer_seen, logs_seen}
use Rattle.replicated_log.specs.LogContent.{LogContent}
use Rattle.replicated_log.specs.LogPart.{part_over}

-- a log over a counter as it is said, with nothing in it
pub record IsFreshOver (numbers : Numbers) (said : LogContent) (replica : Replica) : Type 0 where
  pub layer : layer_seen replica ≡ log_layer_over numbers said
  pub kept : logs_seen replica ≡ replicate numbers.nodes []

-- the part is read, and this is a log as it says
abbrev pub IsReadOver : Numbers → (number : ℕ) (input : List ℕ) → Replica → (bytes lines : ℕ)
    → Type 0
IsReadOver numbers = parts.IsRead (part_over numbers) (IsFreshOver numbers)

-- it is read, or fails as defined
abbrev pub IsAnswerOver : Numbers → (number : ℕ) (input : List ℕ)
    → Result (Replica × ℕ × ℕ) (PartError Rule) → Type 0
IsAnswerOver numbers = parts.IsAnswer (part_over numbers) (IsFreshOver numbers)

-- ---- over the counter of a plan

abbrev pub IsRead : Plan → (number : ℕ) (input : List ℕ) → Replica → (bytes lines : ℕ) → Type 0
IsRead plan = IsReadOver (numbers_of plan)

abbrev pub IsAnswer : Plan → (number : ℕ) (input : List ℕ)
    → Result (Replica × ℕ × ℕ) (PartError Rule) → Type 0
IsAnswer plan = IsAnswerOver (numbers_of plan)
