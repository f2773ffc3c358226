-- What reading a fire part answers.
use Rattle.std.specs.Prelude.{◌≡◌, ℕ, List, Result, replicate}
use Rattle.sync_types.specs.declared.answers.Rule.{Rule}
use Rattle.edge_io.specs.declared.taking.PartError.{PartError}
use Rattle.edge_io.specs.PartAnswers as parts
use Rattle.construction.specs.Plans.{Plan}
use Rattle.layer_laws.specs.Numbers.{Numbers, numbers_of}
use Rattle.firing.specs.declared.requests.Request.{Request}
use Rattle.firing.specs.declared.firing.Firing.{Firing}
use Rattle.firing.specs.Firings.{fire_layer_over, unfired}
use Rattle.firing.specs.FiringsSeen.{layer_seen, fires_seen}
use Rattle.firing.specs.FirePart.{part_over}

-- firing on requests over a counter, before any node fired
pub record IsFreshOver (numbers : Numbers) (requests : List Request) (firing : Firing)
    : Type 0 where
  pub layer : layer_seen firing ≡ fire_layer_over numbers requests
  pub kept : fires_seen firing ≡ replicate numbers.nodes unfired

-- the part is read, and this is firing on its requests
abbrev pub IsReadOver : Numbers → (number : ℕ) (input : List ℕ) → Firing → (bytes lines : ℕ)
    → Type 0
IsReadOver numbers = parts.IsRead (part_over numbers) (IsFreshOver numbers)

-- it is read, or fails as defined
abbrev pub IsAnswerOver : Numbers → (number : ℕ) (input : List ℕ)
    → Result (Firing × ℕ × ℕ) (PartError Rule) → Type 0
IsAnswerOver numbers = parts.IsAnswer (part_over numbers) (IsFreshOver numbers)

-- ---- over the counter of a plan

abbrev pub IsAnswer : Plan → (number : ℕ) (input : List ℕ)
    → Result (Firing × ℕ × ℕ) (PartError Rule) → Type 0
IsAnswer plan = IsAnswerOver (numbers_of plan)
