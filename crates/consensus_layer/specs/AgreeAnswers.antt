-- What reading an agree part answers.
use Rattle.std.specs.Prelude.{◌≡◌, ℕ, List, Result, replicate}
use Rattle.sync_types.specs.declared.answers.Rule.{Rule}
use Rattle.edge_io.specs.declared.taking.PartError.{PartError}
use Rattle.edge_io.specs.PartAnswers as parts
use Rattle.construction.specs.Plans.{Plan}
use Rattle.layer_laws.specs.Numbers.{Numbers, numbers_of}
use Rattle.consensus_layer.specs.declared.agreement.Agreement.{Agreement}
use Rattle.consensus_layer.specs.Agreements.{agree_layer_over}
use Rattle.consensus_layer.specs.AgreementsSeen.{layer_seen, decisions_seen}
use Rattle.consensus_layer.specs.AgreeContent.{AgreeContent}
use Rattle.consensus_layer.specs.AgreePart.{part_over}

-- consensus on the inputs that are said, with 0 as each node's decision
pub record IsFreshOver (numbers : Numbers) (said : AgreeContent) (agreement : Agreement)
    : Type 0 where
  pub layer : layer_seen agreement ≡ agree_layer_over numbers said.values said.inputs
  pub kept : decisions_seen agreement ≡ replicate numbers.nodes 0

-- the part is read, and this is consensus as it says
abbrev pub IsReadOver : Numbers → (number : ℕ) (input : List ℕ) → Agreement → (bytes lines : ℕ)
    → Type 0
IsReadOver numbers = parts.IsRead (part_over numbers) (IsFreshOver numbers)

-- it is read, or fails as defined
abbrev pub IsAnswerOver : Numbers → (number : ℕ) (input : List ℕ)
    → Result (Agreement × ℕ × ℕ) (PartError Rule) → Type 0
IsAnswerOver numbers = parts.IsAnswer (part_over numbers) (IsFreshOver numbers)

-- ---- for the counter of a plan

abbrev pub IsRead : Plan → (number : ℕ) (input : List ℕ) → Agreement → (bytes lines : ℕ) → Type 0
IsRead plan = IsReadOver (numbers_of plan)

abbrev pub IsAnswer : Plan → (number : ℕ) (input : List ℕ)
    → Result (Agreement × ℕ × ℕ) (PartError Rule) → Type 0
IsAnswer plan = IsAnswerOver (numbers_of plan)
