-- What is read as wants is their text, and what is written of what was found is read back.
use Rattle.std.specs.Prelude.{◌≡◌, ℕ, ◌+◌, ◌^◌, ◌<◌, List, [], ◌∷◌, map, All, Some, None, Ok, Err}
use Rattle.std.specs.Prelude.{IfOk, codes, decimal}
use Rattle.texts.specs.Lines.{lines_of}
use Rattle.texts.specs.Parts.{At, with_skips, part_from}
use Rattle.part_lines.specs.TakenLines.{counting}
use Rattle.texts.specs.Words.{joined, text_of}
use Rattle.sync_types.specs.declared.answers.Rule.{Rule}
use Rattle.sync_types.specs.declared.answers.Rule.TheVariants.{Form}
use Rattle.construction.specs.Plans.{Plan, plan_depth}
use Rattle.plan_numbers.specs.Premises.{IsAccepted}
use Rattle.plan_reader.specs.PlanPart.{plan_of}
use Rattle.plan_finder.specs.FindPart.{find_step, want_of}
use Rattle.plan_finder.specs.FindText.{find_text}
use Rattle.plan_finder.specs.WantTexts.{want_text}
use Rattle.plan_finder.specs.declared.pots.Pot.{Pot}
use Rattle.plan_finder.specs.declared.want_lines.FindStage.TheVariants.{Unread}
use Rattle.read_texts.specs.Unskipped.{IsRefusedAlone}

-- What is read is what stands there: all lines that count are the text of the wants.
abbrev pub ReadIsWantText : Type 0
ReadIsWantText = (input : List ℕ)
    → IfOk (want_of input) (λ want. text_of (counting (lines_of input)) ≡ want_text want)

-- What says no wants alone is refused at a line of its part, or by `form` at the first line behind
-- the part that is not skipped.
abbrev pub WantIsRefusedAlone : Type 0
WantIsRefusedAlone = (input : List ℕ) (at : At Rule) → want_of input ≡ Err at
    → IsRefusedAlone Form 1 (part_from (with_skips find_step Form) Form Unread 0 1 (lines_of input))
    at

-- ---- what was found

-- the line of a pair, as its words
abbrev pub pot_text : Pot → List ℕ
pot_text pot = joined (
    codes "pot" ∷ decimal pot.nodes ∷ decimal pot.faults ∷ decimal pot.value ∷ [])

-- numbers of 64 bits
pub record FitsLine (pot : Pot) : Type 0 where
  pub nodes : pot.nodes < 2 ^ 64
  pub faults : pot.faults < 2 ^ 64
  pub value : pot.value < 2 ^ 64

-- What is written of a plan that was found is read as this plan, and behind it stand the lines of
-- all pairs, in their order.
abbrev pub FoundPlanIsRead : Type 0
FoundPlanIsRead = (plan : Plan) (pots : List Pot) → IsAccepted plan → plan.version ≡ 1
    → All FitsLine pots
    → plan_of (find_text (Some plan) pots)
    ≡ Ok (record { value = plan; taken = plan_depth plan + 3; behind = map pot_text pots })

-- If none was found, these stand behind the line that says so.
abbrev pub NoneFoundIsSaid : Type 0
NoneFoundIsSaid = (pots : List Pot) → All FitsLine pots
    → lines_of (find_text None pots) ≡ codes "none" ∷ map pot_text pots
