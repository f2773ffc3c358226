-- What is written of what a node makes of what it hears of a group.
use Rattle.std.specs.Prelude.{ℕ, List, [], ◌∷◌, codes, decimal}
use Rattle.std.specs.List.{concat}
use Rattle.halving_plan.specs.Groups.{HalvingGroup}
use Rattle.trace.specs.GroupTexts.{backed_word, instruction_part}
use Rattle.trace.specs.Words.{number_or_none}
use Rattle.trace.specs.declared.counted.HeardOfGroup.{HeardOfGroup}

abbrev pub counted_part : HalvingGroup → HeardOfGroup → List ℕ
counted_part group made =
    concat (codes " saw " ∷ decimal made.saw ∷ backed_word made.backed
    ∷ instruction_part group made.left made.instruction
    ∷ codes " same " ∷ decimal made.same ∷ codes " least " ∷ number_or_none made.least ∷ [])
