-- The words of rules and of parts, and the line of a header that is refused.
use Rattle.std.specs.Prelude.{ℕ, List, [], ◌∷◌, codes, decimal}
use Rattle.std.specs.List.{concat}
use Rattle.sync_types.specs.declared.answers.Part.{Part}
use Rattle.sync_types.specs.declared.answers.Part.TheVariants as part
use Rattle.sync_types.specs.declared.answers.Rule.{Rule}
use Rattle.sync_types.specs.declared.answers.Rule.TheVariants as rule
use Rattle.node_words.specs.declared.headers.HeaderRefusal.{HeaderRefusal}
use Rattle.node_words.specs.declared.headers.HeaderRefusal.TheVariants as header
use Rattle.node_words.specs.Constructions.{Words}

abbrev pub rule_word : Rule → List ℕ
rule_word rule.Form = codes "form"
rule_word rule.Limit = codes "limit"
rule_word rule.Node = codes "node"
rule_word rule.Order = codes "order"
rule_word rule.Faults = codes "faults"
rule_word rule.Range = codes "range"
rule_word rule.Hex = codes "hex"
rule_word rule.Name = codes "name"
rule_word rule.Slot = codes "slot"
rule_word rule.Overlap = codes "overlap"

abbrev pub part_word : Part → List ℕ
part_word part.Script = codes "script"
part_word part.Node = codes "node"
part_word part.Agree = codes "agree"
part_word part.Slots = codes "slots"
part_word part.Find = codes "find"
part_word part.Log = codes "log"
part_word part.Fire = codes "fire"

-- of a line of the node part
abbrev pub node_refusal : (line : ℕ) → Rule → List ℕ
node_refusal line r = concat (
    codes "refused node line " ∷ decimal line
    ∷ codes " rule " ∷ rule_word r
    ∷ codes "\n" ∷ [])

-- of any line
abbrev pub header_line : {Reader Plan Premise : Type 0} → Words Reader Plan Premise
    → HeaderRefusal Premise → List ℕ
header_line words (header.Plan line premise) = words.refusal line premise
header_line words (header.Node line r) = node_refusal line r
