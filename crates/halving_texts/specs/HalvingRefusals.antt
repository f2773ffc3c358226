-- The words of premises, and what an error of reading a halving part says of the part that is
-- defined. Want of memory says nothing.
use Rattle.std.specs.Prelude.{◌≡◌, ℕ, List, Result, Err, codes}
use Rattle.texts.specs.Parts.{At}
use Rattle.edge_io.specs.declared.taking.PartError.{PartError}
use Rattle.edge_io.specs.declared.taking.PartError.TheVariants as part
use Rattle.halving_plan.specs.declared.premises.HalvingPremise.TheVariants as premise
use Rattle.halving_texts.specs.declared.premises.LinePremise.{LinePremise}
use Rattle.halving_texts.specs.declared.premises.LinePremise.TheVariants as line
use Rattle.halving_texts.specs.declared.refusals.HalvingError.{HalvingError}
use Rattle.halving_texts.specs.declared.refusals.HalvingError.TheVariants as halving

abbrev pub premise_word : LinePremise → List ℕ
premise_word line.Form = codes "form"
premise_word (line.Plan premise.Limit) = codes "limit"
premise_word (line.Plan premise.Modulus) = codes "modulus"
premise_word (line.Plan premise.Quorum) = codes "quorum"
premise_word (line.Plan premise.Single) = codes "single"

-- a refusal is exactly the one that is defined
abbrev pub FailsAsDefined : {V : Type 0} → HalvingError → Result V (At LinePremise) → Type 0
FailsAsDefined halving.NoMemory defined = Unit {0}
FailsAsDefined (halving.Refused refusal) defined =
    defined ≡ Err (record { line = refusal.line; rule = refusal.premise })

-- the error of a part, of a halving part
abbrev pub halving_error : PartError LinePremise → HalvingError
halving_error part.NoMemory = halving.NoMemory
halving_error (part.Refused refused) =
    halving.Refused (record { line = refused.line; premise = refused.rule })
