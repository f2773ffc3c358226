-- What is written of a halving plan is read as that plan.
use Rattle.std.proofs.Common.{◌≡◌, refl, arith}
use Rattle.halving_plan.specs.Plans.{HalvingNumbers, IsAccepted}
use Rattle.halving_texts.proofs.ReadBack.{text_is_whole}
use Rattle.halving_texts.specs.HalvingTexts.{halving_text}
use Rattle.choose.specs.FrontText.{in_lines}
use Rattle.choose.specs.FrontsOfBothText.{halving_line_part, HalvingTextsArePlans}
use Rattle.choose.proofs.Texts.{number_stays}

-- with newlines for its semicolons a plan's part of a line is the plan's text
line_is_text : (plan : HalvingNumbers) → IsAccepted plan
    → in_lines (halving_line_part plan) ≡ halving_text plan
line_is_text plan accepted =
    let most = accepted.most_nodes in
    let quorum = accepted.quorum in
    let largest = accepted.most_modulus in
    rw (
      number_stays plan.nodes _ (omega (arith, most)),
      number_stays plan.faults _ (omega (arith, most, quorum)),
      number_stays plan.modulus _ (omega (arith, largest)),
    ) refl

pub texts_are_plans : HalvingTextsArePlans
texts_are_plans plan accepted = (text_is_whole plan accepted, line_is_text plan accepted)
