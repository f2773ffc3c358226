-- What is written of what was found is read back.
use Rattle.std.proofs.Common.{◌≡◌, ℕ, suc, ◌+◌, ◌^◌, ◌≤◌, List, [], ◌∷◌, ◌++◌, map, All, Ok, refl}
use Rattle.std.proofs.Common.{sym}
use Rattle.std.proofs.Common.{ap, ◌∙◌, append_assoc, arith}
use Rattle.std.specs.Prelude.{codes, decimal}
use Rattle.std.specs.List.{flat_map}
use Rattle.std.proofs.lemmas.List.{append-nil}
use Rattle.texts.specs.Lines.{lines_of}
use Rattle.texts.specs.Parts.{Found}
use Rattle.texts.proofs.Printed.{joined, IsPlain, ArePlain, decimal_is_plain, line_joined}
use Rattle.construction.specs.Plans.{Plan, plan_depth}
use Rattle.plan_numbers.specs.Premises.{IsAccepted}
use Rattle.plan_reader.specs.PlanTexts.{plan_text, in_version}
use Rattle.plan_reader.proofs.ReadBack.{text_is_read}
use Rattle.plan_finder.specs.FindText.{pot_line, find_text}
use Rattle.plan_finder.specs.declared.pots.Pot.{Pot}
use Rattle.read_texts.specs.ReadWants.{pot_text, FitsLine, FoundPlanIsRead, NoneFoundIsSaid}

pot_plain : (pot : Pot) → FitsLine pot
    → ArePlain (codes "pot" ∷ decimal pot.nodes ∷ decimal pot.faults ∷ decimal pot.value ∷ [])
pot_plain pot fits = (
  record { some = omega arith; above = refl },
  (
    decimal_is_plain pot.nodes fits.nodes,
    (
      decimal_is_plain pot.faults fits.faults,
      (decimal_is_plain pot.value fits.value, tt),
    ),
  ),
)

pot_ended : (pot : Pot) (rest : List ℕ) → pot_line pot ++ rest ≡ pot_text pot ++ 10 ∷ rest
pot_ended pot rest = simp (append_assoc, append-nil)

pots_read : (pots : List Pot) → All FitsLine pots
    → lines_of (flat_map pot_line pots) ≡ map pot_text pots
pots_read [] fit = refl
pots_read (pot ∷ pots) fit =
    let rest = flat_map pot_line pots in
    ap lines_of (pot_ended pot rest)
    ∙ line_joined (codes "pot" ∷ decimal pot.nodes ∷ decimal pot.faults ∷ decimal pot.value ∷ [])
    rest (pot_plain pot (fit 0 pot (omega arith)))
    ∙ ap (λ ls. pot_text pot ∷ ls) (pots_read pots (λ k d lt. fit (suc k) d (omega (arith, lt))))

same_plan : (plan : Plan) → plan.version ≡ 1 → in_version 1 plan ≡ plan
same_plan plan one = rw (← one) refl

pub found_is_read : FoundPlanIsRead
found_is_read plan pots accepted one fit =
    let first : plan.version ≤ 1 = omega (arith, one) in
    text_is_read plan 1 (flat_map pot_line pots) accepted first (omega arith)
    ∙ ap (λ (p : Plan). Ok (record {
      value = p;
      taken = plan_depth plan + 3;
      behind = lines_of (flat_map pot_line pots);
    })) (same_plan plan one)
    ∙ ap (λ (ls : List (List ℕ)). Ok (record {
      value = plan;
      taken = plan_depth plan + 3;
      behind = ls;
    })) (pots_read pots fit)

pub none_is_said : NoneFoundIsSaid
none_is_said pots fit = ap (λ ls. codes "none" ∷ ls) (pots_read pots fit)
