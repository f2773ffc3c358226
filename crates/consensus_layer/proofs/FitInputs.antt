-- What is read of consensus is for the counter: values within their limits, an input of each node,
-- and a modulus that is a multiple of a slot's length.
use Rattle.std.proofs.Common.{◌≡◌, ℕ, ◌<◌, ◌≤◌, ◌%◌, Bool, true, false, List, [], ◌∷◌, length, All}
use Rattle.std.proofs.Common.{Option, Some, None, Ok, Err, refl, subst, ap, ap₂, ◌∙◌}
use Rattle.std.specs.Prelude.{⊤, IfOk, nat_lt, not, ◌==◌, if◌then◌else◌, codes}
use Rattle.std.specs.List.{list_all}
use Rattle.std.specs.Str.{bytes_eq}
use Rattle.std.proofs.lemmas.Bool.{eqb-true, eq-eqb}
use Rattle.texts.specs.Lines.{words_of}
use Rattle.texts.specs.Shapes.{all_numbers_after}
use Rattle.texts.specs.Parts.{Next, ends, refuses}
use Rattle.texts.proofs.Parts.{After, goes_on_keeps, skipping_keeps}
use Rattle.sync_types.specs.declared.answers.Rule.{Rule}
use Rattle.sync_types.specs.declared.answers.Rule.TheVariants.{Form, Range}
use Rattle.construction.specs.Plans.{Plan}
use Rattle.layer_laws.specs.Numbers.{Numbers, numbers_of}
use Rattle.layer_laws.specs.CounterSlots.{slot_length}
use Rattle.consensus_layer.specs.AgreeContent.{AgreeContent}
use Rattle.consensus_layer.specs.PartLines.{head_tested, number_within}
use Rattle.consensus_layer.specs.declared.agree_lines.AgreeStage.{AgreeStage}
use Rattle.consensus_layer.specs.declared.agree_lines.AgreeStage.TheVariants.{Unread, Begun, Valued}
use Rattle.consensus_layer.specs.declared.agree_lines.AgreeStage.TheVariants.{Given}
use Rattle.consensus_layer.specs.AgreePart.{AgreeSoFar, nothing_read_over, inputs_tested}
use Rattle.consensus_layer.specs.AgreePart.{inputs_in, at_stage, with_inputs, step_at, agree_step}
use Rattle.consensus_layer.specs.AgreePart.{part_over, IsForNumbers, part_of, IsAgreeForPlan}
use Rattle.consensus_layer.proofs.PartLines.{head_fits, IsWithin, is_within, all_below}

abbrev IsWhole : Numbers → Type 0
IsWhole numbers = numbers.modulus % slot_length numbers.faults ≡ 0

-- ---- the inputs

abbrev AreInputs : (values nodes : ℕ) → List ℕ → Type 0
AreInputs values nodes inputs = (length inputs ≡ nodes) × All (λ a. a < values) inputs

inputs_by : (values nodes : ℕ) (inputs : List ℕ) (many below : Bool)
    → (length inputs == nodes) ≡ many → list_all (λ a. nat_lt a values) inputs ≡ below
    → IfOk (if not many then Err Form else if not below then Err Range else Ok inputs)
    (AreInputs values nodes)
inputs_by values nodes inputs false below e e' = tt
inputs_by values nodes inputs true false e e' = tt
inputs_by values nodes inputs true true e e' =
    (eqb-true (length inputs) nodes e, all_below values inputs e')

tested : (values nodes : ℕ) (numbers : Option (List ℕ))
    → IfOk (inputs_tested values nodes numbers) (AreInputs values nodes)
tested values nodes None = tt
tested values nodes (Some inputs) =
    inputs_by values nodes inputs (length inputs == nodes)
    (list_all (λ a. nat_lt a values) inputs) refl refl

-- what is read of a line with as many numbers as there are nodes
module _ (values nodes : ℕ) (line inputs : List ℕ)
    (is : all_numbers_after (codes "inputs") (words_of line) ≡ Some inputs)
    (size : length inputs ≡ nodes)
  where
    by_below : (below : Bool) → list_all (λ a. nat_lt a values) inputs ≡ below
        → inputs_in values nodes line ≡ (if not below then Err Range else Ok inputs)
    by_below below e =
        ap (inputs_tested values nodes) is
        ∙ ap₂ (λ (many : Bool)
        (below : Bool). if not many then Err Form else if not below then Err Range else Ok
        inputs)
        (eq-eqb (length inputs) nodes size) e

    pub inputs_ok : list_all (λ a. nat_lt a values) inputs ≡ true
        → inputs_in values nodes line ≡ Ok inputs
    inputs_ok e = by_below true e

    pub inputs_out : list_all (λ a. nat_lt a values) inputs ≡ false
        → inputs_in values nodes line ≡ Err Range
    inputs_out e = by_below false e

-- ---- line by line

-- what holds after the lines of a stage
abbrev IsStage : Numbers → AgreeStage → List ℕ → Type 0
IsStage numbers Unread inputs = ⊤
IsStage numbers Begun inputs = IsWhole numbers
IsStage numbers (Valued values) inputs = IsWhole numbers × IsWithin 2 65536 values
IsStage numbers (Given values) inputs = IsWhole numbers × IsWithin 2 65536 values
    × AreInputs values numbers.nodes inputs

record FitSoFar (numbers : Numbers) (s : AgreeSoFar) : Type 0 where
  nodes : s.nodes ≡ numbers.nodes
  whole : s.whole ≡ true → IsWhole numbers
  stage : IsStage numbers s.stage s.inputs

module _ (numbers : Numbers) where
  abbrev Goes : Next AgreeSoFar AgreeContent Rule → Type 0
  Goes next = After (FitSoFar numbers) (IsForNumbers numbers) next

  valued : (s : AgreeSoFar) → s.stage ≡ Begun → FitSoFar numbers s → (values : ℕ)
      → IsWithin 2 65536 values → FitSoFar numbers (at_stage s (Valued values))
  valued s at fit values within = record {
    nodes = fit.nodes;
    whole = fit.whole;
    stage = (subst (λ stage. IsStage numbers stage s.inputs) at fit.stage, within);
  }

  given : (s : AgreeSoFar) (values : ℕ) → s.stage ≡ Valued values → FitSoFar numbers s
      → (inputs : List ℕ) → AreInputs values s.nodes inputs
      → FitSoFar numbers (with_inputs values s inputs)
  given s values at fit inputs are =
      let before = subst (λ stage. IsStage numbers stage s.inputs) at fit.stage in
      record {
        nodes = fit.nodes;
        whole = fit.whole;
        stage = (before.0, before.1, (are.0 ∙ fit.nodes, are.1));
      }

  ended : (s : AgreeSoFar) (values : ℕ) (is : Bool) → s.stage ≡ Given values → FitSoFar numbers s
      → Goes (if is then ends (record { values = values; inputs = s.inputs }) else refuses Form)
  ended s values false at fit = tt
  ended s values true at fit =
      let h = subst (λ stage. IsStage numbers stage s.inputs) at fit.stage in
      record { whole = h.0; two = h.1.0; few = h.1.1; nodes = h.2.0; range = h.2.1 }

  stepped : (stage : AgreeStage) (s : AgreeSoFar) (line : List ℕ) → s.stage ≡ stage
      → FitSoFar numbers s → Goes (step_at stage s line)
  stepped Unread s line at fit =
      goes_on_keeps (FitSoFar numbers) (IsForNumbers numbers) (λ _. at_stage s Begun)
      (λ _. s.whole ≡ true) (head_tested (codes "agree 1") s.whole line)
      (head_fits (codes "agree 1") s.whole line)
      (λ _ e. record { nodes = fit.nodes; whole = fit.whole; stage = fit.whole e })
  stepped Begun s line at fit =
      goes_on_keeps (FitSoFar numbers) (IsForNumbers numbers)
      (λ values. at_stage s (Valued values)) (IsWithin 2 65536)
      (number_within (codes "values") 2 65536 line) (is_within (codes "values") 2 65536 line)
      (valued s at fit)
  stepped (Valued values) s line at fit =
      goes_on_keeps (FitSoFar numbers) (IsForNumbers numbers) (with_inputs values s)
      (AreInputs values s.nodes) (inputs_in values s.nodes line)
      (tested values s.nodes (all_numbers_after (codes "inputs") (words_of line)))
      (given s values at fit)
  stepped (Given values) s line at fit = ended s values (bytes_eq line (codes "end")) at fit

  begins : FitSoFar numbers (nothing_read_over numbers)
  begins = record {
    nodes = refl;
    whole = λ e. eqb-true (numbers.modulus % slot_length numbers.faults) 0 e;
    stage = tt;
  }

-- what is read is for the counter
pub inputs_fit_over : (numbers : Numbers) (number : ℕ) (lines : List (List ℕ))
    → IfOk (part_over numbers number lines) (λ found. IsForNumbers numbers found.value)
inputs_fit_over numbers number lines =
    skipping_keeps agree_step Form (FitSoFar numbers) (IsForNumbers numbers)
    (λ s line fit. stepped numbers s.stage s line refl fit)
    lines (nothing_read_over numbers) 0 number (begins numbers)

pub inputs_fit : (plan : Plan) (number : ℕ) (lines : List (List ℕ))
    → IfOk (part_of plan number lines) (λ found. IsAgreeForPlan plan found.value)
inputs_fit plan = inputs_fit_over (numbers_of plan)
