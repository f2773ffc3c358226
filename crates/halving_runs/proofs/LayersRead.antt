-- What was read of an input of a plan, a part for the plan's counter, and a script.
use Rattle.std.proofs.Common.{◌≡◌, ℕ, ◌+◌, List, Option, Some, None, Result, Ok, sym, ap, ◌∙◌}
use Rattle.std.proofs.Common.{subst}
use Rattle.std.specs.Prelude.{IfOk, IfSome}
use Rattle.texts.specs.Parts.{At, Found}
use Rattle.sync_types.specs.declared.answers.Part.{Part}
use Rattle.sync_types.specs.declared.answers.Rule.{Rule}
use Rattle.state_codec.specs.Shapes.{Shape, IsShape, shape_nodes}
use Rattle.adversary_script.specs.Scripts.{Script}
use Rattle.layer_laws.specs.Numbers.{Numbers}
use Rattle.layer_parts.specs.declared.registers.Registers.{Registers}
use Rattle.layer_parts.specs.CounterParts.{AreFew, IsSoundPart}
use Rattle.halving_plan.specs.Plans.{HalvingNumbers, IsAccepted}
use Rattle.halving_texts.proofs.Shaped as own
use Rattle.halving_runs.specs.LayerInputs.{numbers_of, layered_by}
use Rattle.halving_runs.specs.LayerShapes.{shape_for}
use Rattle.halving_runs.specs.Readings.{IsReadBehind, IsScriptForHalving}
use Rattle.halving_runs.specs.LayerReadings.{IsLayered}
use Rattle.halving_runs.proofs.LayerShaped as shaped
use Rattle.halving_runs.proofs.ReadParts.{holds_at}
use Rattle.halving_runs.proofs.ReadLayers.{for_shape}

-- ---- the shape of states with few registers after the plan's

module _ (plan : HalvingNumbers) (accepted : IsAccepted plan) where
  pub few_sound : (more : Option Registers) → IfSome more AreFew → IsShape (shape_for plan more)
  few_sound None few = own.is_shape plan accepted
  few_sound (Some more) few =
      shaped.is_shape plan accepted more.values more.count few.least few.most

  pub few_nodes : (more : Option Registers) → IfSome more AreFew
      → shape_nodes (shape_for plan more) ≡ plan.nodes
  few_nodes None few = own.nodes_are plan accepted
  few_nodes (Some more) few =
      shaped.nodes_are plan accepted more.values more.count few.least few.most

-- ---- what is read of a part is for the plan's counter, and its registers are few

module _ {Content : Type 0} (name : Part)
    (part_over : Numbers → (number : ℕ) → List (List ℕ) → Result (Found Content) (At Rule))
    (registers : Content → Option Registers) (Fits : Numbers → Content → Type 0)
    (sound : IsSoundPart part_over registers Fits) where
  pub said_fits : (numbers : Numbers) (number : ℕ) (lines : List (List ℕ)) (found : Found Content)
      → part_over numbers number lines ≡ Ok found → Fits numbers found.value
  said_fits numbers number lines found read =
      holds_at (λ (f : Found Content). Fits numbers f.value) (part_over numbers number lines) found
      read (sound.fits numbers number lines)

  pub said_few : (numbers : Numbers) (number : ℕ) (lines : List (List ℕ)) (found : Found Content)
      → part_over numbers number lines ≡ Ok found → (given : Option Registers)
      → given ≡ registers found.value → IfSome given AreFew
  said_few numbers number lines found read given is =
      subst (λ (more : Option Registers). IfSome more AreFew) (sym is)
      (sound.few numbers found.value (said_fits numbers number lines found read))

  -- so all is to be played
  pub to_play : {Made : Type 0} (IsMade : Numbers → Content → Made → Type 0) (input : List ℕ)
      (plan : HalvingNumbers) (shape : Shape) (number : ℕ) (lines : List (List ℕ))
      (s : HalvingNumbers × Shape × Script)
      → IsReadBehind plan shape number lines s → IsAccepted plan
      → (said : Content) → layered_by name part_over registers input
      ≡ Ok (record { plan = s.0; said = said; script = s.2 })
      → Fits (numbers_of plan) said → shape ≡ shape_for plan (registers said) → (made : Made)
      → IsMade (numbers_of plan) said made
      → IsLayered name part_over registers Fits IsMade input (made, s)
  to_play IsMade input plan shape number lines s read accepted said is fits as_said made made_is =
      let same = sym read.same in
      let sound_shape : IsShape shape =
      subst IsShape (sym as_said)
      (few_sound plan accepted (registers said) (sound.few (numbers_of plan) said fits)) in
      record {
        said = said;
        is = is;
        accepted = subst IsAccepted same accepted;
        fits = subst (λ (p : HalvingNumbers). Fits (numbers_of p) said) same fits;
        made_is = subst (λ (p : HalvingNumbers). IsMade (numbers_of p) said made) same made_is;
        shape = read.states ∙ as_said
            ∙ ap (λ (p : HalvingNumbers). shape_for p (registers said)) same;
        script = subst (λ (p : HalvingNumbers). IsScriptForHalving p s.1 s.2) same
            (subst (λ (h : Shape). IsScriptForHalving plan h s.2) (sym read.states)
            (for_shape plan shape number lines s read sound_shape));
      }
