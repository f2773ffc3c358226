-- What an input of a plan, a part and a script is read as, by what was read of it.
use Rattle.std.proofs.Common.{◌≡◌, ℕ, ◌+◌, ◌-◌, List, length, take, drop, Option, Some, None}
use Rattle.std.proofs.Common.{Result}
use Rattle.std.proofs.Common.{Ok, sym, ap, ap₂, ◌∙◌, subst, arith}
use Rattle.std.specs.Prelude.{IfOk, IfSome}
use Rattle.std.proofs.lemmas.List.{take_all, length-drop, append-nil}
use Rattle.texts.specs.Lines.{lines_of}
use Rattle.texts.specs.Parts.{At, Found}
use Rattle.sync_types.specs.declared.answers.Rule.{Rule}
use Rattle.sync_types.specs.declared.answers.Part.{Part}
use Rattle.sync_types.specs.declared.answers.Part.TheVariants as part
use Rattle.edge_io.specs.declared.taking.PartError.{PartError}
use Rattle.edge_io.specs.declared.taking.PartError.TheVariants as error
use Rattle.edge_io.specs.Taking.{FailsAsDefined}
use Rattle.construction.specs.Plans.{Plan, plan_nodes}
use Rattle.plan_laws.specs.PlanMeaning.{plan_meaning}
use Rattle.plan_reader.specs.PlanPart.{plan_of, found_in}
use Rattle.state_codec.specs.Shapes.{Shape, moduli_of, shape_nodes, shape_of, shape_over}
use Rattle.state_codec.specs.Shapes.{shape_with}
use Rattle.state_codec.proofs.Plans.{nodes_of_shape}
use Rattle.counter_core.specs.Overlays.{Layer, LayerFits}
use Rattle.adversary_script.specs.Scripts.{Script}
use Rattle.adversary_script.specs.ScriptPart as script
use Rattle.adversary_script.specs.ScriptPart.{script_of}
use Rattle.round_runner.specs.Runners.{IsPlayableOn}
use Rattle.layer_laws.specs.Numbers.{Numbers, numbers_of}
use Rattle.layer_parts.specs.declared.registers.Registers.{Registers}
use Rattle.layer_parts.specs.CounterParts.{AreFew, IsSoundPart}
use Rattle.outcomes.specs.declared.refusals.Refusal.{Refusal}
use Rattle.outcomes.specs.Layered.{Layered, shape_for, layered_with, behind_part, behind_plan}
use Rattle.outcomes.specs.Layered.{layered_by}
use Rattle.answers.specs.Readings.{Refuses, part_error}

-- a script that was read for a plan is one to play with a layer over its counter
pub for_runner : {Kept : Type 0} (plan tower : Plan) (layer : Layer Kept) (shape : Shape)
    (s : Script) → tower ≡ plan → LayerFits layer (plan_meaning plan)
    → shape ≡ shape_with plan layer.values layer.extra → script.IsScriptForPlan plan shape s
    → IsPlayableOn tower layer s
for_runner plan tower layer shape s same over is right =
    subst (λ (p : Plan). IsPlayableOn p layer s) (sym same)
    (record {
      nodes = right.nodes;
      shape = right.states ∙ is;
      over = over;
      borne = right.borne;
    })

-- all that is left of a text after its prefix
pub all_left : (input : List ℕ) (bytes : ℕ)
    → take (length input - bytes) (drop bytes input) ≡ drop bytes input
all_left input bytes =
    take_all (length input - bytes) (drop bytes input) (omega (arith, length-drop bytes input))

-- ---- the shape of states

-- without registers after the plan's it is the plan's own
pub none_behind : (plan : Plan) (values : ℕ) → shape_of plan ≡ shape_with plan values 0
none_behind plan values = ap (shape_over plan) (sym (append-nil (moduli_of plan.levels)))

-- it is one of the plan's nodes
pub shape_for_nodes : (plan : Plan) (registers : Option Registers)
    → shape_nodes (shape_for plan registers) ≡ plan_nodes plan
shape_for_nodes plan None = nodes_of_shape plan _
shape_for_nodes plan (Some more) = nodes_of_shape plan _

-- ---- a part

-- its registers are few, if it was read
pub few_registers : {Content : Type 0}
    (part_over : Numbers → (number : ℕ) → List (List ℕ) → Result (Found Content) (At Rule))
    (registers : Content → Option Registers) (Fits : Numbers → Content → Type 0)
    → IsSoundPart part_over registers Fits → (numbers : Numbers) (number : ℕ)
    (lines : List (List ℕ)) (found : Found Content) → part_over numbers number lines ≡ Ok found
    → (given : Option Registers) → given ≡ registers found.value → IfSome given AreFew
few_registers {Content} part_over registers Fits sound numbers number lines found read given is =
    subst (λ (r : Option Registers). IfSome r AreFew) (sym is)
    (sound.few numbers found.value
    (subst (λ (r : Result (Found Content) (At Rule)). IfOk r (λ f. Fits numbers f.value)) read
    (sound.fits numbers number lines)))

module _ {Content : Type 0} (name : Part)
    (part_over : Numbers → (number : ℕ) → List (List ℕ) → Result (Found Content) (At Rule))
    (registers : Content → Option Registers) (input behind : List ℕ) (plan : Plan)
    (bytes lines : ℕ) (is_behind : behind ≡ take (length input - bytes) (drop bytes input))
    (read : plan_of input ≡ Ok (found_in input (plan, bytes, lines))) where
  abbrev part_of : Plan → (number : ℕ) → List (List ℕ) → Result (Found Content) (At Rule)
  part_of p = part_over (numbers_of p)

  abbrev shaped : Plan → Content → Shape
  shaped p said = shape_for p (registers said)

  abbrev defined : Result (Layered Content) Refusal
  defined = layered_by name part_over registers input

  abbrev part_read : Result (Found Content) (At Rule)
  part_read = part_of plan (1 + lines) (lines_of behind)

  by_part : defined ≡ behind_part name part_of shaped plan (1 + lines) part_read
  by_part =
      ap (behind_plan name part_of shaped) read
      ∙ ap (λ (text : List ℕ). behind_part name part_of shaped plan (1 + lines)
      (part_of plan (1 + lines) (lines_of text))) (sym (is_behind ∙ all_left input bytes))

  -- the part is refused
  pub part_refused : (e : PartError Rule) → FailsAsDefined e part_read
      → Refuses (part_error name e) defined
  part_refused error.NoMemory fails = tt
  part_refused (error.Refused refused) fails =
      by_part ∙ ap (behind_part name part_of shaped plan (1 + lines)) fails

  module _ (said : Content) (part_bytes part_lines : ℕ)
      (part_is : part_read ≡ Ok (record {
        value = said;
        taken = part_lines;
        behind = lines_of (drop part_bytes behind);
      })) (shape : Shape) (shape_is : shape ≡ shaped plan said) (rest : List ℕ)
      (is_rest : rest ≡ take (length behind - part_bytes) (drop part_bytes behind)) where
    abbrev script_read : Result Script (At Rule)
    script_read = script_of plan shape (1 + lines + part_lines) (lines_of rest)

    by_script : defined ≡ layered_with name part_of shaped plan said script_read
    by_script =
        by_part
        ∙ ap (behind_part name part_of shaped plan (1 + lines)) part_is
        ∙ ap₂ (λ (s : Shape) (text : List ℕ). layered_with name part_of shaped plan said
        (script_of plan s (1 + lines + part_lines) (lines_of text))) (sym shape_is)
        (sym (is_rest ∙ all_left behind part_bytes))

    -- the script is refused
    pub script_refused : (e : PartError Rule) → FailsAsDefined e script_read
        → Refuses (part_error part.Script e) defined
    script_refused error.NoMemory fails = tt
    script_refused (error.Refused refused) fails =
        by_script ∙ ap (layered_with name part_of shaped plan said) fails

    -- all is read
    pub layered_is : (s : Script) → script_read ≡ Ok s
        → defined ≡ Ok (record { plan = plan; said = said; script = s })
    layered_is s is = by_script ∙ ap (layered_with name part_of shaped plan said) is
