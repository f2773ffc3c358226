-- What is read of an input of a plan, a part and a script: a part that fits its plan, and a script
-- for both.
use Rattle.std.proofs.Common.{◌≡◌, ℕ, ◌+◌, ◌^◌, ◌≤◌, List, replicate, Option, Some, None, Result}
use Rattle.std.proofs.Common.{Ok, Err, ◌∙◌, sym, ap, subst, arith}
use Rattle.std.specs.Prelude.{IfOk, IfSome, ◌++◌}
use Rattle.std.proofs.lemmas.List.Elements.{All-append, All-replicate}
use Rattle.texts.specs.Parts.{At, Found}
use Rattle.sync_types.specs.declared.answers.Premise.{Premise}
use Rattle.sync_types.specs.declared.answers.Rule.{Rule}
use Rattle.sync_types.specs.declared.answers.Part.{Part}
use Rattle.sync_types.specs.declared.answers.Part.TheVariants as part
use Rattle.construction.specs.Plans.{Plan, plan_nodes, plan_faults}
use Rattle.plan_numbers.specs.Premises.{IsAccepted}
use Rattle.plan_laws.specs.PlanMeaning.{plan_meaning}
use Rattle.plan_reader.specs.PlanPart.{plan_of}
use Rattle.plan_reader.proofs.AcceptedPlans.{plan_accepted}
use Rattle.counter_core.specs.Overlays.{Layer, LayerFits}
use Rattle.state_codec.specs.Shapes.{Shape, IsShape, moduli_of, shape_with}
use Rattle.state_codec.proofs.Plans.{shape_of_accepted, all_of_accepted, over_accepted}
use Rattle.adversary_script.specs.Scripts.{Script, IsScript}
use Rattle.adversary_script.specs.ScriptPart as script
use Rattle.adversary_script.specs.ScriptPart.{script_of}
use Rattle.adversary_script.proofs.ReadScripts.{script_is_for, script_is_script}
use Rattle.round_runner.specs.Runners as runner
use Rattle.slot_table.specs.SlotPart as slots
use Rattle.consensus_layer.specs.AgreeContent.{AgreeContent}
use Rattle.consensus_layer.specs.AgreePart as agree
use Rattle.consensus_layer.specs.Agreements.{agree_layer}
use Rattle.firing.specs.FirePart as fire
use Rattle.firing.specs.Firings.{fire_layer}
use Rattle.replicated_log.specs.LogPart as log
use Rattle.replicated_log.specs.Logs.{log_layer}
use Rattle.layer_laws.specs.Numbers.{Numbers, numbers_of}
use Rattle.layer_parts.specs.declared.registers.Registers.{Registers}
use Rattle.layer_parts.specs.CounterParts.{AreFew, IsSoundPart}
use Rattle.layer_parts.specs.LayerWords.{LayerWords, IsSoundLayer}
use Rattle.layer_parts.specs.Slots.{slots_over, no_registers, AreForNumbers}
use Rattle.layer_parts.specs.Layers.{agree_registers, agree_words, fire_registers, fire_words}
use Rattle.layer_parts.specs.Layers.{log_registers, log_words}
use Rattle.layer_parts.specs.SoundSlots.{slots_sound}
use Rattle.layer_parts.specs.SoundLayers.{agree_sound, agree_right, fire_sound, fire_right}
use Rattle.layer_parts.specs.SoundLayers.{log_sound, log_right}
use Rattle.outcomes.specs.declared.refusals.Refusal.{Refusal}
use Rattle.outcomes.specs.Layered.{Layered, layered_with, behind_part, behind_plan, layered_of}
use Rattle.outcomes.specs.Layered.{slots_shape, slotted_of, agreed_of}
use Rattle.outcomes.specs.Layered.{firing_of, logging_of, shape_for, layered_by}

-- what was read: a part that fits its plan, and a script for both
pub record IsRead {Content : Type 0} (shape_for : Plan → Content → Shape)
    (Fits : Plan → Content → Type 0)
    (read : Layered Content) : Type 0 where
  pub accepted : IsAccepted read.plan
  pub fits : Fits read.plan read.said
  pub right : script.IsScriptForPlan read.plan (shape_for read.plan read.said) read.script
  pub whole : IsScript read.script
  pub sound : IsShape (shape_for read.plan read.said)

module _ {Content : Type 0} (name : Part)
    (part_of : Plan → (number : ℕ) → List (List ℕ) → Result (Found Content) (At Rule))
    (shape_for : Plan → Content → Shape) (Fits : Plan → Content → Type 0)
    (fit : (plan : Plan) (number : ℕ) (lines : List (List ℕ))
    → IfOk (part_of plan number lines) (λ found. Fits plan found.value))
    (sound : (plan : Plan) (said : Content) → IsAccepted plan → Fits plan said
    → IsShape (shape_for plan said)) where
  script_read : (plan : Plan) (said : Content) → IsAccepted plan → Fits plan said
      → (s : Result Script (At Rule))
      → IfOk s (script.IsScriptForPlan plan (shape_for plan said)) → IfOk s IsScript
      → IfOk (layered_with name part_of shape_for plan said s) (IsRead shape_for Fits)
  script_read plan said accepted fits (Err at) right whole = tt
  script_read plan said accepted fits (Ok s) right whole = record {
    accepted = accepted;
    fits = fits;
    right = right;
    whole = whole;
    sound = sound plan said accepted fits;
  }

  part_read : (plan : Plan) → IsAccepted plan
      → (number : ℕ) (found : Result (Found Content) (At Rule))
      → IfOk found (λ f. Fits plan f.value)
      → IfOk (behind_part name part_of shape_for plan number found) (IsRead shape_for Fits)
  part_read plan accepted number (Err at) fits = tt
  part_read plan accepted number (Ok found) fits =
      let shape = shape_for plan found.value in
      let is = sound plan found.value accepted fits in
      script_read plan found.value accepted fits
      (script_of plan shape (number + found.taken) found.behind)
      (script_is_for plan shape is (number + found.taken) found.behind)
      (script_is_script (plan_nodes plan) (plan_faults plan) shape is (number + found.taken)
      found.behind)

  plan_read : (plan : Result (Found Plan) (At Premise))
      → IfOk plan (λ found. IsAccepted found.value)
      → IfOk (behind_plan name part_of shape_for plan) (IsRead shape_for Fits)
  plan_read (Err at) accepted = tt
  plan_read (Ok found) accepted =
      part_read found.value accepted (1 + found.taken)
      (part_of found.value (1 + found.taken) found.behind)
      (fit found.value (1 + found.taken) found.behind)

  pub input_read : (input : List ℕ)
      → IfOk (layered_of name part_of shape_for input) (IsRead shape_for Fits)
  input_read input = plan_read (plan_of input) (plan_accepted input)

-- what follows from it holds of the input
pub so : {Content : Type 0} {A B : Layered Content → Type 0}
    (read : Result (Layered Content) Refusal)
    → IfOk read A → ((l : Layered Content) → A l → B l) → IfOk read B
so (Err refusal) is then = tt
so (Ok l) is then = then l is

-- further registers of 2 to 65536 values leave a shape sound
pub further_sound : (plan : Plan) (values count : ℕ) → IsAccepted plan → 2 ≤ values → values ≤ 65536
    → IsShape (shape_with plan values count)
further_sound plan values count accepted two few =
    let own = all_of_accepted plan accepted in
    let moduli : List ℕ = moduli_of plan.levels in
    over_accepted plan (moduli ++ replicate count values) accepted (record {
      least = own.least;
      most = own.most;
      moduli = All-append (λ modulus. (2 ≤ modulus) × (modulus ≤ 2 ^ 40)) moduli
          (replicate count values) own.moduli
          (All-replicate (λ modulus. (2 ≤ modulus) × (modulus ≤ 2 ^ 40)) count values
          (two, omega (arith, few)));
    })

-- A part that fits its plan, and a script to play with the part's layer.
pub record IsToPlay {Content Kept : Type 0} (Fits : Plan → Content → Type 0)
    (layer_of : Plan → Content → Layer Kept) (read : Layered Content) : Type 0 where
  pub accepted : IsAccepted read.plan
  pub fits : Fits read.plan read.said
  pub right : runner.IsPlayableOn read.plan (layer_of read.plan read.said) read.script
  pub whole : IsScript read.script
  pub sound : IsShape read.script.shape

-- a script for the shape with a layer's registers is one to play with the layer
pub to_play : {Content Kept : Type 0} (shape_for : Plan → Content → Shape)
    (Fits : Plan → Content → Type 0)
    (layer_of : Plan → Content → Layer Kept) (l : Layered Content)
    → LayerFits (layer_of l.plan l.said) (plan_meaning l.plan)
    → shape_for l.plan l.said
    ≡ shape_with l.plan (layer_of l.plan l.said).values (layer_of l.plan l.said).extra
    → IsRead shape_for Fits l → IsToPlay Fits layer_of l
to_play shape_for Fits layer_of l over is read = record {
  accepted = read.accepted;
  fits = read.fits;
  right = record {
    nodes = read.right.nodes;
    shape = read.right.states ∙ is;
    over = over;
    borne = read.right.borne;
  };
  whole = read.whole;
  sound = subst IsShape (sym read.right.states) read.sound;
}

-- ---- a part for the counter of a plan

module _ {Content : Type 0} (name : Part)
    (part_over : Numbers → (number : ℕ) → List (List ℕ) → Result (Found Content) (At Rule))
    (registers : Content → Option Registers) (Fits : Numbers → Content → Type 0)
    (sound : IsSoundPart part_over registers Fits) where
  abbrev FitsPlan : Plan → Content → Type 0
  FitsPlan plan = Fits (numbers_of plan)

  abbrev shaped : Plan → Content → Shape
  shaped plan said = shape_for plan (registers said)

  shape_sound : (plan : Plan) → IsAccepted plan → (more : Option Registers) → IfSome more AreFew
      → IsShape (shape_for plan more)
  shape_sound plan accepted None few = shape_of_accepted plan accepted
  shape_sound plan accepted (Some more) few =
      further_sound plan more.values more.count accepted few.least few.most

  pub layered_read : (input : List ℕ)
      → IfOk (layered_by name part_over registers input) (IsRead shaped FitsPlan)
  layered_read input =
      input_read name (λ plan. part_over (numbers_of plan)) shaped FitsPlan
      (λ plan. sound.fits (numbers_of plan))
      (λ plan said accepted fits.
      shape_sound plan accepted (registers said) (sound.few (numbers_of plan) said fits)) input

  -- that says a layer
  pub layer_to_play : {Kept : Type 0} (words : LayerWords Content Kept)
      → IsSoundLayer words registers Fits → (input : List ℕ)
      → IfOk (layered_by name part_over registers input)
      (IsToPlay FitsPlan (λ plan. words.layer (numbers_of plan)))
  layer_to_play words right input =
      so (layered_by name part_over registers input) (layered_read input)
      (λ l. to_play shaped FitsPlan (λ plan. words.layer (numbers_of plan)) l
      (right.fits (plan_meaning l.plan) l.said)
      (ap (shape_for l.plan) (right.registers_are (numbers_of l.plan) l.said)))

-- ---- the four layers

pub slots_read : (input : List ℕ) → IfOk (slotted_of input) (IsRead slots_shape slots.AreFor)
slots_read = layered_read part.Slots slots_over no_registers AreForNumbers slots_sound

abbrev pub agreed_layer : Plan → AgreeContent → Layer ℕ
agreed_layer plan said = agree_layer plan said.values said.inputs

pub decisions_to_play : (input : List ℕ)
    → IfOk (agreed_of input) (IsToPlay agree.IsAgreeForPlan agreed_layer)
decisions_to_play =
    layer_to_play part.Agree agree.part_over agree_registers agree.IsForNumbers agree_sound
    agree_words agree_right

pub fires_to_play : (input : List ℕ) → IfOk (firing_of input) (IsToPlay fire.AreFor fire_layer)
fires_to_play =
    layer_to_play part.Fire fire.part_over fire_registers fire.AreForNumbers fire_sound
    fire_words fire_right

pub entries_to_play : (input : List ℕ)
    → IfOk (logging_of input) (IsToPlay log.IsLogForPlan log_layer)
entries_to_play =
    layer_to_play part.Log log.part_over log_registers log.IsForNumbers log_sound log_words
    log_right
