-- A node's step: the counter's, and after it that of a layer that hears what the node hears.
use Rattle.std.proofs.Common.{◌≡◌, ℕ, ◌+◌, ◌<◌, List, length, All, sym, ap, ◌∙◌, subst}
use Rattle.std.proofs.Common.{arith}
use Rattle.std.proofs.lemmas.List.Elements.{All-weaker}
use Rattle.sync_types.specs.States.{State, zero_state}
use Rattle.construction.specs.Plans.{Plan, plan_depth, plan_nodes}
use Rattle.construction.specs.Steps.{state_of, step_of}
use Rattle.plan_numbers.specs.Premises.{IsAccepted}
use Rattle.plan_laws.specs.PlanMeaning.{plan_meaning, IsInRange}
use Rattle.plan_laws.proofs.PlanCounter.{plan_sizes}
use Rattle.state_codec.specs.Shapes.{IsShape, fields_at}
use Rattle.state_codec.specs.Ranges.{InRange}
use Rattle.counter_core.specs.Meanings.{written}
use Rattle.counter_core.specs.Overlays.{Layer, IsDeaf, LayerFits, HasRegisters, HasValues, CanStep}
use Rattle.counter_core.specs.Overlays.{MayHear, AreNew, KeepsRange, after, layered}
use Rattle.adversary_script.specs.Scripts.{Script, IsScript}
use Rattle.adversary_script.specs.Lies.{AreStates}
use Rattle.machine_runner.proofs.Keeping.{range_of}
use Rattle.round_runner.specs.declared.stepping.RoundBuffers.{RoundBuffers}
use Rattle.round_runner.specs.declared.turns.NodeStep.{NodeStep}
use Rattle.round_runner.specs.Fits.{ShapeFits}
use Rattle.round_runner.specs.Hearing.{AreOfNodes}
use Rattle.round_runner.specs.Played.{heard_at}
use Rattle.round_runner.specs.Turns.{IsRound, IsSet}
use Rattle.layer_laws.specs.PlayedScenes.{layer_step, new_state}
use Rattle.machine_runner.proofs.HeardAt.{heard_long}
use Rattle.round_runner.proofs.HeardAt.{heard_counts, heard_deep, heard_values}
use Rattle.layer_laws.proofs.Layered.{layered_written}
use Rattle.round_runner.proofs.Layering.{same_step, shown_itself}
use Rattle.round_runner.proofs.Liars.{deep_states}
use Rattle.machine_runner.proofs.Places.{all_places}

-- a node of a script steps from a configuration of states in range, with a layer above
pub record CanTurn {Kept : Type 0} (plan : Plan) (script : Script) (layer : Layer Kept) (v : ℕ)
    (config : List State) : Type 0 where
  pub accepted : IsAccepted plan
  pub whole : IsScript script
  pub sound : IsShape script.shape
  pub keeps : KeepsRange layer
  pub fits : ShapeFits script.shape (plan_meaning plan) (IsInRange plan) layer
  pub over : LayerFits layer (plan_meaning plan)
  pub deaf : IsDeaf layer
  pub nodes : script.nodes ≡ plan_nodes plan
  pub node : v < script.nodes
  pub range : AreStates script.nodes script.shape config

-- so does the node of a step, by what is set for it
pub can_turn : {Kept : Type 0} (layer : Layer Kept) (turn : NodeStep) (room : RoundBuffers)
    → IsRound turn.round.now → IsSet turn.round.now layer turn.states.now room → KeepsRange layer
    → IsDeaf layer → IsShape turn.states.now.shape
    → ((u : ℕ) → u < length turn.states.now.current
    → InRange (fields_at turn.states.now.shape u) (state_of turn.states.now.current u))
    → CanTurn turn.round.now.tower.now turn.round.now.script.now layer turn.v
    turn.states.now.current
can_turn layer turn room is set keeps deaf sound range =
    let script : Script = turn.round.now.script.now in
    record {
      accepted = is.accepted;
      whole = is.script;
      sound = subst IsShape set.shape sound;
      keeps = keeps;
      fits = set.fits;
      over = set.over;
      deaf = deaf;
      nodes = is.nodes;
      node = turn.node;
      range = range_of turn.states.now.shape script.shape script.nodes turn.states.now.current
          set.shape set.size range;
    }

module _ {Kept : Type 0} (plan : Plan) (script : Script) (layer : Layer Kept) (kept : List Kept)
    (t v : ℕ) (config : List State) (can : CanTurn plan script layer v config) where
  abbrev fits : ShapeFits script.shape (plan_meaning plan) (IsInRange plan) layer
  fits = can.fits

  abbrev over : LayerFits layer (plan_meaning plan)
  over = can.over

  nodes : script.nodes ≡ plan_nodes plan
  nodes = can.nodes

  node : v < script.nodes
  node = can.node

  abbrev heard : List State
  heard = heard_at script t config v

  abbrev output : ℕ
  output = (plan_meaning plan).shows v (state_of heard v)

  counts : All (IsInRange plan) heard
  counts = heard_counts script t config v can.whole can.sound node can.range (plan_meaning plan)
      (IsInRange plan) layer fits (sym nodes)

  -- what the layer may hear, if it has registers
  pub may_hear : 0 < layer.extra → MayHear layer v output heard
  may_hear some =
      let same = over some in
      let numbers = same.nodes in
      let modulus = same.modulus in
      let depth = same.depth in
      let long = heard_long script t config v in
      let below = (plan_sizes plan can.accepted).shown v (state_of heard v)
      (omega (arith, node, nodes))
      (counts v (zero_state 0) (omega (arith, node, long))) in
      record {
        node = omega (arith, node, nodes, numbers);
        output = omega (arith, below, modulus);
        size = long ∙ nodes ∙ sym numbers;
        deep = All-weaker (λ (s : State). length s.registers ≡ plan_depth plan + layer.extra)
            (HasRegisters layer) (λ s deep. omega (arith, deep, depth)) heard
            (heard_deep script t config v can.whole can.sound node can.range (plan_meaning plan)
            (IsInRange plan) layer fits (sym nodes));
        range = heard_values script t config v can.whole can.sound node can.range
            (plan_meaning plan)
            (IsInRange plan) layer fits (sym nodes);
      }

  pub new_are : AreNew layer (layer_step (plan_meaning plan) layer kept v heard).registers
  new_are = can.keeps v output _ heard may_hear

  pub new_in_range : InRange (fields_at script.shape v)
      (new_state (plan_meaning plan) layer kept v heard)
  new_in_range = fits.stepped v (omega (arith, node, nodes)) heard _ new_are.size new_are.range

  -- the layer's step, from what is laid for it and what the node shows
  module _ (told items : List State) (same : told ≡ items) (shown : ℕ)
      (shows : shown ≡ (plan_meaning plan).shows v (state_of config v))
      (long : length items ≡ script.nodes) where
    shows_it : shown ≡ output
    shows_it =
        shows ∙ ap ((plan_meaning plan).shows v) (sym (shown_itself script t v config node))

    laid_values : AreOfNodes script items → All (HasValues layer) items
    laid_values are = all_places (HasValues layer) items (λ u lt.
        let some = are u (zero_state 0) lt in
        fits.values some.node (omega (arith, some.inside, nodes)) _ some.range)

    pub laid_may_hear : 0 < layer.extra → AreOfNodes script items → MayHear layer v shown told
    laid_may_hear some are =
        let may = may_hear some in
        let depth = (over some).depth in
        let fit = fits.depth in
        subst (MayHear layer v shown) (sym same) (record {
          node = may.node;
          output = omega (arith, may.output, shows_it);
          size = long ∙ nodes ∙ sym (over some).nodes;
          deep = All-weaker (λ (s : State). length s.registers ≡ script.shape.depth)
              (HasRegisters layer) (λ s deep. omega (arith, deep, depth, fit)) items
              (deep_states script items are);
          range = laid_values are;
        })

    pub can_step : (out : State) → length out.registers ≡ script.shape.depth
        → (0 < layer.extra → AreOfNodes script items)
        → 0 < layer.extra → CanStep layer v shown told out
    can_step out room are some =
        let may = laid_may_hear some (are some) in
        let depth = (over some).depth in
        let fit = fits.depth in
        record {
          node = may.node;
          output = may.output;
          size = may.size;
          deep = may.deep;
          range = may.range;
          room = omega (arith, room, fit, depth);
        }

    pub step_is_that : (0 < layer.extra
        → after layer kept v ((plan_meaning plan).shows v (state_of config v)) items
        ≡ after layer kept v ((plan_meaning plan).shows v (state_of config v)) heard)
        → after layer kept v shown told ≡ layer_step (plan_meaning plan) layer kept v heard
    step_is_that enough =
        ap (after layer kept v shown) same
        ∙ ap (λ (o : ℕ). after layer kept v o items) shows
        ∙ same_step layer can.deaf kept v ((plan_meaning plan).shows v (state_of config v)) items
        heard
        enough
        ∙ ap (λ (o : ℕ). after layer kept v o heard) (sym shows ∙ shows_it)

  -- written after the counter's step it makes the new state
  pub out_is : (before counted out : State)
      → length before.registers ≡ script.shape.depth
      → counted ≡ written (plan_depth plan) (step_of plan v heard) before
      → out ≡ layered layer (layer_step (plan_meaning plan) layer kept v heard).registers counted
      → out ≡ new_state (plan_meaning plan) layer kept v heard
  out_is before counted out room is end =
      end
      ∙ ap (layered layer (layer_step (plan_meaning plan) layer kept v heard).registers) is
      ∙ layered_written (plan_depth plan) layer (step_of plan v heard) before _
      ((plan_sizes plan can.accepted).deep v heard (omega (arith, node, nodes))
      (heard_long script t config v ∙ nodes)) new_are.size (room ∙ fits.depth)
      (λ some. (over some).depth)
