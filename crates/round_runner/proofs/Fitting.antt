-- A plan's shape with a layer's registers after its own fits the plan's counter and the layer.
use Rattle.std.proofs.Common.{◌≡◌, ℕ, ◌+◌, ◌-◌, ◌<◌, ◌≤◌, inl, inr, not, List, ◌++◌, length, map}
use Rattle.std.proofs.Common.{replicate, take, get_or, refl, sym, ap, ap₂, ◌∙◌, subst, arith}
use Rattle.std.proofs.Common.{length-append}
use Rattle.std.specs.Prelude.{IfSome, slice_index}
use Rattle.std.specs.List.{range_with_len}
use Rattle.std.proofs.lemmas.Bool.{cases_lt, ne_eqb}
use Rattle.std.proofs.lemmas.List.FromFn.{fill_by_all, length-map-range_with_len}
use Rattle.std.proofs.lemmas.List.FromFn.{get_or-map-range_with_len}
use Rattle.std.proofs.lemmas.List.{append-nil, get_or_append_left, get_or-append-add}
use Rattle.std.proofs.lemmas.List.{get_or-append_right, get_or-replicate, length-replicate}
use Rattle.std.proofs.lemmas.List.{length-take-le, get_or-take}
use Rattle.sync_types.specs.declared.states.Reg.{Reg}
use Rattle.sync_types.specs.States.{State, register_at, zero_register}
use Rattle.construction.specs.Plans.{Plan, plan_nodes, plan_depth}
use Rattle.construction.specs.Runs.{IsState, IsRegister}
use Rattle.construction.specs.Steps.{step_of}
use Rattle.construction.proofs.Ranges.{step_is_state}
use Rattle.plan_numbers.specs.Premises.{IsAccepted}
use Rattle.plan_laws.specs.PlanMeaning.{plan_meaning, IsInRange}
use Rattle.plan_laws.proofs.PlanCounter.{positive}
use Rattle.plan_laws.proofs.Ranges.{range_from_cut, range_of_state}
use Rattle.state_codec.specs.Shapes.{Fields, Shape, IsShape, moduli_of, shape_of, shape_over}
use Rattle.state_codec.specs.Shapes.{shape_with, fields_at}
use Rattle.state_codec.specs.Ranges.{IsField, InRange}
use Rattle.state_codec.proofs.Further.{fields_with_further, further_some}
use Rattle.state_codec.proofs.Lows.{depth_at, fields_limited}
use Rattle.state_codec.proofs.Plans.{shape_of_accepted, length-moduli_of, nodes_of_shape}
use Rattle.state_codec.proofs.PlanStates.{in_range_of_node, state_of_node}
use Rattle.counter_core.specs.Meanings.{cut}
use Rattle.counter_core.specs.Overlays.{Layer, LayerFits, HasValues, AreBelow}
use Rattle.counter_core.specs.NoLayers.{no_layer}
use Rattle.adversary_script.specs.Scripts.{Script}
use Rattle.adversary_script.specs.ScriptPart as part
use Rattle.adversary_script.specs.Lies.{fitted_register, fitted}
use Rattle.adversary_script.proofs.Fitted.{fitted_in_range}
use Rattle.round_runner.specs.Fits.{ShapeFits}
use Rattle.round_runner.specs.Runners.{IsPlayableOn}

-- a register that a node has is below its modulus, and one that is below it is the node's
finite_below : (modulus : ℕ) (r : Reg) → 1 ≤ modulus → IsField modulus r
    → IfSome r.a (λ a. a < modulus)
finite_below modulus r two is = subst (λ b. IsRegister (not b) modulus r)
    (ne_eqb modulus 0 (λ e. absurd (omega arith))) is

below_finite : (modulus : ℕ) (r : Reg) → 1 ≤ modulus → IfSome r.a (λ a. a < modulus)
    → IsField modulus r
below_finite modulus r two is = subst (λ b. IsRegister (not b) modulus r)
    (sym (ne_eqb modulus 0 (λ e. absurd (omega arith)))) is

-- the fields of the nodes, those of the plan with the layer's registers after them
module _ {Kept : Type 0} (plan : Plan) (layer : Layer Kept) (accepted : IsAccepted plan)
    (sound : IsShape (shape_with plan layer.values layer.extra)) where
  abbrev depth : ℕ
  depth = plan_depth plan

  abbrev shape : Shape
  shape = shape_with plan layer.values layer.extra

  abbrev behind : List ℕ
  behind = replicate layer.extra layer.values

  long : shape.depth ≡ depth + layer.extra
  long = length-append (moduli_of plan.levels) behind
      ∙ ap₂ (λ (a b : ℕ). a + b) (length-moduli_of plan.levels)
      (length-replicate layer.extra layer.values)

  -- the layer's values are a modulus of the shape
  some_values : (i : ℕ) → i < layer.extra → 1 ≤ layer.values
  some_values i lt = further_some plan layer.values layer.extra sound i lt

  module _ (v : ℕ) (node : v < plan_nodes plan) where
    -- the fields of the node in the plan
    abbrev own : Fields
    own = fields_at (shape_of plan) v

    fields_are : fields_at shape v ≡ record own { moduli = own.moduli ++ behind }
    fields_are = fields_with_further plan layer.values layer.extra v node

    own_long : length own.moduli ≡ depth
    own_long = depth_at (shape_of plan) v ∙ length-moduli_of plan.levels

    fields_long : length (own.moduli ++ behind) ≡ depth + layer.extra
    fields_long = length-append own.moduli behind
        ∙ ap₂ (λ (a b : ℕ). a + b) own_long (length-replicate layer.extra layer.values)

    modulus_own : (i : ℕ) → i < depth → slice_index (own.moduli ++ behind) i
        ≡ slice_index own.moduli i
    modulus_own i lt = get_or_append_left own.moduli behind 0 i (omega (arith, lt, own_long))

    modulus_behind : (i : ℕ) → i < layer.extra
        → slice_index (own.moduli ++ behind) (depth + i) ≡ layer.values
    modulus_behind i lt = ap (λ (n : ℕ). get_or (own.moduli ++ behind) (n + i) 0) (sym own_long)
        ∙ get_or-append-add own.moduli behind i 0 ∙ get_or-replicate layer.extra i layer.values 0 lt

    -- the front of a state of the node is one of the plan
    pub front_is : (s : State) → InRange (fields_at shape v) s → IsState plan v (cut depth s)
    front_is s range =
        let here : InRange (record own { moduli = own.moduli ++ behind }) s =
        subst (λ f. InRange f s) fields_are range in
        let size : length (take depth s.registers) ≡ depth =
        length-take-le depth s.registers (let d = here.depth in
        omega (arith, d, fields_long)) in
        state_of_node plan accepted v node (cut depth s) (record {
          depth = size ∙ sym own_long;
          x = here.x;
          values = λ i lt.
              let inside : i < depth = omega (arith, lt, own_long) in
              subst (λ (r : Reg). IsField (slice_index own.moduli i) r)
              (sym (get_or-take depth s.registers i zero_register inside))
              (subst (λ (c : ℕ). IsField c (register_at i s)) (modulus_own i inside)
              (here.values i (omega (arith, inside, fields_long))));
        })

    counts : (s : State) → InRange (fields_at shape v) s → IsInRange plan s
    counts s range =
        let some = positive plan.base plan.levels accepted.levels in
        let within = range_of_state plan some.0 some.1 v (cut depth s) (front_is s range) in
        record {
          x = within.x;
          values = range_from_cut plan.levels depth
              (omega arith) s within.values;
        }

    values : LayerFits layer (plan_meaning plan) → (s : State) → InRange (fields_at shape v) s
        → HasValues layer s
    values over s range = λ i lt.
        let here : InRange (record own { moduli = own.moduli ++ behind }) s =
        subst (λ f. InRange f s) fields_are range in
        let same : layer.depth ≡ depth = (over (omega (arith, lt))).depth in
        let at : IsField layer.values (register_at (depth + i) s) =
        subst (λ (c : ℕ). IsField c (register_at (depth + i) s)) (modulus_behind i lt)
        (here.values (depth + i) (omega (arith, lt, fields_long))) in
        subst (λ (d : ℕ). IfSome (register_at (d + i) s).a (λ a. a < layer.values)) (sym same)
        (finite_below layer.values (register_at (depth + i) s) (some_values i lt) at)

    -- the front of those of a state's fields that the node has is those of its front
    fitted_front : (s : State) → cut depth (fitted (fields_at shape v) s) ≡ fitted own (cut depth s)
    fitted_front s =
        let full : Fields = record own { moduli = own.moduli ++ behind } in
        let made : ℕ → Reg = λ i. fitted_register (slice_index full.moduli i) (register_at i s) in
        let cut_made : ℕ → Reg = λ i. fitted_register (slice_index own.moduli i)
        (register_at i (cut depth s)) in
        let all : List Reg = map made (range_with_len 0 (length full.moduli)) in
        let size : length (take depth all) ≡ length own.moduli =
        length-take-le depth all (omega (
          arith,
          length-map-range_with_len made 0 (length full.moduli),
          fields_long,
        )) ∙ sym own_long in
        let each : (i : ℕ) → i < length own.moduli
        → get_or (take depth all) i zero_register ≡ cut_made i = λ i lt.
        let inside : i < depth = omega (arith, lt, own_long) in
        get_or-take depth all i zero_register inside
        ∙ get_or-map-range_with_len made 0 (length full.moduli) i i zero_register
        (omega (arith, inside, fields_long)) (omega arith)
        ∙ ap₂ fitted_register (modulus_own i inside)
        (sym (get_or-take depth s.registers i zero_register inside)) in
        ap (λ f. cut depth (fitted f s)) fields_are
        ∙ ap (λ (registers : List Reg). let t : State =
        record { x = (fitted own s).x; registers = registers } in t)
        (fill_by_all cut_made (take depth all) (length own.moduli) zero_register size each)

    -- so they are a state of the node
    pub fitted_is : (s : State) → IsState plan v (cut depth (fitted (fields_at shape v) s))
    fitted_is s =
        subst (IsState plan v) (sym (fitted_front s))
        (state_of_node plan accepted v node (fitted own (cut depth s))
        (fitted_in_range own (cut depth s)
        (fields_limited (shape_of plan) v (shape_of_accepted plan accepted))))

    -- a state of the plan's node with registers of the layer after its own is one of the node
    module _ (s : State) (registers : List Reg) (is : IsState plan v s)
        (extra : length registers ≡ layer.extra) (below : AreBelow layer.values registers) where
      behind_is : (i : ℕ) → i < depth + layer.extra → depth ≤ i
          → IsField (slice_index (own.moduli ++ behind) i)
          (get_or (s.registers ++ registers) i zero_register)
      behind_is i lt over =
          let j : ℕ = i - depth in
          let inside : j < layer.extra = omega (arith, lt, over) in
          let back : depth + j ≡ i = omega (arith, over) in
          let modulus : slice_index (own.moduli ++ behind) i ≡ layer.values =
          ap (slice_index (own.moduli ++ behind)) (sym back) ∙ modulus_behind j inside in
          let register : get_or (s.registers ++ registers) i zero_register
          ≡ get_or registers j zero_register =
          get_or-append_right s.registers registers depth i zero_register is.depth over in
          subst (λ (c : ℕ). IsField c (get_or (s.registers ++ registers) i zero_register))
          (sym modulus)
          (subst (λ (r : Reg). IsField layer.values r) (sym register)
          (below_finite layer.values (get_or registers j zero_register) (some_values j inside)
          (below j zero_register (omega (arith, inside, extra)))))

      pub joined : InRange (fields_at shape v)
          (record { x = s.x; registers = s.registers ++ registers })
      joined =
          let front = in_range_of_node plan accepted v node s is in
          subst (λ f. InRange f (record { x = s.x; registers = s.registers ++ registers }))
          (sym fields_are) (record {
            depth = length-append s.registers registers
                ∙ (ap₂ (λ (a b : ℕ). a + b) is.depth extra ∙ sym fields_long);
            x = front.x;
            values = λ i lt. elim (cases_lt i depth) [
              | inl inside ↦ subst (λ (c : ℕ).
                  IsField c (get_or (s.registers ++ registers) i zero_register))
                  (sym (modulus_own i inside))
                  (subst (λ (r : Reg). IsField (slice_index own.moduli i) r)
                  (sym (get_or_append_left s.registers registers zero_register i
                  (let d = is.depth in omega (arith, inside, d))))
                  (front.values i (omega (arith, inside, own_long))))
              | inr over ↦ behind_is i (omega (arith, lt, fields_long)) over
            ];
          })

    stepped : (heard : List State) (registers : List Reg) → length registers ≡ layer.extra
        → AreBelow layer.values registers
        → InRange (fields_at shape v) (record {
          x = (step_of plan v heard).x;
          registers =
              (step_of plan v heard).registers ++ registers;
        })
    stepped heard registers extra below =
        let some = positive plan.base plan.levels accepted.levels in
        joined (step_of plan v heard) registers
        (step_is_state plan some.0 some.1 v heard) extra below

pub layer_fits : {Kept : Type 0} (plan : Plan) (layer : Layer Kept) (shape : Shape)
    → IsAccepted plan → shape ≡ shape_with plan layer.values layer.extra → IsShape shape
    → LayerFits layer (plan_meaning plan)
    → ShapeFits shape (plan_meaning plan) (IsInRange plan) layer
layer_fits plan layer states accepted is sound over =
    let whole : IsShape (shape_with plan layer.values layer.extra) = subst IsShape is sound in
    subst (λ (s : Shape). ShapeFits s (plan_meaning plan) (IsInRange plan) layer) (sym is) (record {
      nodes = nodes_of_shape plan (moduli_of plan.levels ++ replicate layer.extra layer.values);
      depth = long plan layer accepted whole;
      counts = λ v node s range. counts plan layer accepted whole v node s range;
      values = λ v node s range. values plan layer accepted whole v node over s range;
      stepped = λ v node heard registers extra below.
          stepped plan layer accepted whole v node heard registers extra below;
    })

-- the shape of a plan is that with no further registers
no_further : (plan : Plan) (values count : ℕ) → count ≡ 0
    → shape_of plan ≡ shape_with plan values count
no_further plan values count none =
    ap (shape_over plan) (sym (append-nil (moduli_of plan.levels))
    ∙ ap (λ (n : ℕ). moduli_of plan.levels ++ replicate n values) (sym none))

-- a script that was read for a plan is one to play with a layer that has no registers
pub without_registers : {Kept : Type 0} (plan : Plan) (script : Script) (layer : Layer Kept)
    → layer.extra ≡ 0 → part.IsScriptForPlan plan (shape_of plan) script
    → IsPlayableOn plan layer script
without_registers plan script layer none is = record {
  nodes = is.nodes;
  shape = is.states ∙ no_further plan layer.values layer.extra none;
  over = λ lt. absurd (omega (arith, lt, none));
  borne = is.borne;
}

-- so it is one to play without a layer
pub without_layer : (plan : Plan) (script : Script)
    → part.IsScriptForPlan plan (shape_of plan) script
    → IsPlayableOn plan no_layer script
without_layer plan script is = without_registers plan script no_layer refl is
