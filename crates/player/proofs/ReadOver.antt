-- What a script that was read for a machine with a layer above says of the states of its nodes: the
-- machine's own registers, and after them those of the layer.
use Rattle.std.proofs.Common.{◌≡◌, ℕ, ◌+◌, ◌-◌, ◌<◌, ◌≤◌, inl, inr, not, List, ◌++◌, length, take}
use Rattle.std.proofs.Common.{replicate, get_or, sym, ap, ap₂, ◌∙◌, subst, arith, length-append}
use Rattle.std.specs.Prelude.{IfSome, slice_index}
use Rattle.std.proofs.lemmas.Bool.{cases_lt, ne_eqb}
use Rattle.std.proofs.lemmas.List.{get_or_append_left, get_or-append-add, get_or-append_right}
use Rattle.std.proofs.lemmas.List.{get_or-replicate, length-replicate, length-take-le, get_or-take}
use Rattle.sync_types.specs.declared.states.Reg.{Reg}
use Rattle.sync_types.specs.States.{State, register_at, zero_register}
use Rattle.construction.specs.Runs.{IsRegister}
use Rattle.counter_core.specs.Meanings.{cut}
use Rattle.counter_core.specs.Overlays.{Layer, HasValues, AreBelow}
use Rattle.state_codec.specs.Shapes.{Fields, fields_at, with_further}
use Rattle.state_codec.specs.Ranges.{IsField, InRange}
use Rattle.machines.specs.Machines.{Machine, IsState}
use Rattle.machines.specs.Laws.{IsSound}
use Rattle.adversary_script.specs.Scripts.{Script}
use Rattle.player.specs.ReadOver.{IsReadWithLayer}

-- a register that a node has is below its modulus, and one that is below it is the node's
finite_below : (modulus : ℕ) (r : Reg) → 1 ≤ modulus → IsField modulus r
    → IfSome r.a (λ a. a < modulus)
finite_below modulus r some is = subst (λ b. IsRegister (not b) modulus r)
    (ne_eqb modulus 0 (λ e. absurd (omega arith))) is

below_finite : (modulus : ℕ) (r : Reg) → 1 ≤ modulus → IfSome r.a (λ a. a < modulus)
    → IsField modulus r
below_finite modulus r some is = subst (λ b. IsRegister (not b) modulus r)
    (sym (ne_eqb modulus 0 (λ e. absurd (omega arith)))) is

module _ {Kept : Type 0} (machine : Machine) (layer : Layer Kept) (script : Script)
    (sound : IsSound machine) (is : IsReadWithLayer machine layer script) where
  abbrev depth : ℕ
  depth = machine.depth

  abbrev behind : List ℕ
  behind = replicate layer.extra layer.values

  module _ (v : ℕ) (node : v < machine.nodes) where
    -- the fields of the node in the machine, and all
    abbrev own : List ℕ
    own = (machine.fields v).moduli

    abbrev all : Fields
    all = with_further (machine.fields v) layer.values layer.extra

    own_long : length own ≡ depth
    own_long = sound.depth v node

    all_long : length (own ++ behind) ≡ depth + layer.extra
    all_long = length-append own behind
        ∙ ap₂ (λ (a b : ℕ). a + b) own_long (length-replicate layer.extra layer.values)

    modulus_own : (i : ℕ) → i < depth → slice_index (own ++ behind) i ≡ slice_index own i
    modulus_own i lt = get_or_append_left own behind 0 i (omega (arith, lt, own_long))

    modulus_behind : (i : ℕ) → i < layer.extra
        → slice_index (own ++ behind) (depth + i) ≡ layer.values
    modulus_behind i lt = ap (λ (n : ℕ). get_or (own ++ behind) (n + i) 0) (sym own_long)
        ∙ get_or-append-add own behind i 0 ∙ get_or-replicate layer.extra i layer.values 0 lt

    in_all : (s : State) → InRange (fields_at script.shape v) s → InRange all s
    in_all s range = subst (λ (f : Fields). InRange f s) (is.shape.fields v node) range

    -- the front of a state of the node is one of the machine
    pub front_is : (s : State) → InRange (fields_at script.shape v) s
        → IsState machine v (cut depth s)
    front_is s range =
        let here = in_all s range in
        let size : length (take depth s.registers) ≡ depth =
        length-take-le depth s.registers (let d = here.depth in omega (arith, d, all_long)) in
        record {
          depth = size ∙ sym own_long;
          x = here.x;
          values = λ i lt.
              let inside : i < depth = omega (arith, lt, own_long) in
              subst (λ (r : Reg). IsField (slice_index own i) r)
              (sym (get_or-take depth s.registers i zero_register inside))
              (subst (λ (c : ℕ). IsField c (register_at i s)) (modulus_own i inside)
              (here.values i (omega (arith, inside, all_long))));
        }

  -- the layer's values are a modulus of some node
  some_values : (i : ℕ) → i < layer.extra → 1 ≤ layer.values
  some_values i lt =
      let deep = is.shape.depth in
      let nodes = is.shape.nodes in
      let used = is.shape.sound.used (depth + i) (omega (arith, lt, deep)) in
      let among = used.1 in
      let node : used.0 < machine.nodes = omega (arith, among, nodes) in
      subst (λ (c : ℕ). 1 ≤ c) (modulus_behind used.0 node i lt)
      (subst (λ (f : Fields). 1 ≤ get_or f.moduli (depth + i) 0) (is.shape.fields used.0 node)
      used.2)

  module _ (v : ℕ) (node : v < machine.nodes) where
    -- it has the layer's values
    pub values_are : (s : State) → InRange (fields_at script.shape v) s → HasValues layer s
    values_are s range = λ i lt.
        let here = in_all v node s range in
        let same : layer.depth ≡ depth = (is.over (omega (arith, lt))).depth in
        let at : IsField layer.values (register_at (depth + i) s) =
        subst (λ (c : ℕ). IsField c (register_at (depth + i) s)) (modulus_behind v node i lt)
        (here.values (depth + i) (omega (arith, lt, all_long v node))) in
        subst (λ (d : ℕ). IfSome (register_at (d + i) s).a (λ a. a < layer.values)) (sym same)
        (finite_below layer.values (register_at (depth + i) s) (some_values i lt) at)

    -- and a state of the machine's node with registers of the layer after its own is one of the
    -- node
    module _ (s : State) (registers : List Reg) (front : IsState machine v s)
        (extra : length registers ≡ layer.extra) (below : AreBelow layer.values registers) where
      long : length s.registers ≡ depth
      long = front.depth ∙ own_long v node

      behind_is : (i : ℕ) → i < depth + layer.extra → depth ≤ i
          → IsField (slice_index (own v node ++ behind) i)
          (get_or (s.registers ++ registers) i zero_register)
      behind_is i lt over =
          let j : ℕ = i - depth in
          let inside : j < layer.extra = omega (arith, lt, over) in
          let back : depth + j ≡ i = omega (arith, over) in
          let modulus : slice_index (own v node ++ behind) i ≡ layer.values =
          ap (slice_index (own v node ++ behind)) (sym back) ∙ modulus_behind v node j inside in
          let register : get_or (s.registers ++ registers) i zero_register
          ≡ get_or registers j zero_register =
          get_or-append_right s.registers registers depth i zero_register long over in
          subst (λ (c : ℕ). IsField c (get_or (s.registers ++ registers) i zero_register))
          (sym modulus)
          (subst (λ (r : Reg). IsField layer.values r) (sym register)
          (below_finite layer.values (get_or registers j zero_register) (some_values j inside)
          (below j zero_register (omega (arith, inside, extra)))))

      pub joined : InRange (fields_at script.shape v)
          (record { x = s.x; registers = s.registers ++ registers })
      joined =
          subst (λ (f : Fields). InRange f
          (record { x = s.x; registers = s.registers ++ registers }))
          (sym (is.shape.fields v node)) (record {
            depth = length-append s.registers registers
                ∙ (ap₂ (λ (a b : ℕ). a + b) long extra ∙ sym (all_long v node));
            x = front.x;
            values = λ i lt. elim (cases_lt i depth) [
              | inl inside ↦ subst (λ (c : ℕ).
                  IsField c (get_or (s.registers ++ registers) i zero_register))
                  (sym (modulus_own v node i inside))
                  (subst (λ (r : Reg). IsField (slice_index (own v node) i) r)
                  (sym (get_or_append_left s.registers registers zero_register i
                  (omega (arith, inside, long))))
                  (front.values i (omega (arith, inside, own_long v node))))
              | inr over ↦ behind_is i (omega (arith, lt, all_long v node)) over
            ];
          })
