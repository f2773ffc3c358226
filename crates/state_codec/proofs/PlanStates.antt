-- The states of a plan's nodes are those of their fields.
use Rattle.std.proofs.Common.{◌≡◌, Bool, true, false, cond, ℕ, zero, suc, ◌+◌, ◌<◌, ◌≤◌, ◌^◌, List}
use Rattle.std.proofs.Common.{[], ◌∷◌, ◌++◌, length, get_or, refl, sym, ap, subst, ◌∙◌, arith, inl}
use Rattle.std.proofs.Common.{inr}
use Rattle.std.specs.Prelude.{All, nat_lt, nat_le, not, ◌==◌}
use Rattle.std.proofs.lemmas.Bool.{cases_lt, ne_eqb, ltb-true, ltb-false, le-leb, lt-leb}
use Rattle.std.proofs.lemmas.List.{get_or_append_left, get_or_push}
use Rattle.sync_types.specs.States.{State, register_at}
use Rattle.sync_types.specs.declared.states.Reg.{Reg}
use Rattle.construction.specs.Plans.{Level, Plan, plan_low, plan_nodes}
use Rattle.construction.specs.Runs.{IsNumber, IsRegister, HasRegisters, IsState}
use Rattle.plan_numbers.specs.Premises.{IsAccepted}
use Rattle.state_codec.specs.Shapes.{moduli_of, moduli_from, fields_at, fields_from, all_of}
use Rattle.state_codec.specs.Shapes.{shape_of}
use Rattle.state_codec.specs.Ranges.{IsField, AreBelow, InRange}
use Rattle.state_codec.proofs.Lows.{length-moduli_from, fields_of_node, modulus_at}
use Rattle.state_codec.proofs.Plans.{moduli_of-cons, length-moduli_of, all_of_accepted}

-- each register of a node is in range, or zero if the node lacks it
abbrev AreRegisters : (low : ℕ) → List ℕ → State → Type 0
AreRegisters low moduli s = (i : ℕ) → i < length moduli
    → IsRegister (nat_le low (i + 1)) (get_or moduli i 0) (register_at i s)

no_moduli : length (moduli_of []) ≡ 0
no_moduli = length-moduli_of []

-- each register is in range by its level's modulus, or zero if the node lacks it, level by level
levels_below : (low : ℕ) (levels : List Level) (s : State) → HasRegisters low levels s
    → AreRegisters low (moduli_of levels) s
levels_below low [] s range i lt = absurd (omega (arith, no_moduli))
levels_below low (level ∷ below) s (lower, top) i lt =
    let long : length (moduli_of (level ∷ below)) ≡ length below + 1 =
    length-moduli_of (level ∷ below) ∙ omega arith in
    let seen : get_or (moduli_of (level ∷ below)) i 0
    ≡ get_or (moduli_of below ++ level.modulus ∷ []) i 0 =
    ap (λ (y : List ℕ). get_or y i 0) (moduli_of-cons level below) in
    elim (cases_lt i (length below)) [
      | inl under ↦
          let inside : i < length (moduli_of below) = omega (arith, length-moduli_of below) in
          let same : get_or (moduli_of (level ∷ below)) i 0 ≡ get_or (moduli_of below) i 0 = seen
          ∙ get_or_append_left (moduli_of below) (level.modulus ∷ []) 0 i inside in
          subst (λ (c : ℕ). IsRegister (nat_le low (i + 1)) c (register_at i s)) (sym same)
          (levels_below low below s lower i inside)
      | inr over ↦
          let at_top : length (moduli_of below) ≡ i = omega (arith, length-moduli_of below) in
          let same : get_or (moduli_of (level ∷ below)) i 0 ≡ level.modulus = seen
          ∙ get_or_push (moduli_of below) level.modulus 0 i at_top in
          let here : length below ≡ i = omega arith in
          subst (λ (c : ℕ). IsRegister (nat_le low (i + 1)) c (register_at i s)) (sym same)
          (subst (λ (j : ℕ). IsRegister (nat_le low (j + 1)) level.modulus (register_at j s))
          here top)
    ]

below_levels : (low : ℕ) (levels : List Level) (s : State) → AreRegisters low (moduli_of levels) s
    → HasRegisters low levels s
below_levels low [] s within = tt
below_levels low (level ∷ below) s within = (
  below_levels low below s (λ i lt.
      let inside : i < length (moduli_of (level ∷ below)) =
      omega (arith, length-moduli_of (level ∷ below), length-moduli_of below) in
      let same : get_or (moduli_of (level ∷ below)) i 0 ≡ get_or (moduli_of below) i 0 =
      ap (λ (y : List ℕ). get_or y i 0) (moduli_of-cons level below)
      ∙ get_or_append_left (moduli_of below) (level.modulus ∷ []) 0 i lt in
      subst (λ (c : ℕ). IsRegister (nat_le low (i + 1)) c (register_at i s)) same
      (within i inside)),
  (let inside : length below < length (moduli_of (level ∷ below)) =
      omega (arith, length-moduli_of (level ∷ below)) in
      let same : get_or (moduli_of (level ∷ below)) (length below) 0 ≡ level.modulus =
      ap (λ (y : List ℕ). get_or y (length below) 0) (moduli_of-cons level below)
      ∙ get_or_push (moduli_of below) level.modulus 0 (length below) (length-moduli_of below) in
      subst (λ (c : ℕ). IsRegister (nat_le low (length below + 1)) c (register_at (length below) s))
      same (within (length below) inside)),
)

-- ---- a lacking register is one of modulus 0

there : (low i : ℕ) (b : Bool) → nat_lt (i + 1) low ≡ b → nat_le low (i + 1) ≡ not b
there low i true e = lt-leb low (i + 1) (ltb-true (i + 1) low e)
there low i false e = le-leb low (i + 1) (ltb-false (i + 1) low e)

some_modulus : (m : ℕ) → 2 ≤ m → not (m == 0) ≡ true
some_modulus m two = ap not (ne_eqb m 0 (λ e. absurd (omega arith)))

field_by : (b : Bool) (m : ℕ) (r : Reg) → 2 ≤ m → IsRegister (not b) m r → IsField (cond b 0 m) r
field_by true m r two is = is
field_by false m r two is = subst (λ t. IsRegister t m r) (sym (some_modulus m two)) is

register_by : (b : Bool) (m : ℕ) (r : Reg) → 2 ≤ m → IsField (cond b 0 m) r → IsRegister (not b) m r
register_by true m r two is = is
register_by false m r two is = subst (λ t. IsRegister t m r) (some_modulus m two) is

module _ (low : ℕ) (cs : List ℕ) (limits : All (λ c. (2 ≤ c) × (c ≤ 2 ^ 40)) cs) (s : State) where
  fields_are : AreRegisters low cs s → AreBelow (moduli_from low cs) s.registers
  fields_are are i lt =
      let inside : i < length cs = omega (arith, length-moduli_from low cs) in
      subst (λ m. IsField m (register_at i s)) (sym (modulus_at low cs i inside))
      (field_by (nat_lt (i + 1) low) (get_or cs i 0) (register_at i s) (limits i 0 inside).0
      (subst (λ b. IsRegister b (get_or cs i 0) (register_at i s))
      (there low i (nat_lt (i + 1) low) refl) (are i inside)))

  registers_are : AreBelow (moduli_from low cs) s.registers → AreRegisters low cs s
  registers_are are i lt =
      let inside : i < length (moduli_from low cs) = omega (arith, length-moduli_from low cs) in
      subst (λ b. IsRegister b (get_or cs i 0) (register_at i s))
      (sym (there low i (nat_lt (i + 1) low) refl))
      (register_by (nat_lt (i + 1) low) (get_or cs i 0) (register_at i s) (limits i 0 lt).0
      (subst (λ m. IsField m (register_at i s)) (modulus_at low cs i lt) (are i inside)))

-- ---- the number

at_least : (low : ℕ) (b : Bool) → (low == 0) ≡ b → nat_le low 0 ≡ b
at_least zero b e = e
at_least (suc low) b e = lt-leb (suc low) 0 (omega arith)
    ∙ (sym (ne_eqb (suc low) 0 (λ z. absurd (omega arith))) ∙ e)

number_by : (b : Bool) (base x : ℕ) → IsNumber b base x → x < (cond b base 1)
number_by true base x is = is
number_by false base x is = omega arith

number_from : (b : Bool) (base x : ℕ) → x < (cond b base 1) → IsNumber b base x
number_from true base x is = is
number_from false base x is = omega arith

module _ (plan : Plan) (accepted : IsAccepted plan) (v : ℕ) (vlt : v < plan_nodes plan) (s : State)
  where
    own_is : fields_at (shape_of plan) v ≡ fields_from (all_of plan) (plan_low plan v)
    own_is = fields_of_node plan (moduli_of plan.levels) v vlt

    limits : All (λ c. (2 ≤ c) × (c ≤ 2 ^ 40)) (moduli_of plan.levels)
    limits = (all_of_accepted plan accepted).moduli

    -- a state of the node is one of its fields
    pub in_range_of_node : IsState plan v s → InRange (fields_at (shape_of plan) v) s
    in_range_of_node is =
        let low : ℕ = plan_low plan v in
        subst (λ f. InRange f s) (sym own_is) (record {
          depth = is.depth ∙ sym (length-moduli_from low (moduli_of plan.levels)
              ∙ length-moduli_of plan.levels);
          x = number_by (low == 0) plan.base s.x
              (subst (λ b. IsNumber b plan.base s.x) (at_least low (low == 0) refl) is.x);
          values = fields_are low (moduli_of plan.levels) limits s
              (levels_below low plan.levels s is.registers);
        })

    -- and the other way
    pub state_of_node : InRange (fields_at (shape_of plan) v) s → IsState plan v s
    state_of_node range =
        let low : ℕ = plan_low plan v in
        let here : InRange (fields_from (all_of plan) low) s =
        subst (λ f. InRange f s) own_is range in
        record {
          depth = here.depth ∙ (length-moduli_from low (moduli_of plan.levels)
              ∙ length-moduli_of plan.levels);
          x = subst (λ b. IsNumber b plan.base s.x) (sym (at_least low (low == 0) refl))
              (number_from (low == 0) plan.base s.x here.x);
          registers = below_levels low plan.levels s
              (registers_are low (moduli_of plan.levels) limits s here.values);
        }
