-- A state in words is read back.
use Rattle.std.proofs.Common.{◌≡◌, ℕ, ◌<◌, ◌≤◌, ◌^◌, Bool, true, false, List, [], ◌∷◌}
use Rattle.std.proofs.Common.{Some, None, refl, sym, ap, ◌∙◌, arith}
use Rattle.std.specs.Prelude.{nat_lt, if◌then◌else◌, option_and_then}
use Rattle.std.proofs.lemmas.Bool.{ltb-false}
use Rattle.sync_types.specs.States.{State}
use Rattle.sync_types.specs.declared.states.Reg.{Reg}
use Rattle.state_codec.specs.Shapes.{Fields}
use Rattle.states.specs.StateTexts.{had}
use Rattle.states.specs.StateWords.{registers_said, has_register, labelled_said, state_said}
use Rattle.states.specs.StateWords.{with_number}
use Rattle.states.proofs.StateLines.{labelled_words, state_words}
use Rattle.states.proofs.WrittenRegisters.{AreFields, some, has_some, registers_back}
use Rattle.states.proofs.WrittenRegisters.{registers_words, number_is_below}

labelled_back : (moduli : List ℕ) (registers : List Reg) → AreFields moduli registers
    → labelled_said moduli (labelled_words (had moduli registers)) ≡ Some registers
labelled_back moduli registers fields =
    by (had moduli registers) (has_some moduli registers fields)
    (registers_back moduli registers fields) where
      by : (held : List Reg) → some held ≡ has_register moduli
          → registers_said moduli (some held) (registers_words held) ≡ Some registers
          → labelled_said moduli (labelled_words held) ≡ Some registers
      by [] has back =
          ap (λ b. if b then option_and_then (registers_said moduli true) None
          else registers_said moduli false []) (sym has)
          ∙ back
      by (register ∷ held) has back =
          ap (λ b. if b then registers_said moduli true (registers_words (register ∷ held))
          else registers_said moduli false (labelled_words (register ∷ held))) (sym has)
          ∙ back

pub state_back : (fields : Fields) (state : State) → fields.base ≤ 2 ^ 40
    → state.x < fields.base → AreFields fields.moduli state.registers
    → state_said fields (state_words fields state) ≡ Some state
state_back fields state most lt are = by (nat_lt 1 fields.base) refl where
  back : labelled_said fields.moduli (labelled_words (had fields.moduli state.registers))
      ≡ Some state.registers
  back = labelled_back fields.moduli state.registers are

  by : (b : Bool) → nat_lt 1 fields.base ≡ b
      → state_said fields (state_words fields state) ≡ Some state
  by true is =
      rw is (ap (option_and_then (λ x. with_number x (labelled_said fields.moduli
      (labelled_words (had fields.moduli state.registers)))))
      (number_is_below fields.base state.x most lt)
      ∙ ap (with_number state.x) back)
  by false is =
      let small : fields.base ≤ 1 = omega (arith, ltb-false 1 fields.base is) in
      let zero : state.x ≡ 0 = omega (arith, small, lt) in
      rw is (ap (with_number 0) back
      ∙ ap (λ x. Some (record { x = x; registers = state.registers })) (sym zero))
