-- Registers that are put one after the other.
use Rattle.std.proofs.Common.{◌≡◌, ℕ, ◌+◌, ◌<◌, ◌≤◌, true, false, List, ◌∷◌, ◌++◌, length, drop}
use Rattle.std.proofs.Common.{get_or, refl, sym, ap, ◌∙◌, append_assoc, arith}
use Rattle.std.specs.Prelude.{codes, ◌==◌}
use Rattle.std.proofs.lemmas.Bool.Decides.{nat_tests}
use Rattle.std.proofs.lemmas.List.{drop_more}
use Rattle.sync_types.specs.States.{zero_register}
use Rattle.sync_types.specs.declared.states.Reg.{Reg}
use Rattle.states.specs.StateTexts.{register_text, registers_text, had}

module _ (moduli : List ℕ) (registers : List Reg) (i : ℕ) (inside : i < length moduli)
    (here : i < length registers) where
  abbrev rest : List Reg
  rest = had (drop (i + 1) moduli) (drop (i + 1) registers)

  opened : had (drop i moduli) (drop i registers)
      ≡ had (get_or moduli i 0 ∷ drop (i + 1) moduli)
      (get_or registers i zero_register ∷ drop (i + 1) registers)
  opened =
      ap (λ ms. had ms (drop i registers)) (drop_more moduli i 0 inside)
      ∙ ap (had (get_or moduli i 0 ∷ drop (i + 1) moduli))
      (drop_more registers i zero_register here)

  -- one that the node lacks
  pub none_put : (get_or moduli i 0 == 0) ≡ true → rest ≡ had (drop i moduli) (drop i registers)
  none_put lacks = sym (opened ∙ rw lacks refl)

  -- one that it has
  pub one_put : (out before : List ℕ) → (get_or moduli i 0 == 0) ≡ false
      → out ++ before ++ register_text (get_or registers i zero_register)
      ++ registers_text (codes ",") rest
      ≡ out ++ registers_text before (had (drop i moduli) (drop i registers))
  one_put out before has =
      let first = register_text (get_or registers i zero_register) in
      let more = registers_text (codes ",") rest in
      let held : had (drop i moduli) (drop i registers) ≡ get_or registers i zero_register ∷ rest =
      opened ∙ rw has refl in
      ap (λ text. text ++ more) (append_assoc out before first)
      ∙ append_assoc out (before ++ first) more
      ∙ sym (ap (λ held. out ++ registers_text before held) held)

pub not_zero : (modulus : ℕ) → 0 < modulus → (modulus == 0) ≡ false
not_zero modulus some = grind (arith, nat_tests)

pub is_zero : (modulus : ℕ) → modulus ≤ 0 → (modulus == 0) ≡ true
is_zero modulus none = grind (arith, nat_tests)
