-- Registers that are read one after the other.
use Rattle.std.proofs.Common.{◌≡◌, ℕ, Bool, true, false, List, [], ◌∷◌, ◌++◌, Option, Some, None}
use Rattle.std.proofs.Common.{refl, sym, ap, ◌∙◌, append_assoc}
use Rattle.std.specs.Prelude.{option_map, option_and_then, not, ◌||◌, ◌==◌, if◌then◌else◌}
use Rattle.sync_types.specs.declared.states.Reg.{Reg}
use Rattle.sync_types.specs.States.{zero_register}
use Rattle.states.specs.StateWords.{Said, next_said, registers_said, has_register}

-- registers before those that are read of the rest
abbrev pub onto : List Reg → Option (List Reg) → Option (List Reg)
onto front rest = option_map (λ registers. front ++ registers) rest

regroup : (front : List Reg) (register : Reg) (rest : Option (List Reg))
    → onto front (option_map (λ registers. register ∷ registers) rest)
    ≡ onto (front ++ register ∷ []) rest
regroup front register None = refl
regroup front register (Some rest) = ap Some (sym (append_assoc front (register ∷ []) rest))

-- the registers from the next one on, if it is this
abbrev rest_said : List ℕ → Option (Said Reg) → Option (List Reg)
rest_said moduli next =
    option_and_then
    (λ said. option_map (λ registers. said.value ∷ registers)
    (registers_said moduli said.further said.behind)) next

-- one more register
pub one_more : (front : List Reg) (modulus : ℕ) (moduli : List ℕ) (further : Bool)
    (words : List (List ℕ)) (said : Said Reg) → next_said modulus further words ≡ Some said
    → onto front (registers_said (modulus ∷ moduli) further words)
    ≡ onto (front ++ said.value ∷ []) (registers_said moduli said.further said.behind)
one_more front modulus moduli further words said is =
    ap (λ next. onto front (rest_said moduli next)) is
    ∙ regroup front said.value (registers_said moduli said.further said.behind)

-- one that is not read
pub none_more : (front : List Reg) (modulus : ℕ) (moduli : List ℕ) (further : Bool)
    (words : List (List ℕ)) → next_said modulus further words ≡ None
    → onto front (registers_said (modulus ∷ moduli) further words) ≡ None
none_more front modulus moduli further words is =
    ap (λ next. onto front (rest_said moduli next)) is

-- words of which a node that has no registers says none
pub no_registers : (moduli : List ℕ) (word : List ℕ) (words : List (List ℕ))
    → has_register moduli ≡ false → registers_said moduli false (word ∷ words) ≡ None
no_registers [] word words none = refl
no_registers (modulus ∷ moduli) word words none =
    by (modulus == 0) none (no_registers moduli word words) where
      by : (lacking : Bool) → (not lacking || has_register moduli) ≡ false
          → (has_register moduli ≡ false → registers_said moduli false (word ∷ words) ≡ None)
          → rest_said moduli
          (if lacking
          then Some (record { value = zero_register; further = false; behind = word ∷ words })
          else None)
          ≡ None
      by true none rest = ap (option_map (λ registers. zero_register ∷ registers)) (rest none)
      by false none rest = refl
