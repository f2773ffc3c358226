-- The two lines that say a state of a node: in words, and in hex digits.
use Rattle.std.specs.Prelude.{ℕ, nat_lt, ◌==◌, if◌then◌else◌, List, [], ◌∷◌, ◌++◌, codes, decimal}
use Rattle.std.specs.Prelude.{Bool, true, false, Option, Some, None}
use Rattle.std.specs.List.{concat}
use Rattle.sync_types.specs.States.{State}
use Rattle.sync_types.specs.declared.states.Reg.{Reg}
use Rattle.state_codec.specs.Shapes.{Fields}
use Rattle.state_codec.specs.Texts.{written_text}

abbrev pub value_text : Option ℕ → List ℕ
value_text None = codes "infinite"
value_text (Some a) = decimal a

abbrev pub mark_text : Bool → List ℕ
mark_text true = codes " marked"
mark_text false = []

-- a register, with a space before it
abbrev pub register_text : Reg → List ℕ
register_text register = codes " " ++ value_text register.a ++ mark_text register.d

-- registers: this before the first one, and a comma before each other one
abbrev pub registers_text : (before : List ℕ) → List Reg → List ℕ
registers_text before [] = []
registers_text before (register ∷ registers) =
    before ++ register_text register ++ registers_text (codes ",") registers

-- the registers that a node has, which are those with a modulus
abbrev pub had : (moduli : List ℕ) → List Reg → List Reg
had [] registers = []
had (modulus ∷ moduli) [] = []
had (modulus ∷ moduli) (register ∷ registers) =
    if modulus == 0 then had moduli registers else register ∷ had moduli registers

-- the number, if it has more than one value
abbrev pub number_text : (base x : ℕ) → List ℕ
number_text base x = if nat_lt 1 base then codes " number " ++ decimal x else []

-- a state of node v in words, without a newline
abbrev pub worded : Fields → (v : ℕ) → State → List ℕ
worded fields v state = concat (
    codes "node " ∷ decimal v ∷ number_text fields.base state.x
    ∷ registers_text (codes " registers") (had fields.moduli state.registers) ∷ [])

-- the same in hex digits
abbrev pub in_digits : Fields → (v : ℕ) → State → List ℕ
in_digits fields v state =
    concat (codes "node " ∷ decimal v ∷ codes " " ∷ written_text fields state ∷ [])
