-- The state that words say.
use Rattle.std.specs.Prelude.{ℕ, nat_lt, ◌==◌, not, if◌then◌else◌, List, [], ◌∷◌, codes}
use Rattle.std.specs.Prelude.{Bool, true, false, Option, Some, None, option_map, option_and_then}
use Rattle.std.specs.List.{list_any}
use Rattle.std.specs.Str.{bytes_eq}
use Rattle.sync_types.specs.States.{State, zero_register}
use Rattle.sync_types.specs.declared.states.Reg.{Reg}
use Rattle.state_codec.specs.Shapes.{Fields}
use Rattle.texts.specs.Numbers.{number_of}

-- What the first words say, whether a comma stands after them, and the words that are left.
pub record Said (T : Type 0) : Type 0 where
  pub value : T
  pub further : Bool
  pub behind : List (List ℕ)

-- the number below a modulus that a word writes
abbrev pub number_below : (modulus : ℕ) → List ℕ → Option ℕ
number_below modulus word =
    option_and_then (λ n. if nat_lt n modulus then Some n else None) (number_of word)

-- the value of a register of this modulus that a word writes
abbrev pub value_said : (modulus : ℕ) → List ℕ → Option (Option ℕ)
value_said modulus word =
    if bytes_eq word (codes "infinite") then Some None
    else option_map Some (number_below modulus word)

-- a word that ends with a comma, without it
abbrev pub before_comma : List ℕ → Option (List ℕ)
before_comma [] = None
before_comma (b ∷ []) = if b == 44 then Some [] else None
before_comma (b ∷ c ∷ bytes) = option_map (λ word. b ∷ word) (before_comma (c ∷ bytes))

-- whether a register is marked: no word is no mark
abbrev pub mark_said : List (List ℕ) → Option (Said Bool)
mark_said [] = Some (record { value = false; further = false; behind = [] })
mark_said (word ∷ words) =
    if bytes_eq word (codes "marked")
    then Some (record { value = true; further = false; behind = words })
    else if bytes_eq word (codes "marked,")
    then Some (record { value = true; further = true; behind = words })
    else None

-- a register of this value, with what is said of its mark
abbrev pub with_mark : Option ℕ → Option (Said Bool) → Option (Said Reg)
with_mark a None = None
with_mark a (Some mark) = Some (record {
  value = record { a = a; d = mark.value };
  further = mark.further;
  behind = mark.behind;
})

-- a register that is not marked, with a comma after it
abbrev pub parted : Option ℕ → List (List ℕ) → Said Reg
parted a words =
    record { value = record { a = a; d = false }; further = true; behind = words }

-- a register whose first word is this, or this before a comma
abbrev pub register_from : (modulus : ℕ) → Option (List ℕ) → (word : List ℕ) → List (List ℕ)
    → Option (Said Reg)
register_from modulus (Some front) word words =
    option_map (λ a. parted a words) (value_said modulus front)
register_from modulus None word words =
    option_and_then (λ a. with_mark a (mark_said words)) (value_said modulus word)

abbrev pub register_said : (modulus : ℕ) → List (List ℕ) → Option (Said Reg)
register_said modulus [] = None
register_said modulus (word ∷ words) =
    register_from modulus (before_comma word) word words

-- The next register of a node, if another one follows: one that the node lacks is zero, and has no
-- words.
abbrev pub next_said : (modulus : ℕ) → (further : Bool) → List (List ℕ) → Option (Said Reg)
next_said modulus further words =
    if modulus == 0
    then Some (record { value = zero_register; further = further; behind = words })
    else if further then register_said modulus words else None

-- just no register and no word
abbrev pub all_said : (further : Bool) → List (List ℕ) → Option (List Reg)
all_said true words = None
all_said false [] = Some []
all_said false (word ∷ words) = None

-- all registers of a node, and nothing after them
abbrev pub registers_said : List ℕ → (further : Bool) → List (List ℕ) → Option (List Reg)
registers_said [] further words = all_said further words
registers_said (modulus ∷ moduli) further words =
    option_and_then
    (λ said. option_map (λ registers. said.value ∷ registers)
    (registers_said moduli said.further said.behind))
    (next_said modulus further words)

-- the words after this one, if it is the first
abbrev pub words_after : (key : List ℕ) → List (List ℕ) → Option (List (List ℕ))
words_after key [] = None
words_after key (word ∷ words) = if bytes_eq word key then Some words else None

-- whether a node has a register
abbrev pub has_register : List ℕ → Bool
has_register moduli = list_any (λ modulus. not (modulus == 0)) moduli

-- registers after the word `registers`, which stands there if the node has one
abbrev pub labelled_said : List ℕ → List (List ℕ) → Option (List Reg)
labelled_said moduli words =
    if has_register moduli
    then option_and_then (registers_said moduli true) (words_after (codes "registers") words)
    else registers_said moduli false words

-- a state of this number
abbrev pub with_number : (x : ℕ) → Option (List Reg) → Option State
with_number x registers =
    option_map (λ registers. record { x = x; registers = registers }) registers

-- a state whose number is the first of these words
abbrev pub numbered_said : Fields → List (List ℕ) → Option State
numbered_said fields [] = None
numbered_said fields (word ∷ words) =
    option_and_then (λ x. with_number x (labelled_said fields.moduli words))
    (number_below fields.base word)

-- A state of these fields, in words: its number, if that has more than one value, and the registers
-- that the node has.
abbrev pub state_said : Fields → List (List ℕ) → Option State
state_said fields words =
    if nat_lt 1 fields.base
    then option_and_then (numbered_said fields) (words_after (codes "number") words)
    else with_number 0 (labelled_said fields.moduli words)
