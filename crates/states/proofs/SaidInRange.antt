-- A state that words say is one of its fields.
use Rattle.std.proofs.Common.{◌≡◌, ℕ, zero, suc, ◌<◌, Bool, true, false, List, [], ◌∷◌, length}
use Rattle.std.proofs.Common.{Option, Some, None, refl, ap, subst, arith}
use Rattle.std.specs.Prelude.{codes, nat_lt, not, ◌==◌, if◌then◌else◌, option_map, option_and_then}
use Rattle.std.specs.Prelude.{IfSome, ⊤}
use Rattle.std.specs.Str.{bytes_eq}
use Rattle.std.proofs.lemmas.Bool.{ltb-true}
use Rattle.construction.specs.Runs.{IsRegister}
use Rattle.sync_types.specs.States.{State, zero_register}
use Rattle.sync_types.specs.declared.states.Reg.{Reg}
use Rattle.state_codec.specs.Shapes.{Fields, IsFields}
use Rattle.state_codec.specs.Ranges.{IsField, AreBelow, InRange}
use Rattle.texts.specs.Numbers.{number_of}
use Rattle.states.specs.StateWords.{Said, number_below, value_said, before_comma, mark_said}
use Rattle.states.specs.StateWords.{with_mark, parted, register_from, register_said, next_said}
use Rattle.states.specs.StateWords.{registers_said, labelled_said, with_number, numbered_said}
use Rattle.states.specs.StateWords.{words_after, has_register, state_said}

number_by : (modulus : ℕ) (read : Option ℕ) (n : ℕ)
    → option_and_then (λ n. if nat_lt n modulus then Some n else None) read ≡ Some n → n < modulus
number_by modulus None n is = absurd cc
number_by modulus (Some k) n is = by (nat_lt k modulus) refl is where
  by : (b : Bool) → nat_lt k modulus ≡ b → (if b then Some k else None) ≡ Some n → n < modulus
  by true below is =
      let same : k ≡ n = cc in subst (λ n. n < modulus) same (ltb-true k modulus below)
  by false below is = absurd cc

value_by : (modulus : ℕ) (infinite : Bool) (read a : Option ℕ)
    → ((n : ℕ) → read ≡ Some n → n < modulus)
    → (if infinite then Some None else option_map Some read) ≡ Some a
    → IfSome a (λ n. n < modulus)
value_by modulus infinite read None below is = tt
value_by modulus true read (Some n) below is = absurd cc
value_by modulus false None (Some n) below is = absurd cc
value_by modulus false (Some k) (Some n) below is = below n cc

value_below : (modulus : ℕ) (word : List ℕ) (a : Option ℕ) → value_said modulus word ≡ Some a
    → IfSome a (λ n. n < modulus)
value_below modulus word a is =
    value_by modulus (bytes_eq word (codes "infinite")) (number_below modulus word) a
    (λ n. number_by modulus (number_of word) n) is

-- the value of a register that is said is below its modulus
IsBelow : (modulus : ℕ) → Said Reg → Type 0
IsBelow modulus said = IfSome said.value.a (λ n. n < modulus)

value_in : Option (Said Reg) → Option ℕ
value_in None = None
value_in (Some said) = said.value.a

marked_below : (modulus : ℕ) (read : Option (Option ℕ)) (mark : Option (Said Bool))
    (said : Said Reg) → ((a : Option ℕ) → read ≡ Some a → IfSome a (λ n. n < modulus))
    → option_and_then (λ a. with_mark a mark) read ≡ Some said → IsBelow modulus said
unfolding IsBelow value_in
marked_below modulus None mark said below is = absurd cc
marked_below modulus (Some a) None said below is = absurd cc
marked_below modulus (Some a) (Some mark) said below is =
    subst (λ a. IfSome a (λ n. n < modulus)) (ap value_in is) (below a refl)

parted_below : (modulus : ℕ) (read : Option (Option ℕ)) (words : List (List ℕ)) (said : Said Reg)
    → ((a : Option ℕ) → read ≡ Some a → IfSome a (λ n. n < modulus))
    → option_map (λ a. parted a words) read ≡ Some said → IsBelow modulus said
unfolding IsBelow value_in
parted_below modulus None words said below is = absurd cc
parted_below modulus (Some a) words said below is =
    subst (λ a. IfSome a (λ n. n < modulus)) (ap value_in is) (below a refl)

register_by : (modulus : ℕ) (front : Option (List ℕ)) (word : List ℕ) (words : List (List ℕ))
    (said : Said Reg) → register_from modulus front word words ≡ Some said
    → IsBelow modulus said
register_by modulus (Some front) word words said is =
    parted_below modulus (value_said modulus front) words said (value_below modulus front) is
register_by modulus None word words said is =
    marked_below modulus (value_said modulus word) (mark_said words) said
    (value_below modulus word) is

register_below : (modulus : ℕ) (words : List (List ℕ)) (said : Said Reg)
    → register_said modulus words ≡ Some said → IsBelow modulus said
register_below modulus [] said is = absurd cc
register_below modulus (word ∷ words) said is =
    register_by modulus (before_comma word) word words said is

next_field : (modulus : ℕ) (further : Bool) (words : List (List ℕ)) (said : Said Reg)
    → next_said modulus further words ≡ Some said → IsField modulus said.value
unfolding IsBelow
next_field modulus further words said is = by (modulus == 0) further is where
  by : (lacking further : Bool)
      → (if lacking
      then Some (record { value = zero_register; further = further; behind = words })
      else if further then register_said modulus words else None)
      ≡ Some said → IsRegister (not lacking) modulus said.value
  by true further is = cc
  by false true is = register_below modulus words said is
  by false false is = absurd cc

-- registers of these moduli, one after the other
abbrev pub AreOf : List ℕ → List Reg → Type 0
AreOf [] [] = ⊤
AreOf [] (register ∷ registers) = ⊥
AreOf (modulus ∷ moduli) [] = ⊥
AreOf (modulus ∷ moduli) (register ∷ registers) =
    IsField modulus register × AreOf moduli registers

abbrev pub AreOfSome : List ℕ → Option (List Reg) → Type 0
AreOfSome moduli None = ⊤
AreOfSome moduli (Some registers) = AreOf moduli registers

more_of : (modulus : ℕ) (moduli : List ℕ) (register : Reg) (rest : Option (List Reg))
    → IsField modulus register → AreOfSome moduli rest
    → AreOfSome (modulus ∷ moduli) (option_map (λ registers. register ∷ registers) rest)
more_of modulus moduli register None field rest = tt
more_of modulus moduli register (Some registers) field rest = (field, rest)

next_of : (modulus : ℕ) (moduli : List ℕ) (next : Option (Said Reg))
    → ((said : Said Reg) → next ≡ Some said → IsField modulus said.value)
    → ((said : Said Reg) → AreOfSome moduli (registers_said moduli said.further said.behind))
    → AreOfSome (modulus ∷ moduli) (option_and_then
    (λ said. option_map (λ registers. said.value ∷ registers)
    (registers_said moduli said.further said.behind)) next)
next_of modulus moduli None field rest = tt
next_of modulus moduli (Some said) field rest =
    more_of modulus moduli said.value (registers_said moduli said.further said.behind)
    (field said refl) (rest said)

registers_of : (moduli : List ℕ) (further : Bool) (words : List (List ℕ))
    → AreOfSome moduli (registers_said moduli further words)
registers_of [] true words = tt
registers_of [] false [] = tt
registers_of [] false (word ∷ words) = tt
registers_of (modulus ∷ moduli) further words =
    next_of modulus moduli (next_said modulus further words)
    (next_field modulus further words)
    (λ said. registers_of moduli said.further said.behind)

labelled_of : (moduli : List ℕ) (words : List (List ℕ))
    → AreOfSome moduli (labelled_said moduli words)
labelled_of moduli words =
    by (has_register moduli) (words_after (codes "registers") words) where
      by : (has : Bool) (behind : Option (List (List ℕ)))
          → AreOfSome moduli (if has then option_and_then (registers_said moduli true) behind
          else registers_said moduli false words)
      by true None = tt
      by true (Some behind) = registers_of moduli true behind
      by false behind = registers_of moduli false words

-- ---- by place

long_of : (moduli : List ℕ) (registers : List Reg) → AreOf moduli registers
    → length registers ≡ length moduli
long_of [] [] are = refl
long_of [] (register ∷ registers) are = absurd are
long_of (modulus ∷ moduli) [] are = absurd are
long_of (modulus ∷ moduli) (register ∷ registers) are = ap suc (long_of moduli registers are.1)

below_of : (moduli : List ℕ) (registers : List Reg) → AreOf moduli registers
    → AreBelow moduli registers
below_of [] [] are i lt = absurd (omega (arith, lt))
below_of [] (register ∷ registers) are i lt = absurd are
below_of (modulus ∷ moduli) [] are i lt = absurd are
below_of (modulus ∷ moduli) (register ∷ registers) are zero lt = are.0
below_of (modulus ∷ moduli) (register ∷ registers) are (suc i) lt =
    below_of moduli registers are.1 i (omega (arith, lt))

InRangeSome : Fields → Option State → Type 0
InRangeSome fields None = ⊤
InRangeSome fields (Some state) = InRange fields state

numbered_in : (fields : Fields) (x : ℕ) (registers : Option (List Reg)) → x < fields.base
    → AreOfSome fields.moduli registers → InRangeSome fields (with_number x registers)
unfolding InRangeSome
numbered_in fields x None lt are = tt
numbered_in fields x (Some registers) lt are = record {
  depth = long_of fields.moduli registers are;
  x = lt;
  values = below_of fields.moduli registers are;
}

number_in : (fields : Fields) (words : List (List ℕ)) (read : Option ℕ)
    → ((n : ℕ) → read ≡ Some n → n < fields.base)
    → InRangeSome fields (option_and_then (λ x. with_number x (labelled_said fields.moduli words))
    read)
unfolding InRangeSome
number_in fields words None below = tt
number_in fields words (Some x) below =
    numbered_in fields x (labelled_said fields.moduli words) (below x refl)
    (labelled_of fields.moduli words)

after_number : (fields : Fields) (behind : Option (List (List ℕ)))
    → InRangeSome fields (option_and_then (numbered_said fields) behind)
unfolding InRangeSome
after_number fields None = tt
after_number fields (Some []) = tt
after_number fields (Some (word ∷ words)) =
    number_in fields words (number_below fields.base word)
    (λ n. number_by fields.base (number_of word) n)

said_in : (fields : Fields) (words : List (List ℕ)) → IsFields fields
    → InRangeSome fields (state_said fields words)
unfolding InRangeSome
said_in fields words sound =
    by (nat_lt 1 fields.base) where
      by : (b : Bool) → InRangeSome fields
          (if b then option_and_then (numbered_said fields) (words_after (codes "number") words)
          else with_number 0 (labelled_said fields.moduli words))
      by true = after_number fields (words_after (codes "number") words)
      by false =
          numbered_in fields 0 (labelled_said fields.moduli words) (omega (arith, sound.least))
          (labelled_of fields.moduli words)

-- a state that words say is in range
pub state_in_range : (fields : Fields) (words : List (List ℕ)) (state : State) → IsFields fields
    → state_said fields words ≡ Some state → InRange fields state
unfolding InRangeSome
state_in_range fields words state sound is =
    subst (InRangeSome fields) is (said_in fields words sound)
