-- Each line of a state is turned into the other one.
use Rattle.std.proofs.Common.{◌≡◌, ℕ, suc, ◌<◌, ◌≤◌, ◌^◌, Bool, true, false, List, []}
use Rattle.std.proofs.Common.{◌∷◌, ◌++◌, length, Option, Some, None, refl, ap, subst, ◌∙◌}
use Rattle.std.proofs.Common.{arith, decimal, Ok}
use Rattle.std.specs.Prelude.{codes, nat_lt, ◌||◌, if◌then◌else◌, All, IfSome, not, ◌==◌}
use Rattle.std.specs.List.{list_all}
use Rattle.std.specs.Str.{bytes_eq}
use Rattle.std.proofs.lemmas.Bool.{and_parts, lt-ltb}
use Rattle.std.proofs.lemmas.Bool.Decides.{nat_tests}
use Rattle.std.proofs.lemmas.List.Elements.{All-head, All-tail}
use Rattle.std.proofs.lemmas.Slice.Eq.{bytes_eq-Decides}
use Rattle.construction.specs.Runs.{IsRegister}
use Rattle.sync_types.specs.States.{State}
use Rattle.sync_types.specs.declared.states.Reg.{Reg}
use Rattle.state_codec.specs.Shapes.{Fields, IsFields, Shape, shape_nodes, fields_at}
use Rattle.state_codec.specs.Ranges.{AreBelow, InRange}
use Rattle.state_codec.specs.Texts.{is_lower_digit, written_text}
use Rattle.state_codec.proofs.Lows.{fields_limited}
use Rattle.state_codec.proofs.Digits.{text_is_taken, text_reads_back}
use Rattle.texts.specs.Words.{joined}
use Rattle.texts.proofs.LineWords.{all_weaker, is_solid, IsWord, words_there, decimal_word}
use Rattle.texts.proofs.LineWords.{number_there}
use Rattle.states.specs.Laws.{HasField, TurnsBoth, EachIsTurned}
use Rattle.states.specs.StateTexts.{had, worded, in_digits}
use Rattle.states.specs.StateWords.{has_register, state_said}
use Rattle.states.specs.Turned.{said_turned, rest_turned, named_turned}
use Rattle.states.specs.Turned.{words_turned, line_turned}
use Rattle.states.proofs.SaidStates.{state_back}
use Rattle.states.proofs.StateLines.{AreSmall, AreWords, labelled_words, state_words, state_solid}
use Rattle.states.proofs.StateLines.{worded_is, in_digits_is}
use Rattle.states.proofs.WrittenRegisters.{AreFields, some, has_some}

-- ---- fields by place, one after the other

pub are_fields : (moduli : List ℕ) (registers : List Reg) → length registers ≡ length moduli
    → All (λ modulus. modulus ≤ 2 ^ 40) moduli → AreBelow moduli registers
    → AreFields moduli registers
are_fields [] [] long most below = tt
are_fields [] (register ∷ registers) long most below = absurd (omega (arith, long))
are_fields (modulus ∷ moduli) [] long most below = absurd (omega (arith, long))
are_fields (modulus ∷ moduli) (register ∷ registers) long most below = (
  (All-head (λ m. m ≤ 2 ^ 40) modulus moduli most, below 0 (omega arith)),
  are_fields moduli registers (omega (arith, long))
      (All-tail (λ m. m ≤ 2 ^ 40) modulus moduli most) (λ i lt. below (suc i) (omega (arith, lt))),
)

small_by : (lacking : Bool) (modulus : ℕ) (register : Reg) → modulus ≤ 2 ^ 40
    → IsRegister (not lacking) modulus register → lacking ≡ false
    → IfSome register.a (λ n. n < 10 ^ 15)
small_by true modulus register most field lacks = absurd cc
small_by false modulus register most field lacks = by register.a field where
  by : (a : Option ℕ) → IfSome a (λ n. n < modulus) → IfSome a (λ n. n < 10 ^ 15)
  by None range = tt
  by (Some n) range = omega (arith, most, range)

had_small : (moduli : List ℕ) (registers : List Reg) → AreFields moduli registers
    → AreSmall (had moduli registers)
had_small [] [] fields = tt
had_small [] (register ∷ registers) fields = absurd fields
had_small (modulus ∷ moduli) [] fields = absurd fields
had_small (modulus ∷ moduli) (register ∷ registers) fields =
    by (modulus == 0) refl (had_small moduli registers fields.1) where
      by : (lacking : Bool) → (modulus == 0) ≡ lacking → AreSmall (had moduli registers)
          → AreSmall (if lacking then had moduli registers else register ∷ had moduli registers)
      by true is rest = rest
      by false is rest =
          (small_by (modulus == 0) modulus register fields.0.0 fields.0.1 is, rest)

-- ---- the words of lines

-- no digit begins another word
digits_no_key : (word key : List ℕ) → list_all is_lower_digit word ≡ true
    → list_all is_lower_digit key ≡ false → bytes_eq word key ≡ false
digits_no_key word key lower other = by (bytes_eq word key) refl where
  by : (b : Bool) → bytes_eq word key ≡ b → b ≡ false
  by false is = refl
  by true is =
      let same = (bytes_eq-Decides word key).0 is in
      absurd (cc (subst (λ w. list_all is_lower_digit w ≡ true) same lower, other))

node_is_word : IsWord (codes "node")
unfolding is_solid
node_is_word = refl

lower_solid : (b : ℕ) → is_lower_digit b ≡ true → is_solid b ≡ true
unfolding is_solid
lower_solid b h = grind (arith, nat_tests)

module _ (shape : Shape) (v : ℕ) (state : State) (sound : IsFields (fields_at shape v))
    (few : shape_nodes shape ≤ 256) (lt : v < shape_nodes shape)
    (range : InRange (fields_at shape v) state) where
  fields : Fields
  fields = fields_at shape v

  are : AreFields (fields_at shape v).moduli state.registers
  are = are_fields (fields_at shape v).moduli state.registers range.depth sound.moduli
      range.values

  -- a line of node v whose further words are these
  turned_rest : (words : List (List ℕ)) → AreWords words
      → line_turned shape (joined (codes "node" ∷ decimal v ∷ words))
      ≡ rest_turned (fields_at shape v) v words
  turned_rest words solid =
      let id : v < 10 ^ 15 = omega (arith, few, lt) in
      ap (words_turned shape)
      (words_there (codes "node") (decimal v ∷ words) (node_is_word, (decimal_word v id, solid)))
      ∙ ap (λ id. named_turned shape id words) (number_there v id)
      ∙ rw (lt-ltb v (shape_nodes shape) lt) refl

  digits : List ℕ
  digits = written_text (fields_at shape v) state

  lower : list_all is_lower_digit (written_text (fields_at shape v) state) ≡ true
  lower = (and_parts _ _ (text_is_taken (fields_at shape v) state)).1

  from_digits : line_turned shape (in_digits (fields_at shape v) v state)
      ≡ Ok (worded (fields_at shape v) v state)
  from_digits =
      ap (line_turned shape) (in_digits_is (fields_at shape v) v state)
      ∙ turned_rest (written_text (fields_at shape v) state ∷ [])
      (all_weaker is_lower_digit is_solid lower_solid _ lower, tt)
      ∙ rw (
        digits_no_key _ (codes "number") lower refl,
        digits_no_key _ (codes "registers") lower refl,
        text_is_taken (fields_at shape v) state,
        text_reads_back (fields_at shape v) state sound range,
      ) refl

  -- the first word of a state in words begins one
  worded_rest : HasField (fields_at shape v)
      → rest_turned (fields_at shape v) v (state_words (fields_at shape v) state)
      ≡ said_turned (fields_at shape v) v
      (state_said (fields_at shape v) (state_words (fields_at shape v) state))
  worded_rest has =
      by (nat_lt 1 (fields_at shape v).base) (had (fields_at shape v).moduli state.registers)
      (has_some (fields_at shape v).moduli state.registers are) has where
        by : (numbered : Bool) (held : List Reg)
            → some held ≡ has_register (fields_at shape v).moduli
            → (numbered || has_register (fields_at shape v).moduli) ≡ true
            → let words = (if numbered then codes "number" ∷ decimal state.x ∷ [] else [])
            ++ labelled_words held in
            rest_turned (fields_at shape v) v words
            ≡ said_turned (fields_at shape v) v (state_said (fields_at shape v) words)
        by true held is has = refl
        by false [] is has = absurd (cc (is, has))
        by false (register ∷ held) is has = refl

  from_words : HasField (fields_at shape v)
      → line_turned shape (worded (fields_at shape v) v state)
      ≡ Ok (in_digits (fields_at shape v) v state)
  from_words has =
      ap (line_turned shape) (worded_is (fields_at shape v) v state)
      ∙ turned_rest (state_words (fields_at shape v) state)
      (state_solid (fields_at shape v) state (omega (arith, range.x, sound.most))
      (had_small (fields_at shape v).moduli state.registers are))
      ∙ worded_rest has
      ∙ ap (said_turned (fields_at shape v) v)
      (state_back (fields_at shape v) state sound.most range.x are)

  both : TurnsBoth shape v state
  both = record { from_digits = from_digits; from_words = from_words }

pub each_is_turned : EachIsTurned
each_is_turned shape v state is_shape few lt range =
    both shape v state (fields_limited shape v is_shape) few lt range
