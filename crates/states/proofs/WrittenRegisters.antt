-- The words of registers, which are read back as these.
use Rattle.std.proofs.Common.{◌≡◌, ℕ, ◌<◌, ◌≤◌, ◌^◌, Bool, true, false, List, []}
use Rattle.std.proofs.Common.{◌∷◌, ◌++◌, Option, Some, None, refl, sym, ap, subst, ◌∙◌}
use Rattle.std.proofs.Common.{arith, decimal}
use Rattle.std.specs.Prelude.{codes, not, ◌==◌, ◌||◌, nat_lt, if◌then◌else◌, option_map}
use Rattle.std.specs.Prelude.{option_and_then, IfSome, ⊤}
use Rattle.std.specs.List.{list_all}
use Rattle.std.specs.Char.{is_ascii_digit}
use Rattle.std.specs.Str.{bytes_eq}
use Rattle.std.proofs.lemmas.Bool.{lt-ltb}
use Rattle.std.proofs.lemmas.Bool.Decides.{nat_tests}
use Rattle.std.proofs.lemmas.Fmt.{digits_decimal}
use Rattle.std.proofs.lemmas.Slice.Eq.{bytes_eq-Decides}
use Rattle.sync_types.specs.States.{zero_register}
use Rattle.sync_types.specs.declared.states.Reg.{Reg}
use Rattle.construction.specs.Runs.{IsRegister}
use Rattle.state_codec.specs.Ranges.{IsField}
use Rattle.texts.proofs.Numbers.{own}
use Rattle.texts.proofs.LineWords.{all_weaker, number_there}
use Rattle.states.specs.StateTexts.{value_text, had}
use Rattle.states.specs.StateWords.{Said, number_below, value_said, before_comma, mark_said}
use Rattle.states.specs.StateWords.{register_said, registers_said, has_register}
use Rattle.states.specs.StateWords.{register_from, parted, with_mark}
use Rattle.states.proofs.Commas.{with_comma, no_comma, is_no_comma}

-- ---- values

digit_no_comma : (b : ℕ) → is_ascii_digit b ≡ true → is_no_comma b ≡ true
digit_no_comma b h = grind (arith, nat_tests)

value_no_comma : (a : Option ℕ) → IfSome a (λ n. n < 10 ^ 15)
    → list_all is_no_comma (value_text a) ≡ true
value_no_comma None small = refl
value_no_comma (Some n) small =
    all_weaker is_ascii_digit is_no_comma digit_no_comma (decimal n)
    (digits_decimal own n (omega (arith, small)))

-- the word of a number is not the word `infinite`
digits_are_finite : (word : List ℕ) → list_all is_ascii_digit word ≡ true
    → bytes_eq word (codes "infinite") ≡ false
digits_are_finite word digits = by (bytes_eq word (codes "infinite")) refl where
  by : (b : Bool) → bytes_eq word (codes "infinite") ≡ b → b ≡ false
  by false is = refl
  by true is =
      let same = (bytes_eq-Decides word (codes "infinite")).0 is in
      absurd (cc (subst (λ w. list_all is_ascii_digit w ≡ true) same digits))

pub number_is_below : (modulus n : ℕ) → modulus ≤ 2 ^ 40 → n < modulus
    → number_below modulus (decimal n) ≡ Some n
number_is_below modulus n most lt =
    ap (option_and_then (λ n. if nat_lt n modulus then Some n else None))
    (number_there n (omega (arith, most, lt)))
    ∙ rw (lt-ltb n modulus lt) refl

value_back : (modulus : ℕ) (a : Option ℕ) → modulus ≤ 2 ^ 40 → IfSome a (λ n. n < modulus)
    → value_said modulus (value_text a) ≡ Some a
value_back modulus None most range = refl
value_back modulus (Some n) most range =
    rw (
      digits_are_finite (decimal n) (digits_decimal own n (omega (arith, most, range))),
      number_is_below modulus n most range,
    ) refl

value_small : (modulus : ℕ) (a : Option ℕ) → modulus ≤ 2 ^ 40 → IfSome a (λ n. n < modulus)
    → IfSome a (λ n. n < 10 ^ 15)
value_small modulus None most range = tt
value_small modulus (Some n) most range = omega (arith, most, range)

-- ---- a register

-- a word, with a comma if another register follows
abbrev pub comma : (further : Bool) → List ℕ → List ℕ
comma true word = word ++ 44 ∷ []
comma false word = word

abbrev pub mark_words : (marked further : Bool) → List ℕ → List (List ℕ)
mark_words true further word = word ∷ comma further (codes "marked") ∷ []
mark_words false further word = comma further word ∷ []

abbrev pub register_words : (further : Bool) → Reg → List (List ℕ)
register_words further register = mark_words register.d further (value_text register.a)

-- what the words of a register say, if others follow, or nothing does
abbrev pub Follows : (further : Bool) → List (List ℕ) → Type 0
Follows true words = ⊤
Follows false words = words ≡ []

module _ (modulus : ℕ) (a : Option ℕ) (most : modulus ≤ 2 ^ 40)
    (range : IfSome a (λ n. n < modulus)) where
  no_comma_here : before_comma (value_text a) ≡ None
  no_comma_here =
      no_comma (value_text a) (value_no_comma a (value_small modulus a most range))

  register_back_by : (marked further : Bool) (words : List (List ℕ)) → Follows further words
      → register_said modulus (mark_words marked further (value_text a) ++ words)
      ≡ Some (record { value = record { a = a; d = marked }; further = further; behind = words })
  register_back_by false true words follows =
      ap (λ front. register_from modulus front (value_text a ++ 44 ∷ []) words)
      (with_comma (value_text a))
      ∙ ap (option_map (λ a. parted a words)) (value_back modulus a most range)
  register_back_by false false words follows =
      ap (λ front. register_from modulus front (value_text a) words) no_comma_here
      ∙ ap (option_and_then (λ a. with_mark a (mark_said words)))
      (value_back modulus a most range)
      ∙ rw follows refl
  register_back_by true true words follows =
      ap (λ front. register_from modulus front (value_text a) (codes "marked," ∷ words))
      no_comma_here
      ∙ ap (option_and_then (λ a. with_mark a (mark_said (codes "marked," ∷ words))))
      (value_back modulus a most range)
  register_back_by true false words follows =
      ap (λ front. register_from modulus front (value_text a) (codes "marked" ∷ words))
      no_comma_here
      ∙ ap (option_and_then (λ a. with_mark a (mark_said (codes "marked" ∷ words))))
      (value_back modulus a most range)

pub register_back : (modulus : ℕ) (register : Reg) (further : Bool) (words : List (List ℕ))
    → modulus ≤ 2 ^ 40 → IfSome register.a (λ n. n < modulus) → Follows further words
    → register_said modulus (register_words further register ++ words)
    ≡ Some (record { value = register; further = further; behind = words })
register_back modulus register further words most range follows =
    register_back_by modulus register.a most range register.d further words follows

-- ---- the registers of a node

abbrev pub some : List Reg → Bool
some [] = false
some (register ∷ registers) = true

abbrev pub registers_words : List Reg → List (List ℕ)
registers_words [] = []
registers_words (register ∷ registers) =
    register_words (some registers) register ++ registers_words registers

-- each modulus is within the limit, and each register is one of its modulus
abbrev pub AreFields : List ℕ → List Reg → Type 0
AreFields [] [] = ⊤
AreFields [] (register ∷ registers) = ⊥
AreFields (modulus ∷ moduli) [] = ⊥
AreFields (modulus ∷ moduli) (register ∷ registers) =
    ((modulus ≤ 2 ^ 40) × IsField modulus register) × AreFields moduli registers

follows_rest : (registers : List Reg) → Follows (some registers) (registers_words registers)
follows_rest [] = refl
follows_rest (register ∷ registers) = tt

abbrev pub IsBack : List ℕ → List Reg → Type 0
IsBack moduli registers =
    registers_said moduli (some (had moduli registers)) (registers_words (had moduli registers))
    ≡ Some registers

-- registers after one of this modulus
abbrev rest_said : List ℕ → Option (Said Reg) → Option (List Reg)
rest_said moduli next =
    option_and_then
    (λ said. option_map (λ registers. said.value ∷ registers)
    (registers_said moduli said.further said.behind)) next

one_back : (modulus : ℕ) (moduli : List ℕ) (register : Reg) (registers : List Reg)
    → modulus ≤ 2 ^ 40 → (lacking : Bool) → (modulus == 0) ≡ lacking
    → IsRegister (not lacking) modulus register → IsBack moduli registers
    → let held = (if lacking then had moduli registers else register ∷ had moduli registers) in
    rest_said moduli
    (if lacking
    then Some (record {
      value = zero_register;
      further = some held;
      behind = registers_words held;
    })
    else if some held then register_said modulus (registers_words held) else None)
    ≡ Some (register ∷ registers)
one_back modulus moduli register registers most true lacks field back =
    ap (option_map (λ registers. zero_register ∷ registers)) back
    ∙ ap (λ first. Some (first ∷ registers)) (sym field)
one_back modulus moduli register registers most false lacks field back =
    let rest = had moduli registers in
    ap (rest_said moduli)
    (register_back modulus register (some rest) (registers_words rest) most field
    (follows_rest rest))
    ∙ ap (option_map (λ registers. register ∷ registers)) back

pub registers_back : (moduli : List ℕ) (registers : List Reg) → AreFields moduli registers
    → IsBack moduli registers
registers_back [] [] fields = refl
registers_back [] (register ∷ registers) fields = absurd fields
registers_back (modulus ∷ moduli) [] fields = absurd fields
registers_back (modulus ∷ moduli) (register ∷ registers) fields =
    one_back modulus moduli register registers fields.0.0 (modulus == 0) refl fields.0.1
    (registers_back moduli registers fields.1)

-- a node has a register just if its state has one that has words
pub has_some : (moduli : List ℕ) (registers : List Reg) → AreFields moduli registers
    → some (had moduli registers) ≡ has_register moduli
has_some [] [] fields = refl
has_some [] (register ∷ registers) fields = absurd fields
has_some (modulus ∷ moduli) [] fields = absurd fields
has_some (modulus ∷ moduli) (register ∷ registers) fields =
    by (modulus == 0) (has_some moduli registers fields.1) where
      by : (lacking : Bool) → some (had moduli registers) ≡ has_register moduli
          → some (if lacking then had moduli registers else register ∷ had moduli registers)
          ≡ (not lacking || has_register moduli)
      by true rest = rest
      by false rest = refl
