-- The lines of a state as words.
use Rattle.std.proofs.Common.{◌≡◌, ℕ, ◌<◌, ◌^◌, Bool, true, false, List, [], ◌∷◌, ◌++◌}
use Rattle.std.proofs.Common.{Option, Some, None, refl, sym, ap, ◌∙◌, append_assoc, decimal}
use Rattle.std.specs.Prelude.{codes, nat_lt, if◌then◌else◌, IfSome}
use Rattle.std.specs.List.{flat_map, AllByRecursion}
use Rattle.std.proofs.lemmas.Bool.{and_from}
use Rattle.std.proofs.lemmas.List.{append-nil}
use Rattle.std.proofs.lemmas.List.Concat.{flat_map-append}
use Rattle.std.proofs.lemmas.List.Folds.{list_all-append}
use Rattle.sync_types.specs.States.{State}
use Rattle.sync_types.specs.declared.states.Reg.{Reg}
use Rattle.state_codec.specs.Shapes.{Fields}
use Rattle.state_codec.specs.Texts.{written_text}
use Rattle.texts.specs.Words.{joined}
use Rattle.texts.proofs.LineWords.{is_solid, IsWord, decimal_word}
use Rattle.states.specs.StateTexts.{value_text, mark_text, register_text, registers_text, had}
use Rattle.states.specs.StateTexts.{number_text, worded, in_digits}
use Rattle.states.proofs.WrittenRegisters.{comma, mark_words, register_words, some}
use Rattle.states.proofs.WrittenRegisters.{registers_words}

-- a word with a space before it
abbrev pub spaced : List ℕ → List ℕ
spaced word = 32 ∷ word

-- words, each with a space before it
abbrev pub all_spaced : List (List ℕ) → List ℕ
all_spaced words = flat_map spaced words

pub joined_is : (word : List ℕ) (words : List (List ℕ))
    → joined (word ∷ words) ≡ word ++ all_spaced words
joined_is word [] = sym (append-nil word)
joined_is word (next ∷ words) = ap (λ line. word ++ 32 ∷ line) (joined_is next words)

-- ---- registers

-- what stands after a register: a comma if another one follows
abbrev pub comma_text : Bool → List ℕ
comma_text true = codes ","
comma_text false = []

register_spaced : (further : Bool) (register : Reg)
    → all_spaced (register_words further register)
    ≡ register_text register ++ comma_text further
register_spaced further register = by register.d further where
  by : (marked further : Bool)
      → all_spaced (mark_words marked further (value_text register.a))
      ≡ (codes " " ++ value_text register.a ++ mark_text marked) ++ comma_text further
  by false true = ap (λ w. 32 ∷ w) (append-nil _ ∙ ap (λ w. w ++ 44 ∷ []) (sym (append-nil _)))
  by false false = ap (λ w. 32 ∷ w) (sym (append-nil _))
  by true true = ap (λ w. 32 ∷ w) (sym (append_assoc (value_text register.a) _ _))
  by true false = ap (λ w. 32 ∷ w) (sym (append_assoc (value_text register.a) _ _))

pub registers_spaced : (register : Reg) (registers : List Reg)
    → all_spaced (registers_words (register ∷ registers))
    ≡ register_text register ++ registers_text (codes ",") registers
registers_spaced register [] =
    flat_map-append spaced (register_words false register) []
    ∙ ap (λ text. text ++ []) (register_spaced false register)
    ∙ append-nil (register_text register ++ [])
registers_spaced register (next ∷ registers) =
    flat_map-append spaced (register_words true register) (registers_words (next ∷ registers))
    ∙ ap (λ text. text ++ all_spaced (registers_words (next ∷ registers)))
    (register_spaced true register)
    ∙ ap (λ text. register_text register ++ codes "," ++ text) (registers_spaced next registers)
    ∙ append_assoc (register_text register) (codes ",") _

-- ---- a state

abbrev pub number_words : (base x : ℕ) → List (List ℕ)
number_words base x = if nat_lt 1 base then codes "number" ∷ decimal x ∷ [] else []

abbrev pub labelled_words : List Reg → List (List ℕ)
labelled_words [] = []
labelled_words (register ∷ registers) =
    codes "registers" ∷ registers_words (register ∷ registers)

-- the words of a state
abbrev pub state_words : Fields → State → List (List ℕ)
state_words fields state =
    number_words fields.base state.x ++ labelled_words (had fields.moduli state.registers)

labelled_spaced : (registers : List Reg)
    → all_spaced (labelled_words registers) ≡ registers_text (codes " registers") registers
labelled_spaced [] = refl
labelled_spaced (register ∷ registers) =
    ap (λ text. codes " registers" ++ text) (registers_spaced register registers)

number_spaced : (base x : ℕ) → all_spaced (number_words base x) ≡ number_text base x
number_spaced base x = by (nat_lt 1 base) where
  by : (b : Bool)
      → all_spaced (if b then codes "number" ∷ decimal x ∷ [] else [])
      ≡ (if b then codes " number " ++ decimal x else [])
  by true = ap (λ text. codes " number " ++ text) (append-nil (decimal x))
  by false = refl

-- the line of a state in words, as words
pub worded_is : (fields : Fields) (v : ℕ) (state : State)
    → worded fields v state ≡ joined (codes "node" ∷ decimal v ∷ state_words fields state)
worded_is fields v state =
    let base = fields.base in
    let registers = had fields.moduli state.registers in
    let words = number_words base state.x ++ labelled_words registers in
    let rest : number_text base state.x ++ (registers_text (codes " registers") registers ++ [])
    ≡ all_spaced words =
    ap (λ text. number_text base state.x ++ text) (append-nil _)
    ∙ sym (flat_map-append spaced (number_words base state.x) (labelled_words registers)
    ∙ ap (λ text. text ++ all_spaced (labelled_words registers)) (number_spaced base state.x)
    ∙ ap (λ text. number_text base state.x ++ text) (labelled_spaced registers)) in
    ap (λ text. codes "node " ++ text)
    (ap (λ text. decimal v ++ text) rest ∙ sym (joined_is (decimal v) words))

-- the line in digits
pub in_digits_is : (fields : Fields) (v : ℕ) (state : State)
    → in_digits fields v state
    ≡ joined (codes "node" ∷ decimal v ∷ written_text fields state ∷ [])
in_digits_is fields v state =
    ap (λ text. codes "node " ++ (decimal v ++ 32 ∷ text)) (append-nil (written_text fields state))

-- ---- that these are words

comma_solid : (further : Bool) (word : List ℕ) → IsWord word → IsWord (comma further word)
unfolding is_solid
comma_solid true word solid = list_all-append is_solid word (44 ∷ []) ∙ and_from _ _ solid refl
comma_solid false word solid = solid

-- the words that are no numbers
infinite_is_word : IsWord (codes "infinite")
unfolding is_solid
infinite_is_word = refl

marked_is_word : IsWord (codes "marked")
unfolding is_solid
marked_is_word = refl

registers_is_word : IsWord (codes "registers")
unfolding is_solid
registers_is_word = refl

number_is_word : IsWord (codes "number")
unfolding is_solid
number_is_word = refl

value_solid : (a : Option ℕ) → IfSome a (λ n. n < 10 ^ 15) → IsWord (value_text a)
value_solid None small = infinite_is_word
value_solid (Some n) small = decimal_word n small

abbrev pub AreWords : List (List ℕ) → Type 0
AreWords words = AllByRecursion IsWord words

both : (words more : List (List ℕ)) → AreWords words → AreWords more → AreWords (words ++ more)
both [] more first second = second
both (word ∷ words) more first second = (first.0, both words more first.1 second)

register_solid : (further : Bool) (register : Reg) → IfSome register.a (λ n. n < 10 ^ 15)
    → AreWords (register_words further register)
register_solid further register small = by register.d where
  by : (marked : Bool) → AreWords (mark_words marked further (value_text register.a))
  by true =
      (value_solid register.a small, (comma_solid further (codes "marked") marked_is_word, tt))
  by false =
      (comma_solid further (value_text register.a) (value_solid register.a small), tt)

-- each value is small
abbrev pub AreSmall : List Reg → Type 0
AreSmall registers = AllByRecursion (λ register. IfSome register.a (λ n. n < 10 ^ 15)) registers

registers_solid : (registers : List Reg) → AreSmall registers
    → AreWords (registers_words registers)
registers_solid [] small = tt
registers_solid (register ∷ registers) small =
    both (register_words (some registers) register) (registers_words registers)
    (register_solid (some registers) register small.0) (registers_solid registers small.1)

labelled_solid : (registers : List Reg) → AreSmall registers
    → AreWords (labelled_words registers)
labelled_solid [] small = tt
labelled_solid (register ∷ registers) small =
    (registers_is_word, registers_solid (register ∷ registers) small)

number_solid : (base x : ℕ) → x < 10 ^ 15 → AreWords (number_words base x)
number_solid base x small = by (nat_lt 1 base) where
  by : (b : Bool) → AreWords (if b then codes "number" ∷ decimal x ∷ [] else [])
  by true = (number_is_word, (decimal_word x small, tt))
  by false = tt

pub state_solid : (fields : Fields) (state : State) → state.x < 10 ^ 15
    → AreSmall (had fields.moduli state.registers) → AreWords (state_words fields state)
state_solid fields state x small =
    both (number_words fields.base state.x)
    (labelled_words (had fields.moduli state.registers))
    (number_solid fields.base state.x x)
    (labelled_solid (had fields.moduli state.registers) small)
