-- Lines of a key and numbers that were printed: the numbers are read back.
use Rattle.std.proofs.Common.{◌≡◌, ℕ, zero, suc, ◌+◌, ◌*◌, ◌^◌, ◌<◌, ◌≤◌, Bool, true, false, List}
use Rattle.std.proofs.Common.{[], ◌∷◌, length, map, All, Option, Some, None, refl, ap, ◌∙◌, arith}
use Rattle.std.specs.Prelude.{decimal, IfSome, if◌then◌else◌}
use Rattle.std.specs.List.{AllByRecursion}
use Rattle.std.specs.Str.{bytes_eq}
use Rattle.std.proofs.lemmas.List.Elements.{All-head, All-tail}
use Rattle.std.proofs.lemmas.Fmt.{length-decimal-le}
use Rattle.std.proofs.lemmas.Slice.Eq.{bytes_eq-Decides}
use Rattle.texts.specs.Lines.{words_of}
use Rattle.texts.specs.Numbers.{number_of}
use Rattle.texts.specs.Shapes.{onto_numbers, numbers_of, numbers_after, all_numbers}
use Rattle.texts.specs.Shapes.{all_numbers_after}
use Rattle.texts.proofs.LineWords.{read_is_small}
use Rattle.texts.proofs.NumberWords.{printed_is_read}
use Rattle.texts.proofs.Printed.{joined, IsPlain, ArePlain, spaced_length, decimal_is_plain}
use Rattle.texts.proofs.Printed.{words_joined}

-- a number of at most 15 digits may be printed, and is read
pub number_plain : (n : ℕ) → n < 10 ^ 15 → IsPlain (decimal n)
number_plain n lt = decimal_is_plain n (omega arith)

pub number_short : (n : ℕ) → n < 10 ^ 15 → length (decimal n) ≤ 15
number_short n lt = length-decimal-le 15 n (omega arith) lt (omega arith)

pub number_read : (n : ℕ) → n < 10 ^ 15 → number_of (decimal n) ≡ Some n
number_read n lt = printed_is_read n lt

-- numbers of at most 15 digits
abbrev pub IsShort : ℕ → Type 0
IsShort n = n < 10 ^ 15

abbrev pub AreShort : List ℕ → Type 0
AreShort = AllByRecursion IsShort

pub are_short : (ns : List ℕ) → All IsShort ns → AreShort ns
are_short [] short = tt
are_short (n ∷ ns) short =
    (All-head IsShort n ns short, are_short ns (All-tail IsShort n ns short))

pub numbers_plain : (ns : List ℕ) → AreShort ns → ArePlain (map decimal ns)
numbers_plain [] short = tt
numbers_plain (n ∷ ns) short = (number_plain n short.0, numbers_plain ns short.1)

pub numbers_short : (ns : List ℕ) → AreShort ns → spaced_length (map decimal ns) ≤ 16 * length ns
numbers_short [] short = omega arith
numbers_short (n ∷ ns) short =
    omega (arith, number_short n short.0, numbers_short ns short.1)

pub numbers_read : (ns : List ℕ) → AreShort ns → numbers_of (length ns) (map decimal ns) ≡ Some ns
numbers_read [] short = refl
numbers_read (n ∷ ns) short = rw (number_read n short.0, numbers_read ns short.1) refl

pub all_read : (ns : List ℕ) → AreShort ns → all_numbers (map decimal ns) ≡ Some ns
all_read [] short = refl
all_read (n ∷ ns) short = rw (number_read n short.0, all_read ns short.1) refl

-- ---- numbers that are read have at most 15 digits

word_short : (word : List ℕ) → IfSome (number_of word) IsShort
word_short word = by (number_of word) refl where
  by : (read : Option ℕ) → number_of word ≡ read → IfSome read IsShort
  by None is = tt
  by (Some n) is = read_is_small word n is

onto_short : (n : Option ℕ) (ns : Option (List ℕ)) → IfSome n IsShort → IfSome ns AreShort
    → IfSome (onto_numbers n ns) AreShort
onto_short None ns short more = tt
onto_short (Some n) None short more = tt
onto_short (Some n) (Some ns) short more = (short, more)

words_short : (count : ℕ) (words : List (List ℕ)) → IfSome (numbers_of count words) AreShort
words_short zero [] = tt
words_short zero (word ∷ words) = tt
words_short (suc count) [] = tt
words_short (suc count) (word ∷ words) =
    onto_short (number_of word) (numbers_of count words) (word_short word)
    (words_short count words)

behind_key : (here : Bool) (numbers : Option (List ℕ)) → IfSome numbers AreShort
    → IfSome (if here then numbers else None) AreShort
behind_key true numbers short = short
behind_key false numbers short = tt

pub read_are_short : (key : List ℕ) (count : ℕ) (words : List (List ℕ))
    → IfSome (numbers_after key count words) AreShort
read_are_short key count [] = tt
read_are_short key count (word ∷ words) =
    behind_key (bytes_eq word key) (numbers_of count words) (words_short count words)

-- ---- a line of a key and such numbers

module _ (key : List ℕ) (key_plain : IsPlain key) (ns : List ℕ) (short : AreShort ns) where
  same_key : bytes_eq key key ≡ true
  same_key = (bytes_eq-Decides key key).1 refl

  pub line_plain : ArePlain (key ∷ map decimal ns)
  line_plain = (key_plain, numbers_plain ns short)

  pub numbers_back : numbers_after key (length ns) (words_of (joined (key ∷ map decimal ns)))
      ≡ Some ns
  numbers_back =
      ap (numbers_after key (length ns)) (words_joined key (map decimal ns) line_plain)
      ∙ rw same_key (numbers_read ns short)

  pub all_numbers_back : all_numbers_after key (words_of (joined (key ∷ map decimal ns))) ≡ Some ns
  all_numbers_back =
      ap (all_numbers_after key) (words_joined key (map decimal ns) line_plain)
      ∙ rw same_key (all_read ns short)
