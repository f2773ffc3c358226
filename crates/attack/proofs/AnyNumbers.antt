-- The words of numbers of any size: they are digits, and are read as these numbers or not at all.
use Rattle.std.proofs.Common.{◌≡◌, ℕ, zero, suc, ◌+◌, ◌/◌, ◌%◌, ◌^◌, ◌<◌, ◌≤◌, Bool, true, false}
use Rattle.std.proofs.Common.{List, [], ◌∷◌, length, map, Option, Some, None, refl, sym, ap, subst}
use Rattle.std.proofs.Common.{◌∙◌, arith, inl, inr}
use Rattle.std.specs.Prelude.{decimal, codes, IfSome, nat_lt, nat_le, ◌==◌, ◌&&◌}
use Rattle.std.specs.Prelude.{if◌then◌else◌}
use Rattle.std.specs.Char.{is_ascii_digit}
use Rattle.std.specs.Fmt.{digits, digit_glyph, digits_onto}
use Rattle.std.specs.List.{list_all, AllByRecursion}
use Rattle.std.specs.Str.{bytes_eq}
use Rattle.std.specs.Str.Parse.{digits_value}
use Rattle.std.proofs.lemmas.Bool.{and_from, cases_lt, false_from_ne_true, lt-leb, lt-ltb, ne_eqb}
use Rattle.std.proofs.lemmas.Bool.{true≢false}
use Rattle.std.proofs.lemmas.Bool.Decides.{nat_tests}
use Rattle.std.proofs.lemmas.Slice.Eq.{bytes_eq-Decides}
use Rattle.texts.specs.Numbers.{number_of}
use Rattle.texts.specs.Shapes.{onto_numbers, all_numbers}
use Rattle.texts.proofs.LineWords.{IsWord, is_solid, all_weaker}
use Rattle.texts.proofs.NumberLines.{number_read}

-- ---- digits

in_range : (d : ℕ) → d < 10 → is_ascii_digit (48 + d) ≡ true
in_range d lt = grind (arith, nat_tests)

glyph_is_digit : (d : ℕ) → d < 10 → is_ascii_digit (digit_glyph false d) ≡ true
glyph_is_digit d lt =
    ap (λ (low : Bool). is_ascii_digit (if low then 48 + d else 87 + d)) (lt-ltb d 10 lt)
    ∙ in_range d lt

either : (P : List ℕ → Type 0) (first : Bool) (xs ys : List ℕ) → P xs → P ys
    → P (if first then xs else ys)
either P true xs ys p q = p
either P false xs ys p q = q

abbrev last_glyph : ℕ → ℕ
last_glyph n = digit_glyph false (n % 10)

onto_digits : (k n : ℕ) (acc : List ℕ) → list_all is_ascii_digit acc ≡ true
    → list_all is_ascii_digit (digits_onto k 10 false n acc) ≡ true
onto_digits zero n acc all = all
onto_digits (suc k) n acc all =
    let more : list_all is_ascii_digit (last_glyph n ∷ acc) ≡ true =
    and_from (is_ascii_digit (last_glyph n)) (list_all is_ascii_digit acc)
    (glyph_is_digit (n % 10) (omega arith)) all in
    either (λ xs. list_all is_ascii_digit xs ≡ true) (n / 10 == 0) (last_glyph n ∷ acc)
    (digits_onto k 10 false (n / 10) (last_glyph n ∷ acc)) more
    (onto_digits k (n / 10) (last_glyph n ∷ acc) more)

pub decimal_digits : (n : ℕ) → list_all is_ascii_digit (decimal n) ≡ true
unfolding digits
decimal_digits n = onto_digits 64 n [] refl

-- ---- how many there are

onto_longer : (k n : ℕ) (acc : List ℕ) → length acc ≤ length (digits_onto k 10 false n acc)
onto_longer zero n acc = omega arith
onto_longer (suc k) n acc =
    either (λ xs. length acc ≤ length xs) (n / 10 == 0) (last_glyph n ∷ acc)
    (digits_onto k 10 false (n / 10) (last_glyph n ∷ acc)) (omega arith)
    (omega (arith, onto_longer k (n / 10) (last_glyph n ∷ acc)))

-- a number has more than so many digits
abbrev HasAbove : (count n : ℕ) → Type 0
HasAbove zero n = 1 ≤ n
HasAbove (suc count) n = HasAbove count (n / 10)

some_has : (count n : ℕ) → HasAbove count n → 1 ≤ n
some_has zero n has = has
some_has (suc count) n has = let more = some_has count (n / 10) has in omega (arith, more)

second : (P : List ℕ → Type 0) (first : Bool) (xs ys : List ℕ) → first ≡ false → P ys
    → P (if first then xs else ys)
second P true xs ys other p = absurd (true≢false other)
second P false xs ys other p = p

onto_long : (count k n : ℕ) (acc : List ℕ) → HasAbove count n → count < k
    → length acc + count + 1 ≤ length (digits_onto k 10 false n acc)
onto_long count zero n acc has lt = absurd (omega arith)
onto_long zero (suc k) n acc has lt =
    either (λ xs. length acc + 0 + 1 ≤ length xs) (n / 10 == 0) (last_glyph n ∷ acc)
    (digits_onto k 10 false (n / 10) (last_glyph n ∷ acc)) (omega arith)
    (omega (arith, onto_longer k (n / 10) (last_glyph n ∷ acc)))
onto_long (suc count) (suc k) n acc has lt =
    let some = some_has count (n / 10) has in
    let more : (n / 10 == 0) ≡ false = ne_eqb (n / 10) 0 (λ none. omega (arith, some)) in
    let longer = onto_long count k (n / 10) (last_glyph n ∷ acc) has (omega arith) in
    second (λ xs. length acc + suc count + 1 ≤ length xs) (n / 10 == 0) (last_glyph n ∷ acc)
    (digits_onto k 10 false (n / 10) (last_glyph n ∷ acc)) more (omega (arith, longer))

large_has : (n : ℕ) → 10 ^ 15 ≤ n → HasAbove 15 n
large_has n large = omega arith

decimal_long : (n : ℕ) → 10 ^ 15 ≤ n → 16 ≤ length (decimal n)
unfolding digits
decimal_long n large = onto_long 15 64 n [] (large_has n large) (omega arith)

-- ---- what is read

none_by : (a b d c : Bool) (value : ℕ) → b ≡ false
    → (if a && b && d && c then Some value else None) ≡ None
none_by false b d c value none = refl
none_by true false d c value none = refl
none_by true true d c value none = absurd (true≢false none)

too_long : (word : List ℕ) → 16 ≤ length word → number_of word ≡ None
too_long word long =
    none_by (nat_lt 0 (length word)) (nat_le (length word) 15) (list_all is_ascii_digit word) _
    (digits_value 10 word) (lt-leb (length word) 15 (omega arith))

-- the word of a number is that number, if it is one
pub number_is : (n : ℕ) → IfSome (number_of (decimal n)) (λ m. m ≡ n)
number_is n = elim (cases_lt n (10 ^ 15)) [
  | inl lt ↦ subst (λ (read : Option ℕ). IfSome read (λ m. m ≡ n)) (sym (number_read n lt)) refl
  | inr le ↦ subst (λ (read : Option ℕ). IfSome read (λ m. m ≡ n))
      (sym (too_long (decimal n) (decimal_long n le))) tt
]

onto_is : (first : Option ℕ) (more : Option (List ℕ)) (n : ℕ) (ns : List ℕ)
    → IfSome first (λ m. m ≡ n) → IfSome more (λ ms. ms ≡ ns)
    → IfSome (onto_numbers first more) (λ ms. ms ≡ n ∷ ns)
onto_is None more n ns one others = tt
onto_is (Some m) None n ns one others = tt
onto_is (Some m) (Some ms) n ns one others = cc

pub numbers_are : (ns : List ℕ) → IfSome (all_numbers (map decimal ns)) (λ ms. ms ≡ ns)
numbers_are [] = refl
numbers_are (n ∷ ns) =
    onto_is (number_of (decimal n)) (all_numbers (map decimal ns)) n ns (number_is n)
    (numbers_are ns)

pub is_not_all : (n : ℕ) → bytes_eq (decimal n) (codes "all") ≡ false
is_not_all n =
    false_from_ne_true (bytes_eq (decimal n) (codes "all")) (λ same.
    let is : decimal n ≡ codes "all" = (bytes_eq-Decides (decimal n) (codes "all")).0 same in
    let none : list_all is_ascii_digit (decimal n) ≡ false = ap (list_all is_ascii_digit) is in
    true≢false (sym (decimal_digits n) ∙ none))

-- ---- the word ends no line and no word

solid_digit : (c : ℕ) → is_ascii_digit c ≡ true → is_solid c ≡ true
unfolding is_solid
solid_digit c h = grind (arith, nat_tests)

pub number_solid : (n : ℕ) → IsWord (decimal n)
number_solid n = all_weaker is_ascii_digit is_solid solid_digit (decimal n) (decimal_digits n)

pub numbers_solid : (ns : List ℕ) → AllByRecursion IsWord (map decimal ns)
numbers_solid [] = tt
numbers_solid (n ∷ ns) = (number_solid n, numbers_solid ns)
