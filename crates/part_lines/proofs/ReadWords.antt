-- The words of a line whose numbers were read.
use Rattle.std.proofs.Common.{◌≡◌, ℕ, zero, suc, Bool, true, false, List, [], ◌∷◌, ◌++◌, map}
use Rattle.std.proofs.Common.{Option}
use Rattle.std.proofs.Common.{Some, None, Result, Ok, Err, decimal, refl, sym, ap, ◌∙◌}
use Rattle.std.specs.Prelude.{IfSome, IfOk, if◌then◌else◌}
use Rattle.std.specs.Str.{bytes_eq}
use Rattle.std.proofs.lemmas.List.{append-nil}
use Rattle.std.proofs.lemmas.Grind.{flat_map-append}
use Rattle.std.proofs.lemmas.Slice.Eq.{bytes_eq-Decides}
use Rattle.texts.specs.Lines.{words_of}
use Rattle.texts.specs.Numbers.{number_of}
use Rattle.texts.specs.Parts.{Found, At}
use Rattle.texts.specs.Shapes.{onto_numbers, numbers_of, numbers_after, all_numbers}
use Rattle.texts.specs.Shapes.{all_numbers_after}
use Rattle.part_lines.specs.TakenLines.{Took}
use Rattle.texts.specs.Words.{joined, ended, text_of}
use Rattle.texts.proofs.LineWords.{words_back}
use Rattle.texts.proofs.NumberWords.{read_is_printed}

-- equal bytes
pub same_bytes : (xs ys : List ℕ) → bytes_eq xs ys ≡ true → xs ≡ ys
same_bytes xs ys e = (bytes_eq-Decides xs ys).0 e

-- a number that is read has its word
pub word_is : (word : List ℕ) → IfSome (number_of word) (λ n. word ≡ decimal n)
word_is word = by (number_of word) refl where
  by : (read : Option ℕ) → number_of word ≡ read → IfSome read (λ n. word ≡ decimal n)
  by None is = tt
  by (Some n) is = read_is_printed word n is

onto_are : (word : List ℕ) (words : List (List ℕ)) (n : Option ℕ) (ns : Option (List ℕ))
    → IfSome n (λ n. word ≡ decimal n) → IfSome ns (λ ns. words ≡ map decimal ns)
    → IfSome (onto_numbers n ns) (λ ns. word ∷ words ≡ map decimal ns)
onto_are word words None ns one more = tt
onto_are word words (Some n) None one more = tt
onto_are word words (Some n) (Some ns) one more = rw (one, more) refl

-- so have some numbers, and all
pub words_are : (count : ℕ) (words : List (List ℕ))
    → IfSome (numbers_of count words) (λ ns. words ≡ map decimal ns)
words_are zero [] = refl
words_are zero (word ∷ words) = tt
words_are (suc count) [] = tt
words_are (suc count) (word ∷ words) =
    onto_are word words (number_of word) (numbers_of count words) (word_is word)
    (words_are count words)

pub all_words_are : (words : List (List ℕ))
    → IfSome (all_numbers words) (λ ns. words ≡ map decimal ns)
all_words_are [] = refl
all_words_are (word ∷ words) =
    onto_are word words (number_of word) (all_numbers words) (word_is word) (all_words_are words)

-- a line is its key and its numbers
abbrev pub IsLineOf : (key line : List ℕ) → List ℕ → Type 0
IsLineOf key line ns = line ≡ joined (key ∷ map decimal ns)

key_before : (key word line : List ℕ) (words : List (List ℕ)) (here : Bool)
    (numbers : Option (List ℕ)) → bytes_eq word key ≡ here → line ≡ joined (word ∷ words)
    → IfSome numbers (λ ns. words ≡ map decimal ns)
    → IfSome (if here then numbers else None) (IsLineOf key line)
key_before key word line words false numbers same is are = tt
key_before key word line words true None same is are = tt
key_before key word line words true (Some ns) same is are =
    is ∙ ap (λ w. joined (w ∷ words)) (same_bytes word key same)
    ∙ ap (λ ws. joined (key ∷ ws)) are

after_key : (key line : List ℕ) (count : ℕ) (words : List (List ℕ)) → line ≡ joined words
    → IfSome (numbers_after key count words) (IsLineOf key line)
after_key key line count [] is = tt
after_key key line count (word ∷ words) is =
    key_before key word line words (bytes_eq word key) (numbers_of count words) refl is
    (words_are count words)

all_after_key : (key line : List ℕ) (words : List (List ℕ)) → line ≡ joined words
    → IfSome (all_numbers_after key words) (IsLineOf key line)
all_after_key key line [] is = tt
all_after_key key line (word ∷ words) is =
    key_before key word line words (bytes_eq word key) (all_numbers words) refl is
    (all_words_are words)

pub line_is : (key line : List ℕ) (count : ℕ)
    → IfSome (numbers_after key count (words_of line)) (IsLineOf key line)
line_is key line count = after_key key line count (words_of line) (sym (words_back line))

pub all_line_is : (key line : List ℕ)
    → IfSome (all_numbers_after key (words_of line)) (IsLineOf key line)
all_line_is key line = all_after_key key line (words_of line) (sym (words_back line))

-- what holds of what is read, it holds behind a test that refuses
pub behind_test : {X R : Type 0} (P : X → Type 0) (fails : Bool) (r : R) (read : Result X R)
    → IfOk read P → IfOk (if fails then Err r else read) P
behind_test P true r read h = tt
behind_test P false r read h = h

-- the text of one more line
pub text_with : (lines : List (List ℕ)) (line : List ℕ)
    → text_of (lines ++ line ∷ []) ≡ text_of lines ++ ended line
text_with lines line =
    flat_map-append ended lines (line ∷ []) ∙ ap (λ t. text_of lines ++ t) (append-nil (ended line))

-- what follows of what is said of lines that were taken
pub took_weaker : {V R : Type 0} (lines : List (List ℕ)) (P Q : V → List (List ℕ) → Type 0)
    → ((v : V) (said : List (List ℕ)) → P v said → Q v said) → (read : Result (Found V) (At R))
    → IfOk read (λ found. Took lines found (P found.value))
    → IfOk read (λ found. Took lines found (Q found.value))
took_weaker lines P Q weaker (Ok found) t = record {
  front = t.front;
  parts = t.parts;
  many = t.many;
  says = weaker found.value _ t.says;
}
took_weaker lines P Q weaker (Err at) t = tt
