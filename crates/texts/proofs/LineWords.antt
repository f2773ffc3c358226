-- The words of a line, and the line of words.
use Rattle.std.proofs.Common.{◌≡◌, ℕ, ◌^◌, ◌<◌, Bool, true, false, cond, eqb, not, ◌&&◌, List, []}
use Rattle.std.proofs.Common.{◌∷◌, Some, None, decimal, refl, sym, ap, subst, ◌∙◌, arith}
use Rattle.std.specs.Prelude.{All}
use Rattle.std.specs.List.{list_all, AllByRecursion}
use Rattle.std.specs.Char.{is_ascii_digit}
use Rattle.std.specs.Str.Parse.{digits_value}
use Rattle.std.proofs.lemmas.Bool.{and_parts, and_from, not-true, leb-true}
use Rattle.std.proofs.lemmas.Bool.Decides.{nat_tests}
use Rattle.std.proofs.lemmas.List.Elements.{All-nil, All-cons}
use Rattle.std.proofs.lemmas.List.Folds.{list_all-append}
use Rattle.std.proofs.lemmas.List.Splits.{slice_split_none, slice_split_at}
use Rattle.std.proofs.lemmas.List.Splits.{join_with_byte-slice_split}
use Rattle.std.proofs.lemmas.Fmt.{digits_decimal}
use Rattle.texts.specs.Lines.{words_of}
use Rattle.texts.specs.Numbers.{is_number, number_of}
use Rattle.texts.proofs.Numbers.{own, value_small}
use Rattle.texts.proofs.NumberWords.{read_is_printed, printed_is_read}
use Rattle.texts.specs.Words.{joined}
use Rattle.texts.proofs.Texts.{IsOneLine}

-- a byte that ends no word and no line
unfoldable pub is_solid : ℕ → Bool
is_solid b = not (eqb b 32) && not (eqb b 10)

pub all_weaker : {X : Type 0} (p q : X → Bool) → ((x : X) → p x ≡ true → q x ≡ true) → (xs : List X)
    → list_all p xs ≡ true → list_all q xs ≡ true
all_weaker p q h [] e = refl
all_weaker p q h (x ∷ xs) e =
    let r = and_parts _ _ e in and_from _ _ (h x r.0) (all_weaker p q h xs r.1)

-- a word in which no byte ends a word
abbrev pub IsWord : List ℕ → Type 0
IsWord w = list_all is_solid w ≡ true

not_space : (b : ℕ) → is_solid b ≡ true → eqb b 32 ≡ false
unfolding is_solid
not_space b h = not-true _ (and_parts _ _ h).0

not_newline : (b : ℕ) → is_solid b ≡ true → not (eqb b 10) ≡ true
unfolding is_solid
not_newline b h = (and_parts _ _ h).1

no_space : (w : List ℕ) → IsWord w → All (λ b. eqb b 32 ≡ false) w
no_space [] h = All-nil _
no_space (b ∷ w) h =
    let r = and_parts _ _ h in
    All-cons (λ c. eqb c 32 ≡ false) b w (not_space b r.0) (no_space w r.1)

-- words are read back from their line
pub words_there : (w : List ℕ) (ws : List (List ℕ)) → AllByRecursion IsWord (w ∷ ws)
    → words_of (joined (w ∷ ws)) ≡ w ∷ ws
words_there w [] h = slice_split_none (λ b. eqb b 32) w (no_space w h.0)
words_there w (v ∷ ws) h =
    slice_split_at (λ b. eqb b 32) w 32 (joined (v ∷ ws)) (no_space w h.0) refl
    ∙ ap (λ l. w ∷ l) (words_there v ws h.1)

-- a line is the line of its words
pub words_back : (line : List ℕ) → joined (words_of line) ≡ line
words_back line = join_with_byte-slice_split 32 line

solid_digit : (c : ℕ) → is_ascii_digit c ≡ true → is_solid c ≡ true
unfolding is_solid
solid_digit c h = grind (arith, nat_tests)

-- the word of a number is one
pub decimal_word : (n : ℕ) → n < 10 ^ 15 → IsWord (decimal n)
decimal_word n small =
    all_weaker is_ascii_digit is_solid solid_digit (decimal n) (digits_decimal own n (omega arith))

-- the line of words has no newline
pub joined_is_one : (words : List (List ℕ)) → AllByRecursion IsWord words → IsOneLine (joined words)
joined_is_one [] h = refl
joined_is_one (w ∷ []) h = all_weaker is_solid (λ b. not (eqb b 10)) not_newline w h.0
joined_is_one (w ∷ v ∷ ws) h =
    let first = all_weaker is_solid (λ b. not (eqb b 10)) not_newline w h.0 in
    list_all-append (λ b. not (eqb b 10)) w (32 ∷ joined (v ∷ ws))
    ∙ rw (first, joined_is_one (v ∷ ws) h.1) refl

-- a number that was read passed the test, and is its digits' value
number_by : (b : Bool) (v n : ℕ) → cond b (Some v) None ≡ Some n → (b ≡ true) × (v ≡ n)
number_by true v n e = (refl, cc)
number_by false v n e = absurd cc

-- a number that was read is small
pub read_is_small : (word : List ℕ) (n : ℕ) → number_of word ≡ Some n → n < 10 ^ 15
read_is_small word n e =
    let h = number_by (is_number word) (digits_value 10 word) n e in
    let p = and_parts _ _ h.0 in
    let q = and_parts _ _ p.0 in
    let r = and_parts _ _ q.0 in
    subst (λ m. m < 10 ^ 15) h.1 (value_small word q.1 (leb-true _ _ r.1))

-- a number has one word
pub number_back : (word : List ℕ) (n : ℕ) → number_of word ≡ Some n
    → (decimal n ≡ word) × (n < 10 ^ 15)
number_back word n e = (sym (read_is_printed word n e), read_is_small word n e)

-- and is read back from it
pub number_there : (n : ℕ) → n < 10 ^ 15 → number_of (decimal n) ≡ Some n
number_there n small = printed_is_read n small
