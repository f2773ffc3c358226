-- What a line says, and the line of what is said.
use Rattle.std.proofs.Common.{inl, inr, ◌≡◌, ℕ, ◌^◌, ◌<◌, ◌≤◌, ◌⊎◌, Bool, true, false, cond, leb}
use Rattle.std.proofs.Common.{List, [], ◌∷◌, length, map, Option, Some, None, decimal, refl, sym}
use Rattle.std.proofs.Common.{ap, subst, ◌∙◌, ⊎_elim, arith}
use Rattle.std.specs.List.{AllByRecursion}
use Rattle.std.proofs.lemmas.List.Elements.{All-nil, All-cons}
use Rattle.std.proofs.lemmas.Bool.Decides.{nat_tests}
use Rattle.state_codec.specs.Texts.{is_lower_digit}
use Rattle.texts.specs.Lines.{words_of}
use Rattle.texts.specs.Words.{joined}
use Rattle.texts.proofs.LineWords.{is_solid, all_weaker, IsWord, words_there, words_back}
use Rattle.texts.proofs.LineWords.{decimal_word, number_back, number_there}
use Rattle.std.proofs.Common.{codes, bytes_eq, option_map}
use Rattle.texts.specs.Shapes.{onto_numbers}
use Rattle.std.proofs.lemmas.Option.{same_Some}
use Rattle.std.proofs.lemmas.Slice.Eq.{bytes_eq-Decides}
use Rattle.texts.specs.Shapes.{all_numbers}
use Rattle.std.proofs.lemmas.List.Elements.{All-head, All-tail}
use Rattle.run_checker.specs.Items.{Item, run_item, base_item, level_item, faulty_item}
use Rattle.run_checker.specs.Items.{start_item, row_item, lie_item, era_item, end_item}
use Rattle.run_checker.specs.Items.{row_word, item_words, item_line, IsShort, HasWords}
use Rattle.run_checker.specs.Items.{HasLine, value_said, values_said, onto, with_two}
use Rattle.run_checker.specs.Items.{with_three, with_four, row_by, era_by, one_said}
use Rattle.run_checker.specs.Items.{level_said, start_said, lie_said, row_said, era_said}
use Rattle.run_checker.specs.Items.{end_said, item_of, said}
use Rattle.std.specs.Prelude.{All, IfSome}
use Rattle.std.specs.List.{list_all}
use Rattle.std.specs.Char.{is_ascii_digit}
use Rattle.std.proofs.lemmas.Bool.{leb-true, le-leb}
use Rattle.std.proofs.lemmas.Fmt.{digits_decimal}
use Rattle.texts.specs.Numbers.{number_of}
use Rattle.texts.proofs.Numbers.{own}

-- ---- words

solid_hex : (c : ℕ) → is_lower_digit c ≡ true → is_solid c ≡ true
unfolding is_solid
solid_hex c h = grind (arith, nat_tests)

pub hex_word : (digits : List ℕ) → list_all is_lower_digit digits ≡ true → IsWord digits
hex_word digits h = all_weaker is_lower_digit is_solid solid_hex digits h

-- ---- items, read back from their words

-- all of the words of an item are words
pub numbers_words : (ns : List ℕ) → All IsShort ns → AllByRecursion IsWord (map decimal ns)
numbers_words [] h = tt
numbers_words (n ∷ ns) h =
    (decimal_word n (All-head IsShort n ns h), numbers_words ns (All-tail IsShort n ns h))

abbrev IsShortValue : Option ℕ → Type 0
IsShortValue o = IfSome o IsShort

row_word_is : (o : Option ℕ) → IsShortValue o → IsWord (row_word o)
unfolding is_solid
row_word_is None h = refl
row_word_is (Some n) h = decimal_word n h

rows_words : (row : List (Option ℕ)) → All IsShortValue row
    → AllByRecursion IsWord (map row_word row)
rows_words [] h = tt
rows_words (o ∷ row) h =
    (row_word_is o (All-head IsShortValue o row h), rows_words row (All-tail IsShortValue o row h))

pub item_is_words : (item : Item) → HasWords item → AllByRecursion IsWord (item_words item)
unfolding is_solid
item_is_words (run_item n) h = (refl, (decimal_word n h, tt))
item_is_words (base_item n) h = (refl, (decimal_word n h, tt))
item_is_words (level_item k f c None) h =
    (refl, (decimal_word k h.0, (decimal_word f h.1, (decimal_word c h.2, tt))))
item_is_words (level_item k f c (Some s)) h = (
  refl,
  (
    decimal_word k h.0,
    (decimal_word f h.1, (decimal_word c h.2, (refl, (decimal_word s h.3, tt)))),
  ),
)
item_is_words (faulty_item ids) h = (refl, numbers_words ids h)
item_is_words (start_item v digits) h = (refl, (decimal_word v h.0, (hex_word digits h.1, tt)))
item_is_words (row_item t row) h = (refl, (decimal_word t h.0, rows_words row h.1))
item_is_words (lie_item u v digits) h =
    (refl, (decimal_word u h.0, (decimal_word v h.1, (hex_word digits h.2, tt))))
item_is_words (era_item t ids) h = (refl, (decimal_word t h.0, numbers_words ids h.1))
item_is_words end_item h = (refl, tt)

numbers_there : (ns : List ℕ) → All IsShort ns → all_numbers (map decimal ns) ≡ Some ns
numbers_there [] h = refl
numbers_there (n ∷ ns) h =
    rw (number_there n (All-head IsShort n ns h), numbers_there ns (All-tail IsShort n ns h)) refl

-- a star is no number
star_apart : (n : ℕ) → n < 10 ^ 15 → bytes_eq (decimal n) (codes "*") ≡ false
star_apart n small = apart (decimal n) (digits_decimal own n (omega arith)) where
  apart : (w : List ℕ) → list_all is_ascii_digit w ≡ true → bytes_eq w (codes "*") ≡ false
  apart [] h = refl
  apart (b ∷ []) h = grind (arith, nat_tests)
  apart (b ∷ c ∷ w) h = grind (arith, nat_tests)

value_there : (o : Option ℕ) → IsShortValue o → value_said (row_word o) ≡ Some o
value_there None h = refl
value_there (Some n) h = rw (star_apart n h, number_there n h) refl

values_there : (row : List (Option ℕ)) → All IsShortValue row
    → values_said (map row_word row) ≡ Some row
values_there [] h = refl
values_there (o ∷ row) h =
    rw (
      value_there o (All-head IsShortValue o row h),
      values_there row (All-tail IsShortValue o row h),
    )
    refl

pub item_there : (item : Item) → HasWords item → item_of (item_words item) ≡ Some item
item_there (run_item n) h = rw (number_there n h) refl
item_there (base_item n) h = rw (number_there n h) refl
item_there (level_item k f c None) h =
    rw (number_there k h.0, number_there f h.1, number_there c h.2) refl
item_there (level_item k f c (Some s)) h =
    rw (number_there k h.0, number_there f h.1, number_there c h.2, number_there s h.3) refl
item_there (faulty_item ids) h = rw (numbers_there ids h) refl
item_there (start_item v digits) h = rw (h.1, number_there v h.0) refl
item_there (row_item t row) h = rw (number_there t h.0, values_there row h.1) refl
item_there (lie_item u v digits) h = rw (h.2, number_there u h.0, number_there v h.1) refl
item_there (era_item t ids) h = rw (number_there t h.0, numbers_there ids h.1) refl
item_there end_item h = refl

line_words : (item : Item) → HasWords item → words_of (item_line item) ≡ item_words item
line_words (run_item n) h = words_there _ _ (item_is_words (run_item n) h)
line_words (base_item n) h = words_there _ _ (item_is_words (base_item n) h)
line_words (level_item k f c None) h = words_there _ _ (item_is_words (level_item k f c None) h)
line_words (level_item k f c (Some s)) h =
    words_there _ _ (item_is_words (level_item k f c (Some s)) h)
line_words (faulty_item ids) h = words_there _ _ (item_is_words (faulty_item ids) h)
line_words (start_item v digits) h = words_there _ _ (item_is_words (start_item v digits) h)
line_words (row_item t row) h = words_there _ _ (item_is_words (row_item t row) h)
line_words (lie_item u v digits) h = words_there _ _ (item_is_words (lie_item u v digits) h)
line_words (era_item t ids) h = words_there _ _ (item_is_words (era_item t ids) h)
line_words end_item h = words_there _ _ (item_is_words end_item h)

-- the line of an item says the item
pub said_there : (item : Item) → HasLine item → said (item_line item) ≡ Some item
said_there item h = rw (le-leb _ _ h.short, line_words item h.words) (item_there item h.words)

-- ---- words, read as an item

-- these words are those of the item
pub record Says (item : Item) (line : List (List ℕ)) : Type 0 where
  pub is : item_words item ≡ line
  pub words : HasWords item

chosen : {X : Type 0} (b : Bool) (x y z : X) → cond b x y ≡ z → ((b ≡ true) × (x ≡ z)) ⊎ (y ≡ z)
chosen true x y z e = inl (refl, e)
chosen false x y z e = inr e

onto_parts : (a : Option ℕ) (b : Option (List ℕ)) (ns : List ℕ) → onto_numbers a b ≡ Some ns
    → (n : ℕ) × (ms : List ℕ) × (a ≡ Some n) × (b ≡ Some ms) × (n ∷ ms ≡ ns)
onto_parts None b ns e = absurd cc
onto_parts (Some n) None ns e = absurd cc
onto_parts (Some n) (Some ms) ns e = (n, ms, refl, refl, cc)

numbers_back : (ws : List (List ℕ)) (ns : List ℕ) → all_numbers ws ≡ Some ns
    → (map decimal ns ≡ ws) × All IsShort ns
numbers_back [] [] e = (refl, All-nil IsShort)
numbers_back [] (n ∷ ns) e = absurd cc
numbers_back (w ∷ ws) ns e =
    let (n, ms, a, b, c) = onto_parts (number_of w) (all_numbers ws) ns e in
    let x = number_back w n a in
    let y = numbers_back ws ms b in (
      ap (map decimal) (sym c) ∙ ap (λ v. v ∷ map decimal ms) x.0
          ∙ ap (λ l. w ∷ l) y.0,
      subst (All IsShort) c (All-cons IsShort n ms x.1 y.1),
    )

value_by_star : (star : Bool) (w : List ℕ) (found : Option ℕ) (o : Option ℕ)
    → bytes_eq w (codes "*") ≡ star → number_of w ≡ found
    → cond star (Some None) (option_map Some found) ≡ Some o → (row_word o ≡ w) × IsShortValue o
value_by_star true w found None s f e = (sym ((bytes_eq-Decides w (codes "*")).0 s), tt)
value_by_star true w found (Some n) s f e = absurd cc
value_by_star false w None o s f e = absurd cc
value_by_star false w (Some n) None s f e = absurd cc
value_by_star false w (Some n) (Some m) s f e =
    let h : n ≡ m = cc in number_back w m (f ∙ ap Some h)

value_back : (w : List ℕ) (o : Option ℕ) → value_said w ≡ Some o → (row_word o ≡ w) × IsShortValue o
value_back w o e = value_by_star (bytes_eq w (codes "*")) w (number_of w) o refl refl e

row_parts : (a : Option (Option ℕ)) (b : Option (List (Option ℕ))) (os : List (Option ℕ))
    → onto a b ≡ Some os
    → (n : Option ℕ) × (ms : List (Option ℕ)) × (a ≡ Some n) × (b ≡ Some ms) × (n ∷ ms ≡ os)
row_parts None b ns e = absurd cc
row_parts (Some n) None ns e = absurd cc
row_parts (Some n) (Some ms) ns e = (n, ms, refl, refl, cc)

values_back : (ws : List (List ℕ)) (os : List (Option ℕ)) → values_said ws ≡ Some os
    → (map row_word os ≡ ws) × All IsShortValue os
values_back [] [] e = (refl, All-nil IsShortValue)
values_back [] (n ∷ ns) e = absurd cc
values_back (w ∷ ws) ns e =
    let (n, ms, a, b, c) = row_parts (value_said w) (values_said ws) ns e in
    let x = value_back w n a in
    let y = values_back ws ms b in (
      ap (map row_word) (sym c) ∙ ap (λ v. v ∷ map row_word ms) x.0
          ∙ ap (λ l. w ∷ l) y.0,
      subst (All IsShortValue) c (All-cons IsShortValue n ms x.1 y.1),
    )

one_back : (f : ℕ → Item) (words : List (List ℕ)) (item : Item) → one_said f words ≡ Some item
    → (w : List ℕ) × (n : ℕ) × (words ≡ w ∷ []) × (decimal n ≡ w) × (n < 10 ^ 15) × (f n ≡ item)
one_back f [] item e = absurd cc
one_back f (w ∷ v ∷ ws) item e = absurd cc
one_back f (w ∷ []) item e = by (number_of w) refl e where
  by : (found : Option ℕ) → number_of w ≡ found → option_map f found ≡ Some item
      → (v : List ℕ) × (n : ℕ) × (w ∷ [] ≡ v ∷ []) × (decimal n ≡ v) × (n < 10 ^ 15) × (f n ≡ item)
  by None is h = absurd cc
  by (Some n) is h = let x = number_back w n is in (w, n, refl, x.0, x.1, same_Some _ _ h)

run_back : (words : List (List ℕ)) (item : Item) → one_said run_item words ≡ Some item
    → Says item (codes "run" ∷ words)
run_back words item e =
    let (w, n, a, b, c, d) = one_back run_item words item e in
    subst (λ i. Says i (codes "run" ∷ words)) d
    (record
    { is = ap (λ v. codes "run" ∷ v ∷ []) b ∙ ap (λ l. codes "run" ∷ l) (sym a); words = c })

base_back : (words : List (List ℕ)) (item : Item) → one_said base_item words ≡ Some item
    → Says item (codes "base" ∷ words)
base_back words item e =
    let (w, n, a, b, c, d) = one_back base_item words item e in
    subst (λ i. Says i (codes "base" ∷ words)) d
    (record
    { is = ap (λ v. codes "base" ∷ v ∷ []) b ∙ ap (λ l. codes "base" ∷ l) (sym a); words = c })

-- three numbers after the key, or four with a word before the last
spare_back : (a b c key w : List ℕ) (item : Item)
    → level_said (a ∷ b ∷ c ∷ key ∷ w ∷ []) ≡ Some item
    → Says item (codes "level" ∷ a ∷ b ∷ c ∷ key ∷ w ∷ [])
spare_back a b c key w item e =
    by (bytes_eq key (codes "spare")) (number_of a) (number_of b) (number_of c) (number_of w) refl
    refl refl refl refl e where
      by : (same : Bool) (x y z s : Option ℕ) → bytes_eq key (codes "spare") ≡ same
          → number_of a ≡ x
          → number_of b ≡ y → number_of c ≡ z → number_of w ≡ s
          → cond same (with_four (λ k f c s. level_item k f c (Some s)) x y z s) None ≡ Some item
          → Says item (codes "level" ∷ a ∷ b ∷ c ∷ key ∷ w ∷ [])
      by false x y z s o p q r t h = absurd cc
      by true None y z s o p q r t h = absurd cc
      by true (Some x) None z s o p q r t h = absurd cc
      by true (Some x) (Some y) None s o p q r t h = absurd cc
      by true (Some x) (Some y) (Some z) None o p q r t h = absurd cc
      by true (Some x) (Some y) (Some z) (Some s) o p q r t h =
          let i = number_back a x p in let j = number_back b y q in let k = number_back c z r in
          let l = number_back w s t in let is = (bytes_eq-Decides key (codes "spare")).0 o in
          subst (λ i. Says i (codes "level" ∷ a ∷ b ∷ c ∷ key ∷ w ∷ [])) (same_Some _ _ h)
          (record { is = rw (i.0, j.0, k.0, l.0, is) refl; words = (i.1, j.1, k.1, l.1) })

level_back : (words : List (List ℕ)) (item : Item) → level_said words ≡ Some item
    → Says item (codes "level" ∷ words)
level_back [] item e = absurd cc
level_back (a ∷ []) item e = absurd cc
level_back (a ∷ b ∷ []) item e = absurd cc
level_back (a ∷ b ∷ c ∷ d ∷ []) item e = absurd cc
level_back (a ∷ b ∷ c ∷ d ∷ w ∷ []) item e = spare_back a b c d w item e
level_back (a ∷ b ∷ c ∷ d ∷ w ∷ v ∷ ws) item e = absurd cc
level_back (a ∷ b ∷ c ∷ []) item e =
    by (number_of a) (number_of b) (number_of c) refl refl refl e where
      by : (x y z : Option ℕ) → number_of a ≡ x → number_of b ≡ y → number_of c ≡ z
          → with_three (λ k f c. level_item k f c None) x y z ≡ Some item
          → Says item (codes "level" ∷ a ∷ b ∷ c ∷ [])
      by None y z p q r h = absurd cc
      by (Some x) None z p q r h = absurd cc
      by (Some x) (Some y) None p q r h = absurd cc
      by (Some x) (Some y) (Some z) p q r h =
          let i = number_back a x p in let j = number_back b y q in let k = number_back c z r in
          subst (λ i. Says i (codes "level" ∷ a ∷ b ∷ c ∷ [])) (same_Some _ _ h)
          (record { is = rw (i.0, j.0, k.0) refl; words = (i.1, j.1, k.1, tt) })

start_back : (words : List (List ℕ)) (item : Item) → start_said words ≡ Some item
    → Says item (codes "start" ∷ words)
start_back [] item e = absurd cc
start_back (a ∷ []) item e = absurd cc
start_back (a ∷ b ∷ c ∷ ws) item e = absurd cc
start_back (a ∷ digits ∷ []) item e =
    by (list_all is_lower_digit digits) (number_of a) refl refl e where
      by : (hex : Bool) (x : Option ℕ) → list_all is_lower_digit digits ≡ hex → number_of a ≡ x
          → cond hex (option_map (λ v. start_item v digits) x) None ≡ Some item
          → Says item (codes "start" ∷ a ∷ digits ∷ [])
      by false x p q h = absurd cc
      by true None p q h = absurd cc
      by true (Some x) p q h =
          let i = number_back a x q in
          subst (λ i. Says i (codes "start" ∷ a ∷ digits ∷ [])) (same_Some _ _ h)
          (record { is = rw i.0 refl; words = (i.1, p) })

lie_back : (words : List (List ℕ)) (item : Item) → lie_said words ≡ Some item
    → Says item (codes "lie" ∷ words)
lie_back [] item e = absurd cc
lie_back (a ∷ []) item e = absurd cc
lie_back (a ∷ b ∷ []) item e = absurd cc
lie_back (a ∷ b ∷ c ∷ d ∷ ws) item e = absurd cc
lie_back (a ∷ b ∷ digits ∷ []) item e =
    by (list_all is_lower_digit digits) (number_of a) (number_of b) refl refl refl e where
      by : (hex : Bool) (x y : Option ℕ) → list_all is_lower_digit digits ≡ hex → number_of a ≡ x
          → number_of b ≡ y → cond hex (with_two (λ u v. lie_item u v digits) x y) None ≡ Some item
          → Says item (codes "lie" ∷ a ∷ b ∷ digits ∷ [])
      by false x y p q r h = absurd cc
      by true None y p q r h = absurd cc
      by true (Some x) None p q r h = absurd cc
      by true (Some x) (Some y) p q r h =
          let i = number_back a x q in let j = number_back b y r in
          subst (λ i. Says i (codes "lie" ∷ a ∷ b ∷ digits ∷ [])) (same_Some _ _ h)
          (record { is = rw (i.0, j.0) refl; words = (i.1, j.1, p) })

row_back : (words : List (List ℕ)) (item : Item) → row_said words ≡ Some item
    → Says item (codes "row" ∷ words)
row_back [] item e = absurd cc
row_back (a ∷ ws) item e = by (number_of a) (values_said ws) refl refl e where
  by : (x : Option ℕ) (y : Option (List (Option ℕ))) → number_of a ≡ x → values_said ws ≡ y
      → row_by x y ≡ Some item → Says item (codes "row" ∷ a ∷ ws)
  by None y p q h = absurd cc
  by (Some x) None p q h = absurd cc
  by (Some x) (Some y) p q h =
      let i = number_back a x p in let j = values_back ws y q in
      subst (λ i. Says i (codes "row" ∷ a ∷ ws)) (same_Some _ _ h)
      (record { is = rw (i.0, j.0) refl; words = (i.1, j.1) })

era_back : (words : List (List ℕ)) (item : Item) → era_said words ≡ Some item
    → Says item (codes "era" ∷ words)
era_back [] item e = absurd cc
era_back (a ∷ ws) item e = by (number_of a) (all_numbers ws) refl refl e where
  by : (x : Option ℕ) (y : Option (List ℕ)) → number_of a ≡ x → all_numbers ws ≡ y
      → era_by x y ≡ Some item → Says item (codes "era" ∷ a ∷ ws)
  by None y p q h = absurd cc
  by (Some x) None p q h = absurd cc
  by (Some x) (Some y) p q h =
      let i = number_back a x p in let j = numbers_back ws y q in
      subst (λ i. Says i (codes "era" ∷ a ∷ ws)) (same_Some _ _ h)
      (record { is = rw (i.0, j.0) refl; words = (i.1, j.1) })

faulty_back : (words : List (List ℕ)) (item : Item)
    → option_map faulty_item (all_numbers words) ≡ Some item → Says item (codes "faulty" ∷ words)
faulty_back ws item e = by (all_numbers ws) refl e where
  by : (y : Option (List ℕ)) → all_numbers ws ≡ y → option_map faulty_item y ≡ Some item
      → Says item (codes "faulty" ∷ ws)
  by None q h = absurd cc
  by (Some y) q h =
      let j = numbers_back ws y q in
      subst (λ i. Says i (codes "faulty" ∷ ws)) (same_Some _ _ h)
      (record { is = rw j.0 refl; words = j.1 })

end_back : (words : List (List ℕ)) (item : Item) → end_said words ≡ Some item
    → Says item (codes "end" ∷ words)
end_back [] item e =
    subst (λ i. Says i (codes "end" ∷ [])) (same_Some _ _ e) (record { is = refl; words = tt })
end_back (w ∷ ws) item e = absurd cc

-- a key, if the words after it say the item
keyed : (key k : List ℕ) (words : List (List ℕ)) (item : Item) → bytes_eq key k ≡ true
    → Says item (k ∷ words) → Says item (key ∷ words)
keyed key k words item e h =
    subst (λ w. Says item (w ∷ words)) (sym ((bytes_eq-Decides key k).0 e)) h

item_back : (words : List (List ℕ)) (item : Item) → item_of words ≡ Some item → Says item words
item_back [] item e = absurd cc
item_back (key ∷ ws) item e =
    ⊎_elim (λ p. keyed key _ ws item p.0 (row_back ws item p.1)) (λ e.
    ⊎_elim (λ p. keyed key _ ws item p.0 (lie_back ws item p.1)) (λ e.
    ⊎_elim (λ p. keyed key _ ws item p.0 (start_back ws item p.1)) (λ e.
    ⊎_elim (λ p. keyed key _ ws item p.0 (era_back ws item p.1)) (λ e.
    ⊎_elim (λ p. keyed key _ ws item p.0 (end_back ws item p.1)) (λ e.
    ⊎_elim (λ p. keyed key _ ws item p.0 (faulty_back ws item p.1)) (λ e.
    ⊎_elim (λ p. keyed key _ ws item p.0 (level_back ws item p.1)) (λ e.
    ⊎_elim (λ p. keyed key _ ws item p.0 (base_back ws item p.1)) (λ e.
    ⊎_elim (λ p. keyed key _ ws item p.0 (run_back ws item p.1)) (λ e. absurd (cc))
    (chosen (bytes_eq key (codes "run")) _ _ _ e)) (chosen (bytes_eq key (codes "base")) _ _ _ e))
    (chosen (bytes_eq key (codes "level")) _ _ _ e))
    (chosen (bytes_eq key (codes "faulty")) _ _ _ e))
    (chosen (bytes_eq key (codes "end")) _ _ _ e)) (chosen (bytes_eq key (codes "era")) _ _ _ e))
    (chosen (bytes_eq key (codes "start")) _ _ _ e))
    (chosen (bytes_eq key (codes "lie")) _ _ _ e))
    (chosen (bytes_eq key (codes "row")) _ _ _ e)

-- a line that says an item is the item's line
pub record IsLineOf (item : Item) (line : List ℕ) : Type 0 where
  pub is : item_line item ≡ line
  pub has : HasLine item

said_by : (short : Bool) (line : List ℕ) (item : Item) → leb (length line) 4096 ≡ short
    → cond short (item_of (words_of line)) None ≡ Some item → IsLineOf item line
said_by false line item s e = absurd cc
said_by true line item s e =
    let h = item_back (words_of line) item e in
    let is : item_line item ≡ line = ap joined h.is ∙ words_back line in
    record {
      is = is;
      has = record
          { words = h.words; short = subst (λ l. length l ≤ 4096) (sym is) (leb-true _ _ s) };
    }

pub said_back : (line : List ℕ) (item : Item) → said line ≡ Some item → IsLineOf item line
said_back line item e = said_by (leb (length line) 4096) line item refl e
