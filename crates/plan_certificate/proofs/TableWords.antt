-- The words of the lines of a table, both ways.
use Rattle.std.proofs.Common.{◌≡◌, ℕ, ◌^◌, ◌<◌, Bool, true, false, cond, List, [], ◌∷◌, ◌++◌}
use Rattle.std.proofs.Common.{length, take, Option, Some, None, decimal, codes, refl, sym, ap}
use Rattle.std.proofs.Common.{subst, ◌∙◌, arith}
use Rattle.std.specs.Prelude.{◌==◌, slice_index}
use Rattle.std.specs.List.{AllByRecursion}
use Rattle.std.specs.Str.{bytes_eq}
use Rattle.std.proofs.lemmas.Bool.{eqb-true}
use Rattle.std.proofs.lemmas.Slice.Eq.{bytes_eq-Decides}
use Rattle.texts.specs.Numbers.{number_of}
use Rattle.texts.specs.Shapes.{onto_numbers}
use Rattle.texts.proofs.LineWords.{is_solid, IsWord, decimal_word, number_back, number_there}
use Rattle.plan_numbers.specs.declared.numbers.LevelNums.{LevelNums}
use Rattle.plan_certificate.specs.TableLines.{numbers_named, level_names, spare_level_names}
use Rattle.plan_certificate.specs.TableLines.{plan_names, without_spares, level_stated, plan_stated}
use Rattle.plan_certificate.specs.TableLines.{level_values}
use Rattle.plan_certificate.proofs.NamedNumbers.{length_named}

-- a number of at most 15 digits
abbrev pub IsShort : ℕ → Type 0
IsShort n = n < 10 ^ 15

-- names with numbers after them
unfoldable pub named_words : (names : List (List ℕ)) (numbers : List ℕ) → List (List ℕ)
named_words [] numbers = []
named_words (name ∷ names) [] = []
named_words (name ∷ names) (n ∷ numbers) = name ∷ decimal n ∷ named_words names numbers

back_by : (same : Bool) (name w v : List ℕ) (names ws : List (List ℕ)) (n : Option ℕ)
    (ns : Option (List ℕ)) (all : List ℕ) → bytes_eq w name ≡ same → number_of v ≡ n
    → ((more : List ℕ) → ns ≡ Some more → named_words names more ≡ ws)
    → cond same (onto_numbers n ns) None ≡ Some all → named_words (name ∷ names) all ≡ w ∷ v ∷ ws
unfolding named_words
back_by false name w v names ws n ns all s f more e = absurd cc
back_by true name w v names ws None ns all s f more e = absurd cc
back_by true name w v names ws (Some n) None all s f more e = absurd cc
back_by true name w v names ws (Some n) (Some ms) all s f more e =
    let parts : n ∷ ms ≡ all = cc in
    let same = (bytes_eq-Decides w name).0 s in
    let is = number_back v n f in
    subst (λ xs. named_words (name ∷ names) xs ≡ w ∷ v ∷ ws) parts
    (rw (is.0, more ms refl, same) refl)

-- what is read as named numbers is their words
pub named_back : (names words : List (List ℕ)) (numbers : List ℕ)
    → numbers_named names words ≡ Some numbers → named_words names numbers ≡ words
unfolding named_words
named_back [] [] numbers e = refl
named_back [] (w ∷ ws) numbers e = absurd cc
named_back (name ∷ names) [] numbers e = absurd cc
named_back (name ∷ names) (w ∷ []) numbers e = absurd cc
named_back (name ∷ names) (w ∷ v ∷ ws) numbers e =
    back_by (bytes_eq w name) name w v names ws (number_of v) (numbers_named names ws) numbers refl
    refl
    (λ more is. named_back names ws more is) e

-- and their words are read
pub named_there : (names : List (List ℕ)) (numbers : List ℕ) → length numbers ≡ length names
    → AllByRecursion IsShort numbers
    → numbers_named names (named_words names numbers) ≡ Some numbers
unfolding named_words
named_there [] [] size short = refl
named_there [] (n ∷ numbers) size short = absurd (omega (arith, size))
named_there (name ∷ names) [] size short = absurd (omega (arith, size))
named_there (name ∷ names) (n ∷ numbers) size short =
    let same = (bytes_eq-Decides name name).1 refl in
    let less : length numbers ≡ length names = omega (arith, size) in
    rw (same, number_there n short.0, named_there names numbers less short.1) refl

pub named_solid : (names : List (List ℕ)) (numbers : List ℕ) → AllByRecursion IsWord names
    → AllByRecursion IsShort numbers → AllByRecursion IsWord (named_words names numbers)
unfolding named_words
named_solid [] numbers names_are short = tt
named_solid (name ∷ names) [] names_are short = tt
named_solid (name ∷ names) (n ∷ numbers) names_are short =
    (names_are.0, (decimal_word n short.0, named_solid names numbers names_are.1 short.1))

-- ---- the line of a level

unfoldable pub words_by : (first : Bool) → List ℕ → List (List ℕ)
words_by true ns = named_words level_names (take 10 ns)
words_by false ns = named_words spare_level_names ns

unfoldable pub level_words : (version : ℕ) → List ℕ → List (List ℕ)
level_words version ns = words_by (version == 1) ns

front_again : (m : List ℕ) → length m ≡ 10 → take 10 (m ++ 0 ∷ []) ≡ m
front_again m size =
    subst (λ n. take n (m ++ 0 ∷ []) ≡ m) size (take_front m) where
      take_front : (m : List ℕ) → take (length m) (m ++ 0 ∷ []) ≡ m
      take_front [] = refl
      take_front (x ∷ m) = ap (λ l. x ∷ l) (take_front m)

last_zero : (m : List ℕ) (n : ℕ) → length m ≡ n → slice_index (m ++ 0 ∷ []) n ≡ 0
last_zero [] n size = rw (← size) refl
last_zero (x ∷ m) n size = rw (← size) (last_zero m (length m) refl)

spares_back : (words : List (List ℕ)) (found : Option (List ℕ)) (ns : List ℕ)
    → numbers_named level_names words ≡ found → without_spares found ≡ Some ns
    → (words_by true ns ≡ words) × (slice_index ns 10 ≡ 0)
unfolding words_by
spares_back words None ns f e = absurd cc
spares_back words (Some m) ns f e =
    let parts : m ++ 0 ∷ [] ≡ ns = cc in
    let size = length_named level_names words m f in
    subst (λ xs. (words_by true xs ≡ words) × (slice_index xs 10 ≡ 0)) parts (
      ap (named_words level_names) (front_again m size)
          ∙ named_back level_names words m f,
      last_zero m 10 size,
    )

level_by : (first : Bool) (words : List (List ℕ)) (ns : List ℕ)
    → cond first (without_spares (numbers_named level_names words))
    (numbers_named spare_level_names words)
    ≡ Some ns → (words_by first ns ≡ words) × (first ≡ true → slice_index ns 10 ≡ 0)
unfolding words_by
level_by true words ns e =
    let h = spares_back words (numbers_named level_names words) ns refl e in (h.0, λ is. h.1)
level_by false words ns e = (named_back spare_level_names words ns e, λ is. absurd cc)

-- what is read as a level is its words; in version 1 it has no spares
pub level_back : (version : ℕ) (words : List (List ℕ)) (ns : List ℕ)
    → level_stated version words ≡ Some ns
    → (level_words version ns ≡ words) × (version ≡ 1 → slice_index ns 10 ≡ 0)
unfolding level_words
level_back version words ns e =
    let h = level_by (version == 1) words ns e in (h.0, λ is. h.1 (rw is refl))

there_by : (first : Bool) (index : ℕ) (nums : LevelNums)
    → AllByRecursion IsShort (level_values index nums) → (first ≡ true → nums.spares ≡ 0)
    → cond first
    (without_spares (numbers_named level_names (words_by first (level_values index nums))))
    (numbers_named spare_level_names (words_by first (level_values index nums)))
    ≡ Some (level_values index nums)
unfolding words_by
there_by true index nums (a, (b, (c, (d, (f, (g, (h, (i, (j, (k, l)))))))))) none =
    let ten = take 10 (level_values index nums) in
    ap without_spares
    (named_there level_names ten refl (a, (b, (c, (d, (f, (g, (h, (i, (j, (k, tt)))))))))))
    ∙ ap (λ z. Some (ten ++ z ∷ [])) (sym (none refl))
there_by false index nums short none =
    named_there spare_level_names (level_values index nums) refl short

-- and the words of a level are read
pub level_there : (version index : ℕ) (nums : LevelNums)
    → AllByRecursion IsShort (level_values index nums) → (version ≡ 1 → nums.spares ≡ 0)
    → level_stated version (level_words version (level_values index nums))
    ≡ Some (level_values index nums)
unfolding level_words
level_there version index nums short none =
    there_by (version == 1) index nums short (λ is. none (eqb-true _ _ is))

level_names_solid : AllByRecursion IsWord level_names
unfolding is_solid
level_names_solid =
    (refl, (refl, (refl, (refl, (refl, (refl, (refl, (refl, (refl, (refl, tt))))))))))

spare_names_solid : AllByRecursion IsWord spare_level_names
unfolding is_solid
spare_names_solid =
    (refl, (refl, (refl, (refl, (refl, (refl, (refl, (refl, (refl, (refl, (refl, tt)))))))))))

solid_by : (first : Bool) (index : ℕ) (nums : LevelNums)
    → AllByRecursion IsShort (level_values index nums)
    → AllByRecursion IsWord (words_by first (level_values index nums))
unfolding words_by
solid_by true index nums (a, (b, (c, (d, (f, (g, (h, (i, (j, (k, l)))))))))) =
    named_solid level_names (take 10 (level_values index nums)) level_names_solid
    (a, (b, (c, (d, (f, (g, (h, (i, (j, (k, tt))))))))))
solid_by false index nums short =
    named_solid spare_level_names (level_values index nums) spare_names_solid short

pub level_solid : (version index : ℕ) (nums : LevelNums)
    → AllByRecursion IsShort (level_values index nums)
    → AllByRecursion IsWord (level_words version (level_values index nums))
unfolding level_words
level_solid version index nums short = solid_by (version == 1) index nums short

some_by : (first : Bool) (index : ℕ) (nums : LevelNums)
    → 0 < length (words_by first (level_values index nums))
unfolding words_by named_words
some_by true index nums = omega arith
some_by false index nums = omega arith

pub some_words : (version index : ℕ) (nums : LevelNums)
    → 0 < length (level_words version (level_values index nums))
unfolding level_words
some_words version index nums = some_by (version == 1) index nums

-- ---- the line of the whole plan

abbrev pub plan_words : List ℕ → List (List ℕ)
plan_words ns = codes "plan" ∷ named_words plan_names ns

plan_by : (same : Bool) (key : List ℕ) (words : List (List ℕ)) (ns : List ℕ)
    → bytes_eq key (codes "plan") ≡ same
    → cond same (numbers_named plan_names words) None ≡ Some ns → plan_words ns ≡ key ∷ words
plan_by false key words ns s e = absurd cc
plan_by true key words ns s e =
    let key_is = (bytes_eq-Decides key (codes "plan")).0 s in
    ap (λ ws. codes "plan" ∷ ws) (named_back plan_names words ns e)
    ∙ ap (λ k. k ∷ words) (sym key_is)

pub plan_back : (words : List (List ℕ)) (ns : List ℕ) → plan_stated words ≡ Some ns
    → plan_words ns ≡ words
plan_back [] ns e = absurd cc
plan_back (key ∷ words) ns e = plan_by (bytes_eq key (codes "plan")) key words ns refl e

pub plan_there : (ns : List ℕ) → length ns ≡ 6 → AllByRecursion IsShort ns
    → plan_stated (plan_words ns) ≡ Some ns
plan_there ns size short = named_there plan_names ns size short

plan_names_solid : AllByRecursion IsWord plan_names
unfolding is_solid
plan_names_solid = (refl, (refl, (refl, (refl, (refl, (refl, tt))))))

pub plan_solid : (ns : List ℕ) → AllByRecursion IsShort ns → AllByRecursion IsWord (plan_words ns)
unfolding is_solid
plan_solid ns short = (refl, named_solid plan_names ns plan_names_solid short)

-- the line of the plan is that of no level
no_level_by : (first : Bool) (ns : List ℕ)
    → cond first (without_spares (numbers_named level_names (plan_words ns)))
    (numbers_named spare_level_names (plan_words ns)) ≡ None
unfolding named_words
no_level_by true [] = refl
no_level_by true (n ∷ ns) = refl
no_level_by false [] = refl
no_level_by false (n ∷ ns) = refl

pub no_level : (version : ℕ) (ns : List ℕ) → level_stated version (plan_words ns) ≡ None
no_level version ns = no_level_by (version == 1) ns
