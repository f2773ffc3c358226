-- What a line of a run certificate says.
use Rattle.std.specs.Prelude.{◌≡◌, ℕ, ◌<◌, ◌≤◌, ◌^◌, nat_le, List, [], ◌∷◌, map, length, All}
use Rattle.std.specs.Prelude.{IfSome, ⊤, true, Option, Some, None, if◌then◌else◌, codes, decimal}
use Rattle.std.specs.List.{list_all}
use Rattle.std.specs.Option.{option_map}
use Rattle.std.specs.Str.{bytes_eq}
use Rattle.texts.specs.Lines.{words_of}
use Rattle.texts.specs.Numbers.{number_of}
use Rattle.state_codec.specs.Texts.{is_lower_digit}
use Rattle.texts.specs.Shapes.{all_numbers}
use Rattle.texts.specs.Words.{joined}

pub data Item : Type 0 where
  run_item : ℕ → Item
  base_item : ℕ → Item
  level_item : ℕ → ℕ → ℕ → Option ℕ → Item
  faulty_item : List ℕ → Item
  start_item : ℕ → List ℕ → Item
  row_item : ℕ → List (Option ℕ) → Item
  lie_item : ℕ → ℕ → List ℕ → Item
  era_item : ℕ → List ℕ → Item
  end_item : Item

-- ---- from an item to its words

-- the word of a node in a row: a star for a faulty one
abbrev pub row_word : Option ℕ → List ℕ
row_word None = codes "*"
row_word (Some o) = decimal o

abbrev pub item_words : Item → List (List ℕ)
item_words (run_item version) = codes "run" ∷ decimal version ∷ []
item_words (base_item base) = codes "base" ∷ decimal base ∷ []
item_words (level_item k f c None) = codes "level" ∷ decimal k ∷ decimal f ∷ decimal c ∷ []
item_words (level_item k f c (Some s)) =
    codes "level" ∷ decimal k ∷ decimal f ∷ decimal c ∷ codes "spare" ∷ decimal s ∷ []
item_words (faulty_item ids) = codes "faulty" ∷ map decimal ids
item_words (start_item v digits) = codes "start" ∷ decimal v ∷ digits ∷ []
item_words (row_item t row) = codes "row" ∷ decimal t ∷ map row_word row
item_words (lie_item u v digits) = codes "lie" ∷ decimal u ∷ decimal v ∷ digits ∷ []
item_words (era_item t ids) = codes "era" ∷ decimal t ∷ map decimal ids
item_words end_item = codes "end" ∷ []

abbrev pub item_line : Item → List ℕ
item_line item = joined (item_words item)

-- a number of at most 15 digits
abbrev pub IsShort : ℕ → Type 0
IsShort n = n < 10 ^ 15

-- what can be written of an item
abbrev pub HasWords : Item → Type 0
HasWords (run_item version) = IsShort version
HasWords (base_item base) = IsShort base
HasWords (level_item k f c spares) = IsShort k × IsShort f × IsShort c × IfSome spares IsShort
HasWords (faulty_item ids) = All IsShort ids
HasWords (start_item v digits) = IsShort v × (list_all is_lower_digit digits ≡ true)
HasWords (row_item t row) = IsShort t × All (λ word. IfSome word IsShort) row
HasWords (lie_item u v digits) = IsShort u × IsShort v × (list_all is_lower_digit digits ≡ true)
HasWords (era_item t ids) = IsShort t × All IsShort ids
HasWords end_item = ⊤

-- an item that has a line: its numbers have at most 15 digits, its digits are those of hex, and the
-- line has at most 4096 bytes
pub record HasLine (item : Item) : Type 0 where
  pub words : HasWords item
  pub short : length (item_line item) ≤ 4096

-- ---- from words to the item that they say

abbrev pub with_two : {X : Type 0} → (ℕ → ℕ → X) → Option ℕ → Option ℕ → Option X
with_two f (Some a) (Some b) = Some (f a b)
with_two f a b = None

abbrev pub with_three : {X : Type 0} → (ℕ → ℕ → ℕ → X) → Option ℕ → Option ℕ → Option ℕ → Option X
with_three f (Some a) (Some b) (Some c) = Some (f a b c)
with_three f a b c = None

abbrev pub with_four : {X : Type 0} → (ℕ → ℕ → ℕ → ℕ → X) → Option ℕ → Option ℕ → Option ℕ
    → Option ℕ → Option X
with_four f (Some a) (Some b) (Some c) (Some d) = Some (f a b c d)
with_four f a b c d = None

abbrev pub onto : {X : Type 0} → Option X → Option (List X) → Option (List X)
onto (Some x) (Some xs) = Some (x ∷ xs)
onto x xs = None

abbrev pub value_said : List ℕ → Option (Option ℕ)
value_said word = if bytes_eq word (codes "*") then Some None else option_map Some (number_of word)

abbrev pub values_said : List (List ℕ) → Option (List (Option ℕ))
values_said [] = Some []
values_said (word ∷ words) = onto (value_said word) (values_said words)

abbrev pub row_by : Option ℕ → Option (List (Option ℕ)) → Option Item
row_by (Some t) (Some row) = Some (row_item t row)
row_by t row = None

abbrev pub era_by : Option ℕ → Option (List ℕ) → Option Item
era_by (Some t) (Some ids) = Some (era_item t ids)
era_by t ids = None

abbrev pub one_said : (ℕ → Item) → List (List ℕ) → Option Item
one_said f (a ∷ []) = option_map f (number_of a)
one_said f other = None

abbrev pub level_said : List (List ℕ) → Option Item
level_said (a ∷ b ∷ c ∷ []) =
    with_three (λ k f c. level_item k f c None) (number_of a) (number_of b) (number_of c)
level_said (a ∷ b ∷ c ∷ key ∷ s ∷ []) =
    if bytes_eq key (codes "spare")
    then with_four (λ k f c s. level_item k f c (Some s)) (number_of a) (number_of b) (number_of c)
    (number_of s)
    else None
level_said other = None

abbrev pub start_said : List (List ℕ) → Option Item
start_said (v ∷ digits ∷ []) =
    if list_all is_lower_digit digits then option_map (λ v. start_item v digits) (number_of v)
    else None
start_said other = None

abbrev pub lie_said : List (List ℕ) → Option Item
lie_said (u ∷ v ∷ digits ∷ []) =
    if list_all is_lower_digit digits
    then with_two (λ u v. lie_item u v digits) (number_of u) (number_of v) else None
lie_said other = None

abbrev pub row_said : List (List ℕ) → Option Item
row_said [] = None
row_said (t ∷ words) = row_by (number_of t) (values_said words)

abbrev pub era_said : List (List ℕ) → Option Item
era_said [] = None
era_said (t ∷ words) = era_by (number_of t) (all_numbers words)

abbrev pub end_said : List (List ℕ) → Option Item
end_said [] = Some end_item
end_said (word ∷ words) = None

abbrev pub item_of : List (List ℕ) → Option Item
item_of [] = None
item_of (key ∷ words) =
    if bytes_eq key (codes "row") then row_said words
    else if bytes_eq key (codes "lie") then lie_said words
    else if bytes_eq key (codes "start") then start_said words
    else if bytes_eq key (codes "era") then era_said words
    else if bytes_eq key (codes "end") then end_said words
    else if bytes_eq key (codes "faulty") then option_map faulty_item (all_numbers words)
    else if bytes_eq key (codes "level") then level_said words
    else if bytes_eq key (codes "base") then one_said base_item words
    else if bytes_eq key (codes "run") then one_said run_item words
    else None

-- what a line says; one of more than 4096 bytes says nothing
abbrev pub said : List ℕ → Option Item
said line = if nat_le (length line) 4096 then item_of (words_of line) else None
