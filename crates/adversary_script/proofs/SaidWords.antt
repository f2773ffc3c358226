-- What the words of a script's lines say can be said by a text.
use Rattle.std.proofs.Common.{◌≡◌, ℕ, ◌^◌, ◌<◌, Bool, true, false, ◌&&◌, List}
use Rattle.std.proofs.Common.{[], ◌∷◌, length, nat_lt, Option, Some, None, Result, Ok, Err}
use Rattle.std.proofs.Common.{refl, subst, arith}
use Rattle.std.specs.Prelude.{⊤, IfSome, codes, ◌==◌}
use Rattle.std.specs.Prelude.{if◌then◌else◌}
use Rattle.std.specs.Option.{option_map}
use Rattle.std.specs.Str.{bytes_eq}
use Rattle.std.specs.List.{list_all}
use Rattle.std.proofs.lemmas.Bool.{ltb-true, ltb-false, and_parts}
use Rattle.std.proofs.lemmas.Bool.{eqb-true}
use Rattle.std.proofs.lemmas.List.Quantifiers.{position-Some}
use Rattle.std.proofs.lemmas.List.{get_or_default}
use Rattle.hex.specs.Hex.{decode_of}
use Rattle.hex.proofs.HexLemmas.{decode_of-ok}
use Rattle.hex.specs.declared.error.FromHexError.{FromHexError}
use Rattle.texts.specs.Numbers.{number_of}
use Rattle.texts.proofs.LineWords.{read_is_small}
use Rattle.sync_types.specs.States.{State}
use Rattle.state_codec.specs.Shapes.{Fields}
use Rattle.state_codec.specs.Texts.{is_lower_digit}
use Rattle.adversary_script.specs.declared.lies.Who.TheVariants as who
use Rattle.adversary_script.specs.declared.lies.What.TheVariants as what
use Rattle.adversary_script.specs.LieWords.{WhoSaid, everyone, between, named, WhatSaid, noise}
use Rattle.adversary_script.specs.LieWords.{copy, digits, shift, LieSaid, who_words, what_words}
use Rattle.adversary_script.specs.LieWords.{with_what, with_who, with_numbers, lie_words}
use Rattle.adversary_script.specs.WordTests.{who_below, is_crossed}
use Rattle.adversary_script.specs.Scripts.{Group}
use Rattle.adversary_script.specs.LieSteps.{group_at, state_of_digits, who_of, what_of}
use Rattle.adversary_script.specs.Steps.{decoded_bytes, key_of_digits}
use Rattle.adversary_script.specs.Writable.{IsKey, IsHeard, IsSayable}

-- ---- what the words of a lie say

-- a number that is said has at most 15 digits
abbrev pub IsSmall : WhatSaid → Type 0
IsSmall (shift by) = by < 10 ^ 15
IsSmall other = ⊤

number_small : (word : List ℕ) (n : Option ℕ) → number_of word ≡ n
    → IfSome (option_map shift n) IsSmall
number_small word None is = tt
number_small word (Some n) is = read_is_small word n is

copy_small : (n : Option ℕ) → IfSome (option_map copy n) IsSmall
copy_small None = tt
copy_small (Some n) = tt

chosen : (P : WhatSaid → Type 0) (b : Bool) (x y : Option WhatSaid) → IfSome x P → IfSome y P
    → IfSome (if b then x else y) P
chosen P true x y p q = p
chosen P false x y p q = q

what_small : (words : List (List ℕ)) → IfSome (what_words words) IsSmall
what_small (key ∷ []) = chosen IsSmall (bytes_eq key (codes "noise")) (Some noise) None tt tt
what_small (key ∷ word ∷ []) =
    chosen IsSmall (bytes_eq key (codes "noise")) None _ tt
    (chosen IsSmall (bytes_eq key (codes "copy")) (option_map copy (number_of word)) _
    (copy_small (number_of word))
    (chosen IsSmall (bytes_eq key (codes "hex")) (Some (digits word)) _ tt
    (chosen IsSmall (bytes_eq key (codes "shift")) (option_map shift (number_of word)) None
    (number_small word (number_of word) refl) tt)))
what_small other = tt

-- so are the last round and a number that is added
pub record IsSmallLie (l : LieSaid) : Type 0 where
  pub last : l.last < 10 ^ 15
  pub what : IsSmall l.what

with_what_small : (a b u : ℕ) (who : WhoSaid) (what : Option WhatSaid) → b < 10 ^ 15
    → IfSome what IsSmall → IfSome (with_what a b u who what) IsSmallLie
with_what_small a b u who None lt small = tt
with_what_small a b u who (Some what) lt small = record { last = lt; what = small }

with_who_small : (a b u : ℕ) (found : Option (WhoSaid × List (List ℕ))) → b < 10 ^ 15
    → IfSome (with_who a b u found) IsSmallLie
with_who_small a b u None lt = tt
with_who_small a b u (Some found) lt =
    with_what_small a b u found.0 (what_words found.1) lt (what_small found.1)

numbers_small : (a b u : Option ℕ) (words : List (List ℕ)) → IfSome b (λ b. b < 10 ^ 15)
    → IfSome (with_numbers a b u words) IsSmallLie
numbers_small (Some a) (Some b) (Some u) words lt = with_who_small a b u (who_words words) lt
numbers_small a b u words lt = tt

small_by : (word : List ℕ) (n : Option ℕ) → number_of word ≡ n → IfSome n (λ n. n < 10 ^ 15)
small_by word None is = tt
small_by word (Some n) is = read_is_small word n is

lie_if : (P : LieSaid → Type 0) (b : Bool) (x : Option LieSaid) → IfSome x P
    → IfSome (if b then x else None) P
lie_if P true x h = h
lie_if P false x h = tt

pub lie_small : (words : List (List ℕ)) → IfSome (lie_words words) IsSmallLie
lie_small (a ∷ b ∷ u ∷ to ∷ words) =
    lie_if IsSmallLie (bytes_eq to (codes "to"))
    (with_numbers (number_of a) (number_of b) (number_of u) words)
    (numbers_small (number_of a) (number_of b) (number_of u) words
    (small_by b (number_of b) refl))
lie_small other = tt

-- ---- the key

ok_by : (r : Result (List ℕ) FromHexError) (word : List ℕ) → decode_of word ≡ r
    → length word ≡ 64 → IfSome (decoded_bytes r) IsKey
ok_by (Err e) word is long = tt
ok_by (Ok bytes) word is long =
    let so = decode_of-ok word bytes is in
    let size = so.2 in
    record {
      size = omega (arith, long, size);
      bytes = λ k d lt.
          subst (λ byte. byte < 256) (get_or_default bytes k 0 d lt) (so.3 k);
    }

key_by : (b : Bool) (word : List ℕ) → (b ≡ true → length word ≡ 64)
    → IfSome (if b then decoded_bytes (decode_of word) else None) IsKey
key_by true word long = ok_by (decode_of word) word refl (long refl)
key_by false word long = tt

pub key_is : (word : List ℕ) → IfSome (key_of_digits word) IsKey
key_is word =
    key_by (length word == 64 && list_all is_lower_digit word) word (λ passed.
    eqb-true (length word) 64
    (and_parts (length word == 64) (list_all is_lower_digit word) passed).0)

-- ---- who hears

group_heard : (n : ℕ) (groups : List Group) (i : Option ℕ) (name : List ℕ)
    → group_at groups name ≡ i → IfSome (option_map who.Group i) (IsHeard n groups)
group_heard n groups None name is = tt
group_heard n groups (Some i) name is =
    (position-Some (λ (group : Group). bytes_eq name group.name) groups i
    (record { name = []; ids = [] }) is).0

pub who_heard : (n : ℕ) (groups : List Group) (said : WhoSaid) → who_below n said ≡ true
    → is_crossed said ≡ false → IfSome (who_of groups said) (IsHeard n groups)
who_heard n groups everyone below order = tt
who_heard n groups (between p q) below order =
    (ltb-false q p order, ltb-true q n (and_parts (nat_lt p n) (nat_lt q n) below).1)
who_heard n groups (named name) below order =
    group_heard n groups (group_at groups name) name refl

state_sayable : (state : Option State) → IfSome (option_map what.State state) IsSayable
state_sayable None = tt
state_sayable (Some state) = tt

pub what_sayable : (fields : Fields) (said : WhatSaid) → IsSmall said
    → IfSome (what_of fields said) IsSayable
what_sayable fields noise small = tt
what_sayable fields (copy w) small = tt
what_sayable fields (digits h) small = state_sayable (state_of_digits fields h)
what_sayable fields (shift by) small = small
