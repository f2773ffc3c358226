-- The words of a script's line, from what was read of them.
use Rattle.std.proofs.Common.{◌≡◌, ℕ, Bool, true, false, List, [], ◌∷◌, ◌++◌, map, Option, Some}
use Rattle.std.proofs.Common.{None}
use Rattle.std.proofs.Common.{Result, Ok, Err, refl, sym, ap, ◌∙◌, subst, append_assoc}
use Rattle.std.specs.Prelude.{⊤, IfSome, IfOk, codes, decimal, ◌==◌, ◌&&◌, length, if◌then◌else◌}
use Rattle.std.specs.List.{list_all}
use Rattle.std.specs.Option.{option_map}
use Rattle.std.specs.Str.{bytes_eq}
use Rattle.std.proofs.lemmas.List.Quantifiers.{position-Some}
use Rattle.hex.specs.Hex.{decode_of}
use Rattle.hex.specs.declared.error.FromHexError.{FromHexError}
use Rattle.texts.specs.Numbers.{number_of}
use Rattle.texts.specs.Shapes.{all_numbers}
use Rattle.part_lines.proofs.ReadWords.{same_bytes, word_is, all_words_are}
use Rattle.sync_types.specs.States.{State}
use Rattle.state_codec.specs.Shapes.{Fields}
use Rattle.state_codec.specs.Texts.{is_lower_digit, is_state_text, read_text, written_text}
use Rattle.adversary_script.specs.declared.kinds.Kind.{Kind}
use Rattle.adversary_script.specs.declared.kinds.Kind.TheVariants as kind
use Rattle.adversary_script.specs.declared.lies.Who.{Who}
use Rattle.adversary_script.specs.declared.lies.Who.TheVariants as who
use Rattle.adversary_script.specs.declared.lies.What.{What}
use Rattle.adversary_script.specs.declared.lies.What.TheVariants as what
use Rattle.adversary_script.specs.Kinds.{start_kind, kind_of}
use Rattle.adversary_script.specs.FaultySteps.{era_front, with_ids, era_words}
use Rattle.adversary_script.specs.LieSteps.{group_at, state_of_digits, who_of, what_of}
use Rattle.adversary_script.specs.LieWords.{WhoSaid, everyone, between, named, WhatSaid, noise}
use Rattle.adversary_script.specs.LieWords.{copy, digits, shift, LieSaid, up_to, who_by, who_words}
use Rattle.adversary_script.specs.LieWords.{what_words, with_what, with_who, with_numbers}
use Rattle.adversary_script.specs.LieWords.{lie_words}
use Rattle.adversary_script.specs.Scripts.{Group}
use Rattle.adversary_script.specs.ScriptTexts.{group_in, hearers, saying}
use Rattle.adversary_script.specs.Steps.{decoded_bytes, key_of_digits}

abbrev Words : Type 0
Words = List (List ℕ)

-- what either of two words chooses
if_key : {X : Type 0} (P : X → Type 0) (word key : List ℕ) (x y : Option X)
    → (word ≡ key → IfSome x P) → IfSome y P → IfSome (if bytes_eq word key then x else y) P
if_key P word key x y here there = by (bytes_eq word key) refl where
  by : (b : Bool) → bytes_eq word key ≡ b → IfSome (if b then x else y) P
  by true is = here (same_bytes word key is)
  by false is = there

-- ---- kinds

-- the words that say a line's kind
abbrev pub front : Kind → Words
front kind.Script = codes "script" ∷ []
front kind.Faulty = codes "faulty" ∷ []
front kind.Seed = codes "seed" ∷ []
front kind.StartZero = codes "start" ∷ codes "zero" ∷ []
front kind.StartNoise = codes "start" ∷ codes "noise" ∷ []
front kind.StartNode = codes "start" ∷ codes "node" ∷ []
front kind.Era = codes "era" ∷ []
front kind.Group = codes "group" ∷ []
front kind.Lie = codes "lie" ∷ []
front kind.Rounds = codes "rounds" ∷ []
front kind.Show = codes "show" ∷ []
front kind.End = codes "end" ∷ []

abbrev AreOf : Words → Kind × Words → Type 0
AreOf words found = words ≡ front found.0 ++ found.1

start_is : (words : Words)
    → IfSome (start_kind words) (λ found. AreOf (codes "start" ∷ words) found)
start_is [] = tt
start_is (word ∷ words) =
    let Is : Kind × Words → Type 0 = λ found. AreOf (codes "start" ∷ word ∷ words) found in
    let to : (key : List ℕ) → word ≡ key
    → codes "start" ∷ word ∷ words ≡ codes "start" ∷ key ∷ words =
    λ key is. ap (λ (w : List ℕ). codes "start" ∷ w ∷ words) is in
    if_key Is word (codes "zero") (Some (kind.StartZero, words)) _ (to (codes "zero"))
    (if_key Is word (codes "noise") (Some (kind.StartNoise, words)) _ (to (codes "noise"))
    (if_key Is word (codes "node") (Some (kind.StartNode, words)) _ (to (codes "node")) tt))

started : (word : List ℕ) (words : Words) → word ≡ codes "start"
    → IfSome (start_kind words) (λ found. AreOf (word ∷ words) found)
started word words is =
    subst (λ (w : List ℕ). IfSome (start_kind words) (λ found. AreOf (w ∷ words) found)) (sym is)
    (start_is words)

pub kind_is : (words : Words) → IfSome (kind_of words) (λ found. words ≡ front found.0 ++ found.1)
kind_is [] = tt
kind_is (word ∷ words) =
    let Is : Kind × Words → Type 0 = λ found. AreOf (word ∷ words) found in
    let to : (key : List ℕ) → word ≡ key → word ∷ words ≡ key ∷ words =
    λ key is. ap (λ (w : List ℕ). w ∷ words) is in
    if_key Is word (codes "start") (start_kind words) _ (started word words)
    (if_key Is word (codes "lie") (Some (kind.Lie, words)) _ (to (codes "lie"))
    (if_key Is word (codes "group") (Some (kind.Group, words)) _ (to (codes "group"))
    (if_key Is word (codes "script") (Some (kind.Script, words)) _ (to (codes "script"))
    (if_key Is word (codes "faulty") (Some (kind.Faulty, words)) _ (to (codes "faulty"))
    (if_key Is word (codes "seed") (Some (kind.Seed, words)) _ (to (codes "seed"))
    (if_key Is word (codes "era") (Some (kind.Era, words)) _ (to (codes "era"))
    (if_key Is word (codes "rounds") (Some (kind.Rounds, words)) _ (to (codes "rounds"))
    (if_key Is word (codes "show") (Some (kind.Show, words)) _ (to (codes "show"))
    (if_key Is word (codes "end") (Some (kind.End, words)) _ (to (codes "end")) tt)))))))))

-- ---- eras

abbrev AreEraOf : Words → ℕ × Words → Type 0
AreEraOf words found = words ≡ decimal found.0 ∷ codes "faulty" ∷ found.1

era_number : (a : List ℕ) (words : Words) (n : Option ℕ) → IfSome n (λ n. a ≡ decimal n)
    → IfSome (option_map (λ first. (first, words)) n) (AreEraOf (a ∷ codes "faulty" ∷ words))
era_number a words None is = tt
era_number a words (Some n) is = ap (λ (w : List ℕ). w ∷ codes "faulty" ∷ words) is

era_front_is : (words : Words) → IfSome (era_front words) (AreEraOf words)
era_front_is [] = tt
era_front_is (a ∷ []) = tt
era_front_is (a ∷ key ∷ words) =
    if_key (AreEraOf (a ∷ key ∷ words)) key (codes "faulty")
    (option_map (λ first. (first, words)) (number_of a)) None
    (λ is. subst (λ (k : List ℕ). IfSome (option_map (λ first. (first, words)) (number_of a))
    (AreEraOf (a ∷ k ∷ words))) (sym is) (era_number a words (number_of a) (word_is a))) tt

abbrev AreEra : Words → ℕ × List ℕ → Type 0
AreEra words said = words ≡ decimal said.0 ∷ codes "faulty" ∷ map decimal said.1

era_ids : (words : Words) (found : ℕ × Words) (ids : Option (List ℕ)) → AreEraOf words found
    → IfSome ids (λ ids. found.1 ≡ map decimal ids)
    → IfSome (option_map (λ ids. (found.0, ids)) ids) (AreEra words)
era_ids words found None is are = tt
era_ids words found (Some ids) is are =
    is ∙ ap (λ (ws : Words). decimal found.0 ∷ codes "faulty" ∷ ws) are

era_found : (words : Words) (found : Option (ℕ × Words)) → IfSome found (AreEraOf words)
    → IfSome (with_ids found) (AreEra words)
era_found words None is = tt
era_found words (Some found) is =
    era_ids words found (all_numbers found.1) is (all_words_are found.1)

pub era_is : (words : Words) → IfSome (era_words words)
    (λ said. words ≡ decimal said.0 ∷ codes "faulty" ∷ map decimal said.1)
era_is words = era_found words (era_front words) (era_front_is words)

-- ---- lies

-- the words of who hears, and of what is told
abbrev pub heard_words : WhoSaid → Words
heard_words everyone = codes "all" ∷ []
heard_words (between p q) = decimal p ∷ decimal q ∷ []
heard_words (named name) = name ∷ []

abbrev pub told_words : WhatSaid → Words
told_words noise = codes "noise" ∷ []
told_words (copy w) = codes "copy" ∷ decimal w ∷ []
told_words (digits h) = codes "hex" ∷ h ∷ []
told_words (shift by) = codes "shift" ∷ decimal by ∷ []

abbrev AreWho : Words → WhoSaid × Words → Type 0
AreWho words found = words ≡ heard_words found.0 ++ found.1

up_to_is : (p : ℕ) (first : List ℕ) (words : Words) → first ≡ decimal p
    → IfSome (up_to p words) (AreWho (first ∷ words))
up_to_is p first [] is = tt
up_to_is p first (word ∷ words) is = by (number_of word) (word_is word) where
  by : (q : Option ℕ) → IfSome q (λ q. word ≡ decimal q)
      → IfSome (option_map (λ q. (between p q, words)) q) (AreWho (first ∷ word ∷ words))
  by None same = tt
  by (Some q) same =
      ap (λ (w : List ℕ). w ∷ word ∷ words) is ∙ ap (λ (w : List ℕ). decimal p ∷ w ∷ words) same

who_by_is : (p : Option ℕ) (word : List ℕ) (words : Words) → IfSome p (λ p. word ≡ decimal p)
    → IfSome (who_by p word words) (AreWho (word ∷ words))
who_by_is None word words is = refl
who_by_is (Some p) word words is = up_to_is p word words is

who_is : (words : Words) → IfSome (who_words words) (AreWho words)
who_is [] = tt
who_is (word ∷ words) =
    if_key (AreWho (word ∷ words)) word (codes "all") (Some (everyone, words))
    (who_by (number_of word) word words) (λ is. ap (λ (w : List ℕ). w ∷ words) is)
    (who_by_is (number_of word) word words (word_is word))

abbrev IsWhat : Words → WhatSaid → Type 0
IsWhat words said = words ≡ told_words said

what_number : (key word : List ℕ) (make : ℕ → WhatSaid) (n : Option ℕ)
    → ((n : ℕ) → told_words (make n) ≡ key ∷ decimal n ∷ []) → IfSome n (λ n. word ≡ decimal n)
    → IfSome (option_map make n) (IsWhat (key ∷ word ∷ []))
what_number key word make None told is = tt
what_number key word make (Some n) told is =
    ap (λ (w : List ℕ). key ∷ w ∷ []) is ∙ sym (told n)

what_is : (words : Words) → IfSome (what_words words) (IsWhat words)
what_is [] = tt
what_is (key ∷ []) =
    if_key (IsWhat (key ∷ [])) key (codes "noise") (Some noise) None
    (λ is. ap (λ (w : List ℕ). w ∷ []) is) tt
what_is (key ∷ word ∷ []) =
    let Is : WhatSaid → Type 0 = IsWhat (key ∷ word ∷ []) in
    let here : (k : List ℕ) (x : Option WhatSaid) → IfSome x (IsWhat (k ∷ word ∷ [])) → key ≡ k
    → IfSome x Is =
    λ k x h is. subst (λ (k : List ℕ). IfSome x (IsWhat (k ∷ word ∷ []))) (sym is) h in
    if_key Is key (codes "noise") None _ (λ is. tt)
    (if_key Is key (codes "copy") (option_map copy (number_of word)) _
    (here (codes "copy") (option_map copy (number_of word))
    (what_number (codes "copy") word copy (number_of word) (λ n. refl) (word_is word)))
    (if_key Is key (codes "hex") (Some (digits word)) _
    (here (codes "hex") (Some (digits word)) refl)
    (if_key Is key (codes "shift") (option_map shift (number_of word)) None
    (here (codes "shift") (option_map shift (number_of word))
    (what_number (codes "shift") word shift (number_of word) (λ n. refl) (word_is word))) tt)))
what_is (key ∷ word ∷ next ∷ words) = tt

-- the words of a lie after its kind
abbrev pub lie_said : LieSaid → Words
lie_said l =
    decimal l.first ∷ decimal l.last ∷ decimal l.sender ∷ codes "to"
    ∷ (heard_words l.who ++ told_words l.what)

with_what_is : (a b u : ℕ) (who : WhoSaid) (words : Words) (what : Option WhatSaid)
    → IfSome what (IsWhat words)
    → IfSome (with_what a b u who what)
    (λ l. decimal a ∷ decimal b ∷ decimal u ∷ codes "to" ∷ (heard_words who ++ words) ≡ lie_said l)
with_what_is a b u who words None is = tt
with_what_is a b u who words (Some what) is =
    ap (λ (ws : Words).
    decimal a ∷ decimal b ∷ decimal u ∷ codes "to" ∷ (heard_words who ++ ws)) is

with_who_is : (a b u : ℕ) (words : Words) (found : Option (WhoSaid × Words))
    → IfSome found (AreWho words)
    → IfSome (with_who a b u found)
    (λ l. decimal a ∷ decimal b ∷ decimal u ∷ codes "to" ∷ words ≡ lie_said l)
with_who_is a b u words None is = tt
with_who_is a b u words (Some found) is =
    subst (λ (ws : Words). IfSome (with_what a b u found.0 (what_words found.1))
    (λ l. decimal a ∷ decimal b ∷ decimal u ∷ codes "to" ∷ ws ≡ lie_said l)) (sym is)
    (with_what_is a b u found.0 found.1 (what_words found.1) (what_is found.1))

numbers_are : (a b u : List ℕ) (words : Words) (x y z : Option ℕ)
    → IfSome x (λ n. a ≡ decimal n) → IfSome y (λ n. b ≡ decimal n) → IfSome z (λ n. u ≡ decimal n)
    → IfSome (with_numbers x y z words) (λ l. a ∷ b ∷ u ∷ codes "to" ∷ words ≡ lie_said l)
numbers_are a b u words (Some x) (Some y) (Some z) is is_2 is_3 =
    subst (λ (w : List ℕ). IfSome (with_who x y z (who_words words))
    (λ l. w ∷ b ∷ u ∷ codes "to" ∷ words ≡ lie_said l)) (sym is)
    (subst (λ (w : List ℕ). IfSome (with_who x y z (who_words words))
    (λ l. decimal x ∷ w ∷ u ∷ codes "to" ∷ words ≡ lie_said l)) (sym is_2)
    (subst (λ (w : List ℕ). IfSome (with_who x y z (who_words words))
    (λ l. decimal x ∷ decimal y ∷ w ∷ codes "to" ∷ words ≡ lie_said l)) (sym is_3)
    (with_who_is x y z words (who_words words) (who_is words))))
numbers_are a b u words x y z is is_2 is_3 = tt

pub lie_is : (words : Words) → IfSome (lie_words words) (λ l. words ≡ lie_said l)
lie_is (a ∷ b ∷ u ∷ to ∷ words) =
    if_key (λ l. a ∷ b ∷ u ∷ to ∷ words ≡ lie_said l) to (codes "to")
    (with_numbers (number_of a) (number_of b) (number_of u) words) None
    (λ is. subst (λ (w : List ℕ). IfSome
    (with_numbers (number_of a) (number_of b) (number_of u) words)
    (λ l. a ∷ b ∷ u ∷ w ∷ words ≡ lie_said l)) (sym is)
    (numbers_are a b u words (number_of a) (number_of b) (number_of u) (word_is a) (word_is b)
    (word_is u))) tt
lie_is other = tt

-- who hears
group_named : (groups : List Group) (name : List ℕ) (i : Option ℕ) → group_at groups name ≡ i
    → IfSome (option_map who.Group i) (λ w. heard_words (named name) ≡ hearers groups w)
group_named groups name None is = tt
group_named groups name (Some i) is =
    let there = position-Some (λ (group : Group). bytes_eq name group.name) groups i
    (record { name = []; ids = [] }) is in
    ap (λ (w : List ℕ). w ∷ []) (same_bytes name (group_in groups i).name there.1)

pub hearers_are : (groups : List Group) (said : WhoSaid)
    → IfSome (who_of groups said) (λ w. heard_words said ≡ hearers groups w)
hearers_are groups everyone = refl
hearers_are groups (between p q) = refl
hearers_are groups (named name) = group_named groups name (group_at groups name) refl

-- ---- digits

-- digits of a state were tested, and are read as it
state_by : (b : Bool) (fields : Fields) (word : List ℕ) → is_state_text fields word ≡ b
    → IfSome (if b then Some (read_text fields word) else None)
    (λ state. (is_state_text fields word ≡ true) × (state ≡ read_text fields word))
state_by true fields word is = (is, refl)
state_by false fields word is = tt

pub state_is : (fields : Fields) (word : List ℕ) → IfSome (state_of_digits fields word)
    (λ state. (is_state_text fields word ≡ true) × (state ≡ read_text fields word))
state_is fields word = state_by (is_state_text fields word) fields word refl

-- digits of a key are decoded as it
decoded_by : (r : Result (List ℕ) FromHexError) (word : List ℕ) → decode_of word ≡ r
    → IfSome (decoded_bytes r) (λ key. decode_of word ≡ Ok key)
decoded_by (Ok bytes) word is = is
decoded_by (Err e) word is = tt

key_by : (b : Bool) (word : List ℕ) → IfSome (if b then decoded_bytes (decode_of word) else None)
    (λ key. decode_of word ≡ Ok key)
key_by true word = decoded_by (decode_of word) word refl
key_by false word = tt

pub key_decoded : (word : List ℕ) → IfSome (key_of_digits word) (λ key. decode_of word ≡ Ok key)
key_decoded word = key_by (length word == 64 && list_all is_lower_digit word) word
