-- The words of a lie after its first: `A B U to WHO WHAT`.
use Rattle.std.specs.Prelude.{◌≡◌, ℕ, List, [], ◌∷◌, Option, Some, None, if◌then◌else◌, codes}
use Rattle.std.specs.Option.{option_map}
use Rattle.std.specs.Str.{bytes_eq}
use Rattle.texts.specs.Numbers.{number_of}
use Rattle.adversary_script.specs.declared.lie_words.WhoWords.{WhoWords}
use Rattle.adversary_script.specs.declared.lie_words.WhoWords.TheVariants as who
use Rattle.adversary_script.specs.declared.lie_words.WhatWords.{WhatWords}
use Rattle.adversary_script.specs.declared.lie_words.WhatWords.TheVariants as what
use Rattle.adversary_script.specs.declared.lie_words.LieWords.{LieWords}

-- all, the ids from one to another, or those of a group by its name
pub data WhoSaid : Type 0 where
  everyone : WhoSaid
  between : ℕ → ℕ → WhoSaid
  named : List ℕ → WhoSaid

-- noise, a copy of a node's state, the state of these digits, or the puppet shifted by so much
pub data WhatSaid : Type 0 where
  noise : WhatSaid
  copy : ℕ → WhatSaid
  digits : List ℕ → WhatSaid
  shift : ℕ → WhatSaid

-- in these rounds this node tells that to those
pub record LieSaid : Type 0 where
  pub first : ℕ
  pub last : ℕ
  pub sender : ℕ
  pub who : WhoSaid
  pub what : WhatSaid

-- `Q`, and the words after it
abbrev pub up_to : ℕ → List (List ℕ) → Option (WhoSaid × List (List ℕ))
up_to p [] = None
up_to p (word ∷ words) = option_map (λ q. (between p q, words)) (number_of word)

-- a number begins two ids, another word is a name
abbrev pub who_by : Option ℕ → List ℕ → List (List ℕ) → Option (WhoSaid × List (List ℕ))
who_by None word words = Some (named word, words)
who_by (Some p) word words = up_to p words

-- WHO, and the words after it
abbrev pub who_words : List (List ℕ) → Option (WhoSaid × List (List ℕ))
who_words [] = None
who_words (word ∷ words) =
    if bytes_eq word (codes "all") then Some (everyone, words) else who_by (number_of word) word
    words

-- WHAT, which ends the line
abbrev pub what_words : List (List ℕ) → Option WhatSaid
what_words (key ∷ []) = if bytes_eq key (codes "noise") then Some noise else None
what_words (key ∷ word ∷ []) =
    if bytes_eq key (codes "noise") then None
    else if bytes_eq key (codes "copy") then option_map copy (number_of word)
    else if bytes_eq key (codes "hex") then Some (digits word)
    else if bytes_eq key (codes "shift") then option_map shift (number_of word)
    else None
what_words other = None

abbrev pub with_what : (a b u : ℕ) → WhoSaid → Option WhatSaid → Option LieSaid
with_what a b u who found =
    option_map (λ what. record { first = a; last = b; sender = u; who = who; what = what }) found

abbrev pub with_who : (a b u : ℕ) → Option (WhoSaid × List (List ℕ)) → Option LieSaid
with_who a b u None = None
with_who a b u (Some found) = with_what a b u found.0 (what_words found.1)

abbrev pub with_numbers : Option ℕ → Option ℕ → Option ℕ → List (List ℕ) → Option LieSaid
with_numbers (Some a) (Some b) (Some u) words = with_who a b u (who_words words)
with_numbers a b u words = None

-- `A B U to WHO WHAT`
abbrev pub lie_words : List (List ℕ) → Option LieSaid
lie_words (a ∷ b ∷ u ∷ to ∷ words) =
    if bytes_eq to (codes "to") then with_numbers (number_of a) (number_of b) (number_of u) words
    else None
lie_words other = None

-- what the words of the code stand for
abbrev pub who_seen : WhoWords → WhoSaid
who_seen who.All = everyone
who_seen (who.Ids p q) = between p q
who_seen (who.Named name) = named name.now

abbrev pub what_seen : WhatWords → WhatSaid
what_seen what.Noise = noise
what_seen (what.Copy w) = copy w
what_seen (what.Hex h) = digits h.now
what_seen (what.Shift d) = shift d

abbrev pub lie_seen : LieWords → LieSaid
lie_seen l =
    record {
      first = l.first;
      last = l.last;
      sender = l.sender;
      who = who_seen l.who;
      what =
          what_seen l.what;
    }

-- the receivers that were read are those defined, and these words are left
abbrev pub WhoRead : Option WhoWords → List (List ℕ) → List (List ℕ) → Type 0
WhoRead None words left = who_words words ≡ None
WhoRead (Some w) words left = who_words words ≡ Some (who_seen w, left)
