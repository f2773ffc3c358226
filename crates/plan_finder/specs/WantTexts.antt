-- The text of wants, which is read back.
use Rattle.std.specs.Prelude.{◌≡◌, ℕ, List, [], ◌∷◌, Ok, codes, decimal}
use Rattle.texts.specs.Words.{joined, text_of}
use Rattle.plan_finder.specs.declared.wants.Want.{Want}
use Rattle.plan_finder.specs.FindPart.{want_of, IsFit}

-- the words of the line that says them
abbrev pub want_words : Want → List (List ℕ)
want_words want =
    codes "want" ∷ decimal want.faults ∷ decimal want.modulus ∷ decimal want.most ∷ []

abbrev pub want_text : Want → List ℕ
want_text want = text_of (codes "find 1" ∷ joined (want_words want) ∷ codes "end" ∷ [])

-- The text of wants within the limits is read as these wants.
abbrev pub WantTextIsRead : Type 0
WantTextIsRead = (want : Want) → IsFit want → want_of (want_text want) ≡ Ok want
