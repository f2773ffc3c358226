-- Lines that say the lines of a script, one more at a time.
use Rattle.std.proofs.Common.{ℕ, inl, inr, List, [], ◌∷◌, ◌++◌, replicate, refl, sym, subst}
use Rattle.state_codec.specs.Shapes.{Shape}
use Rattle.read_texts.specs.ReadScripts.{SaysKey, SaysLine, SaysFirst, SayLines}

abbrev Words : Type 0
Words = List (List (List ℕ))

-- one more line says one more
pub say_more : (shape : Shape) (lines : List (List ℕ)) (said : Words) (line : List ℕ)
    (words : List (List ℕ)) → SayLines shape lines said → SaysLine shape line words
    → SayLines shape (lines ++ line ∷ []) (said ++ words ∷ [])
say_more shape [] said line words before one =
    let alone : SayLines shape (line ∷ []) (words ∷ []) = inr (one, refl) in
    subst (λ (ws : Words). SayLines shape (line ∷ []) (ws ++ words ∷ [])) (sym before) alone
say_more shape (l ∷ lines) said line words (inl before) one =
    inl (before.0, say_more shape lines said line words before.1 one)
say_more shape (l ∷ lines) [] line words (inr before) one = absurd before
say_more shape (l ∷ lines) (w ∷ said) line words (inr before) one =
    inr (before.0, say_more shape lines said line words before.1 one)

-- a seed of zeros says nothing more
pub say_no_more : (shape : Shape) (lines : List (List ℕ)) (said : Words) (line : List ℕ)
    → SayLines shape lines said → SaysKey line (replicate 32 0)
    → SayLines shape (lines ++ line ∷ []) said
say_no_more shape [] said line before zeros = inl (zeros, before)
say_no_more shape (l ∷ lines) said line (inl before) zeros =
    inl (before.0, say_no_more shape lines said line before.1 zeros)
say_no_more shape (l ∷ lines) [] line (inr before) zeros = absurd before
say_no_more shape (l ∷ lines) (w ∷ said) line (inr before) zeros =
    inr (before.0, say_no_more shape lines said line before.1 zeros)
