-- What a script that is read says is what its lines say.
use Rattle.std.specs.Prelude.{◌≡◌, ◌⊎◌, ℕ, List, [], ◌∷◌, ◌++◌, replicate, true, Ok, IfOk, codes}
use Rattle.std.specs.Prelude.{decimal}
use Rattle.hex.specs.Hex.{encode_lower, decode_of}
use Rattle.part_lines.specs.TakenLines.{counting, Took}
use Rattle.texts.specs.Words.{joined}
use Rattle.state_codec.specs.Shapes.{Shape, fields_at}
use Rattle.state_codec.specs.Texts.{is_state_text, read_text, written_text}
use Rattle.adversary_script.specs.Scripts.{Script}
use Rattle.adversary_script.specs.ScriptPart.{part_for, script_for}
use Rattle.adversary_script.specs.ScriptTexts.{script_lines}

-- the words of a lie of node v before the digits of a state
pub record IsLieFront (v : ℕ) (front : List (List ℕ)) : Type 0 where
  pub first : ℕ
  pub last : ℕ
  pub who : List (List ℕ)
  pub is : front
      ≡ codes "lie" ∷ decimal first ∷ decimal last ∷ decimal v ∷ codes "to"
      ∷ (who ++ codes "hex" ∷ [])

-- words after which the digits of a state of node v stand
abbrev pub StandsBefore : (v : ℕ) → (front : List (List ℕ)) → Type 0
StandsBefore v front =
    (front ≡ codes "start" ∷ codes "node" ∷ decimal v ∷ []) ⊎ IsLieFront v front

-- The line ends with digits of the node's size, and these words with the digits of the state that
-- they are read as. The other words are the same.
pub record SaysState (shape : Shape) (line : List ℕ) (words : List (List ℕ)) : Type 0 where
  pub node : ℕ
  pub front : List (List ℕ)
  pub digits : List ℕ
  pub before : StandsBefore node front
  pub size : is_state_text (fields_at shape node) digits ≡ true
  pub line_is : line ≡ joined (front ++ digits ∷ [])
  pub words_are : words
      ≡ front
      ++ written_text (fields_at shape node) (read_text (fields_at shape node) digits) ∷ []

-- the line of a seed with digits of this key
pub record SaysKey (line key : List ℕ) : Type 0 where
  pub digits : List ℕ
  pub line_is : line ≡ joined (codes "seed" ∷ digits ∷ [])
  pub decoded : decode_of digits ≡ Ok key

pub record SaysSeed (line : List ℕ) (words : List (List ℕ)) : Type 0 where
  pub key : List ℕ
  pub says : SaysKey line key
  pub words_are : words ≡ codes "seed" ∷ encode_lower key ∷ []

-- a line says these words: it is them, but for digits
abbrev pub SaysLine : Shape → (line : List ℕ) → (words : List (List ℕ)) → Type 0
SaysLine shape line words =
    (line ≡ joined words) ⊎ (SaysState shape line words ⊎ SaysSeed line words)

abbrev pub SaysFirst : Shape → List ℕ → (List (List (List ℕ)) → Type 0) → List (List (List ℕ))
    → Type 0
SaysFirst shape line Rest [] = ⊥
SaysFirst shape line Rest (words ∷ more) = SaysLine shape line words × Rest more

-- lines say these words, in order; a seed of zeros says nothing
abbrev pub SayLines : Shape → List (List ℕ) → List (List (List ℕ)) → Type 0
SayLines shape [] said = said ≡ []
SayLines shape (line ∷ lines) said =
    (SaysKey line (replicate 32 0) × SayLines shape lines said)
    ⊎ SaysFirst shape line (λ more. SayLines shape lines more) said

-- What is read is what stands there: the lines that count, of those that the part took, say the
-- lines of the script.
abbrev pub ReadIsScriptText : Type 0
ReadIsScriptText = (nodes faults : ℕ) (shape : Shape) (number : ℕ) (lines : List (List ℕ))
    → IfOk (part_for nodes faults shape number lines)
    (λ found. Took lines found (λ said. SayLines found.value.shape said (script_lines found.value)))

-- Alone, all lines that count do.
abbrev pub ReadIsWholeScriptText : Type 0
ReadIsWholeScriptText = (nodes faults : ℕ) (shape : Shape) (number : ℕ) (lines : List (List ℕ))
    → IfOk (script_for nodes faults shape number lines)
    (λ s. SayLines s.shape (counting lines) (script_lines s))
