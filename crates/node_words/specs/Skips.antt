-- That a skipped line changes nothing of what a header is read as, nor of what its node answers.
use Rattle.std.specs.Prelude.{◌≡◌, ◌≢◌, ℕ, ◌+◌, ◌<◌, ◌≤◌, List, ◌∷◌, ◌++◌, length, All}
use Rattle.std.specs.Prelude.{true, nat_le, if◌then◌else◌, Option, Some, None, Result, Ok, Err}
use Rattle.texts.specs.Lines.{is_one_line}
use Rattle.texts.specs.Words.{text_of}
use Rattle.texts.specs.Parts.{is_skipped}
use Rattle.texts.specs.Limits.{longest_input}
use Rattle.node_words.specs.declared.headers.HeaderRefusal.{HeaderRefusal}
use Rattle.node_words.specs.declared.headers.HeaderRefusal.TheVariants as refusal
use Rattle.node_words.specs.HeaderParts.{HeaderOf}
use Rattle.node_words.specs.Constructions.{Words}
use Rattle.node_words.specs.NodeAnswers.{node_outcome}
use Rattle.node_words.specs.Calls.{whole, header_of}

-- an input with one more line after these lines
abbrev pub with_line : (before : List (List ℕ)) → (line rest : List ℕ) → List ℕ
with_line before line rest = text_of before ++ (line ++ 10 ∷ rest)

-- the number that a line has then, if so many stand before the new one
abbrev pub further : (n number : ℕ) → ℕ
further n number = if nat_le number n then number else number + 1

-- the refusal of the same line
abbrev pub moved : {Premise : Type 0} → (n : ℕ) → HeaderRefusal Premise → HeaderRefusal Premise
moved n (refusal.Plan line premise) = refusal.Plan (further n line) premise
moved n (refusal.Node line rule) = refusal.Node (further n line) rule

-- The same header, with one more line if the new one is among its own; or the refusal of the same
-- line.
abbrev pub moved_header : {Plan Premise : Type 0} → (n : ℕ)
    → Result (HeaderOf Plan) (Option (HeaderRefusal Premise))
    → Result (HeaderOf Plan) (Option (HeaderRefusal Premise))
moved_header n (Ok h) =
    Ok (record { plan = h.plan; node = h.node; lines = further n h.lines })
moved_header n (Err None) = Err None
moved_header n (Err (Some refused)) = Err (Some (moved n refused))

module _ {Reader Plan Premise : Type 0} (words : Words Reader Plan Premise) where
  -- its header is not too long
  abbrev pub IsShort : (input : List ℕ) → Type 0
  IsShort input = header_of words (whole input) ≢ Err None

  -- With the new line the input has the same header, or the refusal of the same line; and if the
  -- new line is one of the header, it has the same outcome.
  pub record IsUnseen (before : List (List ℕ)) (line rest : List ℕ) : Type 0 where
    pub header : header_of words (whole (with_line before line rest))
        ≡ moved_header (length before) (header_of words (whole (text_of before ++ rest)))
    pub outcome : (h : HeaderOf Plan)
        → header_of words (whole (text_of before ++ rest)) ≡ Ok h → length before < h.lines
        → node_outcome words (with_line before line rest)
        ≡ node_outcome words (text_of before ++ rest)

  -- A skipped line may stand anywhere among the lines of a header that is not too long, with it and
  -- without. In an input of at most 2^20 bytes no header is too long.
  pub record HeaderSkipsAreUnseen : Type 0 where
    pub unseen : (before : List (List ℕ)) (line rest : List ℕ)
        → All (λ l. is_one_line l ≡ true) before → is_one_line line ≡ true
        → is_skipped line ≡ true → length line ≤ 4096
        → IsShort (text_of before ++ rest) → IsShort (with_line before line rest)
        → IsUnseen before line rest
    pub short : (input : List ℕ) → length input ≤ longest_input → IsShort input
