-- The text of requests, which is read back.
use Rattle.std.specs.Prelude.{◌≡◌, ℕ, ◌+◌, ◌^◌, ◌<◌, ◌≤◌, List, [], ◌∷◌, ◌++◌, length, map, All, Ok}
use Rattle.std.specs.Prelude.{codes, decimal}
use Rattle.texts.specs.Lines.{lines_of}
use Rattle.texts.specs.Words.{joined, text_of}
use Rattle.construction.specs.Plans.{Plan}
use Rattle.plan_numbers.specs.Premises.{IsAccepted}
use Rattle.layer_laws.specs.Numbers.{Numbers, AreNumbers, numbers_of}
use Rattle.firing.specs.declared.requests.Request.{Request}
use Rattle.firing.specs.FirePart.{part_over, AreForNumbers}

-- the words of a request's line
abbrev pub request_words : Request → List (List ℕ)
request_words request =
    codes "request" ∷ decimal request.node ∷ decimal request.first ∷ decimal request.last ∷ []

abbrev pub request_text : Request → List ℕ
request_text request = joined (request_words request)

-- the part that says requests
abbrev pub requests_text : List Request → List ℕ
requests_text requests = text_of (codes "fire 1" ∷ (map request_text requests ++ codes "end" ∷ []))

-- rounds that a line can say, from the first to the last
pub record HasRounds (request : Request) : Type 0 where
  pub order : request.first ≤ request.last
  pub short : request.last < 10 ^ 15

-- The text of requests for a counter is read as these requests, whatever text follows.
abbrev pub IsReadBack : Numbers → Type 0
IsReadBack numbers = (requests : List Request) → AreForNumbers numbers requests
    → All HasRounds requests → (number : ℕ) (rest : List ℕ)
    → part_over numbers number (lines_of (requests_text requests ++ rest))
    ≡ Ok (record { value = requests; taken = length requests + 2; behind = lines_of rest })

abbrev pub RequestTextIsReadOver : Type 0
RequestTextIsReadOver = (numbers : Numbers) → AreNumbers numbers → IsReadBack numbers

-- So is that for an accepted plan.
abbrev pub RequestTextIsRead : Type 0
RequestTextIsRead = (plan : Plan) → IsAccepted plan → IsReadBack (numbers_of plan)
