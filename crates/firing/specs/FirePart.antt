-- The fire part of an input: `fire 1`, at most 256 lines `request V A B`, `end`.
use Rattle.std.specs.Prelude.{◌≡◌, ℕ, ◌<◌, ◌≤◌, ◌%◌, ◌==◌, nat_le, nat_lt, Bool, true, false, List}
use Rattle.std.specs.Prelude.{[], ◌∷◌, ◌++◌, length, All, Option, Some, Result, Ok, Err}
use Rattle.std.specs.Prelude.{if◌then◌else◌, codes}
use Rattle.std.specs.Str.{bytes_eq}
use Rattle.texts.specs.Lines.{words_of}
use Rattle.texts.specs.Shapes.{numbers_after}
use Rattle.texts.specs.Parts.{Next, ends, goes_on, with_skips, Found, At, part_from}
use Rattle.sync_types.specs.declared.answers.Rule.{Rule}
use Rattle.sync_types.specs.declared.answers.Rule.TheVariants.{Form, Limit, Node, Range}
use Rattle.construction.specs.Plans.{Plan}
use Rattle.layer_laws.specs.Numbers.{Numbers, numbers_of}
use Rattle.layer_laws.specs.Slots.{slot_length}
use Rattle.consensus_layer.specs.PartLines.{head_tested}
use Rattle.firing.specs.declared.requests.Request.{Request}

-- how many nodes there are, whether the modulus is a multiple of a slot, whether the first line was
-- read, and the requests after it
pub record FireSoFar : Type 0 where
  pub nodes : ℕ
  pub whole : Bool
  pub begun : Bool
  pub requests : List Request

-- a part for a counter of which nothing was read
abbrev pub nothing_read_over : Numbers → FireSoFar
nothing_read_over numbers = record {
  nodes = numbers.nodes;
  whole = numbers.modulus % slot_length numbers.faults == 0;
  begun = false;
  requests = [];
}

-- the request of a line with these numbers, or the first rule that it fails
abbrev pub request_tested : FireSoFar → Option (List ℕ) → Result Request Rule
request_tested s (Some (v ∷ a ∷ b ∷ [])) =
    if nat_le 256 (length s.requests) then Err Limit
    else if nat_le s.nodes v then Err Node
    else if nat_lt b a then Err Range
    else Ok (record { node = v; first = a; last = b })
request_tested s other = Err Form

-- `request V A B`
abbrev pub request_in : FireSoFar → List ℕ → Result Request Rule
request_in s line = request_tested s (numbers_after (codes "request") 3 (words_of line))

-- the part after its first line
abbrev pub with_head : FireSoFar → FireSoFar
with_head s = record s { begun = true }

-- one more request
abbrev pub with_request : FireSoFar → Request → FireSoFar
with_request s request = record s { requests = s.requests ++ request ∷ [] }

-- a line after those that were read
abbrev pub fire_step : FireSoFar → List ℕ → Next FireSoFar (List Request) Rule
fire_step s line =
    if s.begun
    then (if bytes_eq line (codes "end") then ends s.requests
    else goes_on (with_request s) (request_in s line))
    else goes_on (λ _. with_head s) (head_tested (codes "fire 1") s.whole line)

-- The fire part for a counter at the beginning of these lines, of which the first has that number:
-- its requests, how many lines it took through `end`, and the lines after it; or the first line
-- that fails, with the first rule that it fails.
abbrev pub part_over : Numbers → (number : ℕ) → List (List ℕ)
    → Result (Found (List Request)) (At Rule)
part_over numbers number lines =
    part_from (with_skips fire_step Form) Form (nothing_read_over numbers) 0 number lines

-- those for the counter of a plan
abbrev pub nothing_read : Plan → FireSoFar
nothing_read plan = nothing_read_over (numbers_of plan)

abbrev pub part_of : Plan → (number : ℕ) → List (List ℕ) → Result (Found (List Request)) (At Rule)
part_of plan = part_over (numbers_of plan)

-- what holds of requests that were read for a counter
pub record AreForNumbers (numbers : Numbers) (requests : List Request) : Type 0 where
  pub whole : numbers.modulus % slot_length numbers.faults ≡ 0
  pub many : length requests ≤ 256
  pub nodes : All (λ request. request.node < numbers.nodes) requests

-- those for the counter of a plan
abbrev pub AreFor : Plan → List Request → Type 0
AreFor plan = AreForNumbers (numbers_of plan)
