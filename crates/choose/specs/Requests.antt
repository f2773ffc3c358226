-- What the words ask for: `[boosting] FAULTS MODULUS [MOST_NODES] [plan]`,
-- `within NODES BOUND MODULUS [plan]`.
use Rattle.std.specs.Prelude.{ℕ, ◌^◌, ◌≤◌, List, [], ◌∷◌, ◌||◌, nat_lt, Option, Some, None, codes}
use Rattle.std.specs.Prelude.{if◌then◌else◌}
use Rattle.std.specs.Option.{option_map}
use Rattle.std.specs.Str.{bytes_eq}
use Rattle.texts.specs.Numbers.{number_of}
use Rattle.plan_finder.specs.declared.wants.Want.{Want}
use Rattle.plan_finder.specs.FindPart.{IsFit}
use Rattle.choose.specs.declared.requests.Scope.{Scope}
use Rattle.choose.specs.declared.requests.Scope.TheVariants as scope
use Rattle.choose.specs.declared.requests.Room.{Room}
use Rattle.choose.specs.declared.requests.Request.{Request}
use Rattle.choose.specs.declared.requests.Request.TheVariants as request

-- the wants with these numbers, if they keep the limits
abbrev pub want_with : (f c most : ℕ) → Option Want
want_with f c most =
    if nat_lt 85 f || nat_lt c 2 || nat_lt (2 ^ 40) c || nat_lt most 1 || nat_lt 256 most then None
    else Some (record { faults = f; modulus = c; most = most })

-- the same, if each of them is a number
abbrev pub want_by : (f c most : Option ℕ) → Option Want
want_by (Some f) (Some c) (Some most) = want_with f c most
want_by f c most = None

-- The wants of `FAULTS MODULUS [MOST_NODES] [plan]`, in these constructions. The most nodes are 256
-- if they are left out.
abbrev pub search_of : Scope → List (List ℕ) → Option Request
search_of scope [] = None
search_of scope (word ∷ []) = None
search_of scope (f ∷ c ∷ []) =
    option_map (request.Front scope) (want_by (number_of f) (number_of c) (Some 256))
search_of scope (f ∷ c ∷ last ∷ []) =
    if bytes_eq last (codes "plan") then
    option_map (request.LastPlan scope) (want_by (number_of f) (number_of c) (Some 256))
    else option_map (request.Front scope) (want_by (number_of f) (number_of c) (number_of last))
search_of scope (f ∷ c ∷ most ∷ last ∷ []) =
    if bytes_eq last (codes "plan") then
    option_map (request.LastPlan scope) (want_by (number_of f) (number_of c) (number_of most))
    else None
search_of scope (f ∷ c ∷ most ∷ last ∷ more ∷ words) = None

-- the room with these numbers, if they keep the limits
abbrev pub room_with : (n t c : ℕ) → Option Room
room_with n t c =
    if nat_lt n 1 || nat_lt 256 n || nat_lt c 2 || nat_lt (2 ^ 40) c then None
    else Some (record { nodes = n; bound = t; modulus = c })

-- the same, if each of them is a number
abbrev pub room_by : (n t c : Option ℕ) → Option Room
room_by (Some n) (Some t) (Some c) = room_with n t c
room_by n t c = None

-- what `NODES BOUND MODULUS [plan]` asks for, after `within`
abbrev pub within_of : List (List ℕ) → Option Request
within_of [] = None
within_of (word ∷ []) = None
within_of (n ∷ t ∷ []) = None
within_of (n ∷ t ∷ c ∷ []) =
    option_map request.Most (room_by (number_of n) (number_of t) (number_of c))
within_of (n ∷ t ∷ c ∷ last ∷ []) =
    if bytes_eq last (codes "plan") then
    option_map request.MostPlan (room_by (number_of n) (number_of t) (number_of c))
    else None
within_of (n ∷ t ∷ c ∷ last ∷ more ∷ words) = None

-- With `boosting` before them it is the plans of that construction alone.
abbrev pub request_of : List (List ℕ) → Option Request
request_of [] = None
request_of (word ∷ []) = None
request_of (first ∷ second ∷ words) =
    if bytes_eq first (codes "boosting") then search_of scope.Boosting (second ∷ words)
    else if bytes_eq first (codes "within") then within_of (second ∷ words)
    else search_of scope.Both (first ∷ second ∷ words)

pub record IsRoom (room : Room) : Type 0 where
  pub some : 1 ≤ room.nodes
  pub most : room.nodes ≤ 256
  pub least_modulus : 2 ≤ room.modulus
  pub most_modulus : room.modulus ≤ 2 ^ 40

-- the wants of a request keep the limits
abbrev pub HasFitWant : Request → Type 0
HasFitWant (request.Front scope want) = IsFit want
HasFitWant (request.LastPlan scope want) = IsFit want
HasFitWant (request.Most room) = IsRoom room
HasFitWant (request.MostPlan room) = IsRoom room
