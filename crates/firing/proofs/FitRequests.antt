-- Requests that are read are those of nodes of the counter, whose modulus is a multiple of a slot.
use Rattle.std.proofs.Common.{◌≡◌, ℕ, ◌^◌, ◌<◌, ◌≤◌, ◌%◌, Bool, true, false, List, [], ◌∷◌, length}
use Rattle.std.proofs.Common.{All, Option, Some, None, Ok, Err, refl, subst, arith}
use Rattle.std.specs.Prelude.{IfOk, IfSome, nat_le, nat_lt, if◌then◌else◌, codes}
use Rattle.std.specs.Str.{bytes_eq}
use Rattle.std.proofs.lemmas.Bool.{eqb-true, leb-false, ltb-false}
use Rattle.std.proofs.lemmas.List.{length_push}
use Rattle.std.proofs.lemmas.List.Elements.{All-push, All-nil}
use Rattle.texts.specs.Lines.{words_of}
use Rattle.texts.specs.Shapes.{numbers_after}
use Rattle.texts.specs.Parts.{Next, ends, goes_on}
use Rattle.texts.proofs.NumberLines.{AreShort, read_are_short}
use Rattle.texts.proofs.Parts.{After, goes_on_keeps, skipping_keeps, found_weaker}
use Rattle.sync_types.specs.declared.answers.Rule.{Rule}
use Rattle.sync_types.specs.declared.answers.Rule.TheVariants.{Form, Limit, Node, Range}
use Rattle.construction.specs.Plans.{Plan}
use Rattle.layer_laws.specs.Numbers.{Numbers, numbers_of}
use Rattle.layer_laws.specs.Slots.{slot_length}
use Rattle.consensus_layer.specs.PartLines.{head_tested}
use Rattle.consensus_layer.proofs.PartLines.{head_fits}
use Rattle.firing.specs.declared.requests.Request.{Request}
use Rattle.firing.specs.FirePart.{FireSoFar, nothing_read_over, request_tested, request_in}
use Rattle.firing.specs.FirePart.{with_head, with_request, fire_step, part_over, part_of}
use Rattle.firing.specs.FirePart.{AreForNumbers, AreFor}
use Rattle.firing.specs.RequestTexts.{HasRounds}

-- what holds of the requests so far
record FitSoFar (numbers : Numbers) (s : FireSoFar) : Type 0 where
  nodes : s.nodes ≡ numbers.nodes
  whole : s.whole ≡ true → numbers.modulus % slot_length numbers.faults ≡ 0
  begun : s.begun ≡ true → numbers.modulus % slot_length numbers.faults ≡ 0
  many : length s.requests ≤ 256
  each : All (λ request. request.node < numbers.nodes) s.requests
  rounds : All HasRounds s.requests

-- a request that may be put after the others
record IsOneMore (s : FireSoFar) (request : Request) : Type 0 where
  room : length s.requests < 256
  node : request.node < s.nodes
  rounds : HasRounds request

by_tests : (s : FireSoFar) (v a b : ℕ) (full high crossed : Bool)
    → nat_le 256 (length s.requests) ≡ full → nat_le s.nodes v ≡ high → nat_lt b a ≡ crossed
    → b < 10 ^ 15
    → IfOk (if full then Err Limit else if high then Err Node else if crossed then Err Range
    else Ok (record { node = v; first = a; last = b })) (IsOneMore s)
by_tests s v a b true high crossed e e' e'' short = tt
by_tests s v a b false true crossed e e' e'' short = tt
by_tests s v a b false false true e e' e'' short = tt
by_tests s v a b false false false e e' e'' short = record {
  room = leb-false 256 (length s.requests) e;
  node = leb-false s.nodes v e';
  rounds = record { order = ltb-false b a e''; short = short };
}

tested : (s : FireSoFar) (numbers : Option (List ℕ)) → IfSome numbers AreShort
    → IfOk (request_tested s numbers) (IsOneMore s)
tested s None short = tt
tested s (Some []) short = tt
tested s (Some (v ∷ [])) short = tt
tested s (Some (v ∷ a ∷ [])) short = tt
tested s (Some (v ∷ a ∷ b ∷ [])) short =
    by_tests s v a b (nat_le 256 (length s.requests)) (nat_le s.nodes v) (nat_lt b a) refl refl refl
    short.1.1.0
tested s (Some (v ∷ a ∷ b ∷ c ∷ more)) short = tt

request_tested_in : (s : FireSoFar) (line : List ℕ) → IfOk (request_in s line) (IsOneMore s)
request_tested_in s line =
    tested s (numbers_after (codes "request") 3 (words_of line))
    (read_are_short (codes "request") 3 (words_of line))

module _ (numbers : Numbers) where
  -- they fit, and can be written
  abbrev AreSaid : List Request → Type 0
  AreSaid requests = AreForNumbers numbers requests × All HasRounds requests

  abbrev Goes : Next FireSoFar (List Request) Rule → Type 0
  Goes next = After (FitSoFar numbers) AreSaid next

  one_more : (s : FireSoFar) → FitSoFar numbers s → (request : Request) → IsOneMore s request
      → FitSoFar numbers (with_request s request)
  one_more s fit request one = record {
    nodes = fit.nodes;
    whole = fit.whole;
    begun = fit.begun;
    many = let room = one.room in omega (arith, length_push s.requests request, room);
    each = All-push (λ (r : Request). r.node < numbers.nodes) s.requests request fit.each
        (subst (λ n. request.node < n) fit.nodes one.node);
    rounds = All-push HasRounds s.requests request fit.rounds one.rounds;
  }

  headed : (s : FireSoFar) → FitSoFar numbers s → s.whole ≡ true → FitSoFar numbers (with_head s)
  headed s fit e = record {
    nodes = fit.nodes;
    whole = fit.whole;
    begun = λ _. fit.whole e;
    many = fit.many;
    each = fit.each;
    rounds = fit.rounds;
  }

  ended : (s : FireSoFar) (is : Bool) (line : List ℕ) → s.begun ≡ true → FitSoFar numbers s
      → Goes (if is then ends s.requests else goes_on (with_request s) (request_in s line))
  ended s true line is fit =
      (record { whole = fit.begun is; many = fit.many; nodes = fit.each }, fit.rounds)
  ended s false line is fit =
      goes_on_keeps (FitSoFar numbers) AreSaid (with_request s) (IsOneMore s) (request_in s line)
      (request_tested_in s line) (one_more s fit)

  stepped : (s : FireSoFar) (line : List ℕ) (is : Bool) → s.begun ≡ is → FitSoFar numbers s
      → Goes (if is
      then (if bytes_eq line (codes "end") then ends s.requests
      else goes_on (with_request s) (request_in s line))
      else goes_on (λ _. with_head s) (head_tested (codes "fire 1") s.whole line))
  stepped s line true e fit = ended s (bytes_eq line (codes "end")) line e fit
  stepped s line false e fit =
      goes_on_keeps (FitSoFar numbers) AreSaid (λ _. with_head s)
      (λ _. s.whole ≡ true) (head_tested (codes "fire 1") s.whole line)
      (head_fits (codes "fire 1") s.whole line) (λ _ e'. headed s fit e')

  begins : FitSoFar numbers (nothing_read_over numbers)
  begins = record {
    nodes = refl;
    whole = λ e. eqb-true (numbers.modulus % slot_length numbers.faults) 0 e;
    begun = λ e. absurd (cc);
    many = omega arith;
    each = All-nil (λ (r : Request). r.node < numbers.nodes);
    rounds = All-nil HasRounds;
  }

pub requests_are_said : (numbers : Numbers) (number : ℕ) (lines : List (List ℕ))
    → IfOk (part_over numbers number lines) (λ found. AreSaid numbers found.value)
requests_are_said numbers number lines =
    skipping_keeps fire_step Form (FitSoFar numbers) (AreSaid numbers)
    (λ s line fit. stepped numbers s line s.begun refl fit)
    lines (nothing_read_over numbers) 0 number (begins numbers)

-- what is read is for the counter
pub requests_fit_over : (numbers : Numbers) (number : ℕ) (lines : List (List ℕ))
    → IfOk (part_over numbers number lines) (λ found. AreForNumbers numbers found.value)
requests_fit_over numbers number lines =
    found_weaker (AreSaid numbers) (AreForNumbers numbers) (λ requests are. are.0)
    (part_over numbers number lines) (requests_are_said numbers number lines)

-- so it is for that of a plan
pub requests_fit : (plan : Plan) (number : ℕ) (lines : List (List ℕ))
    → IfOk (part_of plan number lines) (λ found. AreFor plan found.value)
requests_fit plan = requests_fit_over (numbers_of plan)

-- each request that is read is from a round to a later one or the same, of 15 digits at most
pub requests_have_rounds : (plan : Plan) (number : ℕ) (lines : List (List ℕ))
    → IfOk (part_of plan number lines) (λ found. All HasRounds found.value)
requests_have_rounds plan number lines =
    found_weaker (AreSaid (numbers_of plan)) (All HasRounds) (λ requests are. are.1)
    (part_of plan number lines) (requests_are_said (numbers_of plan) number lines)
