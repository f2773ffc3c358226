-- The text of requests is read as these requests.
use Rattle.std.proofs.Common.{◌≡◌, ℕ, ◌+◌, ◌%◌, ◌<◌, ◌≤◌, Bool, true, List, [], ◌∷◌, ◌++◌, length}
use Rattle.std.proofs.Common.{map, get_or, All, Option, Some, Result, Ok, Err, refl, ap, subst, ◌∙◌}
use Rattle.std.proofs.Common.{arith}
use Rattle.std.specs.Prelude.{codes, decimal, ◌==◌, if◌then◌else◌}
use Rattle.std.proofs.lemmas.Bool.{lt-leb, le-ltb, eq-eqb}
use Rattle.std.proofs.lemmas.List.{length-append, get_or-append-add}
use Rattle.std.proofs.lemmas.List.Elements.{All-get_or}
use Rattle.texts.specs.Words.{text_of}
use Rattle.texts.specs.Lines.{lines_of}
use Rattle.texts.specs.Parts.{goes, goes_on, with_skips, Found, At, part_from}
use Rattle.texts.proofs.ItemLines.{one_plain, text_more, items_read}
use Rattle.texts.proofs.NumberLines.{AreShort, numbers_short, line_plain, numbers_back}
use Rattle.texts.proofs.Printed.{IsPlain, spaced_length, counts, goes_behind}
use Rattle.sync_types.specs.declared.answers.Rule.{Rule}
use Rattle.sync_types.specs.declared.answers.Rule.TheVariants.{Form, Slot}
use Rattle.layer_laws.specs.Numbers.{Numbers, AreNumbers, numbers_of}
use Rattle.layer_laws.specs.Slots.{slot_length}
use Rattle.layer_laws.proofs.PlanCounters.{plan_numbers_are}
use Rattle.firing.specs.declared.requests.Request.{Request}
use Rattle.firing.specs.FirePart.{FireSoFar, nothing_read_over, request_tested, with_request}
use Rattle.firing.specs.FirePart.{fire_step, AreForNumbers}
use Rattle.firing.specs.RequestTexts.{request_text, HasRounds}
use Rattle.firing.specs.RequestTexts.{RequestTextIsReadOver, RequestTextIsRead}

fire_plain : IsPlain (codes "fire")
fire_plain = record { some = omega arith; above = refl }

request_plain : IsPlain (codes "request")
request_plain = record { some = omega arith; above = refl }

-- how the part is read on
abbrev read_on : FireSoFar → (taken number : ℕ) → List ℕ → Result (Found (List Request)) (At Rule)
read_on s taken number text =
    part_from (with_skips fire_step Form) Form s taken number (lines_of text)

module _ (numbers : Numbers) (fine : AreNumbers numbers) where
  abbrev whole : Bool
  whole = numbers.modulus % slot_length numbers.faults == 0

  -- a part of which these requests were read
  abbrev with_requests : List Request → FireSoFar
  with_requests requests = record {
    nodes = numbers.nodes;
    whole = whole;
    begun = true;
    requests = requests;
  }

  module _ (done more : List Request) (request : Request)
      (are : AreForNumbers numbers (done ++ request ∷ more))
      (rounds : All HasRounds (done ++ request ∷ more)) where
    abbrev all : List Request
    all = done ++ request ∷ more

    long : length all ≡ length done + (length more + 1)
    long = length-append done (request ∷ more) ∙ omega arith

    at_place : (d : Request) → get_or all (length done) d ≡ request
    at_place d =
        let zero_more : length done ≡ length done + 0 = omega arith in
        ap (λ i. get_or all i d) zero_more ∙ get_or-append-add done (request ∷ more) 0 d

    of_node : request.node < numbers.nodes
    of_node = subst (λ (r : Request). r.node < numbers.nodes) (at_place request)
        (All-get_or (λ (r : Request). r.node < numbers.nodes) all (length done) request
        (omega (arith, long)) are.nodes)

    in_rounds : HasRounds request
    in_rounds = subst HasRounds (at_place request)
        (All-get_or HasRounds all (length done) request (omega (arith, long)) rounds)

    -- the numbers of its line
    abbrev said : List ℕ
    said = request.node ∷ request.first ∷ request.last ∷ []

    said_short : AreShort said
    said_short =
        let few = fine.few in
        let order = in_rounds.order in
        let last = in_rounds.short in
        (omega (arith, few, of_node), (omega (arith, order, last), (last, tt)))

    room : spaced_length (codes "request" ∷ map decimal said) ≤ 4096
    room = omega (arith, numbers_short said said_short)

    tested : request_tested (with_requests done)
        (Some (request.node ∷ request.first ∷ request.last ∷ []))
        ≡ Ok request
    tested =
        let many = are.many in rw (
          lt-leb 256 (length done) (omega (arith, many, long)),
          lt-leb numbers.nodes request.node of_node,
          le-ltb request.last request.first in_rounds.order,
        ) refl

    steps : fire_step (with_requests done) (request_text request)
        ≡ goes (with_requests (done ++ request ∷ []))
    steps =
        ap (λ (ns : Option (List ℕ)). goes_on (with_request (with_requests done))
        (request_tested (with_requests done) ns))
        (numbers_back (codes "request") request_plain said said_short)
        ∙ ap (goes_on (with_request (with_requests done))) tested

    request_read : (taken number : ℕ) (rest : List ℕ)
        → read_on (with_requests done) taken number (request_text request ++ 10 ∷ rest)
        ≡ read_on (with_requests (done ++ request ∷ [])) (taken + 1) (number + 1) rest
    request_read taken number rest =
        goes_behind fire_step Form (codes "request") (map decimal said) rest
        (line_plain (codes "request") request_plain said said_short) room
        (counts (request_text request) (omega arith) refl) (with_requests done) taken number
        (with_requests (done ++ request ∷ [])) steps

  abbrev CanBeSaid : List Request → Type 0
  CanBeSaid requests = AreForNumbers numbers requests × All HasRounds requests

  requests_read : (requests : List Request) (number : ℕ) (rest : List ℕ) → CanBeSaid requests
      → read_on (with_requests []) 1 number
      (text_of (map request_text requests ++ codes "end" ∷ []) ++ rest)
      ≡ Ok (record {
        value = requests;
        taken = 1 + (length requests + 1);
        behind = lines_of rest;
      })
  requests_read requests number rest can =
      items_read fire_step Form with_requests (λ requests. requests) (λ n. request_text)
      (λ n requests. map request_text requests) (λ n. refl) (λ n request more. refl) CanBeSaid
      (λ done more request can. request_read done more request can.0 can.1) (λ requests can. refl)
      [] requests 1 number rest can

  -- the first line, if the modulus is a multiple of a slot
  head_is : numbers.modulus % slot_length numbers.faults ≡ 0
      → fire_step (nothing_read_over numbers) (codes "fire 1") ≡ goes (with_requests [])
  head_is multiple =
      ap (λ (b : Bool). goes_on (λ (x : Unit). with_requests []) (if b then Ok tt else Err Slot))
      (eq-eqb (numbers.modulus % slot_length numbers.faults) 0 multiple)

pub request_text_is_read_over : RequestTextIsReadOver
request_text_is_read_over numbers fine requests are rounds number rest =
    let behind = map request_text requests ++ codes "end" ∷ [] in
    let count : 1 + (length requests + 1) ≡ length requests + 2 = omega arith in
    ap (read_on (nothing_read_over numbers) 0 number) (text_more (codes "fire 1") behind rest)
    ∙ goes_behind fire_step Form (codes "fire") (codes "1" ∷ []) (text_of behind ++ rest)
    (fire_plain, (one_plain, tt)) (omega arith) refl (nothing_read_over numbers) 0 number
    (with_requests numbers fine []) (head_is numbers fine are.whole)
    ∙ requests_read numbers fine requests (number + 1) rest (are, rounds)
    ∙ rw count refl

pub request_text_is_read : RequestTextIsRead
request_text_is_read plan accepted =
    request_text_is_read_over (numbers_of plan) (plan_numbers_are plan accepted)
