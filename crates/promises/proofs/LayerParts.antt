-- What the lines of a slot table, of requests and of a log say.
use Rattle.std.proofs.Common.{◌≡◌, ℕ, ◌+◌, ◌*◌, ◌/◌, ◌%◌, inl, inr, Bool, true}
use Rattle.std.proofs.Common.{List, [], ◌∷◌, ◌++◌, length, refl, sym, ap, ◌∙◌}
use Rattle.std.specs.Prelude.{◌==◌, ◌&&◌, ◌||◌, nat_le, slice_index}
use Rattle.std.proofs.lemmas.Bool.{and_parts, and_from, cases_Bool, leb-true, le-leb, eqb-true}
use Rattle.std.proofs.lemmas.Bool.{eq-eqb, or_left, or_right}
use Rattle.std.proofs.lemmas.Nat.{div-mul-add}
use Rattle.firing.specs.declared.requests.Request.{Request}
use Rattle.firing.specs.Firings.{requests_in}
use Rattle.replicated_log.specs.EntryLength.{entry_length}
use Rattle.promises.specs.LayerParts.{GivesOutputs, Requests, RequestsAreSaid, TakesTurns}

pub gives_outputs : GivesOutputs
gives_outputs line output = (
  λ holds.
      let parts = and_parts (nat_le line.first output) (nat_le output line.last) holds in
      (leb-true line.first output parts.0, leb-true output line.last parts.1),
  λ both. and_from (nat_le line.first output) (nat_le output line.last)
      (le-leb line.first output both.0) (le-leb output line.last both.1),
)

-- ---- requests

-- whether a line says that node v requests in round t
abbrev says : (v t : ℕ) → Request → Bool
says v t r = r.node == v && nat_le r.first t && nat_le t r.last

-- what a later line says, all lines say
later : (r : Request) (requests : List Request) (v t : ℕ) → Requests requests v t
    → Requests (r ∷ requests) v t
later r requests v t said = record {
  before = r ∷ said.before;
  after = said.after;
  request = said.request;
  is = ap (λ rest. r ∷ rest) said.is;
  node = said.node;
  from = said.from;
  to = said.to;
}

here : (r : Request) (requests : List Request) (v t : ℕ) → says v t r ≡ true
    → Requests (r ∷ requests) v t
here r requests v t holds =
    let parts = and_parts (r.node == v && nat_le r.first t) (nat_le t r.last) holds in
    let front = and_parts (r.node == v) (nat_le r.first t) parts.0 in
    record {
      before = [];
      after = requests;
      request = r;
      is = refl;
      node = eqb-true r.node v front.0;
      from = leb-true r.first t front.1;
      to = leb-true t r.last parts.1;
    }

said_of : (requests : List Request) (v t : ℕ) → requests_in requests v t ≡ true
    → Requests requests v t
said_of [] v t holds = absurd cc
said_of (r ∷ requests) v t holds = elim (cases_Bool (says v t r)) [
  | inl said ↦ here r requests v t said
  | inr fails ↦ later r requests v t
      (said_of requests v t (sym (ap (λ b. b || requests_in requests v t) fails) ∙ holds))
]

-- it is said by the line after those
said_behind : (before after : List Request) (r : Request) (v t : ℕ) → says v t r ≡ true
    → requests_in (before ++ r ∷ after) v t ≡ true
said_behind [] after r v t holds = or_left (says v t r) (requests_in after v t) holds
said_behind (b ∷ before) after r v t holds =
    or_right (says v t b) (requests_in (before ++ r ∷ after) v t)
    (said_behind before after r v t holds)

is_said : (requests : List Request) (v t : ℕ) → Requests requests v t
    → requests_in requests v t ≡ true
is_said requests v t said =
    let r : Request = said.request in
    ap (λ all. requests_in all v t) said.is
    ∙ said_behind said.before said.after r v t
    (and_from (r.node == v && nat_le r.first t) (nat_le t r.last)
    (and_from (r.node == v) (nat_le r.first t) (eq-eqb r.node v said.node)
    (le-leb r.first t said.from))
    (le-leb t r.last said.to))

pub requests_are_said : (requests : List Request) → RequestsAreSaid requests
requests_are_said requests v t = (said_of requests v t, is_said requests v t)

-- ---- in turn

-- the element after so many
at_front : (before after : List ℕ) (c : ℕ) → slice_index (before ++ c ∷ after) (length before) ≡ c
at_front [] after c = refl
at_front (b ∷ before) after c = at_front before after c

pub takes_turns : (n f : ℕ) (commands : List (List ℕ)) → TakesTurns n f commands
takes_turns n f commands = record {
  owners = λ k x lt. ap (λ q. q % n) (div-mul-add k (entry_length f) x lt);
  commanded = λ v i x c before after own lt turn.
      ap (λ all. slice_index all ((i * (n * entry_length f) + x) / (n * entry_length f)
      % length all)) own
      ∙ (ap (λ q. slice_index (before ++ c ∷ after) (q % length (before ++ c ∷ after)))
      (div-mul-add i (n * entry_length f) x lt)
      ∙ (ap (slice_index (before ++ c ∷ after)) turn
      ∙ at_front before after c));
}
