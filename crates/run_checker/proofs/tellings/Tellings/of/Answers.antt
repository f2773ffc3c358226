use Rattle.std.proofs.Common.{ℕ, List, ◌*◌, ◌-◌, [], ap, ap₂, sym, ◌∙◌, subst, arith, vec_capacity}
use Rattle.state_codec.specs.Shapes.{Shape}
use Rattle.run_checker.specs.Tellings.{Telling, IsTelling, states_read, most_pairs}
use Rattle.run_checker.proofs.Rooms.{few_bytes}
use Rattle.run_checker.proofs.StatesRead.{none_told}
use Rattle.run_checker.proofs.tellings.Tellings.of.Goals as goal

pub invariant_of-result : goal.invariant_of-result
invariant_of-result c =
    let shape = c.in_ok-shape.shape in
    let digits = c.in_ok-digits.digits.items in
    let room = vec_capacity c.in_ok-pairs.pairs in
    subst (λ (l : List (ℕ × ℕ)). IsTelling shape l digits 0 room)
    (sym c.in_ok-pairs.ensures.items)
    (none_told shape digits room
    (omega (arith, c.in_ok-pairs.ensures.capacity, c.in_ok-digits.ensures))
    (few_bytes c.args.plan.now c.facts.ensures.accepted shape c.in_ok-shape.ensures.shape))

pub returns : goal.returns
returns c =
    let view : Shape → List (ℕ × ℕ) → (room : ℕ) → Telling = λ shape pairs room. record {
      pairs = pairs;
      shape = shape;
      states = states_read shape pairs [];
      room = room;
    } in
    let most = c.in_ok-digits.ensures
    ∙ ap₂ (λ (f n : ℕ). f * (n - f)) c.faults-faults.ensures c.nodes.ensures in
    ap₂ (view c.in_ok-shape.shape) c.in_ok-pairs.ensures.items most
    ∙ ap (λ (shape : Shape). view shape [] (most_pairs c.args.plan.now))
    c.in_ok-shape.ensures.shape
