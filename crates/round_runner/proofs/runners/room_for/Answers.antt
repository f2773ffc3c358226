use Rattle.std.proofs.Common.{◌≡◌, ℕ, List, length, All, sym, ap, ◌∙◌, subst, rules}
use Rattle.std.proofs.lemmas.List.{length-replicate}
use Rattle.std.proofs.lemmas.List.Elements.{All-replicate}
use Rattle.sync_types.specs.FaultSets.{FaultIds}
use Rattle.sync_types.specs.States.{State, zero_state, zero_register}
use Rattle.state_codec.specs.Shapes.{Shape}
use Rattle.round_runner.specs.Rooms.{IsMadeFor}
use Rattle.round_runner.proofs.runners.room_for.Goals as goal

pub returns : goal.returns
returns c =
    let nodes = c.nodes.ensures ∙ ap (λ (s : FaultIds). s.nodes) c.faulty.ensures in
    let deep = c.depth-depth.ensures ∙ ap (λ (s : Shape). s.depth) c.requires.shape in
    let zero : State = zero_state c.depth-depth.result in
    let has : State → Type 0 = λ s. length s.registers ≡ c.args.script.now.shape.depth in
    record {
      noise = search rules;
      heard = record {
        size = ap (λ (xs : List State). length xs) c.in_ok-zeros.ensures
            ∙ length-replicate c.nodes.result zero ∙ nodes;
        deep = subst (All has) (sym c.in_ok-zeros.ensures) (All-replicate has c.nodes.result zero
            (length-replicate c.depth-depth.result zero_register ∙ deep));
      };
      work = search rules;
      step = subst (λ (d : ℕ). IsMadeFor c.args.tower.now d c.in_ok-new.field-0) deep
          c.in_ok-new.ensures;
    }
