use Rattle.std.proofs.Common.{◌≡◌, List, length, All, sym, ap, ◌∙◌, subst}
use Rattle.std.proofs.lemmas.List.{length-replicate}
use Rattle.std.proofs.lemmas.List.Elements.{All-replicate}
use Rattle.sync_types.specs.States.{State, zero_state, zero_register}
use Rattle.trace.proofs.desks.states_of.Goals as goal

pub returns : goal.returns
returns c =
    let depth = c.args.depth in
    let is = c.in_ok-states.ensures in
    let HasDepth : State → Type 0 = λ s. length s.registers ≡ depth in
    record {
      size = ap (λ (states : List State). length states) is
          ∙ length-replicate c.args.nodes (zero_state depth);
      deep = subst (λ (states : List State). All HasDepth states) (sym is)
          (All-replicate HasDepth c.args.nodes (zero_state depth)
          (length-replicate depth zero_register));
    }
