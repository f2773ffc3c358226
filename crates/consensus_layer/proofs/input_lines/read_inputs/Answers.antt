use Rattle.std.proofs.Common.{◌≡◌, Some, sym, ap, ◌∙◌, arith}
use Rattle.std.specs.Prelude.{nat_lt, codes}
use Rattle.std.specs.Option.{option_map}
use Rattle.std.specs.List.{list_all}
use Rattle.texts.specs.Lines.{words_of}
use Rattle.texts.specs.Shapes.{all_numbers_after}
use Rattle.consensus_layer.proofs.FitInputs.{inputs_ok, inputs_out}
use Rattle.consensus_layer.proofs.input_lines.read_inputs.Goals as goal

pub returns-then-not-are_below : goal.returns-then-not-are_below
returns-then-not-are_below c =
    let is : all_numbers_after (codes "inputs") (words_of c.args.line.now)
    ≡ Some c.in-Some.inputs.items = sym c.in_ok-inputs.ensures
    ∙ ap (option_map (λ v. v.items)) c.in-Some.is in
    inputs_out c.args.values c.args.nodes c.args.line.now c.in-Some.inputs.items is
    (omega (arith, c.len.ensures, c.if-len-nodes.false))
    (ap (list_all (λ a. nat_lt a c.args.values)) (sym c.deref.ensures.value)
    ∙ (sym c.are_below.ensures ∙ c.if-not-are_below.true))

pub returns : goal.returns
returns c =
    let is : all_numbers_after (codes "inputs") (words_of c.args.line.now)
    ≡ Some c.in-Some.inputs.items = sym c.in_ok-inputs.ensures
    ∙ ap (option_map (λ v. v.items)) c.in-Some.is in
    inputs_ok c.args.values c.args.nodes c.args.line.now c.in-Some.inputs.items is
    (omega (arith, c.len.ensures, c.if-len-nodes.false))
    (ap (list_all (λ a. nat_lt a c.args.values)) (sym c.deref.ensures.value)
    ∙ (sym c.are_below.ensures ∙ c.if-not-are_below.false))
