use Rattle.std.proofs.Common.{rules, ◌≡◌, ◌<◌, ◌*◌, ◌++◌, ◌∙◌, List, ℕ, length, sym, ap, subst, arith}
use Rattle.sync_types.specs.States.{State}
use Rattle.construction.specs.Plans.{plan_nodes}
use Rattle.construction.specs.Steps.{state_of}
use Rattle.hex.specs.Hex.{encode_lower}
use Rattle.state_codec.specs.Shapes.{Fields, Shape, fields_at, bytes_in}
use Rattle.state_codec.specs.Writing.{bits_of_state, padding}
use Rattle.state_codec.specs.Texts.{written_text}
use Rattle.state_codec.proofs.Bytes.{length-bytes_of_bits}
use Rattle.round_runner.specs.Runners.{Running}
use Rattle.round_runner.proofs.runners.Runner.state_hex.Goals as goal

pub bytes-requires : goal.bytes-requires
bytes-requires g c =
    let kept = c.self.invariant in
    let node : c.args.v < plan_nodes c.self.inside.tower =
    subst (λ (r : Running _). c.args.v < plan_nodes r.plan) (sym c.self.view_is) c.requires.node in
    omega (arith, node, kept.size, kept.right.nodes)

pub returns-clause-digits : goal.returns-clause-digits
returns-clause-digits g c =
    let kept = c.self.invariant in
    let own : Fields = fields_at c.self.inside.states.shape c.args.v in
    let state : State = state_of c.self.inside.states.current c.args.v in
    let size : length c.bytes.result.now ≡ bytes_in own =
    ap (λ (xs : List ℕ). length xs) c.bytes.ensures
    ∙ length-bytes_of_bits (bytes_in own) (bits_of_state own state ++ padding own) in
    let long : length c.args.out.now ≡ 2 * length c.bytes.result.now =
    subst (λ (r : Running _). length c.args.out.now ≡ 2 * bytes_in (fields_at r.script.shape
    c.args.v)) (sym c.self.view_is) c.requires.length
    ∙ (ap (λ (s : Shape). 2 * bytes_in (fields_at s c.args.v)) (sym kept.shape)
    ∙ ap (λ n. 2 * n) (sym size)) in
    let text : c.encode_to_slice-fits.new.output ≡ encode_lower c.bytes.result.now =
    search rules in
    subst (λ (r : Running _). c.encode_to_slice-fits.new.output
    ≡ written_text (fields_at r.script.shape c.args.v) (state_of r.states c.args.v))
    c.self.view_is
    (text ∙ (ap encode_lower c.bytes.ensures
    ∙ ap (λ (s : Shape). written_text (fields_at s c.args.v) state) kept.shape))
