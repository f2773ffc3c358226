use Rattle.std.proofs.Common.{arith, ap, sym, subst, ◌∙◌, length, take}
use Rattle.std.proofs.lemmas.List.{take_all}
use Rattle.sync_types.specs.States.{State}
use Rattle.state_codec.specs.Shapes.{Fields, bytes_in}
use Rattle.state_codec.specs.Ranges.{InRange}
use Rattle.state_codec.specs.Reading.{read}
use Rattle.state_codec.proofs.Ranged.{read_is_in_range}
use Rattle.state_codec.proofs.RegisterSteps.{state_is}
use Rattle.state_codec.proofs.fields.Fields.read_front.Goals as goal

pub returns-clause-value : goal.returns-clause-value
returns-clause-value c =
    let fields : Fields = c.args.self.now in
    let state : State = read fields (take (bytes_in fields) c.args.bytes.now) in
    let range = read_is_in_range fields
    (take (bytes_in fields) c.args.bytes.now) c.facts.ensures in
    let all = take_all (length c.args.out.now.registers) state.registers
    (omega (arith, range.depth, c.requires.depth)) in
    state_is c.read_lowest.new.out state.x state.registers
    (ap (λ (s : State). s.x) c.read_lowest.ensures)
    (ap (λ (s : State). s.registers) c.read_lowest.ensures ∙ all)

pub returns-clause-range : goal.returns-clause-range
returns-clause-range c =
    let fields : Fields = c.args.self.now in
    let state : State = read fields (take (bytes_in fields) c.args.bytes.now) in
    let range = read_is_in_range fields
    (take (bytes_in fields) c.args.bytes.now) c.facts.ensures in
    let all = take_all (length c.args.out.now.registers) state.registers
    (omega (arith, range.depth, c.requires.depth)) in
    subst (InRange fields) (sym (state_is c.read_lowest.new.out state.x state.registers
    (ap (λ (s : State). s.x) c.read_lowest.ensures)
    (ap (λ (s : State). s.registers) c.read_lowest.ensures ∙ all))) range
