use Rattle.std.proofs.Common.{arith, ℕ, ◌≡◌, ◌+◌, ◌<◌, ◌≤◌, inl, inr, ap, sym, ◌∙◌, List}
use Rattle.std.proofs.Common.{length, set, take}
use Rattle.std.proofs.lemmas.Bool.{cases_lt}
use Rattle.std.proofs.lemmas.List.{length-set, get_or-set_same, get_or-set_other, ext_get_or}
use Rattle.std.proofs.lemmas.List.{length-take-le, get_or-take}
use Rattle.sync_types.specs.declared.states.Reg.{Reg}
use Rattle.sync_types.specs.States.{State, zero_register, register_at}
use Rattle.state_codec.specs.Shapes.{Fields, bytes_in}
use Rattle.state_codec.specs.Reading.{read}
use Rattle.state_codec.proofs.Ranged.{read_is_in_range}
use Rattle.state_codec.proofs.RegisterSteps.{state_is}
use Rattle.state_codec.proofs.fields.Fields.read_lowest.Goals as goal

-- one more register is that of a state
register_more : (rs after : List Reg) (state : State) (i : ℕ) (r : Reg) → i < length rs
    → after ≡ set rs i r → r ≡ register_at i state
    → ((j : ℕ) → j < i → register_at j (record { x = 0; registers = rs }) ≡ register_at j state)
    → (j : ℕ) → j < i + 1
    → register_at j (record { x = 0; registers = after }) ≡ register_at j state
register_more rs after state i r lt same is held j less =
    elim (cases_lt j i) [
      | inl below ↦ ap (λ xs. register_at j (record { x = 0; registers = xs })) same
          ∙ (get_or-set_other rs i j r zero_register (λ e. absurd (omega (arith, e, below)))
          ∙ held j below)
      | inr over ↦
          let e : j ≡ i = omega arith in
          ap (λ xs. register_at j (record { x = 0; registers = xs })) same
          ∙ (ap (λ k. register_at k (record { x = 0; registers = set rs i r })) e
          ∙ (get_or-set_same rs i r zero_register lt
          ∙ (is ∙ ap (λ k. register_at k state) (sym e))))
    ]

pub loop-i-preserved : goal.loop-i-preserved
loop-i-preserved c =
    let i = c.loop-i.invariant in
    let v : ℕ = c.loop-i.i in
    let fields : Fields = c.args.self.now in
    let state : State = read fields (take (bytes_in fields) c.args.bytes.now) in
    let end : c.depth-i-end.result ≡ length c.args.out.now.registers =
    c.depth-i-end.ensures ∙ ap (λ (s : State). length s.registers) c.set_x.ensures in
    let within : v < length c.loop-i.out.registers =
    omega (arith, c.loop-i-test.true, end, i.depth) in
    record {
      number = ap (λ (s : State). s.x) c.set_reg.ensures ∙ i.number;
      depth = ap (λ (s : State). length s.registers) c.set_reg.ensures
          ∙ (length-set c.loop-i.out.registers v c.register_of.result ∙ i.depth);
      registers = register_more c.loop-i.out.registers c.set_reg.new.self.registers state v
          c.register_of.result within (ap (λ (s : State). s.registers) c.set_reg.ensures)
          c.register_of.ensures i.registers;
    }

pub returns : goal.returns
returns c =
    let i = c.loop-i.invariant in
    let fields : Fields = c.args.self.now in
    let state : State = read fields (take (bytes_in fields) c.args.bytes.now) in
    let range = read_is_in_range fields
    (take (bytes_in fields) c.args.bytes.now) c.facts.ensures in
    let n : ℕ = length c.args.out.now.registers in
    let end : c.depth-i-end.result ≡ n =
    c.depth-i-end.ensures ∙ ap (λ (s : State). length s.registers) c.set_x.ensures in
    let few : n ≤ length state.registers = omega (arith, range.depth, c.requires.depth) in
    state_is c.loop-i.out state.x (take n state.registers) i.number
    (ext_get_or zero_register c.loop-i.out.registers (take n state.registers)
    (i.depth ∙ sym (length-take-le n state.registers few))
    (λ j lt.
    let below : j < n = omega (arith, lt, i.depth) in
    i.registers j (omega (arith, below, end, c.loop-i-test.false))
    ∙ sym (get_or-take n state.registers j zero_register below)))
