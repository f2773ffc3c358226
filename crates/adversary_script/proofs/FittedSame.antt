-- A state in range of some fields is left as it is, and so is a copy between nodes of one kind.
use Rattle.std.proofs.Common.{◌≡◌, ℕ, ◌<◌, ◌==◌, nat_lt, Bool, true, false, not, cond, length}
use Rattle.std.proofs.Common.{List, Option, Some, None, refl, sym, ap, subst, ◌∙◌}
use Rattle.std.specs.Prelude.{IfSome, unwrap_or, slice_index}
use Rattle.std.proofs.lemmas.Bool.{lt-ltb}
use Rattle.std.proofs.lemmas.List.FromFn.{fill_by_all}
use Rattle.sync_types.specs.declared.states.Reg.{Reg}
use Rattle.sync_types.specs.States.{State, register_at, zero_register}
use Rattle.construction.specs.Runs.{IsRegister}
use Rattle.construction.specs.Steps.{state_of}
use Rattle.state_codec.specs.Shapes.{Fields, fields_at}
use Rattle.state_codec.specs.Ranges.{IsField, InRange}
use Rattle.adversary_script.specs.Lies.{value_below, fitted_register, fitted}
use Rattle.adversary_script.specs.LieLaws.{FittedIsSame, CopyIsSame}

same_value : (m : ℕ) (a : Option ℕ) → IfSome a (λ a. a < m) → value_below m a ≡ a
same_value m None range = refl
same_value m (Some a) range =
    ap (λ (b : Bool). cond b (Some a) None) (lt-ltb a m range)

same_field : (m : ℕ) (r : Reg) (lacking : Bool) → IsRegister (not lacking) m r
    → cond lacking zero_register (record { a = value_below m r.a; d = r.d }) ≡ r
same_field m r true range = sym range
same_field m r false range =
    ap (λ (a : Option ℕ). let x : Reg = record { a = a; d = r.d } in x) (same_value m r.a range)

same_register : (m : ℕ) (r : Reg) → IsField m r → fitted_register m r ≡ r
unfolding fitted_register
same_register m r range = same_field m r (m == 0) range

pub fitted_is_same : FittedIsSame
fitted_is_same fields state range =
    let registers = fill_by_all
    (λ i. fitted_register (slice_index fields.moduli i) (register_at i state))
    state.registers (length fields.moduli) zero_register range.depth
    (λ k lt. sym (same_register (slice_index fields.moduli k) (register_at k state)
    (range.values k lt))) in
    let number : unwrap_or (cond (nat_lt state.x fields.base) (Some state.x) None) 0 ≡ state.x =
    ap (λ (b : Bool). unwrap_or (cond b (Some state.x) None) 0)
    (lt-ltb state.x fields.base range.x) in
    ap
    (λ (x : ℕ). let s : State = record { x = x; registers = (fitted fields state).registers } in
    s)
    number
    ∙ ap (λ (rs : List Reg). let s : State = record { x = state.x; registers = rs } in s)
    (sym registers)

pub copy_is_same : CopyIsSame
copy_is_same script t u v w config are lt same =
    fitted_is_same (fields_at script.shape u) (state_of config w)
    (subst (λ (fields : Fields). InRange fields (state_of config w)) (sym same) (are w lt))
