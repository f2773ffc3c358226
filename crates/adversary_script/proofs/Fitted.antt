-- Those fields that a node has of any state are in range.
use Rattle.std.proofs.Common.{◌≡◌, ℕ, ◌<◌, ◌≤◌, ◌==◌, nat_lt, Bool, true, false, not}
use Rattle.std.proofs.Common.{cond, length, slice_index, Option, Some, None, refl, arith}
use Rattle.std.specs.Prelude.{IfSome, unwrap_or}
use Rattle.std.proofs.lemmas.Bool.{ltb-true}
use Rattle.std.proofs.lemmas.List.FromFn.{length-map-range_with_len, get_or-map-range_with_len}
use Rattle.sync_types.specs.declared.states.Reg.{Reg}
use Rattle.sync_types.specs.States.{State, register_at, zero_register}
use Rattle.construction.specs.Runs.{IsRegister}
use Rattle.state_codec.specs.Shapes.{Fields, IsFields}
use Rattle.state_codec.specs.Ranges.{IsField, InRange}
use Rattle.adversary_script.specs.Lies.{value_below, fitted_register, fitted}

number_by : (m x : ℕ) (b : Bool) → nat_lt x m ≡ b → 1 ≤ m
    → unwrap_or (cond b (Some x) None) 0 < m
number_by m x true is least = ltb-true x m is
number_by m x false is least = omega arith

value_by : (m a : ℕ) (b : Bool) → nat_lt a m ≡ b → IfSome (cond b (Some a) None) (λ a. a < m)
value_by m a true is = ltb-true a m is
value_by m a false is = tt

value_fits : (m : ℕ) (a : Option ℕ) → IfSome (value_below m a) (λ a. a < m)
value_fits m None = tt
value_fits m (Some a) = value_by m a (nat_lt a m) refl

field_by : (m : ℕ) (r : Reg) (lacking : Bool) → IsRegister (not lacking) m
    (cond lacking zero_register (record { a = value_below m r.a; d = r.d }))
field_by m r true = refl
field_by m r false = value_fits m r.a

register_fits : (m : ℕ) (r : Reg) → IsField m (fitted_register m r)
unfolding fitted_register
register_fits m r = field_by m r (m == 0)

pub fitted_in_range : (fields : Fields) (state : State) → IsFields fields
    → InRange fields (fitted fields state)
fitted_in_range fields state limited = record {
  depth =
      length-map-range_with_len
      (λ i. fitted_register (slice_index fields.moduli i) (register_at i state)) 0
      (length fields.moduli);
  x = number_by fields.base state.x (nat_lt state.x fields.base) refl limited.least;
  values =
      λ i lt. rw
      (get_or-map-range_with_len
      (λ i. fitted_register (slice_index fields.moduli i) (register_at i state)) 0
      (length fields.moduli) i i zero_register lt (omega arith))
      (register_fits (slice_index fields.moduli i) (register_at i state));
}
