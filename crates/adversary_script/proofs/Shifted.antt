-- A shifted state is in range.
use Rattle.std.proofs.Common.{◌≡◌, ℕ, zero, suc, ◌+◌, ◌%◌, ◌<◌, ◌==◌, Bool, true, false, not, cond}
use Rattle.std.proofs.Common.{length, slice_index, Option, Some, None, refl, arith}
use Rattle.std.specs.Prelude.{IfSome}
use Rattle.std.specs.Option.{option_map}
use Rattle.std.proofs.lemmas.Bool.{eqb-false}
use Rattle.std.proofs.lemmas.List.FromFn.{length-map-range_with_len, get_or-map-range_with_len}
use Rattle.sync_types.specs.declared.states.Reg.{Reg}
use Rattle.sync_types.specs.States.{State, register_at, zero_register}
use Rattle.construction.specs.Runs.{IsRegister}
use Rattle.state_codec.specs.Shapes.{Fields, IsFields}
use Rattle.state_codec.specs.Ranges.{IsField, InRange}
use Rattle.adversary_script.specs.Lies.{shifted_register, shifted}

some_modulus : (m : ℕ) → (m ≡ 0 → ⊥) → 0 < m
some_modulus zero not_zero = absurd (not_zero refl)
some_modulus (suc m) not_zero = omega arith

below : (by m : ℕ) (a : Option ℕ) → 0 < m → IfSome (option_map (λ a. (a + by) % m) a) (λ a. a < m)
below by m None some = tt
below by m (Some a) some = omega arith

register_fits : (by m : ℕ) (r : Reg) (lacking : Bool) → (m == 0) ≡ lacking
    → IsRegister (not lacking) m
    (cond lacking zero_register (record { a = option_map (λ a. (a + by) % m) r.a; d = r.d }))
register_fits by m r true is = refl
register_fits by m r false is = below by m r.a (some_modulus m (eqb-false m 0 is))

shifted_fits : (by m : ℕ) (r : Reg) → IsField m (shifted_register by m r)
shifted_fits by m r = register_fits by m r (m == 0) refl

pub shifted_in_range : (by : ℕ) (fields : Fields) (state : State) → IsFields fields
    → InRange fields (shifted by fields state)
shifted_in_range by fields state limited =
    let least = limited.least in
    record {
      depth =
          length-map-range_with_len
          (λ i. shifted_register by (slice_index fields.moduli i) (register_at i state)) 0
          (length fields.moduli);
      x = omega arith;
      values =
          λ i lt. rw
          (get_or-map-range_with_len
          (λ i. shifted_register by (slice_index fields.moduli i) (register_at i state)) 0
          (length fields.moduli) i i zero_register lt (omega arith))
          (shifted_fits by (slice_index fields.moduli i) (register_at i state));
    }
