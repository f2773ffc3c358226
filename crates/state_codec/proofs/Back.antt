-- What was written reads back.
use Rattle.std.proofs.Common.{◌≡◌, ℕ, ◌+◌, ◌-◌, ◌*◌, ◌^◌, ◌≤◌, ◌<◌, Bool, true, false, length, take}
use Rattle.std.proofs.Common.{drop, List, [], ◌∷◌, ◌++◌, refl, sym, ap, ◌∙◌, append_assoc, arith}
use Rattle.std.proofs.Common.{length-append, Option, Some, None, suc, nat_lt, ◌==◌, cond, not}
use Rattle.std.specs.Prelude.{unwrap_or, IfSome, slice_index_or, All}
use Rattle.std.proofs.lemmas.List.{take_at, drop_at, get_or_at, length-replicate, nil_from_length}
use Rattle.std.proofs.lemmas.List.{length_push}
use Rattle.std.proofs.lemmas.Bool.{lt-ltb, le-ltb, eq-eqb}
use Rattle.state_codec.specs.Bits.{bits, number_of}
use Rattle.state_codec.proofs.Numbers.{length-bits, number_of_enough}
use Rattle.state_codec.proofs.Bytes.{bits_of_bytes-bytes_of_bits, length-bytes_of_bits}
use Rattle.construction.specs.Widths.{width}
use Rattle.sync_types.specs.States.{State, zero_register}
use Rattle.sync_types.specs.declared.states.Reg.{Reg}
use Rattle.state_codec.specs.Shapes.{Fields, IsFields, register_bits, registers_bits, bits_in}
use Rattle.state_codec.specs.Shapes.{bytes_in}
use Rattle.state_codec.specs.Ranges.{IsField, AreBelow, InRange}
use Rattle.construction.specs.Runs.{IsRegister}
use Rattle.state_codec.specs.Writing.{full_bits, bits_of_register, bits_of_registers, bits_of_state}
use Rattle.state_codec.specs.Writing.{padding, written}
use Rattle.state_codec.specs.Reading.{below, full_register, register_from, registers_from}
use Rattle.state_codec.specs.Reading.{state_from, read}
use Rattle.state_codec.proofs.BitLengths.{width_fits}
use Rattle.state_codec.proofs.RegisterSteps.{state_is, value_most, registers_bits-cons}
use Rattle.state_codec.proofs.RegisterSteps.{registers_bits_of_none}
use Rattle.state_codec.proofs.Whole.{rounded}

-- a value below the modulus is itself, and the modulus is infinity
value_back : (a : Option ℕ) (c : ℕ) → IfSome a (λ x. x < c) → below c (unwrap_or a c) ≡ a
value_back None c h = let e : nat_lt c c ≡ false = le-ltb c c (omega arith) in rw e refl
value_back (Some a) c h = let e : nat_lt a c ≡ true = lt-ltb a c h in rw e refl

length-full_bits : (c : ℕ) (r : Reg) → length (full_bits c r) ≡ width (c + 1) + 1
length-full_bits c r = length_push (bits (width (c + 1)) (unwrap_or r.a c)) r.d
    ∙ ap (λ (y : ℕ). y + 1) (length-bits (width (c + 1)) (unwrap_or r.a c))

length_by : (b : Bool) (c : ℕ) (r : Reg)
    → length (cond b [] (full_bits c r)) ≡ cond b 0 (width (c + 1) + 1)
length_by true c r = refl
length_by false c r = length-full_bits c r

length-bits_of_register : (c : ℕ) (r : Reg) → length (bits_of_register c r) ≡ register_bits c
length-bits_of_register c r = length_by (c == 0) c r

length-bits_of_registers : (cs : List ℕ) (rs : List Reg) → length rs ≡ length cs
    → length (bits_of_registers cs rs) ≡ registers_bits cs
unfolding bits_of_registers
length-bits_of_registers [] rs h = sym registers_bits_of_none
length-bits_of_registers (c ∷ cs) [] h = absurd (omega arith)
length-bits_of_registers (c ∷ cs) (r ∷ rs) h =
    let tail : length rs ≡ length cs = omega arith in
    omega (
      arith,
      length-append (bits_of_register c r) (bits_of_registers cs rs),
      length-bits_of_register c r,
      length-bits_of_registers cs rs tail,
      registers_bits-cons c cs,
    )

-- the number at the beginning
front_number : (w n : ℕ) (rest : List Bool) → n < 2 ^ w → number_of (take w (bits w n ++ rest)) ≡ n
front_number w n rest h = ap number_of (take_at (bits w n) rest w (length-bits w n))
    ∙ number_of_enough w n h

-- what stands after a register
behind_register : (c : ℕ) (r : Reg) (rest : List Bool)
    → drop (register_bits c) (bits_of_register c r ++ rest) ≡ rest
behind_register c r rest =
    drop_at (bits_of_register c r) rest (register_bits c) (length-bits_of_register c r)

register_of : Option ℕ → Bool → Reg
register_of a d = record { a = a; d = d }

-- a register that is there reads back
full_back : (c : ℕ) (r : Reg) (rest : List Bool) → c ≤ 2 ^ 40 → IfSome r.a (λ x. x < c)
    → full_register c (full_bits c r ++ rest) ≡ r
unfolding register_of
full_back c r rest small within =
    let w : ℕ = width (c + 1) in
    let v : ℕ = unwrap_or r.a c in
    let e : full_bits c r ++ rest ≡ bits w v ++ (r.d ∷ rest) =
    append_assoc (bits w v) (r.d ∷ []) rest in
    let most : v ≤ c = value_most r.a c within in
    let c64 : c < 2 ^ 64 = omega arith in
    let fits : v < 2 ^ w = omega (arith, width_fits c c64) in
    let a : below c (number_of (take w (bits w v ++ (r.d ∷ rest)))) ≡ r.a =
    ap (λ (y : ℕ). below c y) (front_number w v (r.d ∷ rest) fits) ∙ value_back r.a c within in
    let d : slice_index_or (bits w v ++ (r.d ∷ rest)) w false ≡ r.d =
    get_or_at (bits w v) r.d rest false w (length-bits w v) in
    ap (λ (y : List Bool). full_register c y) e
    ∙ ap (λ (y : Option ℕ). register_of y (slice_index_or (bits w v ++ (r.d ∷ rest)) w false)) a
    ∙ ap (λ (y : Bool). register_of r.a y) d

register_by : (b : Bool) (c : ℕ) (r : Reg) (rest : List Bool) → c ≤ 2 ^ 40 → IsRegister (not b) c r
    → cond b zero_register (full_register c (cond b [] (full_bits c r) ++ rest)) ≡ r
register_by true c r rest small within = sym within
register_by false c r rest small within = full_back c r rest small within

-- a register reads back
register_back : (c : ℕ) (r : Reg) (rest : List Bool) → c ≤ 2 ^ 40 → IsField c r
    → register_from c (bits_of_register c r ++ rest) ≡ r
register_back c r rest small within = register_by (c == 0) c r rest small within

-- all registers read back
registers_back : (cs : List ℕ) (rs : List Reg) (pad : List Bool) → length rs ≡ length cs
    → All (λ c. c ≤ 2 ^ 40) cs → AreBelow cs rs
    → registers_from cs (bits_of_registers cs rs ++ pad) ≡ rs
unfolding bits_of_registers registers_from
registers_back [] rs pad h limits within = sym (nil_from_length rs h)
registers_back (c ∷ cs) [] pad h limits within = absurd (omega arith)
registers_back (c ∷ cs) (r ∷ rs) pad h limits within =
    let tail : length rs ≡ length cs = omega arith in
    let small : c ≤ 2 ^ 40 = limits 0 0 (omega arith) in
    let first : IsField c r = within 0 (omega arith) in
    let e : (bits_of_register c r ++ bits_of_registers cs rs) ++ pad
    ≡ bits_of_register c r ++ (bits_of_registers cs rs ++ pad) =
    append_assoc (bits_of_register c r) (bits_of_registers cs rs) pad in
    ap (λ (y : List Bool). register_from c y ∷ registers_from cs (drop (register_bits c) y)) e
    ∙ ap (λ (y : List Bool). register_from c
    (bits_of_register c r ++ (bits_of_registers cs rs ++ pad)) ∷ registers_from cs y)
    (behind_register c r (bits_of_registers cs rs ++ pad))
    ∙ ap (λ (y : Reg). y ∷ registers_from cs (bits_of_registers cs rs ++ pad))
    (register_back c r (bits_of_registers cs rs ++ pad) small first)
    ∙ ap (λ (y : List Reg). r ∷ y) (registers_back cs rs pad tail
    (λ k d p. limits (suc k) d (omega arith)) (λ i p. within (suc i) (omega arith)))

-- a state reads back from its bits
state_back : (fields : Fields) (s : State) (pad : List Bool) → IsFields fields → InRange fields s
    → state_from fields (bits_of_state fields s ++ pad) ≡ s
state_back fields s pad sound range =
    let w : ℕ = width fields.base in
    let behind : List Bool = bits_of_registers fields.moduli s.registers ++ pad in
    let e : bits_of_state fields s ++ pad ≡ bits w s.x ++ behind =
    append_assoc (bits w s.x) (bits_of_registers fields.moduli s.registers) pad in
    let same : fields.base - 1 + 1 ≡ fields.base = let l = sound.least in omega arith in
    let small : fields.base - 1 < 2 ^ 64 = let l = sound.most in omega arith in
    let fits : s.x < 2 ^ w = let f = range.x in
    omega (arith, width_fits (fields.base - 1) small, ap (λ (y : ℕ). 2 ^ width y) same) in
    let x : number_of (take w (bits w s.x ++ behind)) ≡ s.x = front_number w s.x behind fits in
    let is_below : nat_lt s.x fields.base ≡ true = lt-ltb s.x fields.base range.x in
    let v : unwrap_or (below fields.base s.x) 0 ≡ s.x = rw is_below refl in
    ap (λ (y : List Bool). state_from fields y) e
    ∙ sym (state_is s _ _
    (sym (ap (λ (y : ℕ). unwrap_or (below fields.base y) 0) x ∙ v))
    (sym (ap (λ (y : List Bool). registers_from fields.moduli y)
    (drop_at (bits w s.x) behind w (length-bits w s.x))
    ∙ registers_back fields.moduli s.registers pad range.depth sound.moduli range.values)))

-- a state reads back from its bytes
pub written_reads_back : (fields : Fields) (s : State) → IsFields fields → InRange fields s
    → read fields (written fields s) ≡ s
written_reads_back fields s sound range =
    let all : List Bool = bits_of_state fields s ++ padding fields in
    let long : length (bits_of_state fields s) ≡ bits_in fields =
    length-append (bits (width fields.base) s.x) (bits_of_registers fields.moduli s.registers)
    ∙ ap (λ (y : ℕ). y + length (bits_of_registers fields.moduli s.registers))
    (length-bits (width fields.base) s.x)
    ∙ ap (λ (y : ℕ). width fields.base + y)
    (length-bits_of_registers fields.moduli s.registers range.depth) in
    let padded : length all ≡ 8 * bytes_in fields =
    omega (
      arith,
      length-append (bits_of_state fields s) (padding fields),
      length-replicate (8 * bytes_in fields - bits_in fields) false,
      rounded (bits_in fields),
    ) in
    let test : (length (written fields s) == bytes_in fields) ≡ true =
    eq-eqb _ _ (length-bytes_of_bits (bytes_in fields) all) in
    rw test (ap (λ (y : List Bool). state_from fields y)
    (bits_of_bytes-bytes_of_bits (bytes_in fields) all padded)
    ∙ state_back fields s (padding fields) sound range)
