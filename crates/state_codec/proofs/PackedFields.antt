-- Fields of a state whose bytes stand at the beginning of others.
use Rattle.std.proofs.Common.{◌≡◌, ℕ, zero, suc, ◌+◌, ◌*◌, ◌<◌, ◌≤◌, Bool, true, false, cond}
use Rattle.std.proofs.Common.{length, take, drop, get_or, List, [], ◌∷◌, ◌++◌, refl, sym, ap, ap₂}
use Rattle.std.proofs.Common.{◌∙◌, arith, ◌==◌, Option}
use Rattle.std.specs.Prelude.{unwrap_or}
use Rattle.std.proofs.lemmas.Bool.{eq-eqb}
use Rattle.std.proofs.lemmas.Grind.{flat_map-append}
use Rattle.std.proofs.lemmas.List.{take-append-drop, length-take-le, length-drop, take-append-le}
use Rattle.std.proofs.lemmas.List.{drop-append-le, take-take, get_or-take, drop-drop}
use Rattle.std.proofs.lemmas.List.Sums.{sum_by-take-le}
use Rattle.state_codec.specs.Bits.{bits, number_of, bits_of_bytes}
use Rattle.state_codec.proofs.Bytes.{length-bits_of_bytes}
use Rattle.construction.specs.Widths.{width}
use Rattle.sync_types.specs.States.{State, zero_state, zero_register, register_at}
use Rattle.state_codec.specs.Shapes.{Fields, register_bits, registers_bits, bits_in, bytes_in}
use Rattle.state_codec.specs.Reading.{below, full_register, register_from, registers_from}
use Rattle.state_codec.specs.Reading.{state_from, read}
use Rattle.state_codec.proofs.Whole.{rounded}
use Rattle.state_codec.proofs.RegisterSteps.{registers_bits-cons, registers_bits_of_none, bits_more}

-- bits of a prefix of bytes
bits_among : (xs : List ℕ) (n from w : ℕ) → n ≤ length xs → from + w ≤ 8 * n
    → take w (drop from (bits_of_bytes (take n xs))) ≡ take w (drop from (bits_of_bytes xs))
bits_among xs n from w within fits =
    let own : List Bool = bits_of_bytes (take n xs) in
    let behind : List Bool = bits_of_bytes (drop n xs) in
    let long : length own ≡ 8 * n =
    omega (arith, length-bits_of_bytes (take n xs), length-take-le n xs within) in
    let parts : bits_of_bytes xs ≡ own ++ behind =
    ap bits_of_bytes (sym (take-append-drop n xs))
    ∙ flat_map-append (bits 8) (take n xs) (drop n xs) in
    let there : drop from (bits_of_bytes xs) ≡ drop from own ++ behind =
    ap (drop from) parts ∙ drop-append-le from own behind (omega (arith, long)) in
    sym (ap (take w) there ∙ take-append-le w (drop from own) behind
    (omega (arith, length-drop from own, long)))

-- a register is that of its own bits
full_by_front : (c : ℕ) (bs : List Bool)
    → full_register c (take (width (c + 1) + 1) bs) ≡ full_register c bs
full_by_front c bs =
    let w : ℕ = width (c + 1) in
    let value : take w (take (w + 1) bs) ≡ take w bs = take-take w (w + 1) bs (omega arith) in
    let mark : get_or (take (w + 1) bs) w false ≡ get_or bs w false =
    get_or-take (w + 1) bs w false (omega arith) in
    ap₂ (λ ys d. record { a = below c (number_of ys); d = d }) value mark

register_by_front : (b : Bool) (c : ℕ) (bs cs : List Bool)
    → take (cond b 0 (width (c + 1) + 1)) bs ≡ take (cond b 0 (width (c + 1) + 1)) cs
    → cond b zero_register (full_register c bs) ≡ cond b zero_register (full_register c cs)
register_by_front true c bs cs same = refl
register_by_front false c bs cs same = sym (full_by_front c bs)
    ∙ (ap (full_register c) same ∙ full_by_front c cs)

-- register i begins after those below it
register_in : (cs : List ℕ) (i : ℕ) (bs : List Bool) → i < length cs
    → get_or (registers_from cs bs) i zero_register
    ≡ register_from (get_or cs i 0) (drop (registers_bits (take i cs)) bs)
unfolding registers_from
register_in [] i bs lt = absurd (omega arith)
register_in (c ∷ cs) zero bs lt = ap (λ k. register_from c (drop k bs)) (sym registers_bits_of_none)
register_in (c ∷ cs) (suc i) bs lt =
    register_in cs i (drop (register_bits c) bs) (omega arith)
    ∙ ap (register_from (get_or cs i 0))
    (drop-drop (registers_bits (take i cs)) (register_bits c) bs
    ∙ ap (λ k. drop k bs) (omega (arith, registers_bits-cons c (take i cs))))

-- so many bits stand before a register and in it
pub bits_through : (cs : List ℕ) (i : ℕ) → i < length cs
    → registers_bits (take i cs) + register_bits (get_or cs i 0) ≤ registers_bits cs
unfolding registers_bits
bits_through cs i lt =
    let more = bits_more cs i (registers_bits (take i cs)) (register_bits (get_or cs i 0))
    (get_or cs i 0) lt refl refl refl in
    omega (arith, more, sum_by-take-le register_bits cs (i + 1))

module _ (fields : Fields) (bytes : List ℕ) (within : bytes_in fields ≤ length bytes) where
  abbrev own : List ℕ
  own = take (bytes_in fields) bytes

  is_read : read fields own ≡ state_from fields (bits_of_bytes own)
  is_read =
      let long : length own ≡ bytes_in fields =
      length-take-le (bytes_in fields) bytes within in
      ap (λ b. cond b (state_from fields (bits_of_bytes own)) (zero_state (length fields.moduli)))
      (eq-eqb _ _ long)

  pub number_among : (read fields own).x
      ≡ unwrap_or (below fields.base (number_of
      (take (width fields.base) (bits_of_bytes bytes)))) 0
  number_among =
      ap (λ (s : State). s.x) is_read
      ∙ ap (λ bs. unwrap_or (below fields.base (number_of bs)) 0)
      (bits_among bytes (bytes_in fields) 0 (width fields.base) within
      (omega (arith, rounded (bits_in fields))))

  pub register_among : (i : ℕ) → i < length fields.moduli
      → register_at i (read fields own)
      ≡ register_from (get_or fields.moduli i 0)
      (drop (width fields.base + registers_bits (take i fields.moduli))
      (bits_of_bytes bytes))
  register_among i lt =
      let c : ℕ = get_or fields.moduli i 0 in
      let front : ℕ = registers_bits (take i fields.moduli) in
      let own_bits : List Bool = bits_of_bytes own in
      let joined : drop front (drop (width fields.base) own_bits)
      ≡ drop (width fields.base + front) own_bits = drop-drop front (width fields.base) own_bits
      ∙ ap (λ k. drop k own_bits) (omega arith) in
      ap (register_at i) is_read
      ∙ (register_in fields.moduli i (drop (width fields.base) own_bits) lt
      ∙ register_by_front (c == 0) c (drop front (drop (width fields.base) own_bits))
      (drop (width fields.base + front) (bits_of_bytes bytes))
      (ap (take (register_bits c)) joined
      ∙ bits_among bytes (bytes_in fields) (width fields.base + front) (register_bits c)
      within (omega (arith, bits_through fields.moduli i lt, rounded (bits_in fields)))))

  -- so it is what is read of its bits
  pub number_found : (base w n : ℕ) (found : Option ℕ) (x : ℕ) → base ≡ fields.base
      → w ≡ width fields.base → n ≡ number_of (take w (bits_of_bytes bytes))
      → found ≡ below base n
      → x ≡ unwrap_or found 0 → x ≡ (read fields own).x
  number_found base w n found x same_base same_width is_number is_found is =
      is ∙ (ap (λ a. unwrap_or a 0) (is_found
      ∙ ap₂ below same_base (is_number ∙ ap
      (λ k. number_of (take k (bits_of_bytes bytes))) same_width))
      ∙ sym number_among)

  -- its bits stand within the state's
  pub register_fits : (i : ℕ) → i < length fields.moduli
      → width fields.base + registers_bits (take i fields.moduli)
      + register_bits (get_or fields.moduli i 0) ≤ 8 * bytes_in fields
  register_fits i lt = omega (arith, bits_through fields.moduli i lt, rounded (bits_in fields))
