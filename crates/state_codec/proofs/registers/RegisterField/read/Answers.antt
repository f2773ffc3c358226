use Rattle.std.proofs.Common.{arith, ℕ, ◌≡◌, ◌≤◌, ◌<◌, ◌+◌, ◌-◌, ◌*◌, ◌/◌, ◌%◌, ◌^◌, sym, ap, ◌∙◌}
use Rattle.std.proofs.Common.{List, Bool, false, cond, drop, take, length, ◌==◌}
use Rattle.std.specs.Prelude.{slice_index_or}
use Rattle.std.proofs.Math.Nat.{mod-lt}
use Rattle.std.proofs.lemmas.Bool.{ne_eqb}
use Rattle.std.proofs.lemmas.List.{length-drop}
use Rattle.byteorder.specs.Endian.{big_from}
use Rattle.sync_types.specs.States.{zero_register}
use Rattle.construction.specs.Widths.{width}
use Rattle.state_codec.specs.Bits.{number_of, bits_of_bytes}
use Rattle.state_codec.specs.Reading.{below, full_register}
use Rattle.state_codec.proofs.Bytes.{length-bits_of_bytes}
use Rattle.state_codec.proofs.FullNumbers.{full_size}
use Rattle.state_codec.proofs.RegisterSteps.{value_with_mark}
use Rattle.state_codec.proofs.Shifts.{shifted_cut}
use Rattle.state_codec.proofs.Windows.{field}
use Rattle.state_codec.proofs.registers.RegisterField.read.Goals as goal

-- what stands before the field is shifted out of the word, and what stands after it
pub returns : goal.returns
returns c =
    let bytes = c.args.bytes.now in
    let from : ℕ = c.args.from in
    let size : ℕ = c.args.self.size in
    let m : ℕ = c.args.self.modulus in
    let there = ne_eqb m 0 c.if-self-eq0.false in
    let w : ℕ = width (m + 1) in
    let long : size ≡ w + 1 = c.args.self.sized ∙ full_size m there in
    let most : size ≤ 56 = omega (arith, c.args.self.short) in
    let within : from / 8 + 8 ≤ length bytes = omega (arith, c.requires) in
    let r : ℕ = 64 - from % 8 - size in
    let eight : from / 8 + 8 - from / 8 ≡ 8 = omega arith in
    let word : c.read_u64-word.result ≡ big_from 0 8 (take 8 (drop (from / 8) bytes)) =
    c.read_u64-word.ensures ∙ ap (λ k. big_from 0 8 (take k (drop (from / 8) bytes))) eight in
    let bs : List Bool = drop from (bits_of_bytes bytes) in
    let n : ℕ = c.read_u64-word.result * 2 ^ (from % 8) % 2 ^ 64 / 2 ^ (64 - size) in
    let eight_most : from % 8 < 8 = mod-lt from (omega arith) in
    let all : from % 8 + size + r ≡ 64 = omega (arith, eight_most, most) in
    let loaded : n ≡ number_of (take size bs) =
    shifted_cut c.read_u64-word.result (from % 8) size r all
    ∙ (ap (λ k. k / 2 ^ r % 2 ^ size) word
    ∙ sym (field bytes from size (λ j. let fits = c.type_inv.bytes j in omega (arith, fits))
    most within)) in
    let behind : w < length bs =
    omega (
      arith,
      length-drop from (bits_of_bytes bytes),
      length-bits_of_bytes bytes,
      c.requires,
      long,
    ) in
    let parts = value_with_mark bs w n behind (loaded ∙ ap (λ k. number_of (take k bs)) long) in
    let value : c.below.result ≡ below m (number_of (take w bs)) =
    c.below.ensures ∙ ap (below m) parts.0 in
    let mark : (n % 2 == 1) ≡ slice_index_or bs w false = parts.1 in
    let full : record { a = c.below.result; d = n % 2 == 1 } ≡ full_register m bs = cc in
    full ∙ ap (λ b. cond b zero_register (full_register m bs)) (sym there)
