-- A field of a word, by two shifts.
use Rattle.std.proofs.Common.{◌≡◌, ℕ, ◌+◌, ◌-◌, ◌*◌, ◌/◌, ◌%◌, ◌^◌, sym, ap, ◌∙◌, arith}
use Rattle.std.proofs.lemmas.Nat.{mod-pow-add, shr-shr, shr_high, shl-shr, mod_below, pow_pos}
use Rattle.std.proofs.Math.Nat.{mul-mod_left}

-- what stands before the field is shifted out, and then what stands after it
pub shifted_cut : (n before size after : ℕ) → before + size + after ≡ 64
    → n * 2 ^ before % 2 ^ 64 / 2 ^ (64 - size) ≡ n / 2 ^ after % 2 ^ size
shifted_cut n before size after all =
    let whole : 64 ≡ size + after + before = omega (arith, all) in
    let last : 64 - size ≡ before + after = omega (arith, all) in
    let up : ℕ = n * 2 ^ before in
    let low : ℕ = n % 2 ^ (size + after) in
    let kept : up % 2 ^ 64 ≡ low * 2 ^ before + 0 = ap (λ k. up % 2 ^ k) whole
    ∙ (mod-pow-add up (size + after) before
    ∙ (ap (λ k. k % 2 ^ (size + after) * 2 ^ before + up % 2 ^ before) (shl-shr n before)
    ∙ ap (λ k. low * 2 ^ before + k) (mul-mod_left n (2 ^ before)))) in
    ap (λ k. k / 2 ^ (64 - size)) kept
    ∙ (ap (λ k. (low * 2 ^ before + 0) / 2 ^ k) last
    ∙ (sym (shr-shr (low * 2 ^ before + 0) before after)
    ∙ (ap (λ k. k / 2 ^ after) (shr_high low before 0 (pow_pos before))
    ∙ (ap (λ k. k / 2 ^ after) (mod-pow-add n size after)
    ∙ shr_high (n / 2 ^ after % 2 ^ size) after (n % 2 ^ after)
    (mod_below n (2 ^ after) (pow_pos after))))))
