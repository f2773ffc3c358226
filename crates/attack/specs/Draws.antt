-- Numbers that are drawn: those of SplitMix64, by a seed and the place in its stream.
use Rattle.std.specs.Prelude.{ℕ, ◌+◌, ◌*◌, ◌/◌, ◌%◌, ◌^◌, ◌==◌, if◌then◌else◌, bit_xor}

-- how far the stream goes on with each number
abbrev pub stride : ℕ
stride = 0x9e37_79b9_7f4a_7c15

-- each bit of a word of 64 bits changes about half of the bits of what is made of it
unfoldable pub mixed : ℕ → ℕ
mixed value =
    let first = bit_xor value (value / 2 ^ 30) * 0xbf58_476d_1ce4_e5b9 % 2 ^ 64 in
    let second = bit_xor first (first / 2 ^ 27) * 0x94d0_49bb_1331_11eb % 2 ^ 64 in
    bit_xor second (second / 2 ^ 31)

-- the number at a place of the stream of a seed, the first place being 0
unfoldable pub drawn : (seed place : ℕ) → ℕ
drawn seed place = mixed ((seed + (place + 1) * stride) % 2 ^ 64)

-- one below a count, or 0 if that is 0
unfoldable pub below : (seed place count : ℕ) → ℕ
below seed place count = if count == 0 then 0 else drawn seed place % count
