-- Lists of bits, most significant first.
use Rattle.std.specs.Prelude.{ℕ, zero, suc, ◌+◌, ◌*◌, ◌^◌, ◌==◌, Bool, List, [], ◌∷◌, length, take}
use Rattle.std.specs.Prelude.{drop, if◌then◌else◌}
use Rattle.std.specs.Int.{bit_at}
use Rattle.std.specs.List.{flat_map}

-- the lowest bits of a number, so many
unfoldable pub bits : (count n : ℕ) → List Bool
bits zero n = []
bits (suc count) n = (bit_at n count == 1) ∷ bits count n

-- the number that bits write
unfoldable pub number_of : List Bool → ℕ
number_of [] = 0
number_of (bit ∷ rest) = (if bit then 1 else 0) * 2 ^ length rest + number_of rest

-- the bits of bytes
abbrev pub bits_of_bytes : List ℕ → List Bool
bits_of_bytes bytes = flat_map (bits 8) bytes

-- so many bytes, eight bits each
unfoldable pub bytes_of_bits : (count : ℕ) → List Bool → List ℕ
bytes_of_bits zero bs = []
bytes_of_bits (suc count) bs = number_of (take 8 bs) ∷ bytes_of_bits count (drop 8 bs)
