-- What is taken from the beginning of bits.
use Rattle.std.proofs.Common.{◌≡◌, ℕ, ◌+◌, ◌/◌, ◌^◌, Bool, take, drop, List, ◌++◌, append_assoc}
use Rattle.std.proofs.lemmas.List.{take_at, drop_at}
use Rattle.state_codec.specs.Bits.{bits}
use Rattle.state_codec.proofs.Numbers.{length-bits, bits_split}

-- the first bits of a number are those of its quotient
pub take_front : (w k a : ℕ) (rest : List Bool)
    → take w (bits (w + k) a ++ rest) ≡ bits w (a / 2 ^ k)
take_front w k a rest =
    rw (bits_split w k a, append_assoc)
    (take_at (bits w (a / 2 ^ k)) (bits k a ++ rest) w (length-bits w (a / 2 ^ k)))

-- after them are its lowest
pub drop_front : (w k a : ℕ) (rest : List Bool) → drop w (bits (w + k) a ++ rest) ≡ bits k a ++ rest
drop_front w k a rest =
    rw (bits_split w k a, append_assoc)
    (drop_at (bits w (a / 2 ^ k)) (bits k a ++ rest) w (length-bits w (a / 2 ^ k)))
