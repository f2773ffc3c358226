-- How many packets there are.
use Rattle.std.proofs.Common.{◌≡◌, ℕ, zero, suc, ◌+◌, List, [], ◌∷◌, length, get_or, Result, Ok}
use Rattle.std.proofs.Common.{Err, refl, arith}
use Rattle.node_stepper.specs.Packets.{whole, cut, Packets, cells_of, onto_packet, packets_of}

-- packets that end after packet n are so many from the first one on
abbrev EndAt : (from n : ℕ) → Packets → Type 0
EndAt from n packets = packets.ending ≡ whole n → from + length packets.cells ≡ n

-- the packets of bytes whose first packet was read so
abbrev first_read : (nodes most from : ℕ) → Result (List (List ℕ) × List ℕ) ℕ → Packets
first_read nodes most from (Ok packet) =
    onto_packet (packet.0) (packets_of nodes most (from + 1) (packet.1))
first_read nodes most from (Err sender) = record { cells = []; ending = cut from sender }

one_more : (nodes most from n : ℕ) (found : Result (List (List ℕ) × List ℕ) ℕ)
    → ((bytes : List ℕ) → EndAt (from + 1) n (packets_of nodes most (from + 1) bytes))
    → EndAt from n (first_read nodes most from found)
one_more nodes most from n (Err sender) behind is = absurd cc
one_more nodes most from n (Ok packet) behind is = omega (arith, behind (packet.1) is)

pub as_many : (nodes most from n : ℕ) (bytes : List ℕ)
    → EndAt from n (packets_of nodes most from bytes)
as_many nodes most from n [] is = let same : from ≡ n = cc in omega (arith, same)
as_many nodes zero from n (b ∷ bytes) is = absurd cc
as_many nodes (suc most) from n (b ∷ bytes) is =
    one_more nodes most from n (cells_of nodes 0 (b ∷ bytes)) (as_many nodes most (from + 1) n) is

-- a list of one
pub only_one : {X : Type 0} (xs : List X) (d : X) → length xs ≡ 1 → xs ≡ get_or xs 0 d ∷ []
only_one [] d is = absurd (omega (arith, is))
only_one (x ∷ []) d is = refl
only_one (x ∷ y ∷ xs) d is = absurd (omega (arith, is))
