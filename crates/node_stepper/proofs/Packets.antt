-- Packets of bytes, one before the others.
use Rattle.std.proofs.Common.{◌≡◌, ℕ, suc, ◌+◌, ◌<◌, List, [], ◌∷◌, ◌++◌, length, Ok, Err, refl}
use Rattle.std.proofs.Common.{sym, ap, append_assoc, subst, arith}
use Rattle.node_stepper.specs.Packets.{cells_of, Ending, IsWithin, cut, Packets, onto_packet}
use Rattle.node_stepper.specs.Packets.{packets_of}

-- packets after others
abbrev pub after : List (List (List ℕ)) → Packets → Packets
after packets r = record { cells = packets ++ r.cells; ending = r.ending }

pub after_one_more : (packets : List (List (List ℕ))) (packet : List (List ℕ)) (r : Packets)
    → after packets (onto_packet packet r) ≡ after (packets ++ packet ∷ []) r
after_one_more packets packet r =
    ap (λ (l : List (List (List ℕ))). let p : Packets =
    record { cells = l; ending = r.ending } in p) (sym (append_assoc packets (packet ∷ []) r.cells))

pub packets_next : (nodes m from : ℕ) (bytes rest : List ℕ) (packet : List (List ℕ))
    → 0 < length bytes → cells_of nodes 0 (bytes ++ rest) ≡ Ok (packet, rest)
    → packets_of nodes (suc m) from (bytes ++ rest)
    ≡ onto_packet packet (packets_of nodes m (from + 1) rest)
packets_next nodes m from [] rest packet some e = absurd (omega arith)
packets_next nodes m from (b ∷ bytes) rest packet some e = rw (packets_of, e) refl

pub packets_cut : (nodes m from sender : ℕ) (bytes : List ℕ) → 0 < length bytes
    → cells_of nodes 0 bytes ≡ Err sender
    → packets_of nodes (suc m) from bytes ≡ record { cells = []; ending = cut from sender }
packets_cut nodes m from sender [] some e = absurd (omega arith)
packets_cut nodes m from sender (b ∷ bytes) some e = rw (packets_of, e) refl

-- an ending that is within the limit
pub within_if : {e f : Ending} → e ≡ f → IsWithin f → IsWithin e
within_if is within = subst IsWithin (sym is) within
