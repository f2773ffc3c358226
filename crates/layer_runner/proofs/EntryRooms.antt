-- A modulus that is a multiple of an entry of each node has room for an entry.
use Rattle.std.proofs.Common.{◌≡◌, ℕ, ◌*◌, ◌%◌, ◌<◌, ◌≤◌, inl, inr, arith}
use Rattle.std.proofs.Math.Nat.{mod-eq_of_lt, mul-le-mul_right}
use Rattle.std.proofs.lemmas.Bool.{cases_lt}

pub room_for_one : (modulus nodes rounds : ℕ) → 0 < modulus → 0 < nodes
    → modulus % (nodes * rounds) ≡ 0 → rounds ≤ modulus
room_for_one modulus nodes rounds some one whole =
    elim (cases_lt modulus (nodes * rounds)) [
      | inl lt ↦ absurd (omega (arith, mod-eq_of_lt lt, whole, some))
      | inr le ↦ (let up : 1 * rounds ≤ nodes * rounds = mul-le-mul_right rounds one in
          omega (arith, up, le))
    ]
