-- How many steps a round takes.
use Rattle.std.proofs.Common.{ℕ, ◌+◌, ◌-◌, ◌*◌, ◌≤◌, arith}
use Rattle.std.proofs.lemmas.Nat.{mul-le}

-- d steps for each of n - q senders, and d for each of q at each of n receivers
pub round_cost : (d n q f : ℕ) → q ≤ f → d * (n - q) + n * (d * q) ≤ d * n * (f + 1)
round_cost d n q f few =
    let senders : d * (n - q) ≤ d * n = mul-le d (n - q) d n (omega arith) (omega arith) in
    let told : n * (d * q) ≤ n * (d * f) =
    mul-le n (d * q) n (d * f) (omega arith) (mul-le d q d f (omega arith) few) in
    omega (arith, senders, told)
