-- How many steps a round takes.
use Rattle.std.proofs.Common.{ℕ, ◌+◌, ◌-◌, ◌*◌, ◌≤◌, length, arith}
use Rattle.std.proofs.lemmas.Nat.{mul-le}
use Rattle.adversary_script.specs.Scripts.{Script}
use Rattle.adversary_script.specs.Eras.{era_of, faulty_at}
use Rattle.adversary_script.specs.ScriptPart.{IsTolerated, IsScriptFor}
use Rattle.machine_runner.proofs.Eras.{of_each_era}
use Rattle.machine_runner.proofs.Firsts.{era_within}

-- d steps for each of n - q senders, and d for each of q at each of n receivers
pub round_cost : (d n q f : ℕ) → q ≤ f → d * (n - q) + n * (d * q) ≤ d * n * (f + 1)
round_cost d n q f few =
    let senders : d * (n - q) ≤ d * n = mul-le d (n - q) d n (omega arith) (omega arith) in
    let told : n * (d * q) ≤ n * (d * f) =
    mul-le n (d * q) n (d * f) (omega arith) (mul-le d q d f (omega arith) few) in
    omega (arith, senders, told)

-- no more are faulty in a round than may be
pub few_liars : (n f : ℕ) (script : Script) (t : ℕ) → IsScriptFor n f script.shape script
    → length (faulty_at script t) ≤ f
few_liars n f script t right =
    let is = of_each_era (IsTolerated n f) script (era_of script t) (era_within script t)
    right.borne in
    is.few
