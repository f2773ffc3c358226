use Rattle.std.proofs.Common.{ℕ, ◌<◌, List, length, ◌∙◌, arith}
use Rattle.state_codec.proofs.Lows.{any_default, taken_more}
use Rattle.halving_runs.proofs.layer_shapes.moduli_with.Goals as goal

pub loop-i-preserved : goal.loop-i-preserved
loop-i-preserved c =
    let own : List ℕ = c.args.own.now.moduli in
    let i : ℕ = c.loop-i.i in
    let x : ℕ = c.register.result.modulus in
    let lt : i < length own = omega (arith, c.requires, c.loop-i-test.true) in
    c.in_ok-push.ensures.items
    ∙ taken_more own i x c.loop-i.moduli.items lt c.loop-i.invariant
    (c.register.ensures ∙ any_default own i 0 x lt)
