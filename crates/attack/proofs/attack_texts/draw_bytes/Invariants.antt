use Rattle.std.proofs.Common.{ℕ, ◌≡◌, ◌<◌, ◌%◌, get_or}
use Rattle.attack.specs.Draws.{drawn}
use Rattle.attack.proofs.attack_texts.draw_bytes.Given as goal

abbrev pub invariant-loop-i : goal.invariant-loop-i
invariant-loop-i l = (k : ℕ) → k < l.i → get_or l.out k 0 ≡ drawn l.lot.seed k % 256
