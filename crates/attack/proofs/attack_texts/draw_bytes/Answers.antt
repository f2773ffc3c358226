use Rattle.std.proofs.Common.{ℕ, ◌≡◌, ◌+◌, ◌<◌, ◌%◌, length, get_or, set, subst, sym, arith}
use Rattle.std.proofs.lemmas.List.Edits.{fill_by_more}
use Rattle.std.proofs.lemmas.List.FromFn.{fill_by_all}
use Rattle.attack.specs.Draws.{drawn}
use Rattle.attack.proofs.attack_texts.draw_bytes.Goals as goal

pub loop-i-preserved : goal.loop-i-preserved
loop-i-preserved c =
    let i : ℕ = c.loop-i.i in
    let f : ℕ → ℕ = λ k. drawn c.args.lot.seed k % 256 in
    subst
    (λ (b : ℕ). (k : ℕ) → k < i + 1 → get_or (set c.loop-i.out i b) k 0 ≡ f k)
    (sym c.drawn_byte.ensures)
    (fill_by_more f c.loop-i.out i 0 (omega arith) c.loop-i.invariant)

pub returns : goal.returns
returns c =
    fill_by_all (λ k. drawn c.args.lot.seed k % 256) c.loop-i.out (length c.args.out.now) 0
    (omega arith) (λ k h. c.loop-i.invariant k (omega arith))
