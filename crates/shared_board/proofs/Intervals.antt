-- The intervals of a level's blocks.
use Rattle.std.proofs.Common.{◌≡◌, ℕ, suc, ◌+◌, ◌*◌, ◌^◌, ◌≤◌, sym, ap, ◌∙◌, arith}
use Rattle.construction.specs.Plans.{leaders_of, interval_of}
use Rattle.leader_pointers.proofs.Intervals.{interval_pos, interval_suc, interval_le}
use Rattle.plan_numbers.specs.declared.numbers.LevelNums.{LevelNums}
use Rattle.plan_numbers.specs.Numbers.{level_of}
use Rattle.shared_board.specs.GroupVotes.{AreNumbers}

-- the interval of the next block
pub interval_more : (beat leaders i interval turns : ℕ) → interval ≡ interval_of beat leaders i
    → turns ≡ leaders → interval * (2 * turns) ≡ interval_of beat leaders (i + 1)
interval_more beat leaders i interval turns h e =
    let next : suc i ≡ i + 1 = omega arith in
    ap (λ m. interval * (2 * m)) e
    ∙ (ap (λ d. d * (2 * leaders)) h
    ∙ (sym (interval_suc beat leaders i) ∙ ap (interval_of beat leaders) next))

-- intervals up to that past the last block are no longer than the span
pub interval_most : (nums : LevelNums) → AreNumbers nums → (i : ℕ) → i ≤ nums.blocks
    → interval_of nums.beat nums.leaders i ≤ 2 ^ 40
interval_most nums r i le =
    let leaders = r.sized.leaders in
    let most = r.sized.most_span in
    let span : nums.span ≡ interval_of nums.beat nums.leaders nums.blocks = r.span
    ∙ (ap (λ b. interval_of b (leaders_of (level_of nums)) nums.blocks) (sym r.beat)
    ∙ ap (λ m. interval_of nums.beat m nums.blocks) (sym r.leaders)) in
    omega (arith, interval_le nums.beat nums.leaders i nums.blocks (omega arith) le)

-- an interval is at least one output long
pub interval_some : (nums : LevelNums) → AreNumbers nums → (i : ℕ)
    → 1 ≤ interval_of nums.beat nums.leaders i
interval_some nums r i =
    let leaders = r.sized.leaders in
    let beat = r.sized.beat in
    interval_pos nums.beat nums.leaders i (omega arith) (omega arith)
