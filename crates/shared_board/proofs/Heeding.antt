-- What is heard of a stretch of nodes hangs on the lies of its liars alone.
use Rattle.std.proofs.Common.{◌≡◌, ℕ, suc, ◌+◌, ◌*◌, ◌<◌, ◌≤◌, Bool, true, false, if◌then◌else◌}
use Rattle.std.proofs.Common.{List, length, refl, ap, ◌∙◌, arith}
use Rattle.counting.proofs.Places.{shorter}
use Rattle.sync_types.specs.States.{State, register_at}
use Rattle.construction.specs.Shown.{shown}
use Rattle.construction.specs.Steps.{state_of, register_after}
use Rattle.plan_numbers.specs.declared.numbers.LevelNums.{LevelNums}
use Rattle.plan_numbers.specs.Numbers.{level_of}
use Rattle.plan_numbers.specs.Sizes.{block_nodes}
use Rattle.shared_board.specs.Senders.{Sent, is_liar, register_of, output_of, liars_below, told_by}
use Rattle.shared_board.specs.Senders.{output_heard, value_heard, outputs_heard, values_heard}
use Rattle.shared_board.specs.GroupVotes.{register_heard}
use Rattle.shared_board.specs.Sharing.{place_among}
use Rattle.shared_board.proofs.GroupStretches.{same_range}
use Rattle.shared_board.specs.Boards.{Board, sent_of}
use Rattle.shared_board.proofs.RegistersHeard.{below_is}

-- two lists of lies, in which the liars from one node to before another say the same
module _ (s : Sent) (lies told : List State) (from to : ℕ)
    (alike : (j : ℕ) → liars_below s from ≤ j → j < liars_below s to
    → state_of lies j ≡ state_of told j) where
  told_alike : (u : ℕ) → from ≤ u → u < to → is_liar s u ≡ true
      → told_by s lies u ≡ told_by s told u
  told_alike u first last liar =
      let one : liars_below s (suc u) ≡ liars_below s u + 1 =
      ap (λ b. liars_below s u + (if b then 1 else 0)) liar in
      alike (liars_below s u) (omega (arith, shorter (is_liar s) from u first))
      (omega (arith, one, shorter (is_liar s) (suc u) to (omega arith)))

  heard_alike : {X : Type 0} → (f : State → X) (x : X) (u : ℕ) → from ≤ u → u < to
      → (if is_liar s u then f (told_by s lies u) else x)
      ≡ (if is_liar s u then f (told_by s told u) else x)
  heard_alike f x u first last = by (is_liar s u) refl
    where
      by : (b : Bool) → is_liar s u ≡ b
          → (if b then f (told_by s lies u) else x) ≡ (if b then f (told_by s told u) else x)
      by true e = ap f (told_alike u first last e)
      by false e = refl

  pub outputs_alike : (first count : ℕ) → from ≤ first → first + count ≤ to
      → outputs_heard s lies first count ≡ outputs_heard s told first count
  outputs_alike first count le fits =
      same_range (output_heard s lies) (output_heard s told) count first
      (λ u a b. heard_alike (shown s.height) (output_of s u) u (omega arith) (omega arith))

  pub values_alike : (first count : ℕ) → from ≤ first → first + count ≤ to
      → values_heard s lies first count ≡ values_heard s told first count
  values_alike first count le fits =
      same_range (value_heard s lies) (value_heard s told) count first
      (λ u a b. heard_alike (λ t. (register_at s.height t).a) (register_of s u).a u (omega arith)
      (omega arith))

-- the new register of a node is the same by two such lists, if its group stands among the nodes
-- from the one to before the other
pub register_alike : (b : Board) (h : ℕ) (lies told : List State) (from to : ℕ) → from ≤ to
    → to ≤ length b.states
    → ((j : ℕ) → place_among b.faulty from ≤ j → j < place_among b.faulty to
    → state_of lies j ≡ state_of told j)
    → (nums : LevelNums) (first node : ℕ)
    → nums.nodes ≡ nums.blocks * block_nodes nums + nums.spares
    → from ≤ first → first + nums.nodes ≤ to
    → register_heard (sent_of b h) nums first node lies
    ≡ register_heard (sent_of b h) nums first node told
register_alike b h lies told from to order within alike nums first node whole le fits =
    let s : Sent = sent_of b h in
    let n : ℕ = block_nodes nums in
    let all : ℕ = nums.blocks * n in
    let below : (j : ℕ) → liars_below s from ≤ j → j < liars_below s to
    → state_of lies j ≡ state_of told j =
    λ j low high. alike j (omega (arith, low, below_is b h from (omega arith)))
    (omega (arith, high, below_is b h to within)) in
    ap (λ os. register_after n (level_of nums) (register_of s node) os
    (values_heard s lies first nums.nodes))
    (outputs_alike s lies told from to below first all le (omega (arith, whole, fits)))
    ∙ ap (register_after n (level_of nums) (register_of s node) (outputs_heard s told first all))
    (values_alike s lies told from to below first nums.nodes le fits)
