use Rattle.std.proofs.Common.{◌≡◌, ℕ, ◌<◌}
use Rattle.std.specs.Prelude.{slice_index}
use Rattle.consensus_layer.proofs.heeding.liar_at.Given as goal

-- none of the liars before is the node
abbrev pub invariant-loop-j : goal.invariant-loop-j
invariant-loop-j l = (k : ℕ) → k < l.j → slice_index l.faulty.ids k ≡ l.node → ⊥
