-- A run of a boosted counter, cut to one block and to the registers of the counter below, is a run
-- of that counter.
use Rattle.std.specs.Prelude.{ℕ, ◌+◌, ◌*◌, ◌<◌, Bool}
use Rattle.sync_types.specs.States.{State}
use Rattle.construction.specs.Plans.{Level}
use Rattle.counter_core.specs.Meanings.{Meaning, cut}
use Rattle.counter_core.specs.RunsByPlace.{RunByPlace}
use Rattle.plan_laws.specs.Boosted.{boosted, BoostedRange}

-- in each block, whatever nodes are faulty
abbrev pub BlockLaw : (below : Meaning) (in_range : State → Type 0) → Level → Type 0
BlockLaw below in_range level =
    (faulty : ℕ → Bool) (last : ℕ) (run : ℕ → ℕ → State) (i : ℕ) → i < level.blocks
    → RunByPlace (boosted below level) (BoostedRange in_range below.depth level.modulus) faulty last
    run
    → RunByPlace below in_range (λ j. faulty (i * below.nodes + j)) last
    (λ t j. cut below.depth (run t (i * below.nodes + j)))
