-- The step by stretches of all that is heard.
use Rattle.std.proofs.Common.{◌≡◌, ℕ, ◌+◌, ◌-◌, ◌*◌, ◌/◌, ◌%◌, ◌<◌, ◌≤◌, List, [], ◌∷◌, length}
use Rattle.std.proofs.Common.{take, drop, sym, ap, ◌∙◌, arith}
use Rattle.std.specs.Prelude.{nat_lt}
use Rattle.std.proofs.Math.Nat.{mod-lt}
use Rattle.std.proofs.lemmas.Nat.{div_below}
use Rattle.std.proofs.lemmas.Bool.{ltb-true}
use Rattle.std.proofs.lemmas.List.{take-take, drop-take, drop-drop, take_all, get_or-take}
use Rattle.std.proofs.lemmas.List.{get_or-drop}
use Rattle.sync_types.specs.States.{State, zero_state}
use Rattle.construction.specs.Plans.{Level, group_size, nodes_of, plan_nodes}
use Rattle.construction.specs.PhaseKing.{up}
use Rattle.construction.specs.Votes.{block}
use Rattle.construction.specs.Steps.{new_register, with_register, step_in}
use Rattle.construction.proofs.Blocks.{block_room, block_some}
use Rattle.construction.proofs.Choices.{same_choice}
use Rattle.plan_laws.specs.Stretches.{stretch, step_at, StepsByStretches}

-- a block of a stretch is a stretch
pub block-stretch : {X : Type 0} (n b size start : ℕ) (xs : List X) → b * n + n ≤ size
    → block n b (stretch size start xs) ≡ stretch n (start + b * n) xs
block-stretch n b size start xs room =
    let rest : ℕ = size - b * n in
    let e : size ≡ b * n + rest = omega arith in
    let back : n ≤ rest = omega arith in
    ap (λ y. take n (drop (b * n) (take y (drop start xs)))) e
    ∙ (ap (take n) (drop-take (b * n) rest (drop start xs))
    ∙ (take-take n rest (drop (b * n) (drop start xs)) back
    ∙ ap (take n) (drop-drop (b * n) start xs)))

pub step_in-stretch : (base : ℕ) (levels : List Level) (start place : ℕ) (heard : List State)
    → place < nodes_of levels
    → step_in base levels place (stretch (nodes_of levels) start heard) ≡ step_at base levels start
    place heard
step_in-stretch base [] start place heard lt =
    ap (λ (s : State). record { x = up base s.x; registers = [] })
    (get_or-take 1 (drop start heard) place (zero_state 0) lt
    ∙ get_or-drop start heard place (zero_state 0))
step_in-stretch base (level ∷ below) start place heard lt =
    let n : ℕ = nodes_of below in
    let size : ℕ = group_size level n in
    ap (λ s. with_register s (new_register (length below) n level place (stretch size start heard)))
    (same_choice (nat_lt place (level.blocks * n)) (zero_state (length below)) (λ test.
    let within = ltb-true place (level.blocks * n) test in
    let some = block_some level.blocks n place within in
    let room = block_room level.blocks n (place / n) (div_below place n level.blocks some within) in
    ap (step_in base below (place % n)) (block-stretch n (place / n) size start heard (omega arith))
    ∙ step_in-stretch base below (start + place / n * n) (place % n) heard (mod-lt place some)))

pub steps_by_stretches : StepsByStretches
steps_by_stretches plan v heard lt size =
    ap (step_in plan.base plan.levels v) (sym (take_all (plan_nodes plan) heard (omega arith)))
    ∙ step_in-stretch plan.base plan.levels 0 v heard lt
