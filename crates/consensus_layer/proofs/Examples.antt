-- Worked values of consensus, by computation: four nodes, one fault, the modulus 12, so slots of
-- six rounds.
use Rattle.std.proofs.Common.{◌≡◌, ℕ, zero, suc, List, [], ◌∷◌, map, None, false, refl}
use Rattle.std.specs.List.{range_with_len}
use Rattle.sync_types.specs.declared.states.Reg.{Reg}
use Rattle.sync_types.specs.States.{State}
use Rattle.construction.specs.Plans.{Plan}
use Rattle.construction.specs.PhaseKing.{locked_at}
use Rattle.construction.specs.Runs.{heard_by}
use Rattle.plan_laws.specs.PlanMeaning.{plan_meaning}
use Rattle.counter_core.specs.Overlays.{Layer}
use Rattle.layer_laws.specs.Scenes.{Scene, kept_of, layer_step, new_state}
use Rattle.consensus_layer.specs.Agreeing.{loaded}
use Rattle.consensus_layer.specs.Agreements.{agree_layer}

abbrev plan : Plan
plan = record {
  version = 1;
  base = 2304;
  levels =
      record { blocks = 4; faults = 1; modulus = 12; spares = 0 } ∷ [];
}

abbrev infinite : Reg
infinite = record { a = None; d = false }

-- a state whose counter is locked at an output
abbrev at_output : ℕ → Reg → State
at_output o register = record { x = o; registers = locked_at o ∷ register ∷ [] }

-- what the faulty node 3 tells node v: to nodes 0 and 1 another value than to node 2
abbrev told : ℕ → State
told zero = at_output 0 (loaded 0)
told (suc zero) = at_output 0 (loaded 0)
told (suc (suc v)) = at_output 3 (loaded 1)

abbrev lies : List (List State)
lies = map (λ u. map told (range_with_len 0 4)) (range_with_len 0 4)

-- the next scene, all nodes stepping
abbrev next : Layer ℕ → Scene ℕ → Scene ℕ
next layer s = record {
  states = map (λ v. new_state (plan_meaning plan) layer 0 (kept_of layer s v) v
      (heard_by 4 (3 ∷ []) s.states lies v)) (range_with_len 0 4);
  kept = map (λ v. (layer_step (plan_meaning plan) layer 0 (kept_of layer s v) v
      (heard_by 4 (3 ∷ []) s.states lies v)).kept) (range_with_len 0 4);
}

abbrev after : Layer ℕ → ℕ → Scene ℕ
after layer zero = record {
  states = map (λ v. at_output 11 infinite) (range_with_len 0 4);
  kept =
      9 ∷ 9 ∷ 9 ∷ 9 ∷ [];
}
after layer (suc t) = next layer (after layer t)

abbrev mixed : Layer ℕ
mixed = agree_layer plan 10 (7 ∷ 7 ∷ 4 ∷ 0 ∷ [])

abbrev common : Layer ℕ
common = agree_layer plan 10 (7 ∷ 7 ∷ 7 ∷ 0 ∷ [])

-- in the round of output 11 inputs are loaded, and the decision is that of the slot before, which
-- all infinite values and an infinite king make 0
loads_inputs : map (λ s. s.registers) (after mixed 1).states ≡
    (locked_at 0 ∷ loaded 7 ∷ []) ∷ (locked_at 0 ∷ loaded 7 ∷ []) ∷ (locked_at 0 ∷ loaded
    4 ∷ []) ∷ (locked_at 0 ∷ loaded 0 ∷ []) ∷ []
loads_inputs = refl

decides_before : (after mixed 1).kept ≡ 0 ∷ 0 ∷ 0 ∷ 0 ∷ []
decides_before = refl

-- a decision is kept in the slot
keeps : (after mixed 6).kept ≡ 0 ∷ 0 ∷ 0 ∷ 0 ∷ []
keeps = refl

-- seven rounds later all correct nodes decide one value
decides_one : (after mixed 7).kept ≡ 0 ∷ 0 ∷ 0 ∷ 0 ∷ []
decides_one = refl

decides_common : (after common 7).kept ≡ 7 ∷ 7 ∷ 7 ∷ 7 ∷ []
decides_common = refl
