-- Registers after those of the levels matter to no step, whoever lies.
use Rattle.std.proofs.Common.{◌≡◌, ℕ, ◌<◌, Bool, true, false, cond, List, length, map, refl, sym}
use Rattle.std.proofs.Common.{ap}
use Rattle.std.proofs.Common.{◌∙◌, arith}
use Rattle.std.proofs.lemmas.List.{ext_get_or, length-map, take-take}
use Rattle.std.proofs.lemmas.List.FromFn.{length-map-range_with_len, get_or-map-range_with_len}
use Rattle.sync_types.specs.declared.states.Reg.{Reg}
use Rattle.sync_types.specs.FaultSets.{is_in}
use Rattle.sync_types.specs.States.{State, zero_state}
use Rattle.construction.specs.Plans.{Plan, plan_depth}
use Rattle.construction.specs.Steps.{state_of, step_of}
use Rattle.counter_core.specs.Meanings.{cut}
use Rattle.plan_laws.proofs.Ranges.{state_of-cut, step_of-cut}
use Rattle.shared_board.specs.Sharing.{place_among, heard_at, heard_with}

-- one place of what is heard with lies
pub with_at : (ids : List ℕ) (lies config : List State) (u : ℕ) → u < length config
    → state_of (heard_with ids lies config) u ≡ heard_at ids lies config u
with_at ids lies config u lt =
    get_or-map-range_with_len (heard_at ids lies config) 0 (length config) u u (zero_state 0) lt
    (omega arith)

-- a step does not see what is cut off
module _ (plan : Plan) (v : ℕ) (ids : List ℕ) (lies config : List State) where
  abbrev depth : ℕ
  depth = plan_depth plan

  cut_again : (s : State) → cut depth (cut depth s) ≡ cut depth s
  cut_again s = ap (λ (registers : List Reg). let t : State =
      record { x = s.x; registers = registers } in t)
      (take-take depth depth s.registers (omega arith))

  choice_cut : (b : Bool) (told s : State)
      → cut depth (cond b told (cut depth s)) ≡ cut depth (cond b told s)
  choice_cut true told s = refl
  choice_cut false told s = cut_again s

  abbrev with_cut : List State
  with_cut = heard_with ids lies (map (cut depth) config)

  cut_same : map (cut depth) with_cut ≡ map (cut depth) (heard_with ids lies config)
  cut_same =
      let long = length-map config (cut depth) in
      let first = length-map with_cut (cut depth) in
      let second = length-map (heard_with ids lies config) (cut depth) in
      let first_long = length-map-range_with_len (heard_at ids lies (map (cut depth) config)) 0
      (length (map (cut depth) config)) in
      let second_long = length-map-range_with_len (heard_at ids lies config) 0 (length config) in
      ext_get_or (zero_state 0) (map (cut depth) with_cut)
      (map (cut depth) (heard_with ids lies config))
      (omega (arith, long, first, second, first_long, second_long)) (λ u lt.
      let inside : u < length config = omega (arith, lt, long, first, first_long) in
      state_of-cut depth with_cut u
      ∙ ap (cut depth) (with_at ids lies (map (cut depth) config) u (omega (arith, inside, long))
      ∙ ap (λ (s : State). cond (is_in ids u) (state_of lies (place_among ids u)) s)
      (state_of-cut depth config u))
      ∙ choice_cut (is_in ids u) (state_of lies (place_among ids u)) (state_of config u)
      ∙ ap (cut depth) (sym (with_at ids lies config u inside))
      ∙ sym (state_of-cut depth (heard_with ids lies config) u))

  pub step_cut : step_of plan v with_cut ≡ step_of plan v (heard_with ids lies config)
  step_cut =
      sym (step_of-cut plan v with_cut) ∙ ap (step_of plan v) cut_same
      ∙ step_of-cut plan v (heard_with ids lies config)
