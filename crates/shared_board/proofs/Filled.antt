-- What columns that were filled from states make up.
use Rattle.std.proofs.Common.{◌≡◌, ℕ, zero, suc, ◌+◌, ◌<◌, ◌≤◌, List, [], length, map, get_or, take}
use Rattle.std.proofs.Common.{All, unwrap_or, sym, ap, ◌∙◌, arith}
use Rattle.std.specs.List.{range_with_len}
use Rattle.std.proofs.lemmas.List.{get_or-map, get_or_default, ext_get_or, length-map}
use Rattle.std.proofs.lemmas.List.{length-take-le, get_or-take}
use Rattle.std.proofs.lemmas.Simd.{map-map}
use Rattle.sync_types.specs.declared.states.Reg.{Reg}
use Rattle.sync_types.specs.States.{State, zero_state, zero_register, register_at}
use Rattle.construction.specs.Steps.{state_of}
use Rattle.counter_core.specs.Meanings.{cut}
use Rattle.shared_board.proofs.GroupStretches.{same_range}
use Rattle.shared_board.specs.Boards.{AreFilled, state_by}
use Rattle.shared_board.proofs.ByPlace.{by_places}

module _ (states : List State) (columns : List (List Reg)) (shows : List (List ℕ)) (nodes : ℕ)
    (filled : AreFilled states columns shows (length columns)) (size : length states ≡ nodes) where
  pub registers_long : All (λ column. length column ≡ nodes) columns
  registers_long = λ k d lt.
      ap length (get_or_default columns k d [] lt ∙ filled.registers k lt)
      ∙ (length-map states (register_at k) ∙ size)

  pub outputs_long : length shows ≡ length columns + 1 → All (λ column. length column ≡ nodes) shows
  outputs_long many = each
    where
      each : (k : ℕ) (d : List ℕ) → k < length shows → length (get_or shows k d) ≡ nodes
      each zero d lt =
          ap length (get_or_default shows 0 d [] lt ∙ filled.numbers)
          ∙ (length-map states (λ (s : State). s.x) ∙ size)
      each (suc k) d lt =
          let next : suc k ≡ k + 1 = omega arith in
          ap length (get_or_default shows (suc k) d [] lt
          ∙ (ap (λ i. get_or shows i []) next ∙ filled.outputs k (omega (arith, lt, many))))
          ∙ (length-map states (λ s. unwrap_or (register_at k s).a 0) ∙ size)

  pub shown_filled : (l : ℕ) → l < length columns
      → get_or shows (l + 1) [] ≡ map (λ r. unwrap_or r.a 0) (get_or columns l [])
  shown_filled l lt =
      filled.outputs l lt
      ∙ (sym (map-map (λ (r : Reg). unwrap_or r.a 0) (register_at l) states)
      ∙ ap (map (λ r. unwrap_or r.a 0)) (sym (filled.registers l lt)))

  state_is : (v : ℕ) → v < nodes → length columns ≤ length (state_of states v).registers
      → state_by shows columns v ≡ cut (length columns) (state_of states v)
  state_is v lt deep =
      let s : State = state_of states v in
      let within : v < length states = omega (arith, lt, size) in
      let x : get_or (get_or shows 0 []) v 0 ≡ s.x =
      ap (λ xs. get_or xs v 0) filled.numbers
      ∙ get_or-map (λ (s : State). s.x) states v (zero_state 0) 0 within in
      let f : List Reg → Reg = λ column. get_or column v zero_register in
      let registers : map f columns ≡ take (length columns) s.registers =
      ext_get_or zero_register (map f columns) (take (length columns) s.registers)
      (length-map columns f ∙ sym (length-take-le (length columns) s.registers deep))
      (λ j less.
      let here : j < length columns = omega (arith, less, length-map columns f) in
      get_or-map f columns j [] zero_register here
      ∙ (ap f (filled.registers j here)
      ∙ (get_or-map (register_at j) states v (zero_state 0) zero_register within
      ∙ sym (get_or-take (length columns) s.registers j zero_register here)))) in
      ap (λ x. record { x = x; registers = map f columns }) x
      ∙ ap (λ rs. record { x = s.x; registers = rs }) registers

  pub filled_states : ((v : ℕ) → v < nodes → length columns ≤ length (state_of states v).registers)
      → map (state_by shows columns) (range_with_len 0 nodes) ≡ map (cut (length columns)) states
  filled_states deep =
      same_range (state_by shows columns) (λ v. cut (length columns) (state_of states v)) nodes 0
      (λ v le lt. state_is v (omega (arith, lt)) (deep v (omega (arith, lt))))
      ∙ (sym (map-map (cut (length columns)) (λ v. get_or states v (zero_state 0))
      (range_with_len 0 nodes))
      ∙ ap (map (cut (length columns))) (by_places (zero_state 0) states nodes size))
