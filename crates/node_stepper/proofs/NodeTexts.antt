-- The states of a node and what it writes, packet by packet.
use Rattle.std.proofs.Common.{◌≡◌, ℕ, List, [], ◌∷◌, ◌++◌, refl, ap, ◌∙◌, append-nil}
use Rattle.std.specs.List.{flat_map}
use Rattle.std.proofs.lemmas.List.Concat.{flat_map-append}
use Rattle.sync_types.specs.States.{State}
use Rattle.machines.specs.Machines.{Machine}
use Rattle.node_stepper.specs.Nodes.{state_cell, state_after, state_behind, states_of, node_text}

module _ (m : Machine) (v : ℕ) where
  -- its state after one more packet
  pub state_push : (s : State) (packets : List (List (List ℕ))) (packet : List (List ℕ))
      → state_behind m v s (packets ++ packet ∷ [])
      ≡ state_after m v (state_behind m v s packets) packet
  state_push s [] packet = refl
  state_push s (p ∷ packets) packet = state_push (state_after m v s p) packets packet

  pub states_push : (s : State) (packets : List (List (List ℕ))) (packet : List (List ℕ))
      → states_of m v s (packets ++ packet ∷ [])
      ≡ states_of m v s packets ++ state_after m v (state_behind m v s packets) packet ∷ []
  states_push s [] packet = refl
  states_push s (p ∷ packets) packet =
      ap (λ (l : List State). s ∷ l) (states_push (state_after m v s p) packets packet)

  pub text_push : (s : State) (packets : List (List (List ℕ))) (packet : List (List ℕ))
      → node_text m v s (packets ++ packet ∷ [])
      ≡ node_text m v s packets ++ state_cell m v
      (state_after m v (state_behind m v s packets) packet)
  text_push s packets packet =
      let next = state_after m v (state_behind m v s packets) packet in
      ap (flat_map (state_cell m v)) (states_push s packets packet)
      ∙ flat_map-append (state_cell m v) (states_of m v s packets) (next ∷ [])
      ∙ ap (λ (l : List ℕ). node_text m v s packets ++ l) (append-nil (state_cell m v next))

  -- the states after the first
  pub replies : State → List (List (List ℕ)) → List State
  replies s [] = []
  replies s (p ∷ packets) = state_after m v s p ∷ replies (state_after m v s p) packets

  pub states_are : (s : State) (packets : List (List (List ℕ)))
      → states_of m v s packets ≡ s ∷ replies s packets
  unfolding replies
  states_are s [] = refl
  states_are s (p ∷ packets) =
      ap (λ (l : List State). s ∷ l) (states_are (state_after m v s p) packets)

  pub states_more : (s : State) (packets more : List (List (List ℕ)))
      → states_of m v s (packets ++ more)
      ≡ states_of m v s packets ++ replies (state_behind m v s packets) more
  states_more s [] more = states_are s more
  states_more s (p ∷ packets) more =
      ap (λ (l : List State). s ∷ l) (states_more (state_after m v s p) packets more)

  pub text_more : (s : State) (packets more : List (List (List ℕ)))
      → node_text m v s (packets ++ more)
      ≡ node_text m v s packets ++ flat_map (state_cell m v)
      (replies (state_behind m v s packets) more)
  text_more s packets more =
      ap (flat_map (state_cell m v)) (states_more s packets more)
      ∙ flat_map-append (state_cell m v) (states_of m v s packets)
      (replies (state_behind m v s packets) more)

  pub text_none : (s : State) → node_text m v s [] ≡ state_cell m v s
  text_none s = append-nil (state_cell m v s)
