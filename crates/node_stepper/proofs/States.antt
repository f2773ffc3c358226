-- The states of a machine's nodes over packets.
use Rattle.std.proofs.Common.{◌≡◌, ℕ, ◌<◌, cond, List, [], ◌∷◌, get_or, ap, ◌∙◌, arith}
use Rattle.std.specs.Prelude.{◌==◌}
use Rattle.std.proofs.lemmas.List.FromFn.{fill_by_all, length-map-range_with_len}
use Rattle.std.proofs.lemmas.List.FromFn.{get_or-map-range_with_len}
use Rattle.sync_types.specs.States.{State, zero_state}
use Rattle.state_codec.specs.Reading.{read}
use Rattle.state_codec.specs.Writing.{written}
use Rattle.state_codec.proofs.Back.{written_reads_back}
use Rattle.state_codec.proofs.Ranged.{read_is_in_range}
use Rattle.machines.specs.Machines.{Machine, IsState}
use Rattle.machines.specs.Laws.{IsSound}
use Rattle.node_stepper.specs.Nodes.{heard_of, heard_in, state_after, state_behind}

module _ (m : Machine) (sound : IsSound m) where
  -- any bytes are read as a state of the node
  pub read_is_state : (u : ℕ) → u < m.nodes → (bytes : List ℕ)
      → IsState m u (read (m.fields u) bytes)
  read_is_state u lt bytes =
      read_is_in_range (m.fields u) bytes (sound.fields u lt)

  -- a state of the node that is written reads back
  pub reads_back : (u : ℕ) → u < m.nodes → (s : State) → IsState m u s
      → read (m.fields u) (written (m.fields u) s) ≡ s
  reads_back u lt s is =
      written_reads_back (m.fields u) s (sound.fields u lt) is

  -- a node is in a state of its own after any packets
  pub behind_is_state : (v : ℕ) → v < m.nodes → (s : State) (packets : List (List (List ℕ)))
      → IsState m v s → IsState m v (state_behind m v s packets)
  behind_is_state v lt s [] is = is
  behind_is_state v lt s (packet ∷ packets) is =
      behind_is_state v lt (state_after m v s packet) packets
      (sound.next v lt (heard_in m v s packet))

-- only the cells of the nodes matter in what is heard
pub same_heard : (m : Machine) (v : ℕ) (s : State) (p q : List (List ℕ))
    → ((u : ℕ) → u < m.nodes → get_or p u [] ≡ get_or q u []) → heard_in m v s p ≡ heard_in m v s q
same_heard m v s p q same =
    fill_by_all (heard_of m v s q) (heard_in m v s p) m.nodes (zero_state 0)
    (length-map-range_with_len (heard_of m v s p) 0 m.nodes)
    (λ u lt.
    get_or-map-range_with_len (heard_of m v s p) 0 m.nodes u u (zero_state 0) lt (omega arith)
    ∙ ap (λ (bytes : List ℕ). cond (u == v) s (read (m.fields u) bytes)) (same u lt))
